-- What pack gives, by its rows. Assumes nothing.
use mathlib.Core.Path.{◌≡◌, sym}
use mathlib.Core.List.{List}
use Prim.Native.Nat.{ℕ}
use lib.ListN.{length}
use borrow.Author.Tests.{eq-eqb}
use Rattle.refusal.specs.Refusal.{first, filled}
use Rattle.refusal.proofs.Passed.{done_other}
use Rattle.filter.specs.Filter.{filter_rows, pack_rows, pack_of, bytes_of}
use Rattle.filter.specs.declared.FilterRecord.{FilterRecord}

pub pack_refused : (r : FilterRecord) (out : List ℕ) (n : ℕ) → length out ≡ 28 → n ≡ first (filter_rows r) → (n ≡ 0 → ⊥) → filled n out ≡ pack_of r out
unfolding pack_of pack_rows
pack_refused r out n l e z = simp (eq-eqb _ _ l, sym e, done_other n (bytes_of r) out z)

pub pack_done : (r : FilterRecord) (out : List ℕ) → length out ≡ 28 → first (filter_rows r) ≡ 0 → filled 0 (bytes_of r) ≡ pack_of r out
unfolding pack_of pack_rows
pack_done r out l e = simp (eq-eqb _ _ l, e)
