-- No row holds exactly where all is lawful: each row is the test of one field of `Lawful`. Assumes nothing.
use mathlib.Core.Path.{◌≡◌, refl}
use mathlib.Core.Bool.{Bool, true, false, cond, not, ◌&&◌}
use Prim.Native.Nat.{ℕ, suc, ◌≤◌}
use native.Mathlib.Omega.{arith}
use lib.Dec.{leb}
use lib.ListN.{length}
use borrow.Author.Tests.{ne_eqb, eqb-false, le-leb, leb-true, not-false}
use Rattle.refusal.specs.Refusal.{first}
use Rattle.filter.specs.Filter.{top_of, Lawful, filter_rows}
use Rattle.filter.specs.declared.FilterRecord.{FilterRecord}
use Rattle.filter.proofs.Past.{past_bits, bits_past}

pub passed : (b : Bool) (n : ℕ) {x : ℕ} → cond b (suc n) x ≡ 0 → (b ≡ false) × (x ≡ 0)
passed true n e = absurd (omega arith)
passed false n e = (refl, e)

both : (a b : Bool) → not (a && b) ≡ false → (a ≡ true) × (b ≡ true)
both true b e = (refl, not-false b e)
both false b e = absurd (let z : ◌≡◌ {A = ℕ} 0 1 = cc in omega arith)

pub lawful_none : (r : FilterRecord) → length r.prefix ≡ 16 → Lawful r → first (filter_rows r) ≡ 0
unfolding filter_rows
lawful_none r n l =
    simp (le-leb _ _ l.ordered, le-leb _ _ l.bounded, bits_past r.prefix r.length n l.clear, ne_eqb _ _ l.member)

pub both_lengths : (r : FilterRecord) → not (leb r.length r.longest && leb r.longest (top_of r.family)) ≡ false → (r.length ≤ r.longest) × (r.longest ≤ top_of r.family)
both_lengths r e = let b = both _ _ e in (leb-true _ _ b.0, leb-true _ _ b.1)

pub none_lawful : (r : FilterRecord) → length r.prefix ≡ 16 → first (filter_rows r) ≡ 0 → Lawful r
unfolding filter_rows
none_lawful r n e =
    let lengths = passed _ 12 e in
    let past = passed _ 13 lengths.1 in
    let member = passed _ 14 past.1 in
    let ordered = both_lengths r lengths.0 in
    record {
      ordered = ordered.0;
      bounded = ordered.1;
      clear = past_bits r.prefix r.length n past.0;
      member = eqb-false _ _ member.0;
    }
