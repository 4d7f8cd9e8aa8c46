-- An entry read from a store of bytes fits its message: its stamp is a number of w bytes. Assumes nothing.
use mathlib.Core.Path.{◌≡◌, refl}
use mathlib.Core.Bool.{Bool, true, false}
use mathlib.Core.List.{List}
use Prim.Native.Nat.{ℕ, ◌+◌, ◌*◌, ◌^◌, ◌≤◌, ◌<◌}
use native.Mathlib.Nat.{one-le-pow}
use native.Mathlib.Omega.{arith}
use lib.Dec.{ltb}
use lib.ListN.{length, get_or, take, drop, length-take, length-drop, get_or-eq_default}
use lib.Seq.{length-take-le, get_or-take, get_or-drop}
use borrow.Author.Tests.{ltb-true, ltb-false}
use Rattle.octets.proofs.Layouts.{fit_bytes, number_below, pow_bytes}
use Rattle.state.specs.Sizes.{addresses, value_size, cell_size, store_size, ceiling}
use Rattle.state.specs.Cells.{stamp_at, entry_at}
use Rattle.state.specs.Multiset.{Fits}
use Rattle.state.proofs.Cells.{cell_within, value_length}
use Rattle.bag.specs.Following.{Bytes}

part_bytes : (m : List ℕ) → Bytes m → (n w : ℕ) → Bytes (take w (drop n m))
part_bytes m h n w i = go (ltb i w) refl
  where
    go : (b : Bool) → ltb i w ≡ b → get_or (take w (drop n m)) i 0 < 256
    go true e = rw (get_or-take w (drop n m) i 0 (ltb-true i w e), get_or-drop n m i 0) (h (n + i))
    go false e = rw (get_or-eq_default (take w (drop n m)) 0 {n = i} (omega (arith, length-take w (drop n m), ltb-false i w e))) (omega arith)

pub taken_fits : (w : ℕ) (m : List ℕ) → Bytes m → (a : ℕ) → a < addresses → length m ≡ store_size w → Fits w (entry_at w m a)
unfolding entry_at stamp_at addresses cell_size
taken_fits w m h a k l =
    let n : ℕ = (value_size + w) * a + value_size in
    let size : length (take w (drop n m)) ≡ w = length-take-le w (drop n m) (omega (arith, length-drop n m, cell_within w a k)) in
    record { address = omega arith; value = value_length w m a k l; stamp = rw (← pow_bytes w) (number_below w (fit_bytes w (take w (drop n m)) size (part_bytes m h n w))) }

-- a stamp within the ceiling fits its bytes
pub below_bound : (w t : ℕ) → t ≤ ceiling w → t < 256 ^ w
unfolding ceiling
below_bound w t h = omega (arith, one-le-pow w 256 (omega arith))
