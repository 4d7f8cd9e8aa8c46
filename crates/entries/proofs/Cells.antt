-- What a store with a cell is, and what a cell's bytes are once the stamp and the value are copied to them. Assumes nothing.
use mathlib.Core.Path.{◌≡◌, refl, ap, ap₂, ◌∙◌}
use mathlib.Core.Bool.{true}
use mathlib.Core.List.{List, [], ◌∷◌, ◌++◌}
use Prim.Native.Nat.{ℕ, suc, ◌+◌, ◌<◌}
use native.Mathlib.Numerals.{add-one}
use native.Mathlib.Omega.{arith}
use lib.Dec.{ltb, eqb}
use lib.ListN.{length, get_or, take, drop, length-append}
use lib.Seq.{take_all, drop_at, drop-cons}
use borrow.Author.Tests.{eqb-true, ltb-true, eq-eqb, lt-ltb}
use Rattle.octets.proofs.Same.{both}
use Rattle.lent.specs.Lent.{copied}
use Rattle.state.specs.Sizes.{addresses, store_size}
use Rattle.entries.specs.Place.{has_cell}

module _ (w : ℕ) (m : List ℕ) (a : ℕ) where
  pub has_cell_true : length m ≡ store_size w → a < addresses → has_cell w m a ≡ true
  unfolding has_cell
  has_cell_true l h = rw (eq-eqb (length m) (store_size w) l, lt-ltb a addresses h)

  pub cell_has : has_cell w m a ≡ true → (length m ≡ store_size w) × (a < addresses)
  unfolding has_cell
  cell_has h =
      let p = both (eqb (length m) (store_size w)) (ltb a addresses) h in
      (eqb-true (length m) (store_size w) p.0, ltb-true a addresses p.1)

-- a value copied over the bytes before a stamp
pub value_copied : (z v b : List ℕ) → length v ≡ length z → copied (z ++ b) v ≡ v ++ b
unfolding copied
value_copied z v b e =
    ap₂ (λ (k l : List ℕ). k ++ l) (take_all (length (z ++ b)) v (omega (arith, length-append z b))) (drop_at z b (length v) (omega arith))

-- the two elements from n on
pub two_read : (m : List ℕ) (n : ℕ) → n + 1 < length m → take 2 (drop n m) ≡ get_or m n 0 ∷ get_or m (n + 1) 0 ∷ []
two_read m n h =
    ap (take 2) (drop-cons m n 0 (omega arith) ∙ ap (λ (l : List ℕ). get_or m n 0 ∷ l) (drop-cons m (suc n) 0 (omega arith))) ∙ rw add-one

-- a list of two elements, by its elements
pub two_join : (r xs : List ℕ) → length r ≡ 2 → get_or r 0 0 ∷ get_or r 1 0 ∷ xs ≡ r ++ xs
two_join [] xs e = absurd (omega arith)
two_join (x ∷ []) xs e = absurd (omega arith)
two_join (x ∷ y ∷ []) xs e = refl
two_join (x ∷ y ∷ z ∷ r) xs e = absurd (omega arith)
