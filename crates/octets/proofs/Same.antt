-- Two lists are the same exactly where they are equal: by induction on the lists. Assumes nothing.
use borrow.Author.Tests.{eqb-true, eq-eqb}
use mathlib.Core.Path.{◌≡◌, refl, ap₂}
use mathlib.Core.Bool.{Bool, true, false, ◌&&◌}
use mathlib.Core.List.{List, [], ◌∷◌}
use Prim.Native.Nat.{ℕ}
use native.Mathlib.Omega.{arith}
use lib.Dec.{eqb}
use Rattle.octets.specs.Places.{same}

-- two tests of which both hold
pub both : (s t : Bool) → (s && t) ≡ true → (s ≡ true) × (t ≡ true)
both true t e = (refl, e)
both false t e = let z : ◌≡◌ {A = ℕ} 0 1 = cc in absurd (omega arith)

pub same_refl : (l : List ℕ) → same l l ≡ true
unfolding same
same_refl [] = refl
same_refl (x ∷ l) = rw (eq-eqb x x refl) (same_refl l)

pub same_eq : (k l : List ℕ) → same k l ≡ true → k ≡ l
unfolding same
same_eq [] [] e = refl
same_eq [] (y ∷ l) e = let z : ◌≡◌ {A = ℕ} 0 1 = cc in absurd (omega arith)
same_eq (x ∷ k) [] e = let z : ◌≡◌ {A = ℕ} 0 1 = cc in absurd (omega arith)
same_eq (x ∷ k) (y ∷ l) e = let b = both (eqb x y) (same k l) e in ap₂ ◌∷◌ (eqb-true x y b.0) (same_eq k l b.1)

pub same_other : (k l : List ℕ) → (k ≡ l → ⊥) → same k l ≡ false
same_other k l n = side (same k l) refl
  where
    side : (b : Bool) → same k l ≡ b → b ≡ false
    side true e = absurd (n (same_eq k l e))
    side false e = refl
