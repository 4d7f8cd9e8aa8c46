-- Decisions that the checker computes: each has a proof or a refutation. Assumes nothing.
use mathlib.Core.Path.{subst, sym}
use mathlib.Core.Logic.Dec
use mathlib.Core.Logic.{⊎_elim}
use Prim.Native.Nat.{ℕ, zero, suc, ◌<◌}
use native.Mathlib.Nat.{le_of_suc-le-suc, not-suc-le-zero, eq-or-lt_of_le, le_refl}
use native.Mathlib.Omega.{arith}

-- a decision carried to a statement that holds exactly when the first does
abbrev pub same : {A B : Type 0} → (A → B) → (B → A) → Dec A → Dec B
same f g (yes a) = yes (f a)
same f g (no n) = no (λ b. n (g b))

abbrev pub imply : {A B : Type 0} → Dec A → Dec B → Dec (A → B)
imply (no n) d = yes (λ a. absurd (n a))
imply (yes a) (yes b) = yes (λ x. b)
imply (yes a) (no n) = no (λ f. n (f a))

-- of each number below n
module _ {P : ℕ → Type 0} (d : (k : ℕ) → Dec (P k)) where
  pub more : (n : ℕ) → ((k : ℕ) → k < n → P k) × P n → (k : ℕ) → k < suc n → P k
  more n w k h = ⊎_elim (λ e. subst P (sym e) w.1) (w.0 k) (eq-or-lt_of_le (le_of_suc-le-suc h))

  unfoldable pub below : (n : ℕ) → Dec ((k : ℕ) → k < n → P k)
  unfolding Dec.and
  below zero = yes (λ k h. absurd (not-suc-le-zero h))
  below (suc n) = same (more n) (λ f. (λ k h. f k (omega arith), f n (le_refl (suc n)))) (Dec.and (below n) (d n))
