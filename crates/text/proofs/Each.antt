-- What holds of each byte of a list: by induction on the list. Assumes nothing.
use mathlib.Core.Path.{◌≡◌}
use mathlib.Core.List.{List, [], ◌∷◌, ◌++◌}
use native.Mathlib.Omega.{arith}
use Prim.Native.Nat.{ℕ, zero, suc, ◌<◌}
use lib.ListN.{length, get_or}

unfoldable pub Each : (ℕ → Type 0) → List ℕ → Type 0
Each P [] = Unit {0}
Each P (x ∷ xs) = P x × Each P xs

-- no byte is this one
abbrev pub Lacks : ℕ → List ℕ → Type 0
Lacks b l = Each (λ x. x ≡ b → ⊥) l

pub each_append : (P : ℕ → Type 0) (xs ys : List ℕ) → Each P xs → Each P ys → Each P (xs ++ ys)
unfolding Each
each_append P [] ys h k = k
each_append P (x ∷ xs) ys h k = (h.0, each_append P xs ys h.1 k)

pub each_at : (P : ℕ → Type 0) (l : List ℕ) (i : ℕ) → Each P l → i < length l → P (get_or l i 0)
unfolding Each
each_at P [] i h k = absurd (omega arith)
each_at P (x ∷ xs) zero h k = h.0
each_at P (x ∷ xs) (suc i) h k = each_at P xs i h.1 (omega arith)

pub each_more : (P Q : ℕ → Type 0) (l : List ℕ) → ((x : ℕ) → P x → Q x) → Each P l → Each Q l
unfolding Each
each_more P Q [] f h = tt
each_more P Q (x ∷ xs) f h = (f x h.0, each_more P Q xs f h.1)
