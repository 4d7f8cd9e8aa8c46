-- The list of the addresses in use has each of them and no other, lowest first: by induction on the bound. Assumes nothing.
use mathlib.Core.Path.{◌≡◌, refl}
use mathlib.Core.Bool.{Bool, true, false, cond}
use mathlib.Core.List.Memᴰ
use mathlib.Core.List.{List, [], ◌∷◌, ◌++◌, append-nil, Memᴰ}
use mathlib.Core.Logic.{⊎_elim}
use Prim.Native.Nat.{ℕ, zero, suc, ◌<◌}
use native.Mathlib.Nat.{eq-or-lt_of_le, le_of_suc-le-suc, not-suc-le-zero}
use native.Mathlib.Omega.{arith}
use Rattle.state.specs.Marks.{used, used_below}
use Rattle.state.specs.Effects.{Rising}

pub in_use_only : (ws : List ℕ) (n a : ℕ) → Memᴰ a (used_below ws n) → (a < n) × (used ws a ≡ true)
unfolding used_below
in_use_only ws zero a m = absurd (Memᴰ.not-nil m)
in_use_only ws (suc n) a m =
    ⊎_elim (λ l. let h = in_use_only ws n a l in (omega (arith, h.0), h.1)) (last (used ws n) refl) (Memᴰ.append_cases (used_below ws n) m)
  where
    last : (t : Bool) → used ws n ≡ t → Memᴰ a (cond t (n ∷ []) []) → (a < suc n) × (used ws a ≡ true)
    last true e l = let q : a ≡ n = Memᴰ.eq_of_singleton l in (omega arith, rw q e)
    last false e l = absurd (Memᴰ.not-nil l)

pub in_use_all : (ws : List ℕ) (n a : ℕ) → a < n → used ws a ≡ true → Memᴰ a (used_below ws n)
unfolding used_below
in_use_all ws zero a h e = absurd (not-suc-le-zero h)
in_use_all ws (suc n) a h e =
    ⊎_elim (λ q. Memᴰ.append_right (used_below ws n) (last q)) (λ l. Memᴰ.append_left _ (in_use_all ws n a l e)) (eq-or-lt_of_le (le_of_suc-le-suc h))
  where
    last : a ≡ n → Memᴰ a (cond (used ws n) (n ∷ []) [])
    last q = rw (rw q at e) (Memᴰ.head q)

rising_last : (xs : List ℕ) (n : ℕ) → Rising xs → ((y : ℕ) → Memᴰ y xs → y < n) → Rising (xs ++ (n ∷ []))
rising_last [] n r h = (λ y m. absurd (Memᴰ.not-nil m), tt)
rising_last (x ∷ xs) n r h = (
  (λ y m. ⊎_elim (r.0 y) (λ l. let q : y ≡ n = Memᴰ.eq_of_singleton l in omega (arith, h x (Memᴰ.head refl))) (Memᴰ.append_cases xs m)),
  rising_last xs n r.1 (λ y m. h y (Memᴰ.tail m)),
)

pub in_use_rising : (ws : List ℕ) (n : ℕ) → Rising (used_below ws n)
unfolding used_below
in_use_rising ws zero = tt
in_use_rising ws (suc n) = step (used ws n) (in_use_rising ws n)
  where
    step : (t : Bool) → Rising (used_below ws n) → Rising (used_below ws n ++ cond t (n ∷ []) [])
    step true r = rising_last (used_below ws n) n r (λ y m. (in_use_only ws n y m).0)
    step false r = rw append-nil r
