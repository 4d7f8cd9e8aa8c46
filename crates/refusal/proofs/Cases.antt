-- Rows that test conditions, one by one and under the same numbers, give the number of the first condition that holds: by induction on the rows.
-- Assumes nothing.
use mathlib.Core.Path.{◌≡◌, refl, sym, ◌∙◌}
use mathlib.Core.Bool.{Bool, true, false, cond, not, ◌||◌, false≢true, true≢false}
use mathlib.Core.List.{List, [], ◌∷◌}
use mathlib.Core.Logic.{◌⊎◌, inl, inr, ◌≢◌}
use Prim.Native.Nat.{ℕ, ◌<◌}
use native.Mathlib.Omega.{arith}
use lib.Dec.{eqb, ltb}
use borrow.Author.Tests.{eqb-true, eqb-false, ltb-true, ltb-false, not-true, not-false}
use Rattle.refusal.specs.Refusal.{Row, when, first}
use Rattle.refusal.specs.Cases.{Case, given, FirstOf}

-- the row is true where the condition holds, and false where it does not
pub record Tests (r : Row) (c : Case) : Type 0 where
  pub number : r.number ≡ c.number
  pub yes : r.holds ≡ true → c.holds
  pub no : r.holds ≡ false → c.holds → ⊥

pub flag : (n : ℕ) (b : Bool) → Tests (when n b) (given n (b ≡ true))
flag n b = record { number = refl; yes = λ e. e; no = λ e h. false≢true (sym e ∙ h) }

pub equal : (n x y : ℕ) → Tests (when n (eqb x y)) (given n (x ≡ y))
equal n x y = record { number = refl; yes = eqb-true x y; no = eqb-false x y }

pub differ : (n x y : ℕ) → Tests (when n (not (eqb x y))) (given n (x ≢ y))
differ n x y = record { number = refl; yes = λ e. eqb-false x y (not-true (eqb x y) e); no = λ e h. h (eqb-true x y (not-false (eqb x y) e)) }

pub above : (n x y : ℕ) → Tests (when n (ltb x y)) (given n (x < y))
above n x y = record { number = refl; yes = ltb-true x y; no = λ e h. let k = ltb-false x y e in omega arith }

pub either : (n : ℕ) {s t : Bool} {p q : Type 0} → Tests (when n s) (given n p) → Tests (when n t) (given n q) → Tests (when n (s || t)) (given n (p ⊎ q))
either n {s} {t} {p} {q} f g = record { number = refl; yes = yes s refl; no = no s refl }
  where
    yes : (b : Bool) → s ≡ b → (b || t) ≡ true → p ⊎ q
    yes true e h = inl (f.yes e)
    yes false e h = inr (g.yes h)

    no : (b : Bool) → s ≡ b → (b || t) ≡ false → p ⊎ q → ⊥
    no true e h k = true≢false h
    no false e h (inl k) = f.no e k
    no false e h (inr k) = g.no h k

abbrev pub TestsAll : List Row → List Case → Type 0
TestsAll [] [] = Unit
TestsAll [] (c ∷ cs) = ⊥
TestsAll (r ∷ rs) [] = ⊥
TestsAll (r ∷ rs) (c ∷ cs) = Tests r c × TestsAll rs cs

pub first_of : (rows : List Row) (cases : List Case) → TestsAll rows cases → FirstOf cases (first rows)
first_of [] [] t = refl
first_of [] (c ∷ cs) t = absurd t
first_of (r ∷ rs) [] t = absurd t
first_of (r ∷ rs) (c ∷ cs) t = go r.holds refl (first_of rs cs t.1)
  where
    go : (b : Bool) → r.holds ≡ b → FirstOf cs (first rs) → (c.holds × (cond b r.number (first rs) ≡ c.number)) ⊎ ((c.holds → ⊥) × FirstOf cs (cond b r.number (first rs)))
    go true e h = inl (t.0.yes e, t.0.number)
    go false e h = inr (t.0.no e, h)
