-- A call whose number is 0 is done, and no row of it holds: by induction on the rows. Assumes nothing.
use mathlib.Core.Path.{◌≡◌, refl}
use mathlib.Core.Bool.{Bool, true, false, cond, ◌&&◌}
use mathlib.Core.List.{List, [], ◌∷◌}
use Prim.Native.Nat.{ℕ, zero, suc}
use native.Mathlib.Omega.{arith}
use lib.Dec.{T, ltb}
use Rattle.refusal.specs.Refusal.{Row, first, done}

pub done_zero : {A : Type 0} (n : ℕ) (x y : A) → n ≡ 0 → done n x y ≡ x
done_zero n x y e = rw e

pub done_other : {A : Type 0} (n : ℕ) (x y : A) → (n ≡ 0 → ⊥) → done n x y ≡ y
done_other zero x y h = absurd (h refl)
done_other (suc n) x y h = refl

-- no row of these holds
unfoldable pub NoneHolds : List Row → Type 0
NoneHolds [] = Unit {0}
NoneHolds (r ∷ rs) = (r.holds ≡ false) × NoneHolds rs

-- no row has the number 0: a test that computes on rows that are written out
abbrev pub numbered : List Row → Bool
numbered [] = true
numbered (r ∷ rs) = ltb 0 r.number && numbered rs

pub both : (s t : Bool) → T (s && t) → T s × T t
both true t e = (tt, e)
both false t e = absurd e

none_step : (b : Bool) (n k : ℕ) → T (ltb 0 n) → cond b n k ≡ 0 → (b ≡ false) × (k ≡ 0)
none_step true zero k p e = absurd p
none_step true (suc n) k p e = absurd (omega arith)
none_step false n k p e = (refl, e)

pub none_holds : (rows : List Row) → T (numbered rows) → first rows ≡ 0 → NoneHolds rows
unfolding NoneHolds
none_holds [] p e = tt
none_holds (r ∷ rs) p e =
    let q = both (ltb 0 r.number) (numbered rs) p in
    let s = none_step r.holds r.number (first rs) q.0 e in
    (s.0, none_holds rs q.1 s.1)
