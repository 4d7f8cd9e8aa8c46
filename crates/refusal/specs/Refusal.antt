-- 01, "Numbers given back": the rows of a call, in its order, and the number that they give.
-- Assumes nothing.
use Rattle.std.specs.Prelude.{Bool, cond, List, [], ◌∷◌, ℕ, zero, suc}

-- a row of the table: whether its condition holds, and its number
pub record Row : Type 0 where
  pub holds : Bool
  pub number : ℕ

-- "n when b"
abbrev pub when : ℕ → Bool → Row
when n b = record { holds = b; number = n }

-- the number of the first row that holds, or 0
abbrev pub first : List Row → ℕ
first [] = 0
first (r ∷ rs) = cond r.holds r.number (first rs)

-- what a call gives: x where it is done, y where it is refused
abbrev pub done : {A : Type 0} → ℕ → A → A → A
done zero x y = x
done (suc n) x y = y

-- what a call that fills a lent buffer gives: its number, and the buffer's bytes
pub record Filled : Type 0 where
  pub number : ℕ
  pub out : List ℕ

abbrev pub filled : ℕ → List ℕ → Filled
filled n o = record { number = n; out = o }

-- new bytes where no row holds; a refusal leaves the old ones
abbrev pub fills : List Row → List ℕ → List ℕ → Filled
fills rows new old = filled (first rows) (done (first rows) new old)
