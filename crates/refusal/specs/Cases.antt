-- 01, "Numbers given back", for claims: a call's conditions as statements, each with its number, in the call's order. The rows of Refusal.antt are tests that
-- a definition computes; a claim that is written with these cites none of them. Assumes nothing.
use Rattle.std.specs.Prelude.{◌≡◌, List, [], ◌∷◌, ◌⊎◌, ℕ}

pub record Case : Type 1 where
  pub number : ℕ
  pub holds : Type 0

-- "n where it holds"
abbrev pub given : ℕ → Type 0 → Case
given n p = record { number = n; holds = p }

-- n is the number of the first condition that holds, and 0 where none does
abbrev pub FirstOf : List Case → ℕ → Type 0
FirstOf [] n = n ≡ 0
FirstOf (c ∷ cs) n = (c.holds × (n ≡ c.number)) ⊎ ((c.holds → ⊥) × FirstOf cs n)
