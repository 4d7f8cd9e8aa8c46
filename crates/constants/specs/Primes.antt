-- The first 64 primes, and what it is to be the first primes.
-- Assumes nothing.
use Rattle.std.specs.Prelude.{◌≡◌, List, [], ◌∷◌, ℕ, ◌+◌, ◌%◌, ◌<◌, ◌≤◌, length}

-- above 1, and divided by no number between 1 and itself
pub record Prime (p : ℕ) : Type 0 where
  pub above_one : 1 < p
  pub undivided : (d : ℕ) → d < p → 1 < d → p % d ≡ 0 → ⊥

-- p is the least prime from n on
pub record NextPrime (n p : ℕ) : Type 0 where
  pub reached : n ≤ p
  pub prime : Prime p
  pub least : (q : ℕ) → q < p → n ≤ q → Prime q → ⊥

-- the primes from n on: each is a prime, they rise, none is skipped
unfoldable pub PrimesFrom : ℕ → List ℕ → Type 0
PrimesFrom n [] = Unit {0}
PrimesFrom n (p ∷ ps) = NextPrime n p × PrimesFrom (p + 1) ps

-- the first n primes
abbrev pub FirstPrimes : ℕ → List ℕ → Type 0
FirstPrimes n ps = (length ps ≡ n) × PrimesFrom 0 ps

unfoldable pub primes : List ℕ
primes =
    2 ∷ 3 ∷ 5 ∷ 7 ∷ 11 ∷ 13 ∷ 17 ∷ 19
    ∷ 23 ∷ 29 ∷ 31 ∷ 37 ∷ 41 ∷ 43 ∷ 47 ∷ 53
    ∷ 59 ∷ 61 ∷ 67 ∷ 71 ∷ 73 ∷ 79 ∷ 83 ∷ 89
    ∷ 97 ∷ 101 ∷ 103 ∷ 107 ∷ 109 ∷ 113 ∷ 127 ∷ 131
    ∷ 137 ∷ 139 ∷ 149 ∷ 151 ∷ 157 ∷ 163 ∷ 167 ∷ 173
    ∷ 179 ∷ 181 ∷ 191 ∷ 193 ∷ 197 ∷ 199 ∷ 211 ∷ 223
    ∷ 227 ∷ 229 ∷ 233 ∷ 239 ∷ 241 ∷ 251 ∷ 257 ∷ 263
    ∷ 269 ∷ 271 ∷ 277 ∷ 281 ∷ 283 ∷ 293 ∷ 307 ∷ 311 ∷ []
