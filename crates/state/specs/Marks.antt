-- 01, "The trusted state and the moves": the marks. That of address a is bit a % 64 of word a / 64, the lowest bit first.
-- Assumes nothing.
use Rattle.std.specs.Prelude.{Bool, not, cond, List, [], ◌∷◌, ◌++◌, ℕ, zero, suc, ◌+◌, ◌-◌, ◌/◌, ◌%◌, ◌^◌, eqb, get_or, set}
use Rattle.std.specs.Int.Bits.{bit_and, bit_or}
use Rattle.state.specs.Sizes.{addresses}

-- is the address in use
unfoldable pub used : List ℕ → ℕ → Bool
used ws a = eqb ((get_or ws (a / 64) 0 / 2 ^ (a % 64)) % 2) 1

-- the words with the mark of a set, and with it cleared
unfoldable pub marked : List ℕ → ℕ → List ℕ
marked ws a = set ws (a / 64) (bit_or (get_or ws (a / 64) 0) (2 ^ (a % 64)))

unfoldable pub unmarked : List ℕ → ℕ → List ℕ
unmarked ws a = set ws (a / 64) (bit_and (get_or ws (a / 64) 0) (2 ^ 64 - 1 - 2 ^ (a % 64)))

-- the addresses in use below n, lowest first; and all of them
unfoldable pub used_below : List ℕ → ℕ → List ℕ
used_below ws zero = []
used_below ws (suc n) = used_below ws n ++ cond (used ws n) (n ∷ []) []

unfoldable pub in_use : List ℕ → List ℕ
in_use ws = used_below ws addresses

-- 01, Count: here of the addresses below n
unfoldable pub count_below : ℕ → List ℕ → ℕ
count_below zero ws = 0
count_below (suc n) ws = cond (used ws n) (count_below n ws + 1) (count_below n ws)

unfoldable pub count_of : List ℕ → ℕ
count_of ws = count_below addresses ws

-- the smallest of the k numbers from a on that p holds of; a + k where it holds of none
unfoldable pub first_from : (ℕ → Bool) → ℕ → ℕ → ℕ
first_from p zero a = a
first_from p (suc k) a = cond (p a) a (first_from p k (suc a))

-- 01, Lowest free: the smallest address without a mark, or where the addresses end
unfoldable pub lowest_free : List ℕ → ℕ
lowest_free ws = first_from (λ a. not (used ws a)) addresses 0
