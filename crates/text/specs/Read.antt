-- 01, "The bench program": the number or the byte that a word writes, found by a search. What the search finds is stated in Exact.antt.
-- Assumes nothing.
use Rattle.std.specs.Prelude.{Bool, cond, List, ℕ, zero, suc, Option, Some, None}
use Rattle.octets.specs.Places.{same}
use Rattle.text.specs.Text.{decimal, hex}

-- the number below k that passes a test
unfoldable pub seek : (ℕ → Bool) → ℕ → Option ℕ
seek test zero = None
seek test (suc k) = cond (test k) (Some k) (seek test k)

-- the number that a word writes
unfoldable pub decimal_in : List ℕ → Option ℕ
decimal_in w = seek (λ n. same (decimal n) w) 65536

-- the byte that a word writes
unfoldable pub hex_in : List ℕ → Option ℕ
hex_in w = seek (λ b. same (hex b) w) 256
