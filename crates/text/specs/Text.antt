-- 01, "The bench program": words, numbers and bytes as text, in ASCII.
-- Assumes nothing.
use Rattle.std.specs.Prelude.{cond, List, [], ◌∷◌, ◌++◌, ℕ, zero, suc, ◌+◌, ◌/◌, ◌%◌, ltb}
use Prim.Native.Char.{code}
use Prim.Native.String.{String, [] as []ˢ, ◌∷◌ as ◌∷ˢ◌}

abbrev pub ascii : String → List ℕ
ascii []ˢ = []
ascii (c ∷ˢ s) = code c ∷ ascii s

-- a number in decimal, without leading zeros: after the decimal of its tenth its last digit; k is at least n
unfoldable pub decimal_up : ℕ → ℕ → List ℕ
decimal_up zero n = (48 + n) ∷ []
decimal_up (suc k) n = cond (ltb n 10) ((48 + n) ∷ []) (decimal_up k (n / 10) ++ ((48 + n % 10) ∷ []))

unfoldable pub decimal : ℕ → List ℕ
decimal n = decimal_up n n

-- a digit: `0` to `9`, then `a` to `f`
unfoldable pub glyph : ℕ → ℕ
glyph d = cond (ltb d 10) (48 + d) (87 + d)

-- a byte in two lower-case hex digits
unfoldable pub hex : ℕ → List ℕ
hex b = glyph (b / 16) ∷ glyph (b % 16) ∷ []
