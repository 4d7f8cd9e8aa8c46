-- 01, "The bench program": a word is a number exactly when it is the number's decimal, and a byte exactly when it is the byte's two digits.
-- Proved as `one_number` and `one_byte` in proofs/Exact.antt. Assumes nothing.
use Rattle.std.specs.Prelude.{◌≡◌, List, ◌↔◌, ℕ, ◌<◌, Some}
use Rattle.text.specs.Text.{decimal, hex}
use Rattle.text.specs.Read.{decimal_in, hex_in}

abbrev pub OneNumber : Type 0
OneNumber = (w : List ℕ) (n : ℕ) → (decimal_in w ≡ Some n) ↔ ((n < 65536) × (decimal n ≡ w))

abbrev pub OneByte : Type 0
OneByte = (w : List ℕ) (b : ℕ) → (hex_in w ≡ Some b) ↔ ((b < 256) × (hex b ≡ w))
