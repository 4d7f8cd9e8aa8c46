-- The operations on SHA-256's words, as FIPS 180-4 has them. A word is a number below 2^32.
-- Assumes nothing.
use Rattle.std.specs.Prelude.{ℕ, ◌+◌, ◌-◌, ◌*◌, ◌/◌, ◌%◌, ◌^◌, bit_and, bit_or, bit_xor}

infixl 20 ◌⊞◌
infixl 25 ◌⊕◌
infixl 30 ◌&◌
-- FIPS 180-4 §2.2.2: the bitwise operations on words
abbrev pub ◌&◌ : ℕ → ℕ → ℕ
x & y = bit_and x y

abbrev pub ◌⊕◌ : ℕ → ℕ → ℕ
x ⊕ y = bit_xor x y

abbrev pub complement : ℕ → ℕ
complement x = 2 ^ 32 - 1 - x

-- FIPS 180-4 §2.2.2: <<
abbrev pub shl : ℕ → ℕ → ℕ
shl n x = (x * 2 ^ n) % 2 ^ 32

-- FIPS 180-4 §3.2, 2: the standard's +, modulo 2^32
abbrev pub ◌⊞◌ : ℕ → ℕ → ℕ
x ⊞ y = (x + y) % 2 ^ 32

-- FIPS 180-4 §3.2, 3: SHR
abbrev pub shr : ℕ → ℕ → ℕ
shr n x = x / 2 ^ n

-- FIPS 180-4 §3.2, 4: ROTR
abbrev pub rotr : ℕ → ℕ → ℕ
rotr n x = bit_or (shr n x) (shl (32 - n) x)
