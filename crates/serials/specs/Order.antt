-- RFC 1982, "Serial Number Arithmetic", with SERIAL_BITS = 32: its order.
-- Assumes nothing.
use Rattle.std.specs.Prelude.{◌≡◌, ℕ, ◌+◌, ◌-◌, ◌^◌, ◌<◌, ◌≢◌, ◌⊎◌}

-- section 2: a serial number is one from 0 to 2^32 - 1
abbrev pub Serial : ℕ → Type 0
Serial s = s < 2 ^ 32

-- section 3.2, its two relations: s1 is less than s2; s1 is greater than s2
abbrev pub Less : ℕ → ℕ → Type 0
Less s1 s2 = (s1 ≢ s2) × (((s1 < s2) × (s2 - s1 < 2 ^ 31)) ⊎ ((s2 < s1) × (2 ^ 31 < s1 - s2)))

abbrev pub Greater : ℕ → ℕ → Type 0
Greater s1 s2 = (s1 ≢ s2) × (((s1 < s2) × (2 ^ 31 < s2 - s1)) ⊎ ((s2 < s1) × (s1 - s2 < 2 ^ 31)))

-- 01, "Going back": exactly 2^31 apart
abbrev pub Apart : ℕ → ℕ → Type 0
Apart s1 s2 = (s1 + 2 ^ 31 ≡ s2) ⊎ (s2 + 2 ^ 31 ≡ s1)
