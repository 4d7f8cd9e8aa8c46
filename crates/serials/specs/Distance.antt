-- 01, "Going back": the distance from the serial number held to the one offered.
-- Assumes nothing.
use Rattle.std.specs.Prelude.{◌≡◌, ℕ, ◌+◌, ◌-◌, ◌%◌, ◌^◌, cond, ℤ, pos, ◌+ℤ◌, ◌-ℤ◌, ◌*ℤ◌, neg_ℤ, ◌≤ℤ◌, ◌==◌, nat_lt, Option, Some, None}

-- x = y modulo m: they differ by a multiple of m
abbrev pub Modulo : ℕ → ℤ → ℤ → Type 0
Modulo m x y = (k : ℤ) × (x ≡ y +ℤ k *ℤ pos m)

-- d is from -2,147,483,647 to 2,147,483,647, and held + d = offered modulo 2^32
pub record IsDistance (held offered : ℕ) (d : ℤ) : Type 0 where
  pub least : neg_ℤ (pos 2147483647) ≤ℤ d
  pub most : d ≤ℤ pos 2147483647
  pub reaches : Modulo (2 ^ 32) (pos held +ℤ d) (pos offered)

-- ---- what the call gives

-- the wrapped difference: how far it is up from held to offered, from 0 to 2^32 - 1
unfoldable pub wrapped : ℕ → ℕ → ℕ
wrapped held offered = (offered + (2 ^ 32 - held)) % 2 ^ 32

-- read as a signed number, from -2^31 to 2^31 - 1
unfoldable pub signed_of : ℕ → ℤ
signed_of up = cond (nat_lt up (2 ^ 31)) (pos up) (pos up -ℤ pos (2 ^ 32))

unfoldable pub distance_of : ℕ → ℕ → Option ℤ
distance_of held offered = cond (wrapped held offered == 2 ^ 31) None (Some (signed_of (wrapped held offered)))
