-- 01, "Going back": what is claimed of the distance.
-- Assumes nothing.
use Rattle.std.specs.Prelude.{◌≡◌, ℕ, ◌+◌, ◌^◌, ◌<◌, ◌≢◌, ◌↔◌, ℤ, pos, ◌-ℤ◌, neg_ℤ, ◌<ℤ◌, Option, Some, None}
use Rattle.serials.specs.Order.{Serial, Less, Greater, Apart}
use Rattle.serials.specs.Distance.{IsDistance}

-- of two serial numbers
pub record Distances (held offered : ℕ) : Type 0 where
  -- there is a distance exactly where they are not 2^31 apart, and just one
  pub exists : ((d : ℤ) × IsDistance held offered d) ↔ (Apart held offered → ⊥)
  pub one : (d e : ℤ) → IsDistance held offered d → IsDistance held offered e → d ≡ e
  -- its sign is their order
  pub back : (d : ℤ) → IsDistance held offered d → (d <ℤ pos 0) ↔ Less offered held
  pub equal : (d : ℤ) → IsDistance held offered d → (d ≡ pos 0) ↔ (held ≡ offered)
  pub forward : (d : ℤ) → IsDistance held offered d → (pos 0 <ℤ d) ↔ Less held offered
  -- the RFC's second relation is its first the other way round; and neither holds of two that are not equal exactly where they are 2^31 apart
  pub greater : Greater held offered ↔ Less offered held
  pub no_order : Apart held offered ↔ ((held ≢ offered) × (Less held offered → ⊥) × (Greater held offered → ⊥))
  -- exchanged, the distance is negated, and a pair without one has none
  pub exchanged : (d : ℤ) → IsDistance held offered d → IsDistance offered held (neg_ℤ d)
  pub apart_exchanged : Apart held offered → Apart offered held
  -- where they are less than 2^31 apart as plain numbers, as all below 2^31 are, it is the difference
  pub plain : held < offered + 2 ^ 31 → offered < held + 2 ^ 31 → IsDistance held offered (pos offered -ℤ pos held)

abbrev pub Rfc1982 : Type 0
Rfc1982 = (held offered : ℕ) → Serial held → Serial offered → Distances held offered

-- a call gives a distance exactly where it is one, and none exactly where the two are 2^31 apart
pub record Measures (f : ℕ → ℕ → Option ℤ) (held offered : ℕ) : Type 0 where
  pub distance : (d : ℤ) → (f held offered ≡ Some d) ↔ IsDistance held offered d
  pub opposite : (f held offered ≡ None) ↔ Apart held offered

abbrev pub Exact : (ℕ → ℕ → Option ℤ) → Type 0
Exact f = (held offered : ℕ) → Serial held → Serial offered → Measures f held offered
