-- 01, "Going back": of a filter record held and one offered.
-- Assumes nothing.
use Rattle.std.specs.Prelude.{◌≡◌, cond, not, ◌↔◌, ◌⊎◌, ◌≢◌, ℕ, ◌+◌, ◌^◌, ◌<◌, eqb, ltb, ℤ, pos, neg_ℤ, ◌-ℤ◌, ◌<ℤ◌, ◌≤ℤ◌, Option, Some, None}
use Rattle.std.specs.Int.Signed.{lt_z}
use Rattle.filter.specs.declared.FilterRecord.{FilterRecord}
use Rattle.serials.specs.Order.{Serial, Less, Apart}
use Rattle.serials.specs.Distance.{IsDistance, distance_of}
use Rattle.going.specs.declared.Going.{Going}
use Rattle.going.specs.declared.Going.TheVariants.{OtherMember, NoOrder, Back, Forward}

-- "back" is a negative distance
unfoldable pub directed : ℤ → Going
directed d = cond (lt_z d (pos 0)) (Back d) (Forward d)

unfoldable pub of_distance : Option ℤ → Going
of_distance (Some d) = directed d
of_distance None = NoOrder

unfoldable pub going_of : FilterRecord → FilterRecord → Going
going_of held offered = cond (not (eqb held.member offered.member)) OtherMember (of_distance (distance_of held.serial offered.serial))

-- ---- what each answer says, its number and its distance

abbrev pub Says : Going → FilterRecord → FilterRecord → Type 0
Says OtherMember held offered = held.member ≢ offered.member
Says NoOrder held offered = (held.member ≡ offered.member) × Apart held.serial offered.serial
Says (Back d) held offered = (held.member ≡ offered.member) × IsDistance held.serial offered.serial d × (d <ℤ pos 0)
Says (Forward d) held offered = (held.member ≡ offered.member) × IsDistance held.serial offered.serial d × (pos 0 ≤ℤ d)

-- 01, "Numbers given back": row 16 is a comparison's only number; row 0 leaves it out
abbrev pub going_number : Going → Option ℕ
going_number OtherMember = None
going_number NoOrder = Some 16
going_number (Back d) = None
going_number (Forward d) = None

abbrev pub going_distance : Going → Option ℤ
going_distance OtherMember = None
going_distance NoOrder = None
going_distance (Back d) = Some d
going_distance (Forward d) = Some d

-- the answer with held and offered exchanged
abbrev pub exchanged : Going → Going
exchanged OtherMember = OtherMember
exchanged NoOrder = NoOrder
exchanged (Back d) = directed (neg_ℤ d)
exchanged (Forward d) = directed (neg_ℤ d)

-- the comparison as it was before serials went round, by plain numbers, with their difference for the distance
abbrev pub plain_of : FilterRecord → FilterRecord → Going
plain_of held offered =
    let d = pos offered.serial -ℤ pos held.serial in
    cond (not (eqb held.member offered.member)) OtherMember (cond (ltb offered.serial held.serial) (Back d) (Forward d))

-- ---- what is claimed of a comparison, of filter records with any serials of 32 bits

pub record Compared (c : FilterRecord → FilterRecord → Going) (held offered : FilterRecord) : Type 0 where
  -- an answer is given exactly when what it says is true
  pub exactly : (g : Going) → (c held offered ≡ g) ↔ Says g held offered
  -- by RFC 1982's order: "back" exactly when the member is the same and the offered serial is less than the held one, "forward" when it is not, but for 16
  pub back : ((d : ℤ) × (c held offered ≡ Back d)) ↔ ((held.member ≡ offered.member) × Less offered.serial held.serial)
  pub forward : ((d : ℤ) × (c held offered ≡ Forward d)) ↔ ((held.member ≡ offered.member) × ((held.serial ≡ offered.serial) ⊎ Less held.serial offered.serial))
  -- 16 exactly when the member is the same and the serials are 2^31 apart, and no other number
  pub number : (n : ℕ) → (going_number (c held offered) ≡ Some n) ↔ ((n ≡ 16) × (held.member ≡ offered.member) × Apart held.serial offered.serial)
  -- a distance exactly when the member is the same and it is the distance
  pub distance : (d : ℤ) → (going_distance (c held offered) ≡ Some d) ↔ ((held.member ≡ offered.member) × IsDistance held.serial offered.serial d)
  -- with held and offered exchanged the distance is negated, and an answer without one stays
  pub exchange : c offered held ≡ exchanged (c held offered)
  -- nothing changes for serials that are less than 2^31 apart as plain numbers, as all below 2^31 are
  pub plain : held.serial < offered.serial + 2 ^ 31 → offered.serial < held.serial + 2 ^ 31 → c held offered ≡ plain_of held offered

abbrev pub Compares : (FilterRecord → FilterRecord → Going) → Type 0
Compares c = (held offered : FilterRecord) → Serial held.serial → Serial offered.serial → Compared c held offered
