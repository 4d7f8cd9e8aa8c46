-- 01, "The examples that are proved": key serials. Said of any function c that compares the filter record held with the one offered.
-- Assumes nothing.
use Rattle.std.specs.Prelude.{◌≡◌, ◌≢◌, ℕ, ◌^◌, ◌<◌, pos, neg_ℤ, Some}
use Rattle.filter.specs.declared.FilterRecord.{FilterRecord}
use Rattle.going.specs.Going.{going_number}
use Rattle.going.specs.declared.Going.{Going}
use Rattle.going.specs.declared.Going.TheVariants.{OtherMember, NoOrder, Back, Forward}

module _ (c : FilterRecord → FilterRecord → Going) where
  -- of any two filter records of one member with these key serials, held and offered, it gives this answer
  abbrev pub Gives : ℕ → ℕ → Going → Type 0
  Gives h o g = (held offered : FilterRecord) → held.member ≡ offered.member → held.serial ≡ h → offered.serial ≡ o → c held offered ≡ g

  -- past 4,294,967,295 to 0: forward by 1; and the other way
  abbrev pub ExampleRound : Type 0
  ExampleRound = Gives 4294967295 0 (Forward (pos 1)) × Gives 0 4294967295 (Back (neg_ℤ (pos 1)))

  -- exactly 2^31 apart: 16; one more: back by the most there is; one less: forward by as much
  abbrev pub ExampleHalf : Type 0
  ExampleHalf =
      Gives 0 2147483648 NoOrder × (going_number NoOrder ≡ Some 16) × Gives 1 2147483650 (Back (neg_ℤ (pos 2147483647)))
      × Gives 1 2147483648 (Forward (pos 2147483647))

  -- equal: forward by 0
  abbrev pub ExampleEqual : Type 0
  ExampleEqual = (s : ℕ) → s < 2 ^ 32 → Gives s s (Forward (pos 0))

  -- another member, whatever the serials
  abbrev pub ExampleOther : Type 0
  ExampleOther = (held offered : FilterRecord) → held.member ≢ offered.member → c held offered ≡ OtherMember
