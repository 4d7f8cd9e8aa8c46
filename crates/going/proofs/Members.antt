-- The comparison of two members' filter records, and of one member's. Assumes nothing.
use Rattle.std.specs.Prelude.{Some, None}
use mathlib.Core.Path.{◌≡◌, ap, ◌∙◌}
use mathlib.Core.Bool.{Bool, true, false, cond, not}
use lib.IntN.{ℤ, pos}
use lib.Signed.{lt_z}
use mathlib.Core.Logic.{◌≢◌}
use borrow.Author.Tests.{eq-eqb, ne_eqb}
use Rattle.filter.specs.declared.FilterRecord.{FilterRecord}
use Rattle.serials.specs.Distance.{distance_of}
use Rattle.going.specs.Going.{directed, of_distance, going_of}
use Rattle.going.specs.declared.Going.{Going}
use Rattle.going.specs.declared.Going.TheVariants.{OtherMember, NoOrder, Back, Forward}

module _ (held offered : FilterRecord) where
  -- by the test of the members
  abbrev by_members : Bool → Going
  by_members t = cond (not t) OtherMember (of_distance (distance_of held.serial offered.serial))

  pub other_member : held.member ≢ offered.member → going_of held offered ≡ OtherMember
  unfolding going_of
  other_member n = ap by_members (ne_eqb held.member offered.member n)

  pub same_member : held.member ≡ offered.member → going_of held offered ≡ of_distance (distance_of held.serial offered.serial)
  unfolding going_of
  same_member e = ap by_members (eq-eqb held.member offered.member e)

  -- by the distance of one member's serials
  module _ (m : held.member ≡ offered.member) where
    pub no_order : distance_of held.serial offered.serial ≡ None → going_of held offered ≡ NoOrder
    unfolding of_distance
    no_order e = same_member m ∙ ap of_distance e

    module _ (d : ℤ) (e : distance_of held.serial offered.serial ≡ Some d) where
      pub back : lt_z d (pos 0) ≡ true → going_of held offered ≡ Back d
      unfolding of_distance directed
      back t = same_member m ∙ ap of_distance e ∙ simp t

      pub forward : lt_z d (pos 0) ≡ false → going_of held offered ≡ Forward d
      unfolding of_distance directed
      forward t = same_member m ∙ ap of_distance e ∙ simp t
