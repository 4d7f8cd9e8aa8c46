-- A comparison's answer, and the distance that it writes, tell what it gives. Assumes nothing.
use Rattle.std.specs.Prelude.{◌≡◌, ◌↔◌, ℤ}
use Rattle.std.specs.Prelude.{Some, None}
use Rattle.going.specs.Going.{going_number, going_distance}
use Rattle.going.specs.declared.Going.{Going}
use Rattle.going.specs.declared.Going.TheVariants.{OtherMember, Back, Forward}
use Rattle.held.specs.Answers.{going_answer, distance_or}

pub record Answered (g : Going) : Type 0 where
  -- it answers 0 exactly where it gives forward, 1 back, 2 other member, and 16 exactly where that is its number
  pub forward : (going_answer g ≡ 0) ↔ ((d : ℤ) × (g ≡ Forward d))
  pub back : (going_answer g ≡ 1) ↔ ((d : ℤ) × (g ≡ Back d))
  pub other_member : (going_answer g ≡ 2) ↔ (g ≡ OtherMember)
  pub no_order : (going_answer g ≡ 16) ↔ (going_number g ≡ Some 16)
  -- where it gives a distance the lent number is that, and else what it was
  pub written : (n d : ℤ) → going_distance g ≡ Some d → distance_or n g ≡ d
  pub left : (n : ℤ) → going_distance g ≡ None → distance_or n g ≡ n
