-- What a comparison answers and writes, case by case. Assumes nothing.
use mathlib.Core.Path.{◌≡◌, refl, sym, ap}
use mathlib.Core.Logic.{◌↔◌}
use Rattle.std.specs.Prelude.{Some, None}
use Rattle.std.proofs.lemmas.Option.{none-some, same_Some}
use native.Mathlib.Omega.{arith}
use lib.IntN.{ℤ}
use Rattle.going.specs.Going.{going_number, going_distance}
use Rattle.going.specs.declared.Going.{Going}
use Rattle.going.specs.declared.Going.TheVariants.{OtherMember, NoOrder, Back, Forward}
use Rattle.held.specs.Answers.{going_answer, distance_or}
use Rattle.held.specs.Answered.{Answered}

-- an answer is of one case alone
forward : (g : Going) → going_answer g ≡ 0 → (d : ℤ) × (g ≡ Forward d)
forward (Forward d) e = (d, refl)
forward (Back d) e = absurd (omega (arith, e))
forward OtherMember e = absurd (omega (arith, e))
forward NoOrder e = absurd (omega (arith, e))

back : (g : Going) → going_answer g ≡ 1 → (d : ℤ) × (g ≡ Back d)
back (Forward d) e = absurd (omega (arith, e))
back (Back d) e = (d, refl)
back OtherMember e = absurd (omega (arith, e))
back NoOrder e = absurd (omega (arith, e))

other_member : (g : Going) → going_answer g ≡ 2 → g ≡ OtherMember
other_member (Forward d) e = absurd (omega (arith, e))
other_member (Back d) e = absurd (omega (arith, e))
other_member OtherMember e = refl
other_member NoOrder e = absurd (omega (arith, e))

no_order : (g : Going) → (going_answer g ≡ 16) ↔ (going_number g ≡ Some 16)
no_order (Forward d) = ((λ e. absurd (omega (arith, e))), (λ e. absurd (none-some 16 e)))
no_order (Back d) = ((λ e. absurd (omega (arith, e))), (λ e. absurd (none-some 16 e)))
no_order OtherMember = ((λ e. absurd (omega (arith, e))), (λ e. absurd (none-some 16 e)))
no_order NoOrder = ((λ e. refl), (λ e. refl))

written : (g : Going) (n d : ℤ) → going_distance g ≡ Some d → distance_or n g ≡ d
written (Forward f) n d e = same_Some f d e
written (Back b) n d e = same_Some b d e
written OtherMember n d e = absurd (none-some d e)
written NoOrder n d e = absurd (none-some d e)

left : (g : Going) (n : ℤ) → going_distance g ≡ None → distance_or n g ≡ n
left (Forward f) n e = absurd (none-some f (sym e))
left (Back b) n e = absurd (none-some b (sym e))
left OtherMember n e = refl
left NoOrder n e = refl

pub answered : (g : Going) → Answered g
answered g = record {
  forward = (forward g, (λ p. ap going_answer p.1));
  back = (back g, (λ p. ap going_answer p.1));
  other_member = (other_member g, ap going_answer);
  no_order = no_order g;
  written = written g;
  left = left g;
}
