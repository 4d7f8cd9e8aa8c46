-- `going::compare` meets its contract: by the members, by whether there is a distance, and by its sign, of the number that the machine reads back from its bits.
-- Assumes nothing.
use Rattle.std.proofs.Common.{rules, sym, ap, ◌∙◌, ℤ, pos, w32, SFits}
use lib.Signed.{lt_z}
use mir.ValLaws.{to_z-of_z}
use Rattle.going.specs.declared.Going.TheVariants.{Back, Forward}
use Rattle.going.proofs.Members.{other_member, no_order, back, forward}
use Rattle.going.proofs.compare.Goals as goal

pub returns-then-held-offered : goal.returns-then-held-offered
returns-then-held-offered c = sym (other_member _ _ c.if-held-offered.true)

pub returns-in-None : goal.returns-in-None
returns-in-None c = sym (no_order _ _ c.if-held-offered.false (sym c.distance.ensures ∙ c.in-None.is))

pub returns-in-Some : goal.returns-in-Some
returns-in-Some c =
    let f : SFits w32 c.in-Some.d = search rules in
    let e = to_z-of_z w32 c.in-Some.d f in
    ap Back e
    ∙ sym (back _ _ c.if-held-offered.false c.in-Some.d (sym c.distance.ensures ∙ c.in-Some.is) (ap (λ (z : ℤ). lt_z z (pos 0)) (sym e) ∙ c.if-d-lt0.true))

pub returns-in-Some-2 : goal.returns-in-Some-2
returns-in-Some-2 c =
    let f : SFits w32 c.in-Some.d = search rules in
    let e = to_z-of_z w32 c.in-Some.d f in
    ap Forward e
    ∙ sym (forward _ _ c.if-held-offered.false c.in-Some.d (sym c.distance.ensures ∙ c.in-Some.is) (ap (λ (z : ℤ). lt_z z (pos 0)) (sym e) ∙ c.if-d-lt0.false))
