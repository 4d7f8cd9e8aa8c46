-- `serials::distance` meets its contract: the wrapping subtraction gives the wrapped difference, and the cast reads its bits as a signed number. Assumes nothing.
use Rattle.std.proofs.Common.{sym, ap, ◌∙◌, w32, Some}
use mir.ValLaws.{to_z-of_z}
use Rattle.serials.specs.Distance.{wrapped}
use Rattle.serials.proofs.Sign.{opposite, measured, signed}
use Rattle.serials.proofs.Up.{below}
use Rattle.serials.proofs.distance.Goals as goal

pub returns-then-up : goal.returns-then-up
unfolding wrapped
returns-then-up c = sym (opposite _ _ c.if-up.true)

pub returns : goal.returns
unfolding wrapped
returns c =
    ap Some (to_z-of_z w32 _ (record { sfits = c.cast_signed.type_inv }) ∙ c.cast_signed.ensures ∙ signed _ (below _ _ c.ranges.held.fits c.ranges.offered.fits)) ∙ sym (measured _ _ c.if-up.false)
