-- `store::access::removed` meets its contract: a take, zeros written, and a mark cleared. Assumes nothing.
use mathlib.Core.Path.{refl, ap₂}
use Rattle.state.specs.Sizes.{value_size}
use Rattle.state.specs.TakePut.{with_marks}
use Rattle.state.specs.Access.{removed}
use Rattle.store.proofs.Fields.{same_seen}
use Rattle.store.proofs.access.removed.Goals as goal

pub returns : goal.returns
unfolding removed with_marks value_size
returns c =
    same_seen (ap₂ with_marks c.take-r.ensures c.without_mark-marks.ensures) c.write.ensures refl
