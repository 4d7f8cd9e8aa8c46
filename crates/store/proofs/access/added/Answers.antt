-- `store::access::added` meets its contract: a put of the value given, and a mark set. Assumes nothing.
use mathlib.Core.Path.{refl, ap₂}
use Rattle.state.specs.TakePut.{with_marks}
use Rattle.state.specs.Access.{added}
use Rattle.store.proofs.Fields.{same_seen}
use Rattle.store.proofs.access.added.Goals as goal

pub returns : goal.returns
unfolding added with_marks
returns c = same_seen (ap₂ with_marks c.put-r.ensures.0 c.with_mark-marks.ensures) c.put-r.ensures.1 refl
