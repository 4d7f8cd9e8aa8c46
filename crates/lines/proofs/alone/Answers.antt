-- `lines::alone` meets its contract: the name is compared. Assumes nothing.
use Rattle.lines.specs.Parse.{command_of}
use Rattle.lines.proofs.Cuts.{same_as}
use Rattle.lines.proofs.alone.Goals as goal

pub returns-then-eq : goal.returns-then-eq
unfolding command_of
returns-then-eq c = rw (same_as c.args.name.now c.as_slice.ensures c.eq.ensures c.if-eq.true)

pub returns : goal.returns
unfolding command_of
returns c = rw (same_as c.args.name.now c.as_slice.ensures c.eq.ensures c.if-eq.false)
