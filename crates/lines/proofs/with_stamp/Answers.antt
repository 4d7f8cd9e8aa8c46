-- `lines::with_stamp` meets its contract: the numbers and the byte are there or not, and then the name is compared. Assumes nothing.
use Rattle.lines.proofs.Cuts.{same_as}
use Rattle.lines.proofs.with_stamp.Goals as goal

pub returns-then-eq : goal.returns-then-eq
returns-then-eq c = rw (c.in_ok-a.was, c.in_ok-v.was, c.in_ok-t.was, same_as c.args.name.now c.as_slice.ensures c.eq.ensures c.if-eq.true)

pub returns : goal.returns
returns c = rw (c.in_ok-a.was, c.in_ok-v.was, c.in_ok-t.was, same_as c.args.name.now c.as_slice.ensures c.eq.ensures c.if-eq.false)
