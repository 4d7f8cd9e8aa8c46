-- `lines::with_value` meets its contract: the number and the byte are there or not, and then the name is compared. Assumes nothing.
use Rattle.lines.proofs.Cuts.{same_as}
use Rattle.lines.proofs.with_value.Goals as goal

pub returns-then-eq : goal.returns-then-eq
returns-then-eq c = rw (c.in_ok-a.was, c.in_ok-v.was, same_as c.args.name.now c.as_slice.ensures c.eq.ensures c.if-eq.true)

pub returns-then-eq-2 : goal.returns-then-eq-2
returns-then-eq-2 c = rw (c.in_ok-a.was, c.in_ok-v.was, same_as c.args.name.now c.as_slice.ensures c.eq.ensures c.if-eq.false, same_as c.args.name.now c.as_slice-2.ensures c.eq-2.ensures c.if-eq-2.true)

pub returns : goal.returns
returns c = rw (c.in_ok-a.was, c.in_ok-v.was, same_as c.args.name.now c.as_slice.ensures c.eq.ensures c.if-eq.false, same_as c.args.name.now c.as_slice-2.ensures c.eq-2.ensures c.if-eq-2.false)
