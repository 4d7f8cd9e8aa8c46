-- `lent::copy` meets its contract: each turn pastes one byte more of `from`, until one of the two is at its end. Assumes nothing.
use Rattle.std.proofs.Common.{arith, length-set, ◌∙◌}
use Rattle.lent.proofs.Copied.{copied_more, copied_full, copied_short}
use Rattle.lent.proofs.copy.Goals as goal

pub loop-i-preserved : goal.loop-i-preserved
loop-i-preserved c =
    let l = c.loop-i in
    (omega arith, omega arith, simp length-set l.invariant.2, copied_more _ _ _ l.i (omega arith) (omega arith) l.invariant.3)

pub returns-else-i-from : goal.returns-else-i-from
returns-else-i-from c = let l = c.loop-i in l.invariant.3 ∙ copied_short _ _ l.i (omega arith) (omega arith)

pub returns-after-loop-i : goal.returns-after-loop-i
returns-after-loop-i c = let l = c.loop-i in l.invariant.3 ∙ copied_full _ _ l.i (omega arith) (omega arith)
