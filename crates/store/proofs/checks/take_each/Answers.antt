-- `store::checks::take_each` meets its contract: at a marked address those below it are taken. Assumes nothing.
use mathlib.Core.Path.{◌≡◌, sym, ap, ◌∙◌}
use Prim.Native.Nat.{◌+◌}
use native.Mathlib.Omega.{arith}
use Rattle.state.specs.Sizes.{addresses, width}
use Rattle.state.proofs.Walks.{take_each_below, take_each_whole}
use Rattle.entries.specs.Tag.{tag}
use Rattle.store.proofs.Loops.{next, take_begin, take_turn}
use Rattle.store.proofs.checks.take_each.Goals as goal

pub loop-a-init : goal.loop-a-init
unfolding addresses
loop-a-init c =
    let x = c.args in
    let n = next x.m 0 (omega arith) c.next_used-a.ensures in
    (n.to, n.here, take_begin width tag x.m x.s x.store.now n)

pub loop-a-smaller : goal.loop-a-smaller
unfolding addresses
loop-a-smaller c =
    omega (arith, (next c.args.m (c.loop-a.a + 1) (omega arith) c.next_used-a-in-loop-a.ensures).from)

pub loop-a-preserved : goal.loop-a-preserved
unfolding addresses
loop-a-preserved c =
    let x = c.args in
    let l = c.loop-a in
    let n = next x.m (l.a + 1) (omega arith) c.next_used-a-in-loop-a.ensures in
    (n.to, n.here, take_turn width tag x.m x.s x.store.now l.a (l.invariant.1 (omega arith)) n l.invariant.2 c.take-r.ensures)

pub returns : goal.returns
unfolding addresses
returns c =
    let l = c.loop-a in
    let x = c.args in
    let e : l.a ≡ addresses = omega arith in
    l.invariant.2 ∙ ap (take_each_below width tag x.m x.s x.store.now) e ∙ sym (take_each_whole width tag x.m x.s x.store.now)
