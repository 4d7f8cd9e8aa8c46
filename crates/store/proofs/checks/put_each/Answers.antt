-- `store::checks::put_each` meets its contract: at a marked address those below it are put again. Assumes nothing.
use borrow.Author.Rules.{rules}
use mathlib.Core.Path.{◌≡◌, sym, ap, ◌∙◌}
use Prim.Native.Nat.{◌+◌}
use native.Mathlib.Omega.{arith}
use lib.ListN.{length}
use Rattle.state.specs.Sizes.{addresses, value_size, cell_size, store_size, width}
use Rattle.state.proofs.Walks.{put_each_below, put_below, put_each_whole, write_each_whole}
use Rattle.entries.specs.Tag.{tag}
use Rattle.store.proofs.Loops.{next, put_begin, put_turn}
use Rattle.store.proofs.checks.put_each.Goals as goal

pub loop-a-init : goal.loop-a-init
unfolding addresses
loop-a-init c =
    let n = next c.args.m 0 (omega arith) c.next_used-a.ensures in
    let p = put_begin width tag c.args.m c.args.s c.args.store.now n in
    (n.to, n.here, p.0, p.1)

pub loop-a-smaller : goal.loop-a-smaller
unfolding addresses
loop-a-smaller c =
    omega (arith, (next c.args.m (c.loop-a.a + 1) (omega arith) c.next_used-a-in-loop-a.ensures).from)

pub loop-a-preserved : goal.loop-a-preserved
unfolding addresses value_size cell_size store_size
loop-a-preserved c =
    let l = c.loop-a in
    let ws = c.args.m in
    let s = c.args.s in
    let m = c.args.store.now in
    let n = next ws (l.a + 1) (omega arith) c.next_used-a-in-loop-a.ensures in
    let z : length m ≡ store_size width = search rules in
    let p = put_turn width tag ws s m l.a (omega arith) z (l.invariant.1 (omega arith)) n (l.invariant.2, l.invariant.3) c.value_at-v.ensures c.put_entry-r.ensures in
    (n.to, n.here, p.0, p.1)

pub returns : goal.returns
unfolding addresses
returns c =
    let l = c.loop-a in
    let x = c.args in
    let m = x.store.now in
    let e : l.a ≡ addresses = omega arith in (
      l.invariant.2 ∙ ap (put_each_below width tag x.m x.s m) e ∙ sym (put_each_whole width tag x.m x.s m),
      l.invariant.3 ∙ ap (put_below width x.m m) e ∙ sym (write_each_whole width x.m m),
    )
