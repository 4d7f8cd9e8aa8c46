-- `store::checks::put_each` meets its contract: at a marked address those below it are put again. Assumes nothing.
use mathlib.Core.Path.{◌≡◌}
use mathlib.Core.Bool.{true}
use Prim.Native.Nat.{◌-◌, ◌≤◌, ◌<◌}
use Rattle.state.specs.Sizes.{addresses, width}
use Rattle.state.specs.Marks.{used}
use Rattle.state.proofs.Walks.{put_each_below, put_below}
use Rattle.entries.specs.Tag.{tag}
use Rattle.store.proofs.checks.put_each.Given as goal

abbrev pub invariant-loop-a : goal.invariant-loop-a
invariant-loop-a l =
    (l.a ≤ addresses) × (l.a < addresses → used l.m l.a ≡ true) × (l.r ≡ put_each_below width tag l.m l.initial.r l.initial.store l.a)
    × (l.store ≡ put_below width l.m l.initial.store l.a)

abbrev pub decreases-loop-a : goal.decreases-loop-a
decreases-loop-a l = addresses - l.a
