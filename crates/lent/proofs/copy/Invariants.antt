-- `lent::copy`: each turn pastes one byte more of `from`.
use Rattle.std.proofs.Common.{◌≡◌, ◌-◌, ◌≤◌, ◌++◌, length, take, drop}
use Rattle.lent.proofs.copy.Given as goal

abbrev pub invariant-loop-i : goal.invariant-loop-i
invariant-loop-i l = (l.i ≤ length l.initial.to) × (l.i ≤ length l.from) × (length l.to ≡ length l.initial.to) × (l.to ≡ take l.i l.from ++ drop l.i l.initial.to)

abbrev pub decreases-loop-i : goal.decreases-loop-i
decreases-loop-i l = length l.initial.to - l.i
