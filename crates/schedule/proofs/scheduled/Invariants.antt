-- `schedule::scheduled`: the first t places hold the first t words of the schedule.
use Rattle.std.proofs.Common.{◌≡◌, ◌++◌, drop, replicate}
use Rattle.schedule.specs.Schedule.{schedule}
use Rattle.schedule.proofs.scheduled.Given as goal

abbrev pub invariant-loop-t : goal.invariant-loop-t
invariant-loop-t l = l.w ≡ schedule l.t l.fn.block ++ drop l.t (replicate 64 0)
