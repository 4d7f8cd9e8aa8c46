-- `marks::count`: after so many words n is the count of the addresses below 64 for each.
use Rattle.std.proofs.Common.{◌≡◌, ◌*◌, ◌≤◌}
use Rattle.state.specs.Marks.{count_below}
use Rattle.marks.proofs.count.Given as goal

abbrev pub invariant-loop-word : goal.invariant-loop-word
invariant-loop-word l = (l.n ≤ l.word-index * 64) × (l.n ≡ count_below (l.word-index * 64) l.fn.marks)
