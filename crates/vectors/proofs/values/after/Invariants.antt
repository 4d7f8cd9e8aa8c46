-- What is left of the text is as long as what its lines have left.
use Rattle.std.proofs.Common.{◌≡◌, ◌≤◌, length}
use Rattle.std.specs.Slice.Iter.{split_inclusive_rest}
use Rattle.vectors.proofs.values.after.Given as goal

abbrev pub invariant-loop-line : goal.invariant-loop-line
invariant-loop-line l = (length l.rest ≡ length (split_inclusive_rest l.line-iterator)) × (length l.rest ≤ length l.text)
