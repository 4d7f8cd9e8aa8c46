-- `sha256::finish`: the loop takes in the padded rest, block after block.
use Rattle.std.proofs.Common.{◌≡◌, ◌+◌, ◌*◌, length}
use Rattle.sha256.specs.Sha256.{padded, hashed}
use Rattle.sha256.proofs.finish.Given as goal

abbrev pub invariant-loop-i : goal.invariant-loop-i
invariant-loop-i l = l.s ≡ hashed l.i l.initial.s (padded (64 * l.before + length l.rest) l.rest)
