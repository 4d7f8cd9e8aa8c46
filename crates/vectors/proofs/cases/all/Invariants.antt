-- What is left of the file falls.
use Rattle.std.proofs.Common.{length}
use Rattle.vectors.proofs.cases.all.Given as goal

abbrev pub decreases-loop-rest : goal.decreases-loop-rest
decreases-loop-rest g l = length l.rest
