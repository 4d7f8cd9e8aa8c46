-- `compress::all_rounds`: after `turn` turns of eight rounds, the words are those of so many rounds.
use Rattle.std.proofs.Common.{◌≡◌, ◌*◌}
use Rattle.compress.specs.Compress.{rounds}
use Rattle.compress.proofs.all_rounds.Given as goal

abbrev pub invariant-loop-turn : goal.invariant-loop-turn
invariant-loop-turn l = l.s ≡ rounds (8 * l.turn) l.w l.initial.s
