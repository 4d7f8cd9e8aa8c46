-- `compress::all_rounds` meets its contract: each turn makes eight rounds. Assumes nothing.
use Rattle.std.proofs.Common.{◌*◌, ℕ, arith, refl, ap, rules, ◌∙◌}
use Rattle.compress.specs.Compress.{rounds}
use Rattle.compress.proofs.Rounds.{rounds_turn}
use Rattle.compress.proofs.all_rounds.Goals as goal

pub loop-turn-init : goal.loop-turn-init
unfolding rounds
loop-turn-init c = refl

pub loop-turn-preserved : goal.loop-turn-preserved
loop-turn-preserved c =
    let a = c.args in
    rounds_turn _ a.w a.h c.round_constants-k.ensures (8 * c.loop-turn.turn) 8 c.fold-next.ensures.ran (λ s x r f' k. search rules) c.loop-turn.invariant
    ∙ ap (λ (n : ℕ). rounds n a.w a.h) (omega arith)
