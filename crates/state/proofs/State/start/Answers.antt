-- `State::start` meets its contract: row 8 is tested, and the key is the whole of what is lent. Assumes nothing.
use mathlib.Core.Path.{ap, sym, ◌∙◌}
use mathlib.Core.Bool.{false}
use Rattle.state.specs.Sizes.{key_size}
use Rattle.state.specs.Start.{sealed, fresh, no_state, started}
use Rattle.state.proofs.Starts.{start_done, start_refused}
use Rattle.state.proofs.State.start.Goals as goal

pub returns-in-Ok : goal.returns-in-Ok
unfolding sealed
returns-in-Ok c =
    let key = c.in-Ok.ensures.1 in
    ap (started 0) (c.empty.ensures ∙ ap (λ k. fresh (sealed k) false) key.same) ∙ sym (start_done c.args.key.now key.long)

pub returns-in-Err : goal.returns-in-Err
unfolding no_state key_size
returns-in-Err c = ap (started 8) c.empty-in-Err.ensures ∙ sym (start_refused _ c.in-Err.ensures.1)
