-- By the look's rows. Assumes nothing.
use Rattle.std.proofs.Common.{◌<◌, sym, ◌∙◌, arith}
use Rattle.refusal.proofs.Again.{some_number}
use Rattle.refusal.proofs.Passed.{done_zero, done_other}
use Rattle.state.specs.Sizes.{width, addresses, value_size, cell_size, store_size}
use Rattle.state.proofs.Ready.{look_ready, look_done}
use Rattle.held.specs.Answers.{look_answer}
use Rattle.exports.proofs.pintlecup_look.Goals as goal

pub overflow_mul-result : goal.overflow_mul-result
unfolding addresses
overflow_mul-result c =
    let below : c.args.address < 1024 = (look_ready width c.args.store.now c.args.address (sym c.in-Ok.ensures)).1 in
    omega (arith, below)

pub returns-in-Ok : goal.returns-in-Ok
unfolding look_answer value_size cell_size
returns-in-Ok c =
    let e = sym c.in-Ok.ensures in
    sym (done_zero _ _ _ e ∙ (look_done width c.args.store.now c.args.address e).1)

pub returns-in-Err : goal.returns-in-Err
unfolding look_answer addresses value_size cell_size store_size
returns-in-Err c = sym (done_other _ _ _ (λ e. some_number _ (c.in-Err.ensures ∙ e)))
