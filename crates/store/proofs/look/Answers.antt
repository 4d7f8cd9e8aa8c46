-- `store::look` meets its contract: the part lent is the value's, in place, or has no bytes. Assumes nothing.
use mathlib.Core.Path.{sym, ap, ◌∙◌}
use Rattle.state.specs.Sizes.{width}
use Rattle.refusal.proofs.Again.{some_number}
use Rattle.lent.specs.Lent.{lies}
use Rattle.state.proofs.Ready.{look_done, look_refused}
use Rattle.store.proofs.look.Goals as goal

pub returns-in-Ok : goal.returns-in-Ok
returns-in-Ok c =
    let x = c.args in
    let p = c.value_part.ensures in
    let q = look_done width x.store.now x.a (sym c.in-Ok.ensures) in
    (p.0 ∙ sym q.0, p.1 ∙ sym (ap (lies x.store) q.1))

pub returns-in-Err : goal.returns-in-Err
returns-in-Err c =
    let x = c.args in
    let q = look_refused width x.store.now x.a (λ e. some_number _ (c.in-Err.ensures ∙ e)) in
    (sym q.0, sym (ap (lies x.store) q.1))
