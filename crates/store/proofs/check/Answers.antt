-- `store::check` meets its contract: by whether it is refused, and by whether the hashes agree after the takes. Assumes nothing.
use borrow.Author.Rules.{rules}
use mathlib.Core.Path.{◌≡◌, sym, ap, ap₂, ◌∙◌}
use mathlib.Core.Bool.{true, false}
use mathlib.Core.List.{[]}
use mathlib.Core.Option.{some}
use Rattle.state.specs.Sizes.{width}
use Rattle.state.specs.TakePut.{seen}
use Rattle.state.specs.Check.{check_of, agrees, reason, take_each, take_all, put_each, put_all, write_each, write_all, acceptance, rejection}
use Rattle.state.specs.declared.Verdict.TheVariants.{Accept}
use Rattle.entries.specs.Tag.{tag}
use Rattle.state.proofs.Ready.{call_done}
use Rattle.store.proofs.Answers.{refused_checked}
use Rattle.store.proofs.check.Goals as goal

pub returns-in_err-check : goal.returns-in_err-check
unfolding check_of
returns-in_err-check c = refused_checked _ _ _ _ _ _ c.in_err-check.ensures c.from_residual.ensures

pub returns-then-agrees : goal.returns-then-agrees
unfolding check_of acceptance take_all put_all write_all
returns-then-agrees c =
    let x = c.args in
    let m : c.unwrap-store.result.now ≡ x.store.now = search rules in
    let t = c.take_each-taken.ensures ∙ ap (take_each width tag x.s.marks x.s) m in
    let e : agrees (take_each width tag x.s.marks x.s x.store.now) ≡ true = sym (ap agrees t) ∙ sym c.agrees.ensures ∙ c.if-agrees.true in
    let p = c.put_each-state.ensures in
    rw (call_done _ x.s x.store.now _ _ (sym c.in_ok-check.ensures), e)
    (ap₂ (λ s m. seen 0 (some Accept) s m _) (p.0 ∙ ap₂ (put_each width tag x.s.marks) c.opened.ensures m) (p.1 ∙ ap (write_each width x.s.marks) m))

pub returns : goal.returns
unfolding check_of rejection take_all
returns c =
    let x = c.args in
    let m : c.unwrap-store.result.now ≡ x.store.now = search rules in
    let t = c.take_each-taken.ensures ∙ ap (take_each width tag x.s.marks x.s) m in
    let e : agrees (take_each width tag x.s.marks x.s x.store.now) ≡ false = sym (ap agrees t) ∙ sym c.agrees.ensures ∙ c.if-agrees.false in
    rw (call_done _ x.s x.store.now _ _ (sym c.in_ok-check.ensures), e)
    (λ i. seen 0 (some ((c.reason.ensures ∙ ap reason t) i)) (c.close.ensures i) (m i) [])
