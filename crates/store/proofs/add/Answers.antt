-- `store::add` meets its contract: by whether it is refused. Assumes nothing.
use borrow.Author.Rules.{rules}
use mathlib.Core.Path.{◌≡◌, ap₂, ◌∙◌}
use Rattle.state.specs.Sizes.{width}
use Rattle.state.specs.Access.{add_of, added}
use Rattle.state.specs.TakePut.{Outcome}
use Rattle.entries.specs.Tag.{tag}
use Rattle.store.proofs.Answers.{done_seen, refused_moved}
use Rattle.store.proofs.add.Goals as goal

pub returns-in_err-add : goal.returns-in_err-add
unfolding add_of
returns-in_err-add c = refused_moved _ _ _ _ _ _ _ c.in_err-add.ensures c.from_residual.ensures

pub returns : goal.returns
unfolding add_of
returns c =
    let x = c.args in
    let e : c.unwrap-store.result.now ≡ x.store.now = search rules in
    let v : c.unwrap-value.result ≡ x.value.now = search rules in
    c.added.ensures ∙ ap₂ (λ m v. Outcome.seen (added width tag x.s m x.a v)) e v ∙ done_seen _ _ _ _ _ c.in_ok-add.ensures
