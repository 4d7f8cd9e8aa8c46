-- `store::store` meets its contract: by whether it is refused. Assumes nothing.
use borrow.Author.Rules.{rules}
use mathlib.Core.Path.{◌≡◌, ap₂, ◌∙◌}
use Rattle.state.specs.Sizes.{width}
use Rattle.state.specs.Access.{store_of, stored}
use Rattle.state.specs.TakePut.{Outcome}
use Rattle.entries.specs.Tag.{tag}
use Rattle.store.proofs.Answers.{done_seen, refused_moved}
use Rattle.store.proofs.store.Goals as goal

pub returns-in_err-exchange : goal.returns-in_err-exchange
unfolding store_of
returns-in_err-exchange c = refused_moved _ _ _ _ _ _ _ c.in_err-exchange.ensures c.from_residual.ensures

pub returns : goal.returns
unfolding store_of
returns c =
    let x = c.args in
    let e : c.unwrap-store.result.now ≡ x.store.now = search rules in
    let v : c.unwrap-value.result ≡ x.value.now = search rules in
    c.stored.ensures ∙ ap₂ (λ m v. Outcome.seen (stored width tag x.s m x.a v)) e v ∙ done_seen _ _ _ _ _ c.in_ok-exchange.ensures
