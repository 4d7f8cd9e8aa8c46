-- `store::load` meets its contract: by whether it is refused. Assumes nothing.
use borrow.Author.Rules.{rules}
use mathlib.Core.Path.{◌≡◌, ap, ◌∙◌}
use Rattle.state.specs.Sizes.{width}
use Rattle.state.specs.Access.{load_of, loaded}
use Rattle.state.specs.TakePut.{Outcome}
use Rattle.entries.specs.Tag.{tag}
use Rattle.store.proofs.Answers.{done_seen, refused_moved}
use Rattle.store.proofs.load.Goals as goal

pub returns-in_err-exchange : goal.returns-in_err-exchange
unfolding load_of
returns-in_err-exchange c = refused_moved _ _ _ _ _ _ _ c.in_err-exchange.ensures c.from_residual.ensures

pub returns : goal.returns
unfolding load_of
returns c =
    let x = c.args in
    let e : c.unwrap-store.result.now ≡ x.store.now = search rules in
    c.loaded.ensures ∙ ap (λ m. Outcome.seen (loaded width tag x.s m x.a)) e ∙ done_seen _ _ _ _ _ c.in_ok-exchange.ensures
