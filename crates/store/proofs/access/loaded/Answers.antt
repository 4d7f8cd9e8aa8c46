-- `store::access::loaded` meets its contract: a store of the value at the address changes the same, and the value is handed out. Assumes nothing.
use mathlib.Core.Path.{ap, ap₂, ◌∙◌}
use Rattle.state.specs.Sizes.{width}
use Rattle.state.specs.TakePut.{Outcome, Seen}
use Rattle.state.specs.Access.{stored, loaded}
use Rattle.entries.specs.Tag.{tag}
use Rattle.store.proofs.access.loaded.Goals as goal

pub returns : goal.returns
unfolding stored loaded
returns c =
    let x = c.args in
    let v = c.value_at-v.ensures in
    let e = c.stored.ensures ∙ ap (λ v. Outcome.seen (stored width tag x.s x.store.now x.a.index v)) v in
    ap₂ (λ (x : Seen) o. record { number = x.number; verdict = x.verdict; state = x.state; store = x.store; out = o }) e v
