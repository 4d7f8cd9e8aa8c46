-- `store::access::stored` meets its contract: a take of the old entry, and a put of the value given. Assumes nothing.
use mathlib.Core.Path.{refl, ap, ◌∙◌}
use Rattle.state.specs.Sizes.{width}
use Rattle.state.specs.Cells.{write_entry}
use Rattle.state.specs.TakePut.{next, put_entry}
use Rattle.state.specs.Access.{stored}
use Rattle.entries.specs.Tag.{tag}
use Rattle.store.proofs.Fields.{take_clock, same_seen}
use Rattle.store.proofs.access.stored.Goals as goal

pub put-requires : goal.put-requires
put-requires c =
    rw (take_clock width tag c.args.s c.args.store.now c.args.a.index c.take-t.ensures) c.requires

pub returns : goal.returns
unfolding stored
returns c =
    let x = c.args in
    same_seen (c.put.ensures.0 ∙ ap (λ s. put_entry tag s (next s x.a.index x.value)) c.take-t.ensures)
    (c.put.ensures.1 ∙ ap (λ s. write_entry width x.store.now (next s x.a.index x.value)) c.take-t.ensures)
    refl
