-- `store::access::put_entry` meets its contract: the entry is written and hashed. Assumes nothing.
use Rattle.state.specs.Cells.{entry, write_entry}
use Rattle.entries.specs.Tag.{tag}
use Rattle.store.proofs.Fields.{put_is}
use Rattle.store.proofs.access.put_entry.Goals as goal

pub returns : goal.returns
unfolding write_entry
returns c =
    let x = c.args in
    (put_is tag x.s (entry x.a.index x.value x.stamp) c.with_tag-h.ensures c.tag.ensures, c.write.ensures)
