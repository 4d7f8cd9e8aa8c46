-- `store::access::take` meets its contract: the entry read is hashed, and its stamp compared with the clock at entry. Assumes nothing.
use Rattle.state.specs.Sizes.{width}
use Rattle.entries.specs.Tag.{tag}
use Rattle.store.proofs.Fields.{take_is, fault_found, fault_stays, fault_none}
use Rattle.store.proofs.access.take.Goals as goal

pub returns-then-not-s : goal.returns-then-not-s
returns-then-not-s c =
    let x = c.args in
    take_is width tag x.s x.store.now x.a.index c.with_tag-h.ensures c.tag.ensures c.value_at-value.ensures c.stamp_at-stamp.ensures
    (fault_found x.s x.a.index _ c.if-not-s.true c.if-s-stamp.true)

pub returns-else-not-s : goal.returns-else-not-s
returns-else-not-s c =
    let x = c.args in
    take_is width tag x.s x.store.now x.a.index c.with_tag-h.ensures c.tag.ensures c.value_at-value.ensures c.stamp_at-stamp.ensures
    (fault_stays x.s x.a.index _ c.if-not-s.false)

pub returns-else-s-stamp : goal.returns-else-s-stamp
returns-else-s-stamp c =
    let x = c.args in
    take_is width tag x.s x.store.now x.a.index c.with_tag-h.ensures c.tag.ensures c.value_at-value.ensures c.stamp_at-stamp.ensures
    (fault_none x.s x.a.index _ c.if-s-stamp.false)
