-- `store::access::put` meets its contract: the stamp is the clock, raised by 1. Assumes nothing.
use Rattle.state.specs.TakePut.{next}
use Rattle.store.proofs.access.put.Goals as goal

pub returns : goal.returns
unfolding next
returns c = c.put_entry.ensures
