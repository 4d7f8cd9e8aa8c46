-- `compress::added` meets its contract: its places are the table's. Assumes nothing.
use Rattle.std.proofs.Common.{rules}
use Rattle.octets.proofs.Places.{from_fn_table}
use Rattle.compress.specs.Compress.{increased}
use Rattle.compress.proofs.added.Goals as goal

pub returns : goal.returns
unfolding increased
returns c = from_fn_table _ _ _ (λ i r f k. search rules) _ 8 c.from_fn.ensures.items
