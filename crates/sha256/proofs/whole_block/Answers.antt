-- `sha256::whole_block` meets its contract: its places are the table's. Assumes nothing.
use Rattle.std.proofs.Common.{rules}
use Rattle.octets.proofs.Places.{from_fn_table}
use Rattle.sha256.specs.Sha256.{block}
use Rattle.sha256.proofs.whole_block.Goals as goal

pub returns : goal.returns
unfolding block
returns c = from_fn_table _ _ _ (λ j r f k. search rules) _ 16 c.from_fn.ensures.items
