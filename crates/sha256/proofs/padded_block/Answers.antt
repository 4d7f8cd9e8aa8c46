-- `sha256::padded_block` meets its contract: a block within the message is the message's, and else its places are the table's. Assumes nothing.
use Rattle.std.proofs.Common.{sym, ◌∙◌, arith, rules}
use Rattle.octets.proofs.Places.{from_fn_table}
use Rattle.sha256.specs.Sha256.{padded, block}
use Rattle.sha256.proofs.Blocks.{block_first}
use Rattle.sha256.proofs.padded_block.Goals as goal

pub returns-then-i-rest : goal.returns-then-i-rest
unfolding padded
returns-then-i-rest c = let a = c.args in c.whole_block.ensures ∙ sym (block_first a.rest.now _ a.i (omega arith))

pub returns : goal.returns
unfolding block
returns c = from_fn_table _ _ _ (λ j r f k. search rules) _ 16 c.from_fn.ensures.items
