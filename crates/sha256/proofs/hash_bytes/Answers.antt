-- `sha256::hash_bytes` meets its contract: its places are the table's. Assumes nothing.
use Rattle.std.proofs.Common.{rules, ◌∙◌}
use Rattle.octets.proofs.Places.{from_fn_table}
use Rattle.sha256.proofs.Output.{hash_byte, hash_bytes_table}
use Rattle.sha256.proofs.hash_bytes.Goals as goal

pub returns : goal.returns
returns c = from_fn_table _ (hash_byte c.args.h) _ (λ i r f k. search rules) _ 32 c.from_fn.ensures.items ∙ hash_bytes_table c.args.h (search rules)
