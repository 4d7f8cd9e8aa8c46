-- `hmac::key_block` meets its contract: a key above 64 bytes is hashed, and another taken as it is. Assumes nothing.
use mathlib.Core.Path.{◌∙◌}
use native.Mathlib.Omega.{arith}
use Rattle.sha256.proofs.Answers.{sha256_calls}
use Rattle.hmac.proofs.Keys.{key_short, key_long}
use Rattle.hmac.proofs.key_block.Goals as goal

pub returns-then-key-gt64 : goal.returns-then-key-gt64
returns-then-key-gt64 c =
    let k = c.args.key.now in
    c.zero_filled.ensures ∙ key_long k _ (omega arith) (sha256_calls k _ _ _ (omega arith) c.initial_hash.ensures c.finish-h.ensures c.hash_bytes.ensures)

pub returns : goal.returns
returns c = c.zero_filled-2.ensures ∙ key_short c.args.key.now (omega arith)
