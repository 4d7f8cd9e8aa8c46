-- `sha256::digest` meets its contract: a message is the rest after no block, from the standard's first hash. Assumes nothing.
use Rattle.std.proofs.Common.{rules, ◌∙◌}
use Rattle.sha256.proofs.Answers.{sha256_calls, digest_done}
use Rattle.sha256.proofs.digest.Goals as goal

pub returns : goal.returns
returns c =
    let m = c.args.message.now in
    let e = sha256_calls m _ _ _ (search rules) c.initial_hash.ensures c.finish-h.ensures c.hash_bytes.ensures in
    digest_done m c.args.out.now _ (search rules) (search rules) (c.copy_from_slice.ensures.after ∙ e)
