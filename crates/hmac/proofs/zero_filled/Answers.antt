-- `hmac::zero_filled` meets its contract: the bytes are copied over the front of 64 zeros. Assumes nothing.
use Rattle.std.proofs.Common.{◌++◌, length, drop, replicate, ap, ◌∙◌}
use Rattle.hmac.proofs.Keys.{copied_zeros}
use Rattle.hmac.proofs.zero_filled.Goals as goal

pub returns : goal.returns
returns c = let k = c.args.k.now in ap (λ l. l ++ drop (length k) (replicate 64 0)) c.copy_from_slice.ensures.after ∙ copied_zeros k c.requires
