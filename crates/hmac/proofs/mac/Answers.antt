-- `hmac::mac` meets its contract: within the bounds it gives the message's HMAC under the key. Assumes nothing.
use Rattle.std.proofs.Common.{refl, rules, ◌∙◌}
use Rattle.hmac.proofs.Answers.{mac_done}
use Rattle.hmac.proofs.Keys.{hmac_finished}
use Rattle.hmac.proofs.mac.Goals as goal

pub returns : goal.returns
returns c =
    let k = c.args.key.now in
    let m = c.args.message.now in
    let e = hmac_finished k m c.key_block.result _ _ _ (search rules) c.key_block.ensures c.new.ensures.inner c.new.ensures.outer refl in
    mac_done k m c.args.out.now _ (search rules) (search rules) (search rules) (c.copy_from_slice.ensures.after ∙ c.tag.ensures ∙ e)
