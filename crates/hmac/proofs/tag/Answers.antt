-- `hmac::tag` meets its contract: a key of 32 bytes is not hashed, and a message above the bound gives zeros. Assumes nothing.
use borrow.Author.Rules.{rules}
use mathlib.Core.Path.{◌≡◌, refl, sym, ◌∙◌}
use native.Mathlib.Omega.{arith}
use lib.ListN.{length}
use Rattle.hmac.proofs.Answers.{tag_short, tag_long}
use Rattle.hmac.proofs.Keys.{key_short, hmac_finished}
use Rattle.hmac.proofs.tag.Goals as goal

pub returns-then-message-le4096 : goal.returns-then-message-le4096
returns-then-message-le4096 c =
    let a = c.args in
    let n : length a.key ≡ 32 = search rules in
    c.tag.ensures
    ∙ hmac_finished a.key a.message.now c.zero_filled.result _ _ _ (search rules) (c.zero_filled.ensures ∙ key_short a.key (omega arith)) (search rules) (search rules) refl
    ∙ sym (tag_short a.key a.message.now (omega arith))

pub returns : goal.returns
returns c = let a = c.args in sym (tag_long a.key a.message.now (omega arith))
