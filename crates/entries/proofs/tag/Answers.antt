-- `entries::tag` meets its contract: the message is not too long, so its tag is its HMAC. Assumes nothing.
use borrow.Author.Rules.{rules}
use mathlib.Core.Path.{ap, ◌∙◌}
use Rattle.hmac.specs.Hmac.{hmac}
use Rattle.hmac.proofs.Answers.{tag_short}
use Rattle.entries.specs.Tag.{tag_of}
use Rattle.entries.proofs.tag.Goals as goal

pub returns : goal.returns
unfolding tag_of
returns c =
    c.tag.ensures ∙ tag_short _ c.message.result (search rules) ∙ ap (hmac _) c.message.ensures
