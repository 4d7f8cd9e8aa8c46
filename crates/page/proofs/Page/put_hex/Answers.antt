-- `page::Page::put_hex` meets its contract: two digits. Assumes nothing.
use mathlib.Core.Path.{ap₂, ◌∙◌}
use mathlib.Core.List.{[], ◌∷◌}
use Rattle.text.specs.Text.{hex}
use Rattle.page.specs.Written.{written}
use Rattle.page.proofs.Page.put_hex.Goals as goal

pub returns : goal.returns
unfolding hex
returns c = c.put.ensures ∙ ap₂ (λ h l. written c.args.self.now (h ∷ l ∷ [])) c.digit.ensures c.digit-2.ensures
