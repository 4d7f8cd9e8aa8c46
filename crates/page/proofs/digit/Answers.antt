-- `page::digit` meets its contract: the two ranges of digits. Assumes nothing.
use mathlib.Core.Path.{sym}
use Rattle.text.proofs.Numerals.{glyph_low, glyph_high}
use Rattle.page.proofs.digit.Goals as goal

pub returns-then-d-lt10 : goal.returns-then-d-lt10
returns-then-d-lt10 c = sym (glyph_low _ c.if-d-lt10.true)

pub returns : goal.returns
returns c = sym (glyph_high _ c.if-d-lt10.false)
