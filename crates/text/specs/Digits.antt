-- For the contract of the private function `digit` alone: no public contract and no statement cites it.
-- Assumes nothing.
use Rattle.std.specs.Prelude.{ℕ, eqb, Option}
use Rattle.text.specs.Text.{glyph}
use Rattle.text.specs.Read.{seek}

-- the digit that a byte is
unfoldable pub digit_in : ℕ → Option ℕ
digit_in b = seek (λ d. eqb (glyph d) b) 16
