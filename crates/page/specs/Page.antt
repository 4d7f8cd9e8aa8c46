-- A lent buffer, and the place up to which it is written.
-- Assumes nothing.
use Rattle.std.specs.Prelude.{List, ◌++◌, ℕ, ◌+◌, min, length, take, drop}
use Rattle.lent.specs.Lent.{copied}

pub record Page : Type 0 where
  pub bytes : List ℕ
  pub at : ℕ

abbrev pub page : List ℕ → ℕ → Page
page bs n = record { bytes = bs; at = n }

-- the page with more bytes written, as many as fit
unfoldable pub write : Page → List ℕ → Page
write p text = page (take p.at p.bytes ++ copied (drop p.at p.bytes) text) (min (length p.bytes) (p.at + length text))

-- the head of a buffer overwritten by a whole text
unfoldable pub whole : List ℕ → List ℕ → Page
whole bs text = page (text ++ drop (length text) bs) (length text)
