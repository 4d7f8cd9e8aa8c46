-- The code's page with more bytes written: the buffer that it lends holds what `write` gives, and is the same buffer.
-- Assumes nothing.
use Rattle.std.specs.Prelude.{List, ℕ}
use Rattle.page.specs.Page as plain
use Rattle.page.specs.declared.Page.{Page}

-- what a page shows, and the page that shows another in its place
abbrev pub shown : Page → plain.Page
shown p = plain.page p.bytes.now p.at

abbrev pub showing : Page → plain.Page → Page
showing p w = record p { bytes = record p.bytes { now = w.bytes }; at = w.at }

abbrev pub written : Page → List ℕ → Page
written p text = showing p (plain.write (shown p) text)
