-- `page::Page::put_decimal` ends: each call is about a tenth of the number. Assumes nothing.
use Rattle.page.proofs.Page.+put_decimal.Given as goal

abbrev pub decreases-put_decimal : goal.decreases-put_decimal
decreases-put_decimal l = l.n
