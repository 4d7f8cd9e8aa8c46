-- `marks::lowest` meets its contract: the first address in use by the complements of the words is the first free. Assumes nothing.
use Rattle.std.proofs.Common.{ℕ, get_or, Fits, w64, ap, rules, ◌∙◌}
use Rattle.octets.proofs.Places.{from_fn_table}
use Rattle.marks.specs.Next.{next_used}
use Rattle.marks.proofs.Sets.{lowest_next}
use Rattle.marks.proofs.lowest.Goals as goal

pub returns : goal.returns
returns c =
    let ws = c.args.marks in
    let fits : (q : ℕ) → Fits w64 (get_or ws q 0) = λ q. search rules in
    c.next_from.ensures
    ∙ ap (λ l. next_used l 0) (from_fn_table _ _ _ (λ q r f k. search rules) _ 16 c.from_fn.ensures.items)
    ∙ lowest_next ws (λ q. let f = fits q in f.fits)
