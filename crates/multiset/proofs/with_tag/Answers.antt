-- `multiset::with_tag` meets its contract: the tags' places are the table's. Assumes nothing.
use Rattle.std.proofs.Common.{get_or, ◌+◌, ◌%◌, ◌^◌, ap, rules, ◌∙◌}
use lib.Bits.{bit_xor}
use Rattle.octets.proofs.Places.{from_fn_table, tabulate_xor}
use Rattle.state.specs.Multiset.{with_tag}
use Rattle.multiset.proofs.with_tag.Goals as goal

pub returns : goal.returns
unfolding with_tag
returns c =
    let a = c.args in
    ap (λ t. record { tag = t; number = (a.h.number + 1) % 2 ^ 32 })
    (from_fn_table _ (λ i. bit_xor (get_or a.h.tag i 0) (get_or a.t i 0)) _ (λ i r f k. search rules) _ 32 c.from_fn.ensures.items
    ∙ tabulate_xor a.h.tag a.t 32 (search rules) (search rules))
