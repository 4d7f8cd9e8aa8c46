-- `filter::set_past` meets its contract: what is left of the prefix once its first l bits are shifted out. Assumes nothing.
use mathlib.Core.Path.{◌≡◌, ap, ◌∙◌}
use mathlib.Core.Bool.{cond, not}
use mathlib.Core.List.{List}
use Prim.Native.Nat.{ℕ, ◌*◌, ◌%◌, ◌^◌}
use lib.Dec.{eqb, ltb}
use lib.ListN.{length}
use borrow.Author.Rules.{rules}
use Rattle.filter.proofs.Fields.{number_16}
use Rattle.filter.proofs.Past.{set_shifted}
use Rattle.filter.proofs.set_past.Goals as goal

pub returns : goal.returns
returns c =
    let p : List ℕ = c.args.p in
    let n : length p ≡ 16 = search rules in
    ap (λ (x : ℕ). not (eqb x 0)) (c.unbounded_shl.ensures ∙ ap (λ (x : ℕ). cond (ltb x 128) (c.from_be_bytes.result * 2 ^ x % 2 ^ 128) 0) c.from.ensures ∙ ap (λ (x : ℕ). cond (ltb c.args.l 128) (x * 2 ^ c.args.l % 2 ^ 128) 0) (c.from_be_bytes.ensures ∙ number_16 p n))
    ∙ set_shifted p c.args.l n
