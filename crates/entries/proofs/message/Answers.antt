-- `entries::message` meets its contract: its first bytes are one and the address's, and the cell's bytes follow them. Assumes nothing.
use borrow.Author.Rules.{rules}
use mathlib.Core.Path.{◌≡◌, sym, ap, ap₂, ◌∙◌}
use mathlib.Core.List.{List, ◌∷◌, ◌++◌, append-nil}
use Prim.Native.Nat.{ℕ}
use lib.ListN.{length, replicate}
use Rattle.lent.proofs.Copied.{copied_all}
use Rattle.state.specs.Sizes.{width, value_size, cell_size}
use Rattle.state.specs.Multiset.{message}
use Rattle.entries.proofs.Cells.{two_join}
use Rattle.entries.proofs.message.Goals as goal

pub returns : goal.returns
unfolding message value_size cell_size
returns c =
    let l : length c.cell.result ≡ cell_size width = search rules in
    let v = append-nil c.copy.new.to ∙ c.copy.ensures ∙ copied_all (replicate (cell_size width) 0) c.cell.result (sym l) ∙ c.cell.ensures in
    ap (λ (l : List ℕ). 1 ∷ l) (two_join c.bytes_2-b.result _ (search rules) ∙ ap₂ ◌++◌ c.bytes_2-b.ensures v)
