-- `entries::cell` meets its contract: the stamp is copied over the last bytes, and the value over the first. Assumes nothing.
use borrow.Author.Rules.{rules}
use mathlib.Core.Path.{◌≡◌, sym, ap, ◌∙◌}
use mathlib.Core.List.{List, ◌++◌, append-nil}
use Prim.Native.Nat.{ℕ}
use native.Mathlib.Omega.{arith}
use lib.ListN.{length, replicate}
use Rattle.lent.proofs.Copied.{copied_all}
use Rattle.state.specs.Sizes.{width, value_size}
use Rattle.entries.proofs.Cells.{value_copied}
use Rattle.entries.proofs.cell.Goals as goal

pub returns : goal.returns
unfolding value_size
returns c =
    let a = c.args in
    let l : length c.bytes_2.result ≡ width = search rules in
    let n : length a.value ≡ value_size = search rules in
    c.copy-2.ensures ∙ value_copied (replicate value_size 0) a.value _ n
    ∙ ap (λ (k : List ℕ). a.value ++ k) (append-nil c.copy.new.to ∙ c.copy.ensures ∙ copied_all (replicate width 0) c.bytes_2.result (sym l) ∙ c.bytes_2.ensures)
