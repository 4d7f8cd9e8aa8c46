-- `entries::value_part` meets its contract: the cell lies in the store, and the value's bytes are its first, in place. Assumes nothing.
use borrow.Author.Rules.{rules}
use mathlib.Core.Path.{◌≡◌, refl, sym, ap, ◌∙◌}
use Prim.Native.Nat.{◌+◌, ◌-◌, ◌*◌}
use native.Mathlib.Omega.{arith}
use lib.ListN.{take, drop}
use Rattle.state.specs.Sizes.{width, addresses, value_size, cell_size, store_size}
use Rattle.state.specs.Cells.{value_at}
use Rattle.entries.proofs.Cells.{cell_has}
use Rattle.entries.proofs.value_part.Goals as goal

pub overflow_mul-at : goal.overflow_mul-at
unfolding addresses
overflow_mul-at c = let x = c.args in let h = cell_has width x.store.now x.a (sym c.has_cell.ensures ∙ c.if-has_cell.true) in search rules

pub overflow_add-end : goal.overflow_add-end
unfolding addresses
overflow_add-end c = let x = c.args in let h = cell_has width x.store.now x.a (sym c.has_cell.ensures ∙ c.if-has_cell.true) in search rules

pub slice_bounds-result-end : goal.slice_bounds-result-end
unfolding addresses value_size cell_size store_size
slice_bounds-result-end c = let x = c.args in let h = cell_has width x.store.now x.a (sym c.has_cell.ensures ∙ c.if-has_cell.true) in search rules

pub returns-then-has_cell : goal.returns-then-has_cell
unfolding value_size cell_size value_at
returns-then-has_cell c =
    let x = c.args in
    let n = cell_size width * x.a in
    let size : n + value_size - n ≡ value_size = omega arith in
    rw (sym c.has_cell.ensures ∙ c.if-has_cell.true) (ap (λ n. take n (drop (cell_size width * x.a) x.store.now)) size, refl)

pub returns : goal.returns
returns c = rw (sym c.has_cell.ensures ∙ c.if-has_cell.false) (refl, refl)
