-- `entries::write` meets its contract: the cell's part of the store is put back filled. Assumes nothing.
use borrow.Author.Rules.{rules}
use mathlib.Core.Path.{sym, ap₂, ◌∙◌}
use mathlib.Core.List.{List, ◌++◌}
use Prim.Native.Nat.{ℕ, ◌+◌, ◌*◌}
use native.Mathlib.Omega.{arith}
use borrow.Rule.Slice.PartMut.{Post-is}
use lib.ListN.{take, length-take, length-drop}
use Rattle.lent.proofs.Copied.{copied_all}
use Rattle.state.specs.Sizes.{width, addresses, value_size, cell_size, store_size}
use Rattle.state.specs.Cells.{write_cell}
use Rattle.entries.proofs.Cells.{cell_has}
use Rattle.entries.proofs.write.Goals as goal

pub overflow_mul-at : goal.overflow_mul-at
unfolding addresses
overflow_mul-at c = let x = c.args in let h = cell_has width x.store.now x.a (sym c.has_cell.ensures ∙ c.if-has_cell.true) in search rules

pub overflow_add-end : goal.overflow_add-end
unfolding addresses
overflow_add-end c = let x = c.args in let h = cell_has width x.store.now x.a (sym c.has_cell.ensures ∙ c.if-has_cell.true) in search rules

pub slice_bounds-copy-end : goal.slice_bounds-copy-end
unfolding addresses value_size cell_size store_size
slice_bounds-copy-end c = let x = c.args in let h = cell_has width x.store.now x.a (sym c.has_cell.ensures ∙ c.if-has_cell.true) in search rules

pub returns-then-has_cell : goal.returns-then-has_cell
unfolding addresses value_size cell_size store_size write_cell
returns-then-has_cell c =
    let x = c.args in
    let t = sym c.has_cell.ensures ∙ c.if-has_cell.true in
    let h = cell_has width x.store.now x.a t in
    let n = cell_size width * x.a in
    let filling = c.copy.ensures ∙ copied_all _ _ (simp (length-take, length-drop) (omega arith)) ∙ c.cell.ensures in
    rw t
    (ap₂ (λ (k l : List ℕ). take n x.store.now ++ (k ++ l)) filling (Post-is n (n + cell_size width) x.store.now (omega arith)))
