-- `entries::stamp_at` meets its contract: the bytes after the value are the stamp's. Assumes nothing.
use borrow.Author.Rules.{rules}
use mathlib.Core.Path.{sym, ap, ◌∙◌}
use Prim.Native.Nat.{◌+◌, ◌*◌}
use native.Mathlib.Omega.{arith}
use Rattle.octets.specs.Layout.{number}
use Rattle.state.specs.Sizes.{width, addresses, value_size, cell_size, store_size}
use Rattle.state.specs.Cells.{stamp_at}
use Rattle.entries.proofs.Cells.{cell_has, two_read}
use Rattle.entries.proofs.stamp_at.Goals as goal

pub overflow_mul-at : goal.overflow_mul-at
unfolding addresses
overflow_mul-at c = let x = c.args in let h = cell_has width x.store.now x.a (sym c.has_cell.ensures ∙ c.if-has_cell.true) in search rules

pub overflow_add-at : goal.overflow_add-at
unfolding addresses
overflow_add-at c = let x = c.args in let h = cell_has width x.store.now x.a (sym c.has_cell.ensures ∙ c.if-has_cell.true) in search rules

pub bounds-store-at : goal.bounds-store-at
unfolding addresses value_size cell_size store_size
bounds-store-at c =
    let x = c.args in
    let h = cell_has width x.store.now x.a (sym c.has_cell.ensures ∙ c.if-has_cell.true) in
    search rules

pub overflow_add-at-then-has_cell : goal.overflow_add-at-then-has_cell
unfolding addresses
overflow_add-at-then-has_cell c =
    let x = c.args in
    let h = cell_has width x.store.now x.a (sym c.has_cell.ensures ∙ c.if-has_cell.true) in
    search rules

pub bounds-store-at-then-has_cell : goal.bounds-store-at-then-has_cell
unfolding addresses value_size cell_size store_size
bounds-store-at-then-has_cell c =
    let x = c.args in
    let h = cell_has width x.store.now x.a (sym c.has_cell.ensures ∙ c.if-has_cell.true) in
    search rules

pub returns-then-has_cell : goal.returns-then-has_cell
unfolding addresses value_size cell_size store_size stamp_at
returns-then-has_cell c =
    let x = c.args in
    let t = sym c.has_cell.ensures ∙ c.if-has_cell.true in
    let h = cell_has width x.store.now x.a t in
    rw t (c.number_2.ensures ∙ ap number (sym (two_read x.store.now (cell_size width * x.a + value_size) (omega arith))))

pub returns : goal.returns
returns c = rw (sym c.has_cell.ensures ∙ c.if-has_cell.false)
