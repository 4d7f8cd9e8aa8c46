-- A start by its one row. Assumes nothing.
use borrow.Author.Tests.{eq-eqb, ne_eqb}
use mathlib.Core.Path.{◌≡◌}
use mathlib.Core.Bool.{false}
use mathlib.Core.List.{List}
use Prim.Native.Nat.{ℕ}
use lib.ListN.{length}
use Rattle.state.specs.Sizes.{key_size}
use Rattle.state.specs.Start.{sealed, fresh, no_state, started, start_of}

pub start_done : (k : List ℕ) → length k ≡ 32 → start_of k ≡ started 0 (fresh (sealed k) false)
unfolding start_of key_size
start_done k e = simp (eq-eqb (length k) 32 e)

pub start_refused : (k : List ℕ) → (length k ≡ 32 → ⊥) → start_of k ≡ started 8 no_state
unfolding start_of key_size
start_refused k n = simp (ne_eqb (length k) 32 n)
