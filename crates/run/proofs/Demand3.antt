-- Demand 3, both halves, for a stamp of a byte or more and for any tag. Assumes nothing.
use mathlib.Core.List.{List}
use Prim.Native.Nat.{ℕ, ◌≤◌}
use Rattle.state.specs.Cells.{Entry}
use Rattle.state.specs.declared.Seal.{Seal}
use Rattle.run.specs.Demand3.{Demand3}
use Rattle.run.proofs.Sound.{sound}
use Rattle.run.proofs.Complete.{complete_each}

pub demand3 : (w : ℕ) → 1 ≤ w → (tag : Seal → Entry → List ℕ) → Demand3 w tag
demand3 w one tag key run = (sound w tag key run, complete_each w one tag key run)
