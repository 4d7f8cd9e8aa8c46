-- A start has no fault and the address 0, and each call shows that it keeps what is settled of the two; a check names the address of the state after its takes.
-- Assumes nothing.
use mathlib.Core.Path.{refl, sym, ◌∙◌, subst}
use mathlib.Core.List.{List}
use mathlib.Core.Option.{none-ne-some}
use Prim.Native.Nat.{ℕ, ◌<◌}
use native.Mathlib.Omega.{arith}
use Rattle.state.specs.Sizes.{addresses}
use Rattle.state.specs.Cells.{Entry}
use Rattle.state.specs.Start.{fresh, no_state}
use Rattle.state.specs.declared.Seal.{Seal}
use Rattle.state.proofs.Guards.{says_stamp}
use Rattle.run.specs.Calls.{check, made, outcome_of, after}
use Rattle.run.specs.Demand3.{state_after}
use Rattle.run.specs.Exact.{FirstAddress, StampBelow}
use Rattle.run.proofs.Settled.{Settled, taken_settled}
use Rattle.run.proofs.Does.{still, does}
use Rattle.run.proofs.FromStart.{by_start, by_run, state_last, run_did}
use Rattle.run.proofs.Exact.{check_done}

module _ (w : ℕ) (tag : Seal → Entry → List ℕ) where
  pub first_address : FirstAddress w tag
  unfolding no_state fresh addresses after
  first_address key =
      by_run w tag key (λ run all. Settled (state_after w tag key run)) (by_start key Settled (λ e. ((λ f. refl), omega arith)) (λ e. ((λ f. refl), omega arith)))
      (λ run x k. subst Settled (sym (state_last w tag key run x)) (elim (run_did w tag key run x) [ still n ↦ subst Settled (sym n.state) k | does o y d ↦ d.settled k ]))

  pub stamp_below : StampBelow w tag
  unfolding outcome_of addresses
  stamp_below key run m a v =
      let s = state_after w tag key run in
      elim (run_did w tag key run (made check m)) [
        | still n ↦ absurd (none-ne-some _ (sym n.verdict ∙ v))
        | does o y d ↦ subst (λ (n : ℕ). n < addresses) ((says_stamp w tag s m (check_done w tag s m d.number) a).0 v).1 (taken_settled w tag s m (first_address key run)).1
      ]
