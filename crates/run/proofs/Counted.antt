-- The bag of all that was done counts: as many were put as taken and held, an address is in use where an entry is held, and after a check's takes nothing is.
-- Assumes nothing.
use mathlib.Core.Path.{◌≡◌, refl, sym, ap, ap₂, ◌∙◌}
use mathlib.Core.Bool.{Bool, true, false, cond}
use mathlib.Core.List.{List}
use mathlib.Core.Option.{Option, none, some}
use Prim.Native.Nat.{ℕ, zero, suc, ◌+◌, ◌%◌, ◌^◌, ◌≤◌}
use native.Mathlib.Omega.{arith}
use lib.ListN.{length, length-append}
use Rattle.state.specs.Sizes.{addresses}
use Rattle.state.specs.Marks.{used, count_below, count_of}
use Rattle.state.specs.Cells.{Entry}
use Rattle.state.specs.Multiset.{hash}
use Rattle.state.specs.Start.{sealed}
use Rattle.state.specs.TakePut.{Event}
use Rattle.state.specs.Check.{take_all}
use Rattle.state.specs.declared.Hash.{Hash}
use Rattle.state.specs.declared.Seal.{Seal}
use Rattle.state.specs.declared.State.{State}
use Rattle.state.proofs.Marks.{used_is_below}
use Rattle.state.proofs.Ready.{check_ready}
use Rattle.bag.specs.Bag.{Bag, empty, there, listed, follow}
use Rattle.bag.specs.Following.{Follows}
use Rattle.bag.specs.Claims.{held_below}
use Rattle.bag.proofs.Cases.{there_none}
use Rattle.bag.proofs.Orderly.{empty_orderly, stays_orderly}
use Rattle.bag.proofs.Counted.{counted}
use Rattle.run.specs.Demand3.{state_after, events_of, up_to}
use Rattle.run.specs.Counted.{PutsCounted, NumbersAgree}
use Rattle.run.proofs.Does.{Fit}
use Rattle.run.proofs.FromStart.{bag_of, invariant}
use Rattle.run.proofs.Periods.{since_puts, since_takes}
use Rattle.run.proofs.Exact.{check_done, check_lawful, check_bare, check_follows}

-- as many entries are held as addresses are in use
module _ (s : State) (b : Bag) (t : Fit s b) where
  held_counted : (n : ℕ) → length (held_below n b.held) ≡ count_below n s.marks
  unfolding held_below count_below
  held_counted zero = refl
  held_counted (suc n) = length-append (held_below n b.held) (listed (b.held n)) ∙ go (b.held n) (used s.marks n) (t.marked n) (held_counted n)
    where
      go : (o : Option Entry) (u : Bool) → u ≡ there o → length (held_below n b.held) ≡ count_below n s.marks
          → length (held_below n b.held) + length (listed o) ≡ cond u (count_below n s.marks + 1) (count_below n s.marks)
      go none u e h = rw e (omega arith)
      go (some x) u e h = rw e (omega arith)

  none_beyond : (a : ℕ) → addresses ≤ a → b.held a ≡ none
  none_beyond a h = there_none (b.held a) (sym (t.marked a) ∙ go (used s.marks a) refl)
    where
      go : (u : Bool) → used s.marks a ≡ u → used s.marks a ≡ false
      go true e = absurd (omega (arith, used_is_below s.marks a t.sixteen e))
      go false e = e

module _ (w : ℕ) (tag : Seal → Entry → List ℕ) where
  pub puts_counted : PutsCounted w tag
  unfolding count_of
  puts_counted key run o period since =
      let all = events_of w tag key run in
      let b = bag_of w tag key run in
      let i = invariant w tag key run in
      let t = (i.follows o).1 in
      let c = counted b addresses (stays_orderly (tag (sealed key)) (empty 0) all (empty_orderly 0) i.lawful) (none_beyond (state_after w tag key run) b t) in
      ap length (sym (since_puts all period since)) ∙ c
      ∙ ap₂ ◌+◌ (ap length (since_takes all period since)) (held_counted (state_after w tag key run) b t addresses)

  pub numbers_agree : NumbersAgree w tag
  unfolding hash held_below
  numbers_agree key run m d = (
    ap (λ (h : Hash). h.number) f.put ∙ ap (λ (n : ℕ). n % 2 ^ 32) even ∙ sym (ap (λ (h : Hash). h.number) f.take),
    λ period since. sym (ap length (since_puts all period since)) ∙ even ∙ ap length (since_takes all period since),
  )
    where
      s : State
      s = state_after w tag key run

      unclosed : s.closed ≡ false
      unclosed = (check_ready w s m (check_done w tag s m d)).0

      all : List Event
      all = up_to w tag key run m

      f : Follows tag (sealed key) (take_all w tag s m) (follow (empty 0) all)
      f = check_follows w tag key run m unclosed

      even : length (follow (empty 0) all).puts ≡ length (follow (empty 0) all).takes
      even =
          let o = stays_orderly (tag (sealed key)) (empty 0) all (empty_orderly 0) (check_lawful w tag key run m unclosed) in
          let c = counted (follow (empty 0) all) 0 o (λ a h. check_bare w tag key run m unclosed a) in
          omega arith
