-- A run from a start, call by call: its events keep the law, and as long as its state is not closed the state follows them and the marks are where entries are
-- held. So each of its calls shows what a call has to. Assumes nothing.
use mathlib.Core.Path.{◌≡◌, refl, sym, ap, ◌∙◌, subst}
use mathlib.Core.Bool.{Bool, true, false, true≢false}
use mathlib.Core.List.{List, [], ◌∷◌, ◌++◌, append-nil, append_assoc, foldl-append}
use Prim.Native.Nat.{ℕ}
use lib.Dec.{eqb}
use lib.ListN.{length}
use borrow.Author.Tests.{eqb-true, eqb-false}
use Rattle.state.specs.Cells.{Entry}
use Rattle.state.specs.Start.{Begun, sealed, fresh, no_state, start_of}
use Rattle.state.specs.TakePut.{Event, Outcome}
use Rattle.state.specs.declared.Seal.{Seal}
use Rattle.state.specs.declared.State.{State}
use Rattle.state.proofs.Starts.{start_done, start_refused}
use Rattle.state.proofs.Marks.{fresh_unused}
use Rattle.state.proofs.Multiset.{hash_none}
use Rattle.bag.specs.Bag.{Bag, empty, noted, follow}
use Rattle.bag.specs.Law.{May, Lawful}
use Rattle.bag.specs.Following.{Follows}
use Rattle.bag.proofs.Along.{along_append}
use Rattle.run.specs.Calls.{Call, Made, outcome_of, after, events}
use Rattle.run.specs.Demand3.{state_after, result, events_of, Touches}
use Rattle.run.proofs.Does.{Fit, Does, Did, still, does}
use Rattle.run.proofs.Steps.{step_did}
use Rattle.run.proofs.Runs.{by_calls}

-- a start by its one row
pub by_start : (key : List ℕ) (P : State → Type 0) → (length key ≡ 32 → P (fresh (sealed key) false)) → ((length key ≡ 32 → ⊥) → P no_state) → P (start_of key).state
by_start key P f g = go (eqb (length key) 32) refl
  where
    go : (b : Bool) → eqb (length key) 32 ≡ b → P (start_of key).state
    go true e = let h = eqb-true (length key) 32 e in subst (λ (r : Begun). P r.state) (sym (start_done key h)) (f h)
    go false e = let h = eqb-false (length key) 32 e in subst (λ (r : Begun). P r.state) (sym (start_refused key h)) (g h)

module _ (w : ℕ) (tag : Seal → Entry → List ℕ) where
  after_append : (s : State) (p q : List Made) → after w tag s (p ++ q) ≡ after w tag (after w tag s p) q
  unfolding after
  after_append s [] q = refl
  after_append s (x ∷ p) q = after_append (outcome_of w tag s x.bytes x.call).seen.state p q

  pub events_append : (s : State) (p q : List Made) → events w tag s (p ++ q) ≡ events w tag s p ++ events w tag (after w tag s p) q
  unfolding after events
  events_append s [] q = refl
  events_append s (x ∷ p) q =
      let r = outcome_of w tag s x.bytes x.call in
      ap (λ (es : List Event). r.events ++ es) (events_append r.seen.state p q)
      ∙ sym (append_assoc r.events (events w tag r.seen.state p) (events w tag (after w tag r.seen.state p) q))

  module _ (key : List ℕ) where
    -- what a call did, and all that was done, written down
    abbrev pub done_by : List Made → Made → List Event
    done_by run x = (result w tag key run x).events

    abbrev pub bag_of : List Made → Bag
    bag_of run = follow (empty 0) (events_of w tag key run)

    pub events_none : events_of w tag key [] ≡ []
    unfolding events
    events_none = refl

    module _ (run : List Made) (x : Made) where
      pub state_last : state_after w tag key (run ++ (x ∷ [])) ≡ (result w tag key run x).seen.state
      unfolding after
      state_last = after_append (start_of key).state run (x ∷ [])

      pub events_last : events_of w tag key (run ++ (x ∷ [])) ≡ events_of w tag key run ++ done_by run x
      unfolding events
      events_last = events_append (start_of key).state run (x ∷ []) ∙ ap (λ (es : List Event). events_of w tag key run ++ es) (append-nil (done_by run x))

    pub by_run : (P : List Made → List Event → Type 0) → P [] [] → ((run : List Made) (x : Made) → P run (events_of w tag key run) → P (run ++ (x ∷ [])) (events_of w tag key run ++ done_by run x))
        → (run : List Made) → P run (events_of w tag key run)
    by_run = by_calls done_by (events_of w tag key) events_none events_last

    -- ---- what is known of a run's state s and of all that was done

    pub record Invariant (s : State) (all : List Event) : Type 0 where
      pub lawful : Lawful (tag (sealed key)) (empty 0) all
      pub follows : s.closed ≡ false → Follows tag (sealed key) s (follow (empty 0) all) × Fit s (follow (empty 0) all)

    begins : Invariant (start_of key).state []
    unfolding no_state fresh empty
    begins =
        by_start key (λ (s : State). Invariant s [])
        (λ e.
        record {
          lawful = tt;
          follows = λ o. (record { seal = refl; put = sym (hash_none (tag (sealed key))); take = sym (hash_none (tag (sealed key))); clock = refl; fault = refl; first = refl }, record { marked = fresh_unused; sixteen = refl });
        })
        (λ e. record { lawful = tt; follows = λ o. absurd (true≢false o) })

    goes_on : (s : State) (m : List ℕ) (all : List Event) (c : Call) (r : Outcome) → Invariant s all → Did w tag (sealed key) s m (follow (empty 0) all) c r → Invariant r.seen.state (all ++ r.events)
    goes_on s m all c r i (still n) =
        subst (λ (x : State). Invariant x (all ++ r.events)) (sym n.state) (subst (Invariant s) (sym (ap (λ (es : List Event). all ++ es) n.events ∙ append-nil all)) i)
    goes_on s m all c r i (does o y d) =
        let same = sym (foldl-append noted (empty 0) all r.events) in
        record {
          lawful = along_append (May (tag (sealed key))) (empty 0) all r.events i.lawful d.lawful;
          follows = λ k. (subst (Follows tag (sealed key) r.seen.state) same (d.follows k), subst (Fit r.seen.state) same (d.fit k));
        }

    pub invariant : (run : List Made) → Invariant (state_after w tag key run) (events_of w tag key run)
    unfolding after
    invariant =
        by_run (λ run all. Invariant (state_after w tag key run) all) begins
        (λ run x i.
        let s = state_after w tag key run in
        subst (λ (t : State). Invariant t (events_of w tag key run ++ done_by run x)) (sym (state_last run x))
        (goes_on s x.bytes (events_of w tag key run) x.call (result w tag key run x) i (step_did w tag (sealed key) s x.bytes (bag_of run) i.follows x.call)))

    -- each call of a run shows what a call has to
    pub run_did : (run : List Made) (x : Made) → Did w tag (sealed key) (state_after w tag key run) x.bytes (bag_of run) x.call (result w tag key run x)
    run_did run x = step_did w tag (sealed key) (state_after w tag key run) x.bytes (bag_of run) (invariant run).follows x.call

    -- one that is not refused, and no look, count or lowest free, gets a state that is not closed
    pub moves_does : (run : List Made) (x : Made) → Touches w tag key run x
        → ((state_after w tag key run).closed ≡ false) × Does w tag (sealed key) (state_after w tag key run) x.bytes (bag_of run) x.call (result w tag key run x)
    moves_does run x m = elim (run_did run x) [ still n ↦ absurd (n.idle m.0 m.1) | does o y d ↦ (o, d) ]
