-- The ends of the statement: the value last set is one, so a load has one right answer; an empty run, a run that only refuses and a refused start are covered;
-- a check right after a start accepts; and a store that hands back what was left meets the second half's condition. Assumes nothing.
use mathlib.Core.Path.{◌≡◌, refl, sym, ap, ap₂, ◌∙◌}
use mathlib.Core.Bool.{false, false≢true}
use mathlib.Core.List.{List, [], ◌∷◌, ◌++◌, append_assoc}
use mathlib.Core.Logic.{inl, inr}
use mathlib.Core.Option.{none}
use Prim.Native.Nat.{ℕ, ◌≤◌}
use lib.ListN.{length}
use borrow.Author.Tests.{eq-eqb}
use Rattle.state.specs.Sizes.{store_size}
use Rattle.state.specs.Cells.{Entry, entry_at}
use Rattle.state.specs.Start.{Begun, sealed, fresh, no_state, start_of}
use Rattle.state.specs.Check.{check_rows}
use Rattle.state.specs.declared.Seal.{Seal}
use Rattle.state.specs.declared.State.{State}
use Rattle.state.proofs.Starts.{start_done, start_refused}
use Rattle.bag.proofs.Lists.{by_last, no_place, last_place, place_stays}
use Rattle.run.specs.Calls.{Call, load, check, Made, made, after, events}
use Rattle.run.specs.Demand3.{Latest, Sets, state_after, result, events_of, Done, Accepts, LastSet, EachLoad, LastAccepts, Touches, Unaltered}
use Rattle.run.proofs.Does.{Still, still, does}
use Rattle.run.proofs.Latest.{latest_one}
use Rattle.run.proofs.FromStart.{bag_of, state_last, events_last, run_did}
use Rattle.run.proofs.Exact.{check_number}
use Rattle.run.proofs.Complete.{complete_at}

-- a call sets one value
sets_one : (c d : Call) (a : ℕ) (v u : List ℕ) → c ≡ d → Sets c a v → Sets d a u → v ≡ u
sets_one c d a v u e (inl h) (inl k) = cc
sets_one c d a v u e (inl h) (inr k) = cc
sets_one c d a v u e (inr h) (inl k) = cc
sets_one c d a v u e (inr h) (inr k) = cc

module _ (w : ℕ) (tag : Seal → Entry → List ℕ) (key : List ℕ) where
  -- the value last added or stored is one
  pub last_one : (run : List Made) (a : ℕ) (v u : List ℕ) → LastSet w tag key run a v → LastSet w tag key run a u → v ≡ u
  last_one run a v u (l, h) (k, g) = sets_one l.call.call k.call.call a v u (ap (λ (x : Made). x.call) (latest_one _ run l k).1) h g

  -- ---- runs in which nothing happens

  pub empty_run : LastAccepts w tag key [] → ⊥
  empty_run (before, m, place, a) = no_place before (made check m) [] place

  abbrev StaysStill : List Made → Made → Type 0
  StaysStill run x = Still w tag (sealed key) (state_after w tag key run) x.bytes (bag_of w tag key run) x.call (result w tag key run x)

  -- a call that is refused, or gets a closed state, or is idle, changes nothing
  nothing_done : (run : List Made) (x : Made) → ((state_after w tag key run).closed ≡ false → Touches w tag key run x → ⊥) → StaysStill run x
  nothing_done run x n = elim (run_did w tag key run x) [ still k ↦ k | does o y d ↦ absurd (n o (d.number, y)) ]

  -- where every call is refused the state is the start's, and no load is answered
  pub refusing : (run : List Made) → ((before later : List Made) (x : Made) → run ≡ before ++ (x ∷ later) → Done w tag key before x → ⊥)
      → (state_after w tag key run ≡ (start_of key).state) × (events_of w tag key run ≡ []) × EachLoad w tag key run
  unfolding after events
  refusing run n = ((still_all run n).0, (still_all run n).1, λ before later a o m e d. absurd (n before later (made (load a o) m) e d))
    where
      still_all : (run : List Made) → ((before later : List Made) (x : Made) → run ≡ before ++ (x ∷ later) → Done w tag key before x → ⊥) → (state_after w tag key run ≡ (start_of key).state) × (events_of w tag key run ≡ [])
      still_all =
          by_last (λ (run : List Made). ((before later : List Made) (x : Made) → run ≡ before ++ (x ∷ later) → Done w tag key before x → ⊥) → (state_after w tag key run ≡ (start_of key).state) × (events_of w tag key run ≡ []))
          (λ n. (refl, refl))
          (λ run x ih n.
          let h = ih (λ before later y e. n before (later ++ (x ∷ [])) y (place_stays run before y later (x ∷ []) e)) in
          let k = nothing_done run x (λ o d. n run [] x refl d.0) in
          (state_last w tag key run x ∙ k.state ∙ h.0, events_last w tag key run x ∙ ap₂ ◌++◌ h.1 k.events))

  -- from a refused start the state stays as it is, and no call does anything: no check gives a verdict
  refused_still : (run : List Made) (x : Made) → state_after w tag key run ≡ no_state → StaysStill run x
  unfolding no_state fresh
  refused_still run x e = nothing_done run x (λ o d. false≢true (sym o ∙ ap (λ (s : State). s.closed) e))

  pub refused_start : (length key ≡ 32 → ⊥) → (run : List Made) → (state_after w tag key run ≡ no_state) × (events_of w tag key run ≡ [])
  unfolding after events
  refused_start n =
      by_last (λ (run : List Made). (state_after w tag key run ≡ no_state) × (events_of w tag key run ≡ [])) (ap (λ (r : Begun). r.state) (start_refused key n), refl)
      (λ run x h.
      let k = refused_still run x h.0 in
      (state_last w tag key run x ∙ k.state ∙ h.0, events_last w tag key run x ∙ ap₂ ◌++◌ h.1 k.events))

  pub refused_silent : (length key ≡ 32 → ⊥) → (run : List Made) (x : Made) → (result w tag key run x).seen.verdict ≡ none
  refused_silent n run x = (refused_still run x (refused_start n run).0).verdict

  -- a check right after a start accepts, whatever the store holds
  pub first_check : 1 ≤ w → length key ≡ 32 → (m : List ℕ) → length m ≡ store_size w → Accepts w tag key [] m
  unfolding after fresh check_rows
  first_check one h m k =
      let c : (start_of key).state.closed ≡ false = ap (λ (r : Begun). r.state.closed) (start_done key h) in
      complete_at w one tag key [] m (λ before later x e d l a u. absurd (never before later x e l)) (check_number w tag (start_of key).state m (rw (c, eq-eqb (length m) (store_size w) k)))
    where
      never : (before later : List Made) (x : Made) → made check m ∷ [] ≡ before ++ (x ∷ later) → Latest (Touches w tag key) before → ⊥
      never before later x e l =
          elim (last_place [] (made check m) before x later e) [ inl (r, f, g) ↦ no_place before x r f | inr (f, g) ↦ no_place l.before l.call l.later (sym f ∙ l.place) ]

  -- ---- a store that hands back what was left meets the second half's condition

  pub handed_back : (run : List Made) → ((before later : List Made) (x y : Made) → run ≡ before ++ (x ∷ (y ∷ later)) → y.bytes ≡ (result w tag key before x).seen.store) → Unaltered w tag key run
  handed_back run h before later y place d l a u = ap (λ (m : List ℕ). entry_at w m a) (back l.later y later (place ∙ ap (λ (b : List Made). b ++ (y ∷ later)) l.place ∙ append_assoc l.before (l.call ∷ l.later) (y ∷ later)) l.last)
    where
      store : List ℕ
      store = (result w tag key l.before l.call).seen.store

      -- from y back to the latest call that moved, over those that did not
      Back : List Made → Type 0
      Back mid =
          (y : Made) (later : List Made) → run ≡ l.before ++ (l.call ∷ (mid ++ (y ∷ later)))
          → ((p q : List Made) (x : Made) → mid ≡ p ++ (x ∷ q) → Touches w tag key (l.before ++ (l.call ∷ p)) x → ⊥) → y.bytes ≡ store

      back : (mid : List Made) → Back mid
      back =
          by_last Back (λ y later e n. h l.before later l.call y e)
          (λ mid z ih y later e n.
          h (l.before ++ (l.call ∷ mid)) later z y (e ∙ simp append_assoc)
          ∙ (nothing_done (l.before ++ (l.call ∷ mid)) z (λ o. n mid [] z refl)).store
          ∙ ih z (y ∷ later) (e ∙ simp append_assoc) (λ p q x k. n p (q ++ (z ∷ [])) x (place_stays mid p x q (z ∷ []) k)))
