-- Demand 3, its second half. Call by call: every take took what was held, and the store that the latest call left holds what is held. So a check finds the
-- hashes equal and no stamp ahead. Assumes nothing.
use mathlib.Core.Path.{◌≡◌, refl, sym, ap, ◌∙◌, subst}
use mathlib.Core.Bool.{false}
use mathlib.Core.Option.{none}
use mathlib.Core.List.{List, [], ◌∷◌, ◌++◌, append_assoc}
use mathlib.Core.Logic.{◌⊎◌, inl, inr}
use Prim.Native.Nat.{ℕ, ◌≤◌}
use Rattle.state.specs.Cells.{Entry}
use Rattle.state.specs.Counts.{times}
use Rattle.state.specs.Start.{sealed}
use Rattle.state.specs.TakePut.{Event}
use Rattle.state.specs.Check.{takes}
use Rattle.state.specs.declared.Seal.{Seal}
use Rattle.state.specs.declared.State.{State}
use Rattle.state.proofs.Ready.{check_ready}
use Rattle.state.proofs.Guards.{equal_accepts}
use Rattle.state.proofs.Multiset.{same_counts}
use Rattle.bag.specs.Bag.{empty, there, follow}
use Rattle.bag.specs.Law.{Bare, TakesHeld, Right}
use Rattle.bag.specs.Following.{Holds}
use Rattle.bag.proofs.Lists.{place_stays}
use Rattle.bag.proofs.Along.{along_append}
use Rattle.bag.proofs.Orderly.{none_some, empty_orderly}
use Rattle.bag.proofs.Complete.{complete}
use Rattle.run.specs.Calls.{check, Made, made, outcome_of}
use Rattle.run.specs.Demand3.{state_after, result, events_of, up_to, Done, Accepts, Touches, Unaltered, EachCheck}
use Rattle.run.proofs.Does.{still, does}
use Rattle.run.proofs.Checks.{taken_right}
use Rattle.run.proofs.Runs.{Left, lent_right}
use Rattle.run.proofs.FromStart.{done_by, bag_of, events_none, events_last, invariant, run_did, moves_does}
use Rattle.run.proofs.Exact.{check_done, check_lawful, check_bare, check_follows}
use Rattle.run.proofs.Sized.{run_room}

module _ (w : ℕ) (one : 1 ≤ w) (tag : Seal → Entry → List ℕ) (key : List ℕ) where
  abbrev leaves : List Made → Made → List ℕ
  leaves run x = (result w tag key run x).seen.store

  moving : (run : List Made) (x : Made) → Touches w tag key run x ⊎ ((Touches w tag key run x → ⊥) × (done_by w tag key run x ≡ []))
  moving run x = elim (run_did w tag key run x) [ still n ↦ inr ((λ m. n.idle m.0 m.1), n.events) | does o y d ↦ inl (d.number, y) ]

  moves_honest : (run : List Made) (x : Made) → Touches w tag key run x → Holds w (bag_of w tag key run) x.bytes
      → Right (bag_of w tag key run) (done_by w tag key run x) × Holds w (follow (bag_of w tag key run) (done_by w tag key run x)) (leaves run x)
  moves_honest run x m h = (moves_does w tag key run x m).1.honest (run_room w tag key one run) h

  abbrev LeftBy : List Made → Type 0
  LeftBy run = Left (done_by w tag key) (events_of w tag key) (events_none w tag key) (events_last w tag key) w (Touches w tag key) (λ x. x.bytes) leaves moving moves_honest run (events_of w tag key run)

  -- what such a call is lent holds what is held
  lent_holds : (run : List Made) → Unaltered w tag key run → (before later : List Made) (x : Made) → run ≡ before ++ (x ∷ later) → Touches w tag key before x → LeftBy before → Holds w (bag_of w tag key before) x.bytes
  lent_holds run u before later x place m (inl n) a e h = none_some (n a) h
  lent_holds run u before later x place m (inr (l, k)) a e h =
      u before later x place m l a (((invariant w tag key before).follows (moves_does w tag key before x m).0).1.marked a ∙ ap there h) ∙ k a e h

  honest : (run : List Made) → Unaltered w tag key run → Right (empty 0) (events_of w tag key run) × LeftBy run
  honest run u =
      lent_right (done_by w tag key) (events_of w tag key) (events_none w tag key) (events_last w tag key) w (Touches w tag key) (λ x. x.bytes) leaves moving moves_honest run (lent_holds run u)

  pub unaltered_part : (p q : List Made) → Unaltered w tag key (p ++ q) → Unaltered w tag key p
  unaltered_part p q u before later x e = u before (later ++ q) x (place_stays p before x later q e)

  -- ---- a check

  module _ (run : List Made) (m : List ℕ) (u : Unaltered w tag key (run ++ (made check m ∷ []))) (d : Done w tag key run (made check m)) where
    abbrev s : State
    s = state_after w tag key run

    abbrev all : List Event
    all = up_to w tag key run m

    unclosed : s.closed ≡ false
    unclosed = (check_ready w s m (check_done w tag s m d)).0

    all_complete : ((follow (empty 0) all).fault ≡ none) × (Bare (follow (empty 0) all) → (c : Entry) → times c (follow (empty 0) all).puts ≡ times c (follow (empty 0) all).takes)
    unfolding empty
    all_complete =
        let h = honest run (unaltered_part run (made check m ∷ []) u) in
        let k = (invariant w tag key run).follows unclosed in
        let b = bag_of w tag key run in
        complete (tag (sealed key)) (empty 0) all (empty_orderly 0) refl refl (check_lawful w tag key run m unclosed)
        (along_append TakesHeld (empty 0) (events_of w tag key run) (takes w s m) h.0 (taken_right w tag (sealed key) s m b k.0 k.1 (lent_holds (run ++ (made check m ∷ [])) u run [] (made check m) refl (d, refl) h.1)))

    -- what was put is what was taken
    pub check_even : (c : Entry) → times c (follow (empty 0) all).puts ≡ times c (follow (empty 0) all).takes
    check_even = all_complete.1 (check_bare w tag key run m unclosed)

    -- the second half
    pub complete_at : Accepts w tag key run m
    unfolding outcome_of
    complete_at =
        let f = check_follows w tag key run m unclosed in
        equal_accepts w tag s m (check_done w tag s m d) (f.put ∙ same_counts (tag (sealed key)) _ _ check_even ∙ sym f.take) (f.fault ∙ ap there all_complete.0)

  pub complete_each : (run : List Made) → Unaltered w tag key run → EachCheck w tag key run
  complete_each run u before later m e d =
      complete_at before m (unaltered_part (before ++ (made check m ∷ [])) later (subst (Unaltered w tag key) (e ∙ sym (append_assoc before (made check m ∷ []) later)) u)) d
