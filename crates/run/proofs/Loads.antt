-- Where every take of a run took what was held, what is held at an address has the value last set there, and each load handed out what was held. Assumes nothing.
use mathlib.Core.Path.{◌≡◌, refl, sym, ap, ◌∙◌, subst}
use mathlib.Core.Bool.{true}
use mathlib.Core.List.{List, [], ◌∷◌, ◌++◌, append_assoc, foldl-append}
use mathlib.Core.Option.{some}
use mathlib.Core.Logic.{◌⊎◌, inl, inr}
use Prim.Native.Nat.{ℕ}
use Rattle.state.specs.Cells.{Entry}
use Rattle.state.specs.Start.{start_of}
use Rattle.state.specs.TakePut.{Event}
use Rattle.state.specs.declared.Seal.{Seal}
use Rattle.bag.specs.Bag.{Bag, empty, noted, follow}
use Rattle.bag.specs.Law.{TakesHeld, Right}
use Rattle.bag.proofs.Along.{along_split}
use Rattle.bag.proofs.Orderly.{none_some}
use Rattle.run.specs.Calls.{Call, load, Made, made, touches, events}
use Rattle.run.specs.Demand3.{Sets, result, events_of, SetAt, LastSet, EachLoad}
use Rattle.run.proofs.Does.{still, does}
use Rattle.run.proofs.Runs.{kept_latest}
use Rattle.run.proofs.FromStart.{events_append, done_by, bag_of, events_none, events_last, run_did, moves_does}

-- a call that sets a value takes or puts
sets_moves : (c : Call) (a : ℕ) (v : List ℕ) → Sets c a v → touches c ≡ true
sets_moves c a v (inl e) = ap touches e
sets_moves c a v (inr e) = ap touches e

module _ (w : ℕ) (tag : Seal → Entry → List ℕ) (key : List ℕ) where
  -- the value that is held at an address after all that was done
  abbrev Keeps : List Made → List Event → ℕ → List ℕ → Type 0
  Keeps run all a v = (e : Entry) × ((follow (empty 0) all).held a ≡ some e) × (e.value ≡ v)

  set_or_kept : (run : List Made) (x : Made) → Right (bag_of w tag key run) (done_by w tag key run x) → (a : ℕ) (v : List ℕ)
      → Keeps (run ++ (x ∷ [])) (events_of w tag key run ++ done_by w tag key run x) a v
      → (SetAt w tag key a run x × Sets x.call a v) ⊎ ((SetAt w tag key a run x → ⊥) × Keeps run (events_of w tag key run) a v)
  set_or_kept run x r a v (e, h, q) =
      elim (run_did w tag key run x) [
        | still n ↦ inr ((λ t. n.idle t.0 (sets_moves x.call a t.1 t.2)), (e, ap (λ (es : List Event). (follow (bag_of w tag key run) es).held a) (sym n.events) ∙ held, q))
        | does o y d ↦
            elim (d.kept r a e held) [
              | inl s ↦ let t = subst (Sets x.call a) q s in inl ((d.number, v, t), t)
              | inr (s, (c, k, f)) ↦ inr ((λ t. s t.1 t.2), (c, k, f ∙ q))
            ]
      ]
    where
      held : (follow (bag_of w tag key run) (done_by w tag key run x)).held a ≡ some e
      held = ap (λ (y : Bag). y.held a) (sym (foldl-append noted (empty 0) (events_of w tag key run) (done_by w tag key run x))) ∙ h

  held_set : (run : List Made) → Right (empty 0) (events_of w tag key run) → (a : ℕ) (v : List ℕ) → Keeps run (events_of w tag key run) a v → LastSet w tag key run a v
  unfolding empty
  held_set =
      kept_latest (done_by w tag key) (events_of w tag key) (events_none w tag key) (events_last w tag key) (SetAt w tag key) (λ x. Sets x.call) Keeps (λ a v k. none_some refl k.1) set_or_kept

  -- the events of a run, by a place in it
  place_events : (before later : List Made) (x : Made) → (more : List Event) × (events_of w tag key (before ++ (x ∷ later)) ≡ (events_of w tag key before ++ done_by w tag key before x) ++ more)
  unfolding events
  place_events before later x =
      let rest = events w tag (result w tag key before x).seen.state later in
      (rest, events_append w tag (start_of key).state before (x ∷ later) ∙ sym (append_assoc (events_of w tag key before) (done_by w tag key before x) rest))

  pub loads_right : (run : List Made) → Right (empty 0) (events_of w tag key run) → EachLoad w tag key run
  loads_right run r before later a o m place n =
      held_set before then.0 a (result w tag key before x).seen.out ((moves_does w tag key before x (n, refl)).1.answers a o refl then.1)
    where
      x : Made
      x = made (load a o) m

      then : Right (empty 0) (events_of w tag key before) × Right (bag_of w tag key before) (done_by w tag key before x)
      then =
          let p = place_events before later x in
          along_split TakesHeld (empty 0) (events_of w tag key before) (done_by w tag key before x)
          (along_split TakesHeld (empty 0) (events_of w tag key before ++ done_by w tag key before x) p.0 (subst (Right (empty 0)) (ap (events_of w tag key) place ∙ p.1) r)).0
