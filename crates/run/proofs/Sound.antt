-- Demand 3, its first half. An accepted check shows a collision, or every take before it took what was held, and then each load gave the value last set.
-- Assumes nothing.
use mathlib.Core.Path.{◌≡◌, refl, sym, ap, ◌∙◌, subst}
use mathlib.Core.List.{List, ◌∷◌, ◌++◌, append_assoc}
use mathlib.Core.Logic.{◌⊎◌, inl, inr}
use Prim.Native.Nat.{ℕ}
use Rattle.state.specs.Cells.{Entry}
use Rattle.state.specs.Multiset.{hash}
use Rattle.state.specs.Start.{sealed}
use Rattle.state.specs.TakePut.{Event, put, accepted, Outcome}
use Rattle.state.specs.Check.{reput, takes, puts, acceptance}
use Rattle.state.specs.declared.Seal.{Seal}
use Rattle.state.specs.declared.State.{State}
use Rattle.bag.specs.Bag.{empty, noted, follow}
use Rattle.bag.specs.Law.{Along, May, TakesHeld, Right}
use Rattle.bag.specs.Claims.{Collides, right}
use Rattle.bag.proofs.Along.{along_append, along_map}
use Rattle.bag.proofs.Orderly.{empty_orderly}
use Rattle.bag.proofs.Sound.{sound_accepted}
use Rattle.run.specs.Calls.{check, Made, made}
use Rattle.run.specs.Demand3.{Differ, NoTwoAlike, put_in, taken_in, Since, state_after, events_of, up_to, EachLoad, Collision, LastAccepts}
use Rattle.run.proofs.FromStart.{events_last, invariant}
use Rattle.run.proofs.Loads.{loads_right}
use Rattle.run.proofs.Periods.{since_puts, since_takes, since_now}
use Rattle.run.proofs.Accepted.{accepts_gives, AcceptedCheck, accepted_check}

module _ (w : ℕ) (tag : Seal → Entry → List ℕ) (key : List ℕ) where
  -- ---- collisions

  collision : (run : List Made) → Collides (tag (sealed key)) (empty 0) (events_of w tag key run) → Collision w tag key run
  collision run c =
      record {
        before = k.before;
        later = k.later;
        bytes = k.bytes;
        place = k.place;
        accepts = k.accepts;
        period = now.0;
        since = subst (λ (es : List Event). Since es now.0) k.up_to now.1;
        alike = subst NoTwoAlike same_puts c.alike;
        differ = subst (λ (ps : List Entry). Differ ps (taken_in now.0)) same_puts (subst (Differ (follow (empty 0) c.past).puts) same_takes c.differ);
        equal = ap (hash (tag (sealed key))) (sym same_puts) ∙ c.equal ∙ ap (hash (tag (sealed key))) same_takes;
      }
    where
      k : AcceptedCheck w tag key run c.past
      k = accepted_check w tag key run c.past c.rest c.place

      now : (period : List Event) × Since c.past period
      now = since_now c.past

      same_puts : (follow (empty 0) c.past).puts ≡ put_in now.0
      same_puts = since_puts c.past now.0 now.1

      same_takes : (follow (empty 0) c.past).takes ≡ taken_in now.0
      same_takes = since_takes c.past now.0 now.1

  -- ---- the first half

  pub sound : (run : List Made) → LastAccepts w tag key run → EachLoad w tag key run ⊎ Collision w tag key run
  unfolding puts empty noted acceptance
  sound run (before, m, place, a) =
      elim (sound_accepted (tag (sealed key)) (empty 0) past (puts w s m) (empty_orderly 0) (right refl tt) (subst (Along (May (tag (sealed key))) (empty 0)) all (invariant w tag key run).lawful)) [
        | inl c ↦ inr (collision run (subst (Collides (tag (sealed key)) (empty 0)) (sym all) c))
        | inr r ↦
            inl (loads_right w tag key run (subst (Right (empty 0)) (sym all) (along_append TakesHeld (empty 0) past (accepted ∷ puts w s m) r (tt, along_map TakesHeld put (λ x e. tt) (empty 1) (reput w s.marks m)))))
      ]
    where
      s : State
      s = state_after w tag key before

      past : List Event
      past = up_to w tag key before m

      all : events_of w tag key run ≡ past ++ (accepted ∷ puts w s m)
      all =
          ap (events_of w tag key) place ∙ events_last w tag key before (made check m) ∙ ap (λ (r : Outcome). events_of w tag key before ++ r.events) (accepts_gives w tag s m a)
          ∙ sym (append_assoc (events_of w tag key before) (takes w s m) (accepted ∷ puts w s m))
