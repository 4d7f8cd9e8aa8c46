-- An honest run has no collision: after the takes of a check nothing is held, so each entry was put as often as taken. And the second half's condition looks
-- at the cells in use alone. Assumes nothing.
use mathlib.Core.Path.{◌≡◌, refl, sym, ap, ◌∙◌, subst}
use mathlib.Core.Bool.{true}
use mathlib.Core.List.{List, [], ◌∷◌, ◌++◌, append_assoc}
use mathlib.Core.Logic.{inl, inr}
use Prim.Native.Nat.{ℕ, ◌≤◌}
use Rattle.state.specs.Marks.{used}
use Rattle.state.specs.Cells.{Entry, entry_at}
use Rattle.state.specs.Counts.{times}
use Rattle.state.specs.TakePut.{Event, Outcome}
use Rattle.state.specs.Check.{takes, acceptance}
use Rattle.state.specs.declared.Seal.{Seal}
use Rattle.bag.proofs.Lists.{last_place, place_stays}
use Rattle.run.specs.Calls.{check, Made, made}
use Rattle.run.specs.Demand3.{Latest, state_after, result, events_of, Done, Touches, Unaltered}
use Rattle.run.specs.Sense.{HonestNoCollision, UnusedMayChange}
use Rattle.run.proofs.Periods.{since_puts, since_takes}
use Rattle.run.proofs.Accepted.{accepts_gives}
use Rattle.run.proofs.Complete.{check_even, unaltered_part}

-- ---- an honest run has no collision

pub honest_no_collision : (w : ℕ) → 1 ≤ w → (tag : Seal → Entry → List ℕ) → HonestNoCollision w tag
unfolding acceptance
honest_no_collision w one tag key run u c =
    c.differ.1
    (ap (times e) (sym (since_puts all c.period c.since)) ∙ check_even w one tag key c.before c.bytes here done e ∙ ap (times e) (since_takes all c.period c.since))
  where
    e : Entry
    e = c.differ.0

    all : List Event
    all = events_of w tag key c.before ++ takes w (state_after w tag key c.before) c.bytes

    done : Done w tag key c.before (made check c.bytes)
    done = ap (λ (r : Outcome). r.seen.number) (accepts_gives w tag (state_after w tag key c.before) c.bytes c.accepts)

    here : Unaltered w tag key (c.before ++ (made check c.bytes ∷ []))
    here = unaltered_part w one tag key (c.before ++ (made check c.bytes ∷ [])) c.later (subst (Unaltered w tag key) (c.place ∙ sym (append_assoc c.before (made check c.bytes ∷ []) c.later)) u)

-- ---- what is not in use may change

pub unused_may_change : (w : ℕ) → 1 ≤ w → (tag : Seal → Entry → List ℕ) → UnusedMayChange w tag
unused_may_change w one tag key run c m n done same u before later x place d l a i =
    elim (last_place run (made c n) before x later place) [
      | inl (r, f, g) ↦ u before (r ++ (made c m ∷ [])) x (place_stays run before x r (made c m ∷ []) f) d l a i
      | inr (f, g) ↦ subst (λ (b : List Made). Left b x) (sym f) (subst (Left run) (sym g) (λ d k j. same a j ∙ u run [] (made c m) refl (done, d.1) k a j)) d l i
    ]
  where
    Left : List Made → Made → Type 0
    Left before x = Touches w tag key before x → (l : Latest (Touches w tag key) before) → used (state_after w tag key before).marks a ≡ true → entry_at w x.bytes a ≡ entry_at w (result w tag key l.before l.call).seen.store a
