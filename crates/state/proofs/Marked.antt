-- The marks bit by bit: an address in use, and a mark set or cleared. Assumes nothing.
use mathlib.Core.Path.{◌≡◌, refl, sym, ap, ◌∙◌}
use mathlib.Core.Bool.{Bool, true, false, not, ◌&&◌, ◌||◌, or-true, false≢true}
use mathlib.Core.List.{List}
use mathlib.Core.Logic.{◌⊎◌, inl, inr, ⊎_elim, ◌↔◌, ◌≢◌}
use Prim.Native.Nat.{ℕ, ◌<◌}
use lib.Dec.{eqb}
use lib.ListN.{length}
use borrow.Author.Tests.{eqb-true, eqb-false, eq-eqb, ne_eqb}
use Rattle.state.specs.Sizes.{addresses}
use Rattle.state.specs.Marks.{used, marked, unmarked}
use Rattle.state.specs.Table.{Marked}
use Rattle.state.specs.declared.State.{State}
use Rattle.state.proofs.Marks.{used_marked, used_unmarked}

pub unset : (b : Bool) → (b ≡ true → ⊥) → b ≡ false
unset true h = absurd (h refl)
unset false h = refl

pub marked_used : (s : State) (a : ℕ) → Marked s a → used s.marks a ≡ true
unfolding used
marked_used s a h = eq-eqb _ 1 h

pub used_marks : (s : State) (a : ℕ) → used s.marks a ≡ true → Marked s a
unfolding used
used_marks s a u = eqb-true _ 1 u

module _ (s t : State) (a : ℕ) (sixteen : length s.marks ≡ 16) (h : a < addresses) where
  pub set_mark : t.marks ≡ marked s.marks a → (b : ℕ) → Marked t b ↔ ((b ≡ a) ⊎ Marked s b)
  set_mark e b = (
    (λ m. from (eqb b a) refl (sym f ∙ marked_used t b m)),
    (λ m. used_marks t b (f ∙ ⊎_elim (λ q. rw (eq-eqb b a q)) (λ k. rw (marked_used s b k) (or-true (eqb b a))) m)),
  )
    where
      f : used t.marks b ≡ (eqb b a || used s.marks b)
      f = ap (λ (ws : List ℕ). used ws b) e ∙ used_marked s.marks a sixteen h b

      from : (d : Bool) → eqb b a ≡ d → (eqb b a || used s.marks b) ≡ true → (b ≡ a) ⊎ Marked s b
      from true q m = inl (eqb-true b a q)
      from false q m = inr (used_marks s b (sym (rw q) ∙ m))

  pub clear_mark : t.marks ≡ unmarked s.marks a → (b : ℕ) → Marked t b ↔ ((b ≢ a) × Marked s b)
  clear_mark e b = (
    (λ m. from (eqb b a) refl (sym f ∙ marked_used t b m)),
    (λ m. used_marks t b (f ∙ rw (ne_eqb b a m.0, marked_used s b m.1))),
  )
    where
      f : used t.marks b ≡ (not (eqb b a) && used s.marks b)
      f = ap (λ (ws : List ℕ). used ws b) e ∙ used_unmarked s.marks a sixteen h b

      from : (d : Bool) → eqb b a ≡ d → (not (eqb b a) && used s.marks b) ≡ true → (b ≢ a) × Marked s b
      from true q m = absurd (false≢true (sym (rw q) ∙ m))
      from false q m = (eqb-false b a q, used_marks s b (sym (rw q) ∙ m))
