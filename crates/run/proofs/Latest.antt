-- The latest call of which something holds: it is the call just made, or that of before; and there is only one. Assumes nothing.
use mathlib.Core.Path.{◌≡◌, refl, sym, ap, ◌∙◌, subst}
use mathlib.Core.List.{List, [], ◌∷◌, ◌++◌, append-nil, head-eq_of_cons-eq, tail-eq_of_cons-eq}
use mathlib.Core.Logic.{inl, inr}
use Rattle.bag.proofs.Lists.{place_in, no_place, last_place, place_stays}
use Rattle.run.specs.Demand3.{Latest}

module _ {A : Type 0} (P : List A → A → Type 0) (run : List A) where
  module _ (x : A) where
    unfoldable pub latest_here : P run x → Latest P (run ++ (x ∷ []))
    latest_here h = record { before = run; call = x; later = []; place = refl; holds = h; last = λ p q y e k. no_place p y q e }

    unfoldable pub latest_keeps : Latest P run → (P run x → ⊥) → Latest P (run ++ (x ∷ []))
    latest_keeps l n =
        record { before = l.before; call = l.call; later = l.later ++ (x ∷ []); place = place_stays run l.before l.call l.later (x ∷ []) l.place; holds = l.holds; last = none_later }
      where
        none_later : (p q : List A) (y : A) → l.later ++ (x ∷ []) ≡ p ++ (y ∷ q) → P (l.before ++ (l.call ∷ p)) y → ⊥
        none_later p q y e h =
            elim (last_place l.later x p y q e) [
              | inl (r, f, g) ↦ l.last p r y f h
              | inr (f, g) ↦ n (subst (λ (z : List A). P z x) (ap (λ (z : List A). l.before ++ (l.call ∷ z)) f ∙ sym l.place) (subst (λ (z : A). P (l.before ++ (l.call ∷ p)) z) g h))
            ]

  pub latest_one : (l k : Latest P run) → (l.before ≡ k.before) × (l.call ≡ k.call)
  latest_one l k =
      elim (place_in l.before (l.call ∷ l.later) k.before k.call k.later (sym l.place ∙ k.place)) [
        | inl (e, f, g) ↦ absurd (k.last e l.later l.call g (subst (λ (b : List A). P b l.call) f l.holds))
        | inr (e, f, g) ↦ here e f g
      ]
    where
      here : (e : List A) → k.before ≡ l.before ++ e → l.call ∷ l.later ≡ e ++ (k.call ∷ k.later) → (l.before ≡ k.before) × (l.call ≡ k.call)
      here [] f g = (sym (f ∙ append-nil l.before), head-eq_of_cons-eq g)
      here (z ∷ e) f g =
          let q : k.before ≡ l.before ++ (l.call ∷ e) = f ∙ ap (λ (y : A). l.before ++ (y ∷ e)) (sym (head-eq_of_cons-eq g)) in
          absurd (l.last e k.later k.call (tail-eq_of_cons-eq g) (subst (λ (b : List A). P b k.call) q k.holds))
