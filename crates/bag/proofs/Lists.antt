-- A list by its last element, and where a place in a joined list lies: by induction on the list. Assumes nothing.
use mathlib.Core.Path.{◌≡◌, refl, sym, ap, ◌∙◌, subst}
use mathlib.Core.List.{List, [], ◌∷◌, ◌++◌, append-nil, append_assoc, nil≢cons, head-eq_of_cons-eq, tail-eq_of_cons-eq}
use mathlib.Core.Logic.{◌⊎◌, inl, inr}

module _ {A : Type 0} where
  -- an induction that adds at the end
  pub by_last : (P : List A → Type 0) → P [] → ((xs : List A) (x : A) → P xs → P (xs ++ (x ∷ []))) → (xs : List A) → P xs
  by_last P base more xs = go [] xs base
    where
      go : (p xs : List A) → P p → P (p ++ xs)
      go p [] h = subst P (sym (append-nil p)) h
      go p (x ∷ xs) h = subst P (append_assoc p (x ∷ []) xs) (go (p ++ (x ∷ [])) xs (more p x h))

  -- a place in a ++ b lies in a or in b
  pub place_in : (a b c : List A) (y : A) (d : List A) → a ++ b ≡ c ++ (y ∷ d)
      → ((e : List A) × (a ≡ c ++ (y ∷ e)) × (d ≡ e ++ b)) ⊎ ((e : List A) × (c ≡ a ++ e) × (b ≡ e ++ (y ∷ d)))
  place_in [] b c y d q = inr (c, refl, q)
  place_in (x ∷ a) b [] y d q = inl (a, ap (λ (z : A). z ∷ a) (head-eq_of_cons-eq q), sym (tail-eq_of_cons-eq q))
  place_in (x ∷ a) b (z ∷ c) y d q =
      let h : x ≡ z = head-eq_of_cons-eq q in
      elim (place_in a b c y d (tail-eq_of_cons-eq q)) [ inl (e, f, g) ↦ inl (e, cc, g) | inr (e, f, g) ↦ inr (e, cc, g) ]

  -- nothing stands in the empty list
  pub no_place : (c : List A) (y : A) (d : List A) → [] ≡ c ++ (y ∷ d) → ⊥
  no_place [] y d q = nil≢cons q
  no_place (x ∷ c) y d q = nil≢cons q

  -- a place in xs ++ (x ∷ []) lies in xs, or is the last
  pub last_place : (xs : List A) (x : A) (c : List A) (y : A) (d : List A) → xs ++ (x ∷ []) ≡ c ++ (y ∷ d)
      → ((e : List A) × (xs ≡ c ++ (y ∷ e)) × (d ≡ e ++ (x ∷ []))) ⊎ ((c ≡ xs) × (y ≡ x))
  last_place xs x c y d q = elim (place_in xs (x ∷ []) c y d q) [ inl p ↦ inl p | inr (e, f, g) ↦ inr (here e f g) ]
    where
      here : (e : List A) → c ≡ xs ++ e → x ∷ [] ≡ e ++ (y ∷ d) → (c ≡ xs) × (y ≡ x)
      here [] f g = (f ∙ append-nil xs, sym (head-eq_of_cons-eq g))
      here (z ∷ e) f g = absurd (no_place e y d (tail-eq_of_cons-eq g))

  -- a place stays where more is added at the end
  pub place_stays : (xs c : List A) (y : A) (d z : List A) → xs ≡ c ++ (y ∷ d) → xs ++ z ≡ c ++ (y ∷ (d ++ z))
  place_stays xs c y d z q = ap (λ (l : List A). l ++ z) q ∙ append_assoc c (y ∷ d) z
