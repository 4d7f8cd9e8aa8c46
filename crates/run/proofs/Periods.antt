-- There is one period, and the bag of all that was done has just what was put and taken in it: what is written down begins anew at each accepted check.
-- Assumes nothing.
use mathlib.Core.Path.{◌≡◌, refl, sym, ap, ◌∙◌}
use mathlib.Core.Bool.{Bool, true, false, true≢false}
use mathlib.Core.List.{List, [], ◌∷◌, ◌++◌, append-nil, append_assoc, tail-eq_of_cons-eq, foldl-append}
use mathlib.Core.Logic.{◌⊎◌, inl, inr, ⊎_elim}
use Prim.Native.Nat.{ℕ}
use Rattle.state.specs.TakePut.{Event, took, put, accepted}
use Rattle.bag.specs.Bag.{Bag, empty, noted, follow}
use Rattle.bag.proofs.Lists.{by_last, place_in, last_place, no_place}
use Rattle.bag.proofs.Unbroken.{Unbroken, rest_unbroken}
use Rattle.run.specs.Demand3.{put_in, taken_in, Since}

-- ---- what is written down

unbroken_puts : (b : Bag) (es : List Event) → Unbroken es → (follow b es).puts ≡ b.puts ++ put_in es
unfolding noted put_in
unbroken_puts b [] u = sym (append-nil b.puts)
unbroken_puts b (took e ∷ es) u = unbroken_puts (noted b (took e)) es (rest_unbroken (took e) es u)
unbroken_puts b (put e ∷ es) u = unbroken_puts (noted b (put e)) es (rest_unbroken (put e) es u) ∙ append_assoc b.puts (e ∷ []) (put_in es)
unbroken_puts b (accepted ∷ es) u = absurd (u [] es refl)

unbroken_takes : (b : Bag) (es : List Event) → Unbroken es → (follow b es).takes ≡ b.takes ++ taken_in es
unfolding noted taken_in
unbroken_takes b [] u = sym (append-nil b.takes)
unbroken_takes b (took e ∷ es) u = unbroken_takes (noted b (took e)) es (rest_unbroken (took e) es u) ∙ append_assoc b.takes (e ∷ []) (taken_in es)
unbroken_takes b (put e ∷ es) u = unbroken_takes (noted b (put e)) es (rest_unbroken (put e) es u)
unbroken_takes b (accepted ∷ es) u = absurd (u [] es refl)

module _ (all period : List Event) (s : Since all period) where
  -- a period begins with an empty bag
  pub begun : (c : ℕ) × (follow (empty 0) s.past ≡ empty c)
  unfolding noted
  begun = ⊎_elim (λ e. (0, ap (follow (empty 0)) e)) (λ p. (1, ap (follow (empty 0)) p.1 ∙ foldl-append noted (empty 0) p.0 (accepted ∷ []))) s.begins

  from : follow (empty 0) all ≡ follow (empty begun.0) period
  from = ap (follow (empty 0)) s.place ∙ foldl-append noted (empty 0) s.past period ∙ ap (λ (b : Bag). follow b period) begun.1

  pub since_puts : (follow (empty 0) all).puts ≡ put_in period
  unfolding empty
  since_puts = ap (λ (b : Bag). b.puts) from ∙ unbroken_puts (empty begun.0) period s.unbroken

  pub since_takes : (follow (empty 0) all).takes ≡ taken_in period
  unfolding empty
  since_takes = ap (λ (b : Bag). b.takes) from ∙ unbroken_takes (empty begun.0) period s.unbroken

-- every list of events has such a period
abbrev pub is_accepted : Event → Bool
is_accepted (took e) = false
is_accepted (put e) = false
is_accepted accepted = true

module _ (all : List Event) where
  grows : (e : Event) → is_accepted e ≡ false → (period : List Event) × Since all period → (period : List Event) × Since (all ++ (e ∷ [])) period
  grows e n (period, s) = (
    period ++ (e ∷ []),
    record { past = s.past; place = ap (λ (l : List Event). l ++ (e ∷ [])) s.place ∙ append_assoc s.past period (e ∷ []); begins = s.begins; unbroken = whole },
  )
    where
      whole : (p q : List Event) → period ++ (e ∷ []) ≡ p ++ (accepted ∷ q) → ⊥
      whole p q k = elim (last_place period e p accepted q k) [ inl (r, f, g) ↦ s.unbroken p r f | inr (f, g) ↦ true≢false (ap is_accepted g ∙ n) ]

  more : (e : Event) → (period : List Event) × Since all period → (period : List Event) × Since (all ++ (e ∷ [])) period
  more (took e) h = grows (took e) refl h
  more (put e) h = grows (put e) refl h
  more accepted h =
      ([], record { past = all ++ (accepted ∷ []); place = sym (append-nil (all ++ (accepted ∷ []))); begins = inr (all, refl); unbroken = λ p q. no_place p accepted q })

pub since_now : (all : List Event) → (period : List Event) × Since all period
since_now =
    by_last (λ (all : List Event). (period : List Event) × Since all period)
    ([], record { past = []; place = refl; begins = inl refl; unbroken = λ p q. no_place p accepted q })
    more

-- and no other: it begins at the start, or after the last accepted check
module _ (all period other : List Event) (s : Since all period) (t : Since all other) where
  begins_at : (es : List Event) → Since all es → (all ≡ es) ⊎ ((old : List Event) × (all ≡ old ++ (accepted ∷ es)))
  begins_at es k =
      let at : (past : List Event) → k.past ≡ past → all ≡ past ++ es = λ past e. k.place ∙ ap (λ (l : List Event). l ++ es) e in
      ⊎_elim (λ e. inl (at [] e)) (λ p. inr (p.0, at (p.0 ++ (accepted ∷ [])) p.1 ∙ append_assoc p.0 (accepted ∷ []) es)) k.begins

  pub since_one : other ≡ period
  since_one = go (begins_at period s) (begins_at other t)
    where
      here : (x : List Event) → accepted ∷ period ≡ x ++ (accepted ∷ other) → other ≡ period
      here [] e = sym (tail-eq_of_cons-eq e)
      here (y ∷ x) e = absurd (s.unbroken x other (tail-eq_of_cons-eq e))

      go : (all ≡ period) ⊎ ((old : List Event) × (all ≡ old ++ (accepted ∷ period))) → (all ≡ other) ⊎ ((old : List Event) × (all ≡ old ++ (accepted ∷ other))) → other ≡ period
      go (inl e) (inl f) = sym f ∙ e
      go (inl e) (inr (d, f)) = absurd (s.unbroken d other (sym e ∙ f))
      go (inr (c, e)) (inl f) = absurd (t.unbroken c period (sym f ∙ e))
      go (inr (c, e)) (inr (d, f)) = elim (place_in c (accepted ∷ period) d accepted other (sym e ∙ f)) [ inl (x, p, q) ↦ absurd (t.unbroken x period q) | inr (x, p, q) ↦ here x q ]
