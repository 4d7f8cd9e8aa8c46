-- A fold of the round over places in a row makes as many rounds. Assumes nothing.
use Rattle.std.proofs.Common.{◌≡◌, ℕ, zero, suc, ◌+◌, List, [], ◌∷◌, get_or, refl, sym, ap, ap₂, ◌∙◌, arith, add-one}
use denote.Param.Members.{Mut}
use Rattle.std.specs.List.{fold, range_with_len}
use Rattle.std.specs.Iterator.{ActsAsOnTwo, FoldsItems}
use Rattle.std.proofs.iter.Yields.{nat_range_steps}
use Rattle.std.proofs.lemmas.Iterator.{YieldsList-from_range}
use Rattle.std.proofs.lemmas.List.Sums.{fold-append}
use Rattle.std.proofs.lemmas.Fn.{fold_over}
use Rattle.round.specs.Round.{round}
use Rattle.compress.specs.Compress.{rounds}
use Rattle.constants.specs.Constants.{K}

-- the round at place t, by the constants k and the schedule w
abbrev pub round_at : List ℕ → List ℕ → List ℕ → ℕ → List ℕ
round_at k w s t = round (get_or k t 0) (get_or w t 0) s

module _ (k w s₀ : List ℕ) (q : k ≡ K) where
  rounds_fold : (s : List ℕ) (n t : ℕ) → s ≡ rounds t w s₀ → fold (round_at k w) s (range_with_len t n) ≡ rounds (t + n) w s₀
  unfolding rounds
  rounds_fold s zero t e = e ∙ ap (λ (m : ℕ). rounds m w s₀) (omega arith)
  rounds_fold s (suc n) t e =
      rounds_fold (round_at k w s t) n (t + 1) (rw add-one (ap₂ (λ (c l : List ℕ). round_at c w l t) q e)) ∙ ap (λ (m : ℕ). rounds m w s₀) (omega arith)

  -- what `fold` gives over the n places from t on, by a closure that makes the round of its place
  pub rounds_turn : {F : Type 0} {g : Mut F (List ℕ × (ℕ × Unit {0})) (List ℕ)} {f : F} {s r : List ℕ} (t n : ℕ)
      → FoldsItems nat_range_steps g (record { start = t; end = t + n }) f s r → ActsAsOnTwo g f (round_at k w) → s ≡ rounds t w s₀ → r ≡ rounds (t + n) w s₀
  rounds_turn {g} {f} {s} {r} t n ran acts e =
      let y = YieldsList-from_range t (t + n) n refl (omega arith) in
      fold_over nat_range_steps (λ x. x) g (λ xs a. a ≡ fold (round_at k w) s xs) f
      (λ xs a x b f' j h.
      let d = acts a x b f' h in
      (d.1 ∙ ap (λ (l : List ℕ). round_at k w l x) j ∙ sym (fold-append (round_at k w) s xs (x ∷ [])), d.0))
      _ (range_with_len t n) s r y.runs refl ran
      ∙ rounds_fold s n t e
