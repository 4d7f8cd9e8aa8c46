-- What the calls of an iterator give, one after the other, of the list that it always yields; and that a split at blanks yields a line's words.
-- Assumes nothing.
use mathlib.Core.Path.{◌≡◌, refl, sym, ap, subst, ◌∙◌}
use mathlib.Core.Bool.{Bool, true, false}
use mathlib.Core.List.{List, [], ◌∷◌}
use Prim.Native.Nat.{ℕ}
use lib.Dec.{eqb}
use native.Mathlib.Omega.{arith}
use Rattle.std.specs.Prelude.{Option, Some, None, is_some}
use Rattle.std.specs.Slice.Iter.{split_steps, split_rest, split_done, split_callee}
use Rattle.std.specs.Fn.{CalledAt}
use Rattle.std.proofs.lemmas.Iterator.{YieldsList}
use Rattle.std.proofs.lemmas.Iterator.Splits.{YieldsList-from_slice_split}
use denote.Param.Members.{Mut}
use denote.Bor.{Bor}
use Rattle.lines.specs.Grammar.{blank}
use Rattle.lines.specs.Parse.{words_in}
use Rattle.lines.proofs.Cuts.{words_split}

-- the list after an item
pub record After {S A B : Type 0} (steps : S → Option A → S → Type 0) (v : A → B) (t : S) (a : A) (ws : List B) : Type 0 where
  pub rest : List B
  pub is : ws ≡ v a ∷ rest
  pub yields : YieldsList steps v t rest

module _ {S A B : Type 0} {steps : S → Option A → S → Type 0} {v : A → B} where
  after : {s : S} (t : S) (a : A) (ws : List B) → YieldsList steps v s ws → steps s (Some a) t → After steps v t a ws
  after t a [] h k = absurd (h.runs a t k)
  after t a (w ∷ ws) h k = let m = h.runs.1 a t k in record { rest = ws; is = ap (λ x. x ∷ ws) (sym m.0); yields = record { runs = m.1 } }

  -- some items and no more
  pub none : {s : S} (t : S) (ws : List B) → YieldsList steps v s ws → steps s None t → ws ≡ []
  none t [] h k = refl
  none t (w ∷ ws) h k = absurd (h.runs.0 t k)

  pub one : {s : S} (t u : S) (a : A) {ws : List B} → YieldsList steps v s ws → steps s (Some a) t → steps t None u → ws ≡ v a ∷ []
  one t u a {ws = ws} h k l = let r = after t a ws h k in r.is ∙ ap (λ x. v a ∷ x) (none u r.rest r.yields l)

  pub two : {s : S} (t u w : S) (a b : A) {ws : List B} → YieldsList steps v s ws → steps s (Some a) t → steps t (Some b) u → steps u None w → ws ≡ v a ∷ v b ∷ []
  two t u w a b {ws = ws} h k l m = let r = after t a ws h k in r.is ∙ ap (λ x. v a ∷ x) (one u w b r.yields l m)

  pub three : {s : S} (t u w x : S) (a b c : A) {ws : List B} → YieldsList steps v s ws → steps s (Some a) t → steps t (Some b) u → steps u (Some c) w → steps w None x → ws ≡ v a ∷ v b ∷ v c ∷ []
  three t u w x a b c {ws = ws} h k l m n = let r = after t a ws h k in r.is ∙ ap (λ y. v a ∷ y) (two u w x b c r.yields l m n)

  -- four items, and whether there are more
  pub four : {s : S} (t u w x y : S) (a b c d : A) (o : Option A) {ws : List B} → is_some o ≡ false → YieldsList steps v s ws → steps s (Some a) t → steps t (Some b) u → steps u (Some c) w → steps w (Some d) x → steps x o y → ws ≡ v a ∷ v b ∷ v c ∷ v d ∷ []
  four t u w x y a b c d None {ws = ws} z h k l m n o = let r = after t a ws h k in r.is ∙ ap (λ z. v a ∷ z) (three u w x y b c d r.yields l m n o)
  four t u w x y a b c d (Some e) z h k l m n o = let p : ◌≡◌ {A = ℕ} 0 1 = cc in absurd (omega arith)

  pub more : {s : S} (t u w x y : S) (a b c d : A) (o : Option A) {ws : List B} → is_some o ≡ true → YieldsList steps v s ws → steps s (Some a) t → steps t (Some b) u → steps u (Some c) w → steps w (Some d) x → steps x o y
      → (e : B) × ((r : List B) × (ws ≡ v a ∷ v b ∷ v c ∷ v d ∷ e ∷ r))
  more t u w x y a b c d None z h k l m n o = let p : ◌≡◌ {A = ℕ} 0 1 = cc in absurd (omega arith)
  more t u w x y a b c d (Some e) {ws = ws} z h k l m n o =
      let f = after t a ws h k in
      let g = after u b f.rest f.yields l in
      let i = after w c g.rest g.yields m in
      let j = after x d i.rest i.yields n in
      let p = after y e j.rest j.yields o in
      (v e, (p.rest, f.is ∙ ap (λ z. v a ∷ z) (g.is ∙ ap (λ z. v b ∷ z) (i.is ∙ ap (λ z. v c ∷ z) (j.is ∙ ap (λ z. v d ∷ z) p.is)))))

-- the words of a line, by its split at blanks
pub words_yielded : {F : Type 0} {g : Mut F (Bor ℕ × Unit {0}) Bool} {s : _} (t : _) (o : Option (Bor (List ℕ))) (line : List ℕ) → split_steps g s o t → split_rest s ≡ line → split_done s ≡ false
    → ((x : ℕ) (b : Bool) (q : F) → CalledAt g (split_callee s) x b q → (q ≡ split_callee s) × (b ≡ eqb x blank)) → YieldsList (split_steps g) (λ x. x.now) s (words_in line)
words_yielded {g = g} {s = s} t o line k rest done closure =
    let P : List (List ℕ) → Type 0 = λ ws. YieldsList (split_steps g) (λ (x : Bor (List ℕ)). x.now) s ws in
    subst P (sym (words_split line)) (YieldsList-from_slice_split g (λ b. eqb b blank) line rest done refl closure)
