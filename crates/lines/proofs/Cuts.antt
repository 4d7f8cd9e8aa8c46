-- A list that is cut at a byte: what stands before the first such byte is the first part, and the rest is cut in the same way. Assumes nothing.
use borrow.Author.Tests.{ltb-true, ltb-false, eqb-true, eqb-false, eq-eqb, ne_eqb}
use mathlib.Core.Path.{◌≡◌, refl, sym, ap, ap₂, ◌∙◌}
use mathlib.Core.Bool.{Bool, true, false, cond, ◌&&◌}
use mathlib.Core.List.{List, [], ◌∷◌, ◌++◌}
use native.Mathlib.Omega.{arith}
use native.Mathlib.Numerals.{add-one}
use Prim.Native.Nat.{ℕ, suc, ◌+◌, ◌≤◌, ◌<◌}
use lib.Dec.{eqb, ltb}
use lib.ListN.{length, take, drop, drop_of_length-le}
use lib.Seq.{take_all}
use Rattle.std.specs.Prelude.{Option, position, unwrap_or}
use Rattle.std.specs.List.{onto_first, slice_split, position_or_len}
use Rattle.std.proofs.lemmas.List.Recursion.{is_position_or_len}
use lib.Pointwise.{pointwise}
use Rattle.octets.specs.Places.{same}
use Rattle.text.proofs.Each.{Each, Lacks}
use Rattle.lines.specs.Grammar.{newline, blank, onto, parts, lines_in}
use Rattle.lines.specs.Parse.{before, words_in}

-- a word is compared with a name by std's `==`
pointwise_same : (k l : List ℕ) → pointwise eqb k l ≡ same k l
unfolding same
pointwise_same [] [] = refl
pointwise_same [] (y ∷ l) = refl
pointwise_same (x ∷ k) [] = refl
pointwise_same (x ∷ k) (y ∷ l) = ap (λ b. eqb x y && b) (pointwise_same k l)

pub same_as : {b t : Bool} (k : List ℕ) {l m : List ℕ} → m ≡ l → t ≡ pointwise eqb k m → t ≡ b → same k l ≡ b
same_as k {l} e q r = sym (pointwise_same k l) ∙ ap (pointwise eqb k) (sym e) ∙ sym q ∙ r

-- the bytes before the first `end` are as many as std's `position` counts
before_cons : (end x : ℕ) (xs : List ℕ) → length (before end (x ∷ xs)) ≡ cond (eqb x end) 0 (1 + length (before end xs))
unfolding before
before_cons end x xs = elim (eqb x end) as (λ b. length (cond b [] (x ∷ before end xs)) ≡ cond b 0 (1 + length (before end xs))) [ true ↦ refl | false ↦ omega arith ]

pub before_position : (end : ℕ) (s : List ℕ) → length (before end s) ≡ position_or_len (λ b. eqb b end) s
unfolding before
before_position end s = is_position_or_len (λ l. length (before end l)) (λ b. eqb b end) refl (before_cons end) s

module _ (end : ℕ) where
  pub before_short : (s : List ℕ) → length (before end s) ≤ length s
  unfolding before
  before_short [] = omega arith
  before_short (x ∷ xs) = go (eqb x end) refl (before_short xs)
    where
      go : (b : Bool) → eqb x end ≡ b → length (before end xs) ≤ length xs → length (before end (x ∷ xs)) ≤ length (x ∷ xs)
      go true e h = rw e (omega arith)
      go false e h = rw e (omega arith)

  pub before_found : (s : List ℕ) (o : Option ℕ) (n : ℕ) → o ≡ position (λ b. eqb b end) s → n ≡ unwrap_or o (length s) → (n ≡ length (before end s)) × (n ≤ length s)
  before_found s o n e q = go (ltb (position_or_len (λ b. eqb b end) s) (length s)) refl
    where
      go : (b : Bool) → ltb (position_or_len (λ b. eqb b end) s) (length s) ≡ b → (n ≡ length (before end s)) × (n ≤ length s)
      go true t =
          let u : n ≡ position_or_len (λ b. eqb b end) s = q ∙ ap (λ x. unwrap_or x (length s)) (rw t at e) in
          (u ∙ sym (before_position end s), omega (arith, u, ltb-true _ (length s) t))
      go false t =
          let u : n ≡ length s = q ∙ ap (λ x. unwrap_or x (length s)) (rw t at e) in
          (omega (arith, u, before_position end s, before_short s, ltb-false _ (length s) t), omega (arith, u))

  before_lacks : (s : List ℕ) → length (before end s) ≡ length s → Lacks end s
  unfolding before Each
  before_lacks [] h = tt
  before_lacks (x ∷ xs) h = go (eqb x end) refl (before_lacks xs)
    where
      go : (b : Bool) → eqb x end ≡ b → (length (before end xs) ≡ length xs → Lacks end xs) → Lacks end (x ∷ xs)
      go true e k = absurd (let z : 0 ≡ length xs + 1 = simp add-one (rw e at h) in omega arith)
      go false e k = (eqb-false x end e, k (let z : length (before end xs) + 1 ≡ length xs + 1 = simp (add-one, add-one) (rw e at h) in omega arith))

  module _ (last : List (List ℕ)) where
    -- a part that ends
    pub parts_cut : (p s : List ℕ) → Lacks end p → parts end last (p ++ (end ∷ s)) ≡ p ∷ parts end last s
    unfolding parts Each
    parts_cut [] s h = rw (eq-eqb end end refl)
    parts_cut (x ∷ p) s h = rw (ne_eqb x end h.0) (ap (onto x) (parts_cut p s h.1))

    -- a part that does not
    pub parts_whole : ((x : ℕ) → onto x last ≡ (x ∷ []) ∷ []) → (x : ℕ) (xs : List ℕ) → Lacks end (x ∷ xs) → parts end last (x ∷ xs) ≡ (x ∷ xs) ∷ []
    unfolding parts Each
    parts_whole l x [] h = rw (ne_eqb x end h.0, l x)
    parts_whole l x (y ∷ ys) h = rw (ne_eqb x end h.0) (ap (onto x) (parts_whole l y ys h.1))

    parts_more : (s : List ℕ) → length (before end s) < length s
        → parts end last s ≡ take (length (before end s)) s ∷ parts end last (drop (suc (length (before end s))) s)
    unfolding before parts
    parts_more [] h = absurd (omega arith)
    parts_more (x ∷ xs) h = go (eqb x end) refl (parts_more xs)
      where
        go : (b : Bool) → eqb x end ≡ b → (length (before end xs) < length xs → parts end last xs ≡ take (length (before end xs)) xs ∷ parts end last (drop (suc (length (before end xs))) xs))
            → parts end last (x ∷ xs) ≡ take (length (before end (x ∷ xs))) (x ∷ xs) ∷ parts end last (drop (suc (length (before end (x ∷ xs)))) (x ∷ xs))
        go true e k = rw e
        go false e k = let g : length (before end xs) + 1 < length xs + 1 = simp (add-one, add-one) (rw e at h) in rw (e, k (omega arith))

-- the words of a line
pub words_single : (s : List ℕ) → Lacks blank s → words_in s ≡ s ∷ []
unfolding words_in parts
words_single [] h = refl
words_single (x ∷ xs) h = parts_whole blank ([] ∷ []) (λ y. refl) x xs h

-- a line has a first word
pub record First (ws : List (List ℕ)) : Type 0 where
  pub first : List ℕ
  pub rest : List (List ℕ)
  pub is : ws ≡ first ∷ rest

onto_some : (x : ℕ) (ps : List (List ℕ)) → First (onto x ps)
onto_some x [] = record { first = x ∷ []; rest = []; is = refl }
onto_some x (p ∷ ps) = record { first = x ∷ p; rest = ps; is = refl }

pub words_some : (s : List ℕ) → First (words_in s)
unfolding words_in parts
words_some [] = record { first = []; rest = []; is = refl }
words_some (x ∷ xs) = go (eqb x blank)
  where
    go : (b : Bool) → First (cond b ([] ∷ parts blank ([] ∷ []) xs) (onto x (parts blank ([] ∷ []) xs)))
    go true = record { first = []; rest = parts blank ([] ∷ []) xs; is = refl }
    go false = onto_some x (parts blank ([] ∷ []) xs)

-- std's split gives the words
onto_onto : (x : ℕ) (ps : List (List ℕ)) → onto x ps ≡ onto_first x ps
onto_onto x [] = refl
onto_onto x (p ∷ ps) = refl

pub words_split : (s : List ℕ) → words_in s ≡ slice_split (λ b. eqb b blank) s
unfolding words_in parts
words_split [] = refl
words_split (x ∷ xs) = ap₂ (λ l r. cond (eqb x blank) ([] ∷ l) r) (words_split xs) (onto_onto x (words_in xs) ∙ ap (onto_first x) (words_split xs))

-- the lines of an input
pub lines_none : lines_in [] ≡ []
unfolding lines_in parts
lines_none = refl

pub lines_last : (x : ℕ) (xs : List ℕ) → Lacks newline (x ∷ xs) → lines_in (x ∷ xs) ≡ (x ∷ xs) ∷ []
unfolding lines_in
lines_last x xs h = parts_whole newline [] (λ y. refl) x xs h

pub lines_more : (s : List ℕ) (n : ℕ) → n ≡ length (before newline s) → 0 < length s → lines_in s ≡ take n s ∷ lines_in (drop (n + 1) s)
unfolding lines_in
lines_more [] n e h = absurd (omega arith)
lines_more (x ∷ xs) n e h = go (eqb n (length (x ∷ xs))) refl
  where
    go : (b : Bool) → eqb n (length (x ∷ xs)) ≡ b → lines_in (x ∷ xs) ≡ take n (x ∷ xs) ∷ lines_in (drop (n + 1) (x ∷ xs))
    go true q =
        let l : n ≡ length (x ∷ xs) = eqb-true n (length (x ∷ xs)) q in
        lines_last x xs (before_lacks newline (x ∷ xs) (sym e ∙ l))
        ∙ sym (ap₂ ◌∷◌ (take_all n (x ∷ xs) (omega arith)) (ap lines_in (drop_of_length-le (x ∷ xs) {i = n + 1} (omega arith)) ∙ lines_none))
    go false q = rw (e, add-one) (parts_more newline [] (x ∷ xs) (omega (arith, before_short newline (x ∷ xs), eqb-false n (length (x ∷ xs)) q)))
