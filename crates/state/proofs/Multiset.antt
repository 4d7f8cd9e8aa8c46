-- The hash of a multiset takes one entry more by its tag, and depends only on how often each entry occurs: exclusive-ors can change places. Assumes nothing.
use mathlib.Core.Path.{◌≡◌, refl, sym, ap, ap₂, ◌∙◌, subst}
use mathlib.Core.Bool.{Bool, true, false, ◌&&◌}
use mathlib.Core.List.{List, [], ◌∷◌, ◌++◌, map, append-nil}
use mathlib.Core.Logic.{◌⊎◌, inl, inr}
use Prim.Native.Nat.{ℕ, zero, suc, ◌+◌, ◌/◌, ◌%◌, ◌^◌, ◌<◌}
use native.Mathlib.Omega.{arith}
use lib.Arith.{bin_ind}
use lib.Bits.{bit_xor, xor_zero_l, xor_comm, xor_self, xor_shr, xor_mod}
use lib.Dec.{eqb}
use lib.ListN.{length, replicate, length-append}
use borrow.Author.Tests.{eqb-true, eq-eqb}
use Rattle.octets.specs.Places.{xor, same}
use Rattle.octets.proofs.Same.{both, same_refl, same_eq}
use Rattle.state.specs.Cells.{Entry}
use Rattle.state.specs.Multiset.{xor_all, hash, empty_hash, with_tag, same_hash}
use Rattle.state.specs.Counts.{same_entry, once, times}
use Rattle.state.specs.declared.Hash.{Hash}

-- ---- the tests of equality

pub same_entry_true : (d e : Entry) → same_entry d e ≡ true → d ≡ e
unfolding same_entry
same_entry_true d e h =
    let p = both (eqb d.address e.address) (same d.value e.value && eqb d.stamp e.stamp) h in
    let q = both (same d.value e.value) (eqb d.stamp e.stamp) p.1 in
    let a = eqb-true d.address e.address p.0 in
    let v = same_eq d.value e.value q.0 in
    let t = eqb-true d.stamp e.stamp q.1 in
    λ i. record { address = a i; value = v i; stamp = t i }

pub same_entry_refl : (e : Entry) → same_entry e e ≡ true
unfolding same_entry
same_entry_refl e = rw (eq-eqb e.address e.address refl, same_refl e.value, eq-eqb e.stamp e.stamp refl)

-- two hashes pass the test exactly when they are equal
pub same_hash_true : (p q : Hash) → same_hash p q ≡ true → p ≡ q
unfolding same_hash
same_hash_true p q e =
    let b = both (same p.tag q.tag) (eqb p.number q.number) e in
    let t = same_eq p.tag q.tag b.0 in
    let n = eqb-true p.number q.number b.1 in
    λ i. record { tag = t i; number = n i }

pub equal_same_hash : (p q : Hash) → p ≡ q → same_hash p q ≡ true
unfolding same_hash
equal_same_hash p q e = rw (e, same_refl q.tag, eq-eqb q.number q.number refl)

-- ---- exclusive-ors change places

xor_digits : (x a b : ℕ) → x < 2 → a < 2 → b < 2 → bit_xor (bit_xor x a) b ≡ bit_xor (bit_xor x b) a
xor_digits x a b hx ha hb = go (digit x hx) (digit a ha) (digit b hb)
  where
    digit : (n : ℕ) → n < 2 → (n ≡ 0) ⊎ (n ≡ 1)
    digit zero h = inl refl
    digit (suc zero) h = inr refl
    digit (suc (suc n)) h = absurd (omega arith)

    go : (x ≡ 0) ⊎ (x ≡ 1) → (a ≡ 0) ⊎ (a ≡ 1) → (b ≡ 0) ⊎ (b ≡ 1) → bit_xor (bit_xor x a) b ≡ bit_xor (bit_xor x b) a
    go (inl p) (inl q) (inl r) = rw (p, q, r)
    go (inl p) (inl q) (inr r) = rw (p, q, r)
    go (inl p) (inr q) (inl r) = rw (p, q, r)
    go (inl p) (inr q) (inr r) = rw (p, q, r)
    go (inr p) (inl q) (inl r) = rw (p, q, r)
    go (inr p) (inl q) (inr r) = rw (p, q, r)
    go (inr p) (inr q) (inl r) = rw (p, q, r)
    go (inr p) (inr q) (inr r) = rw (p, q, r)

number_swap : (x a b : ℕ) → bit_xor (bit_xor x a) b ≡ bit_xor (bit_xor x b) a
number_swap =
    bin_ind (λ (x : ℕ). (a b : ℕ) → bit_xor (bit_xor x a) b ≡ bit_xor (bit_xor x b) a)
    (λ a b. rw (xor_zero_l a, xor_zero_l b) (xor_comm a b))
    (λ x ih a b.
    let half : (c d : ℕ) → bit_xor (bit_xor x c) d / 2 ≡ bit_xor (bit_xor (x / 2) (c / 2)) (d / 2) = λ c d. xor_shr (bit_xor x c) d 1 ∙ ap (λ (y : ℕ). bit_xor y (d / 2)) (xor_shr x c 1) in
    let low : (c d : ℕ) → bit_xor (bit_xor x c) d % 2 ≡ bit_xor (bit_xor (x % 2) (c % 2)) (d % 2) = λ c d. xor_mod (bit_xor x c) d 1 ∙ ap (λ (y : ℕ). bit_xor y (d % 2)) (xor_mod x c 1) in
    joined (half a b ∙ ih (a / 2) (b / 2) ∙ sym (half b a)) (low a b ∙ xor_digits (x % 2) (a % 2) (b % 2) (omega arith) (omega arith) (omega arith) ∙ sym (low b a)))
  where
    joined : {p q : ℕ} → p / 2 ≡ q / 2 → p % 2 ≡ q % 2 → p ≡ q
    joined e f = omega arith

xor_swap : (x a b : List ℕ) → xor (xor x a) b ≡ xor (xor x b) a
unfolding xor
xor_swap [] a b = refl
xor_swap (x ∷ xs) [] [] = refl
xor_swap (x ∷ xs) [] (b ∷ bs) = refl
xor_swap (x ∷ xs) (a ∷ as') [] = refl
xor_swap (x ∷ xs) (a ∷ as') (b ∷ bs) = ap₂ ◌∷◌ (number_swap x a b) (xor_swap xs as' bs)

with_tag_swap : (h : Hash) (a b : List ℕ) → with_tag (with_tag h a) b ≡ with_tag (with_tag h b) a
unfolding with_tag
with_tag_swap h a b = λ i. record { tag = xor_swap h.tag a b i; number = ((h.number + 1) % 2 ^ 32 + 1) % 2 ^ 32 }

-- ---- counts

-- one entry taken out of a list
times_out : (c : Entry) (p : List Entry) (e : Entry) (q : List Entry) → times c (p ++ (e ∷ q)) ≡ once (same_entry c e) + times c (p ++ q)
unfolding times
times_out c [] e q = refl
times_out c (d ∷ p) e q = omega (arith, times_out c p e q)

pub times_append : (c : Entry) (p q : List Entry) → times c (p ++ q) ≡ times c p + times c q
unfolding times
times_append c [] q = omega arith
times_append c (d ∷ p) q = omega (arith, times_append c p q)

pub times_last : (c : Entry) (p : List Entry) (e : Entry) → times c (p ++ (e ∷ [])) ≡ once (same_entry c e) + times c p
times_last c p e = times_out c p e [] ∙ ap (λ (l : List Entry). once (same_entry c e) + times c l) (append-nil p)

pub times_self : (e : Entry) (p : List Entry) → times e (p ++ (e ∷ [])) ≡ 1 + times e p
times_self e p = times_last e p e ∙ rw (same_entry_refl e)

-- an entry that is counted stands somewhere
find : (e : Entry) (l : List Entry) → 0 < times e l → (p : List Entry) × (q : List Entry) × (l ≡ p ++ (e ∷ q))
unfolding times
find e [] h = absurd (omega arith)
find e (d ∷ l) h = go (same_entry e d) refl (find e l)
  where
    go : (b : Bool) → same_entry e d ≡ b → (0 < times e l → (p : List Entry) × (q : List Entry) × (l ≡ p ++ (e ∷ q))) → (p : List Entry) × (q : List Entry) × (d ∷ l ≡ p ++ (e ∷ q))
    go true k f = ([], l, ap (λ (y : Entry). y ∷ l) (sym (same_entry_true e d k)))
    go false k f =
        let z : once (same_entry e d) ≡ 0 = ap once k in
        let w = f (omega arith) in
        (d ∷ w.0, w.1, ap (λ (y : List Entry). d ∷ y) w.2)

-- an induction on two lists with equal counts: an entry of the first is taken out of both
by_counts : (P : List Entry → List Entry → Type 0) → P [] [] → ((e : Entry) (p q r : List Entry) → P p (q ++ r) → P (e ∷ p) (q ++ (e ∷ r)))
    → (p t : List Entry) → ((e : Entry) → times e p ≡ times e t) → P p t
unfolding times
by_counts P none more [] [] f = none
by_counts P none more [] (e ∷ t) f = let one : once (same_entry e e) ≡ 1 = ap once (same_entry_refl e) in absurd (omega (arith, f e))
by_counts P none more (e ∷ p) t f =
    let one : once (same_entry e e) ≡ 1 = ap once (same_entry_refl e) in
    let w = find e t (omega (arith, f e)) in
    let ih = by_counts P none more p (w.0 ++ w.1) (λ c. omega (arith, f c, ap (times c) w.2, times_out c w.0 e w.1)) in
    subst (P (e ∷ p)) (sym w.2) (more e p w.0 w.1 ih)

-- they are of one length
pub same_lengths : (p t : List Entry) → ((e : Entry) → times e p ≡ times e t) → length p ≡ length t
same_lengths = by_counts (λ p t. length p ≡ length t) refl (λ e p q r ih. omega (arith, length-append q (e ∷ r), length-append q r, ih))

-- ---- the hash

pub hash_none : (tag : Entry → List ℕ) → hash tag [] ≡ empty_hash
unfolding hash xor_all empty_hash
hash_none tag = refl

module _ (tag : Entry → List ℕ) where
  pub hash_cons : (e : Entry) (es : List Entry) → hash tag (e ∷ es) ≡ with_tag (hash tag es) (tag e)
  unfolding hash xor_all with_tag
  hash_cons e es =
      let n : suc (length es) % 2 ^ 32 ≡ (length es % 2 ^ 32 + 1) % 2 ^ 32 = omega arith in
      λ i. record { tag = xor (xor_all (map tag es)) (tag e); number = n i }

  hash_out : (p : List Entry) (e : Entry) (q : List Entry) → hash tag (p ++ (e ∷ q)) ≡ with_tag (hash tag (p ++ q)) (tag e)
  hash_out [] e q = hash_cons e q
  hash_out (d ∷ p) e q =
      hash_cons d (p ++ (e ∷ q)) ∙ ap (λ (h : Hash). with_tag h (tag d)) (hash_out p e q) ∙ with_tag_swap (hash tag (p ++ q)) (tag e) (tag d)
      ∙ ap (λ (h : Hash). with_tag h (tag e)) (sym (hash_cons d (p ++ q)))

  pub hash_last : (p : List Entry) (e : Entry) → hash tag (p ++ (e ∷ [])) ≡ with_tag (hash tag p) (tag e)
  hash_last p e = hash_out p e [] ∙ ap (λ (l : List Entry). with_tag (hash tag l) (tag e)) (append-nil p)

  -- equal counts give equal hashes: the order in which a multiset is listed is nothing to its hash
  pub same_counts : (p t : List Entry) → ((e : Entry) → times e p ≡ times e t) → hash tag p ≡ hash tag t
  same_counts =
      by_counts (λ p t. hash tag p ≡ hash tag t) refl (λ e p q r ih. hash_cons e p ∙ ap (λ (h : Hash). with_tag h (tag e)) ih ∙ sym (hash_out q e r))

  -- 01, example 14: {x, x} and {y, y} have equal hashes, for any tags of 32 bytes
  twice : (n : ℕ) (t : List ℕ) → length t ≡ n → xor (xor (replicate n 0) t) t ≡ replicate n 0
  unfolding xor
  twice zero [] h = refl
  twice zero (x ∷ t) h = absurd (omega arith)
  twice (suc n) [] h = absurd (omega arith)
  twice (suc n) (x ∷ t) h = ap₂ ◌∷◌ (xor_self x) (twice n t (omega arith))

  pub pairs : ((e : Entry) → length (tag e) ≡ 32) → (x y : Entry) → hash tag (x ∷ x ∷ []) ≡ hash tag (y ∷ y ∷ [])
  unfolding hash xor_all
  pairs size x y =
      let z : xor (xor (replicate 32 0) (tag x)) (tag x) ≡ xor (xor (replicate 32 0) (tag y)) (tag y) = twice 32 (tag x) (size x) ∙ sym (twice 32 (tag y) (size y)) in
      λ i. record { tag = z i; number = 2 }
