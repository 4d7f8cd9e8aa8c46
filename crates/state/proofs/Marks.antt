-- A mark is a digit of a word; one that is set or cleared leaves the others, by a test of the 64 x 64 places in a word. Assumes nothing.
use mathlib.Core.Path.{◌≡◌, refl, sym, ap, ◌∙◌}
use mathlib.Core.Bool.{Bool, true, false, cond, not, ◌&&◌, ◌||◌, false≢true}
use mathlib.Core.List.{List}
use mathlib.Core.Logic.{◌⊎◌, inl, inr, ◌≢◌}
use Prim.Native.Nat.{ℕ, zero, suc, ◌-◌, ◌/◌, ◌%◌, ◌^◌, ◌<◌}
use native.Mathlib.Nat.{zero-div}
use native.Mathlib.Omega.{arith}
use lib.Bits.{bit_and, bit_or, and_shr, and_mod, or_shr, or_mod}
use lib.Dec.{eqb}
use lib.ListN.{length, get_or, set, replicate, length-set, get_or-eq_default}
use lib.Seq.{get_or-set_same, get_or-set_other}
use borrow.Author.Tests.{eqb-true, eqb-false, eq-eqb, ne_eqb}
use Rattle.state.specs.Sizes.{addresses}
use Rattle.octets.proofs.Same.{both}
use Rattle.state.specs.Marks.{used, marked, unmarked}

-- ---- the digits of a word

digit : ℕ → ℕ → ℕ
digit w k = (w / 2 ^ k) % 2

or_digit : (x y k : ℕ) → digit (bit_or x y) k ≡ bit_or (digit x k) (digit y k)
unfolding digit
or_digit x y k = ap (λ (z : ℕ). z % 2) (or_shr x y k) ∙ or_mod (x / 2 ^ k) (y / 2 ^ k) 1

and_digit : (x y k : ℕ) → digit (bit_and x y) k ≡ bit_and (digit x k) (digit y k)
unfolding digit
and_digit x y k = ap (λ (z : ℕ). z % 2) (and_shr x y k) ∙ and_mod (x / 2 ^ k) (y / 2 ^ k) 1

-- a test at every number below n
below : (ℕ → Bool) → ℕ → Bool
below p zero = true
below p (suc n) = p n && below p n

below_at : (p : ℕ → Bool) (n i : ℕ) → below p n ≡ true → i < n → p i ≡ true
unfolding below
below_at p zero i e h = absurd (omega arith)
below_at p (suc n) i e h = go (eqb i n) refl (below_at p n i)
  where
    go : (t : Bool) → eqb i n ≡ t → (below p n ≡ true → i < n → p i ≡ true) → p i ≡ true
    go true q ih = ap p (eqb-true i n q) ∙ (both (p n) (below p n) e).0
    go false q ih = let d : i ≢ n = eqb-false i n q in ih (both (p n) (below p n) e).1 (omega arith)

-- of 2 ^ k the digit k is set and no other; of the mask that clears it, every other
place : ℕ → ℕ → Bool
place k j = eqb (digit (2 ^ k) j) (cond (eqb j k) 1 0) && eqb (digit (2 ^ 64 - 1 - 2 ^ k) j) (cond (eqb j k) 0 1)

places : below (λ k. below (place k) 64) 64 ≡ true
unfolding below place digit
places = refl

placed : (k j : ℕ) → k < 64 → j < 64 → (digit (2 ^ k) j ≡ cond (eqb j k) 1 0) × (digit (2 ^ 64 - 1 - 2 ^ k) j ≡ cond (eqb j k) 0 1)
unfolding place
placed k j h g =
    let p = below_at (place k) 64 j (below_at (λ k. below (place k) 64) 64 k places h) g in
    let q = both (eqb (digit (2 ^ k) j) (cond (eqb j k) 1 0)) (eqb (digit (2 ^ 64 - 1 - 2 ^ k) j) (cond (eqb j k) 0 1)) p in
    (eqb-true _ _ q.0, eqb-true _ _ q.1)

bit : (w k : ℕ) → (digit w k ≡ 0) ⊎ (digit w k ≡ 1)
unfolding digit
bit w k = go ((w / 2 ^ k) % 2) (omega arith)
  where
    go : (x : ℕ) → x < 2 → (x ≡ 0) ⊎ (x ≡ 1)
    go zero h = inl refl
    go (suc zero) h = inr refl
    go (suc (suc x)) h = absurd (omega arith)

set_digit : (w k j : ℕ) → k < 64 → j < 64 → eqb (digit (bit_or w (2 ^ k)) j) 1 ≡ (eqb j k || eqb (digit w j) 1)
set_digit w k j h g = rw (or_digit w (2 ^ k) j, (placed k j h g).0) (go (eqb j k) (bit w j))
  where
    go : (t : Bool) → (digit w j ≡ 0) ⊎ (digit w j ≡ 1) → eqb (bit_or (digit w j) (cond t 1 0)) 1 ≡ (t || eqb (digit w j) 1)
    go true (inl e) = rw e
    go true (inr e) = rw e
    go false (inl e) = rw e
    go false (inr e) = rw e

clear_digit : (w k j : ℕ) → k < 64 → j < 64 → eqb (digit (bit_and w (2 ^ 64 - 1 - 2 ^ k)) j) 1 ≡ (not (eqb j k) && eqb (digit w j) 1)
clear_digit w k j h g = rw (and_digit w (2 ^ 64 - 1 - 2 ^ k) j, (placed k j h g).1) (go (eqb j k) (bit w j))
  where
    go : (t : Bool) → (digit w j ≡ 0) ⊎ (digit w j ≡ 1) → eqb (bit_and (digit w j) (cond t 0 1)) 1 ≡ (not t && eqb (digit w j) 1)
    go true (inl e) = rw e
    go true (inr e) = rw e
    go false (inl e) = rw e
    go false (inr e) = rw e

-- ---- the marks

-- an address and another in one word: they are equal where their digits' places are
same_place : (a b : ℕ) → b / 64 ≡ a / 64 → eqb b a ≡ eqb (b % 64) (a % 64)
same_place a b q = go (eqb (b % 64) (a % 64)) refl
  where
    go : (t : Bool) → eqb (b % 64) (a % 64) ≡ t → eqb b a ≡ t
    go true e = let p = eqb-true (b % 64) (a % 64) e in eq-eqb b a (omega arith)
    go false e = let p = eqb-false (b % 64) (a % 64) e in ne_eqb b a (λ r. p (ap (λ (x : ℕ). x % 64) r))

module _ (ws : List ℕ) (a : ℕ) (sixteen : length ws ≡ 16) (h : a < addresses) where
  in_words : a / 64 < length ws
  unfolding addresses
  in_words = omega arith

  -- the mark of b after the word of a is set to v, by a rule on digits
  after_set : (v : ℕ) (f : Bool → Bool → Bool) → ((t : Bool) → f false t ≡ t)
      → ((j : ℕ) → j < 64 → eqb (digit v j) 1 ≡ f (eqb j (a % 64)) (eqb (digit (get_or ws (a / 64) 0) j) 1))
      → (b : ℕ) → used (set ws (a / 64) v) b ≡ f (eqb b a) (used ws b)
  unfolding used digit
  after_set v f other rule b = go (eqb (b / 64) (a / 64)) refl
    where
      go : (t : Bool) → eqb (b / 64) (a / 64) ≡ t → eqb (digit (get_or (set ws (a / 64) v) (b / 64) 0) (b % 64)) 1 ≡ f (eqb b a) (eqb (digit (get_or ws (b / 64) 0) (b % 64)) 1)
      go true e =
          let q = eqb-true (b / 64) (a / 64) e in
          rw (same_place a b q, q, get_or-set_same ws (a / 64) v 0 in_words) (rule (b % 64) (omega arith))
      go false e =
          let n = eqb-false (b / 64) (a / 64) e in
          rw (get_or-set_other ws (a / 64) (b / 64) v 0 n, ne_eqb b a (λ r. n (ap (λ (x : ℕ). x / 64) r))) (sym (other (eqb (digit (get_or ws (b / 64) 0) (b % 64)) 1)))

  pub used_marked : (b : ℕ) → used (marked ws a) b ≡ (eqb b a || used ws b)
  unfolding marked
  used_marked b =
      after_set (bit_or (get_or ws (a / 64) 0) (2 ^ (a % 64))) ◌||◌ (λ t. refl) (λ j g. set_digit (get_or ws (a / 64) 0) (a % 64) j (omega arith) g) b

  pub used_unmarked : (b : ℕ) → used (unmarked ws a) b ≡ (not (eqb b a) && used ws b)
  unfolding unmarked
  used_unmarked b =
      after_set (bit_and (get_or ws (a / 64) 0) (2 ^ 64 - 1 - 2 ^ (a % 64))) (λ s t. not s && t) (λ t. refl) (λ j g. clear_digit (get_or ws (a / 64) 0) (a % 64) j (omega arith) g) b

pub length_marked : (ws : List ℕ) (a : ℕ) → length (marked ws a) ≡ length ws
unfolding marked
length_marked ws a = length-set ws (a / 64) (bit_or (get_or ws (a / 64) 0) (2 ^ (a % 64)))

pub length_unmarked : (ws : List ℕ) (a : ℕ) → length (unmarked ws a) ≡ length ws
unfolding unmarked
length_unmarked ws a = length-set ws (a / 64) (bit_and (get_or ws (a / 64) 0) (2 ^ 64 - 1 - 2 ^ (a % 64)))

-- a word of zeros has no mark
unused : (ws : List ℕ) (a : ℕ) → get_or ws (a / 64) 0 ≡ 0 → used ws a ≡ false
unfolding used
unused ws a e = rw (e, zero-div (2 ^ (a % 64)))

-- no mark is set at first, and none past the last address
pub fresh_unused : (a : ℕ) → used (replicate 16 0) a ≡ false
fresh_unused a = unused (replicate 16 0) a (zeros 16 (a / 64))
  where
    zeros : (n i : ℕ) → ◌≡◌ {A = ℕ} (get_or (replicate n 0) i 0) 0
    zeros zero i = refl
    zeros (suc n) zero = refl
    zeros (suc n) (suc i) = zeros n i

pub used_is_below : (ws : List ℕ) (a : ℕ) → length ws ≡ 16 → used ws a ≡ true → a < addresses
unfolding addresses
used_is_below ws a l u = go (eqb (a / 1024) 0) refl
  where
    go : (t : Bool) → eqb (a / 1024) 0 ≡ t → a < 1024
    go true e = let z = eqb-true (a / 1024) 0 e in omega arith
    go false e =
        let z : a / 1024 ≢ 0 = eqb-false (a / 1024) 0 e in
        absurd (false≢true (sym (unused ws a (get_or-eq_default ws 0 (omega arith))) ∙ u))
