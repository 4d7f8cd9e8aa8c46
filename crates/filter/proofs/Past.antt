-- A bit past a length is set exactly when something is left once the bits before it are shifted out; and the low k bits of a number are clear
-- exactly when it is 0 modulo 2 ^ k. Assumes nothing.
use mathlib.Core.Path.{◌≡◌, refl, sym, ap, ap₂, ◌∙◌}
use mathlib.Core.Bool.{Bool, true, false, cond, not}
use mathlib.Core.List.{List}
use Prim.Native.Nat.{ℕ, zero, suc, ◌+◌, ◌-◌, ◌*◌, ◌/◌, ◌%◌, ◌^◌, ◌≤◌, ◌<◌}
use native.Mathlib.Nat.{add-zero, mul-mod_left, zero-mul, suc-mul, mod-one, zero-mod}
use native.Mathlib.Numerals.{one-add}
use native.Mathlib.Omega.{arith}
use lib.Dec.{eqb, ltb}
use lib.ListN.{length}
use lib.Pow.{pow_pos, mod-pow-add, mod-mod-pow, shl-shr}
use borrow.Author.Tests.{eq-eqb, ne_eqb, eqb-true, eqb-false, ltb-true, ltb-false, not-false}
use Rattle.octets.specs.Layout.{number}
use Rattle.filter.specs.Filter.{set_past, bit}

-- a number of two digits is 0 exactly when both are
both_zero : (x P y : ℕ) → 0 < P → x * P + y ≡ 0 → (x ≡ 0) × (y ≡ 0)
both_zero zero P y h e = (refl, omega (arith, zero-mul P))
both_zero (suc x) P y h e = absurd (omega (arith, suc-mul x P))

-- what is left of n when of 128 bits the first l are shifted out
shifted : (n l : ℕ) → l < 128 → n * 2 ^ l % 2 ^ 128 ≡ n % 2 ^ (128 - l) * 2 ^ l
shifted n l h =
    let d : 128 ≡ (128 - l) + l = omega arith in
    ap (λ (x : ℕ). n * 2 ^ l % 2 ^ x) d ∙ mod-pow-add (n * 2 ^ l) (128 - l) l
    ∙ ap₂ (λ (x y : ℕ). x % 2 ^ (128 - l) * 2 ^ l + y) (shl-shr n l) (mul-mod_left n (2 ^ l)) ∙ add-zero _

shifted_zero : (x l : ℕ) → (t : Bool) → eqb x 0 ≡ t → eqb (x * 2 ^ l) 0 ≡ t
shifted_zero x l true e = ap (λ (y : ℕ). eqb (y * 2 ^ l) 0) (eqb-true x 0 e) ∙ ap (λ (y : ℕ). eqb y 0) (zero-mul (2 ^ l))
shifted_zero x l false e = ne_eqb (x * 2 ^ l) 0 (λ z. eqb-false x 0 e (both_zero x (2 ^ l) 0 (pow_pos l) (add-zero _ ∙ z)).0)

-- the bits past the first l are what is left of the number
pub set_shifted : (p : List ℕ) (l : ℕ) → length p ≡ 16 → not (eqb (cond (ltb l 128) (number p * 2 ^ l % 2 ^ 128) 0) 0) ≡ set_past p l
unfolding set_past
set_shifted p l n = go (ltb l 128) refl
  where
    go : (t : Bool) → ltb l 128 ≡ t → not (eqb (cond t (number p * 2 ^ l % 2 ^ 128) 0) 0) ≡ not (eqb (number p % 2 ^ (8 * length p - l)) 0)
    go true e =
        let d : 128 - l ≡ 8 * length p - l = omega arith in
        ap not
        (ap (λ (x : ℕ). eqb x 0) (shifted (number p) l (ltb-true l 128 e)) ∙ shifted_zero (number p % 2 ^ (128 - l)) l _ refl
        ∙ ap (λ (x : ℕ). eqb (number p % 2 ^ x) 0) d)
    go false e =
        let z : 0 ≡ 8 * length p - l = omega (arith, ltb-false l 128 e) in
        ap (λ (x : ℕ). not (eqb x 0)) (sym (mod-one (number p)) ∙ ap (λ (x : ℕ). number p % 2 ^ x) z)

-- bit by bit
pub bits_clear : (k n : ℕ) → ((i : ℕ) → i < k → n / 2 ^ i % 2 ≡ 0) → n % 2 ^ k ≡ 0
bits_clear zero n h = mod-one n
bits_clear (suc k) n h =
    ap (λ (x : ℕ). n % 2 ^ x) (sym (one-add k)) ∙ mod-pow-add n 1 k ∙ ap₂ (λ (x y : ℕ). x * 2 ^ k + y) (h k (omega arith)) (bits_clear k n (λ i g. h i (omega arith)))
    ∙ omega (arith, zero-mul (2 ^ k))

pub clear_bits : (k n : ℕ) → n % 2 ^ k ≡ 0 → (i : ℕ) → i < k → n / 2 ^ i % 2 ≡ 0
clear_bits k n z i h =
    let d : k ≡ (k - (1 + i)) + (1 + i) = omega arith in
    let e : n % 2 ^ (1 + i) ≡ n % 2 ^ k % 2 ^ (1 + i) = sym (mod-mod-pow n (k - (1 + i)) (1 + i)) ∙ ap (λ (x : ℕ). n % 2 ^ x % 2 ^ (1 + i)) (sym d) in
    (both_zero (n / 2 ^ i % 2) (2 ^ i) (n % 2 ^ i) (pow_pos i) (sym (mod-pow-add n 1 i) ∙ e ∙ ap (λ (x : ℕ). x % 2 ^ (1 + i)) z ∙ zero-mod (2 ^ (1 + i)))).0

-- no bit of 16 bytes past the first l is set: bit by bit, as the rules say it
pub past_bits : (p : List ℕ) (l : ℕ) → length p ≡ 16 → set_past p l ≡ false → (i : ℕ) → l ≤ i → i < 128 → bit p i ≡ 0
unfolding set_past
past_bits p l n e i h g =
    let z : number p % 2 ^ (8 * length p - l) ≡ 0 = eqb-true _ 0 (not-false _ e) in
    clear_bits (8 * length p - l) (number p) z (127 - i) (omega arith)

pub bits_past : (p : List ℕ) (l : ℕ) → length p ≡ 16 → ((i : ℕ) → l ≤ i → i < 128 → bit p i ≡ 0) → set_past p l ≡ false
unfolding set_past
bits_past p l n h =
    let turned : (i : ℕ) → i < 8 * length p - l → number p / 2 ^ i % 2 ≡ 0 =
    λ i g. (let e : 127 - (127 - i) ≡ i = omega arith in rw e at (h (127 - i) (omega arith) (omega arith))) in
    simp (eq-eqb _ 0 (bits_clear (8 * length p - l) (number p) turned))
