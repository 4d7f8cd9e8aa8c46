-- A word's ones are its marks that are set, and its trailing zeros stand before the first of them: by induction on the digits. Assumes nothing.
use mathlib.Core.Path.{◌≡◌, refl, sym, ap, ◌∙◌}
use mathlib.Core.Bool.{Bool, true, false, cond, not}
use mathlib.Core.List.{List}
use mathlib.Core.Logic.{◌⊎◌, inl, inr, ⊎_elim}
use Prim.Native.Nat.{ℕ, zero, suc, ◌+◌, ◌-◌, ◌*◌, ◌/◌, ◌%◌, ◌^◌, ◌≤◌, ◌<◌}
use native.Mathlib.Nat.{pow-suc, mod-lt, mod-eq_of_lt, mod-one, div-one, div-eq_of_lt, lt_of_lt_of_le}
use native.Mathlib.Omega.{arith}
use lib.Count.{ones, ones_cat, count_trailing_zeros, under}
use borrow.Author.Tests.{ltb-true, ltb-false}
use lib.Dec.{eqb, ltb, lit<}
use lib.ListN.{get_or}
use lib.Pow.{pow_pos, pow_mono, mod-pow-add, shr-shr, shl_exact}
use Rattle.octets.specs.Places.{tabulate}
use Rattle.octets.proofs.Places.{tabulate_get_d}
use Rattle.state.specs.Marks.{used, count_below}

-- digit b of word q is the mark of address 64 q + b
pub used_digit : (ws : List ℕ) (q b : ℕ) → b < 64 → used ws (q * 64 + b) ≡ eqb (get_or ws q 0 / 2 ^ b % 2) 1
unfolding used
used_digit ws q b h =
    let e : (q * 64 + b) / 64 ≡ q = omega arith in
    let f : (q * 64 + b) % 64 ≡ b = omega arith in
    rw (e, f)

-- 1 shifted within a word
pub one_shifted : (b : ℕ) → b < 64 → 1 * 2 ^ b % 18446744073709551616 ≡ 2 ^ b
one_shifted b h = shl_exact 1 b 64 (lit< tt) (omega arith) ∙ omega arith

ones_digit : (d : ℕ) → d < 2 → ones d ≡ d
unfolding ones
ones_digit zero h = refl
ones_digit (suc zero) h = refl
ones_digit (suc (suc d)) h = absurd (omega arith)

counted : (d n : ℕ) → d < 2 → cond (eqb d 1) (n + 1) n ≡ n + d
counted zero n h = omega arith
counted (suc zero) n h = refl
counted (suc (suc d)) n h = absurd (omega arith)

-- the ones of the k lowest digits, and of one more
ones_more : (k n : ℕ) → ones (n % 2 ^ suc k) ≡ ones (n % 2 ^ k) + n / 2 ^ k % 2
ones_more k n =
    let e : suc k ≡ 1 + k = omega arith in
    let d : n / 2 ^ k % 2 < 2 = omega arith in
    ap (λ (i : ℕ). ones (n % 2 ^ i)) e ∙ ap ones (mod-pow-add n 1 k) ∙ ones_cat k (n / 2 ^ k % 2) (n % 2 ^ k) (mod-lt n (pow_pos k))
    ∙ omega (arith, ones_digit (n / 2 ^ k % 2) d)

count_digits : (ws : List ℕ) (q k : ℕ) → k ≤ 64 → count_below (q * 64 + k) ws ≡ count_below (q * 64) ws + ones (get_or ws q 0 % 2 ^ k)
unfolding count_below ones
count_digits ws q zero h = rw (mod-one (get_or ws q 0)) (let e : q * 64 + 0 ≡ q * 64 = omega arith in rw e (omega arith))
count_digits ws q (suc k) h =
    let e : q * 64 + suc k ≡ suc (q * 64 + k) = omega arith in
    let d : get_or ws q 0 / 2 ^ k % 2 < 2 = omega arith in
    rw (e, used_digit ws q k h, counted (get_or ws q 0 / 2 ^ k % 2) (count_below (q * 64 + k) ws) d, count_digits ws q k (omega arith), ones_more k (get_or ws q 0)) (omega arith)

-- the count, a word further
pub count_word : (ws : List ℕ) (q : ℕ) → get_or ws q 0 < 2 ^ 64 → count_below ((q + 1) * 64) ws ≡ count_below (q * 64) ws + ones (get_or ws q 0)
count_word ws q h =
    let e : (q + 1) * 64 ≡ q * 64 + 64 = omega arith in
    ap (λ (n : ℕ). count_below n ws) e ∙ count_digits ws q 64 (omega arith) ∙ ap (λ (n : ℕ). count_below (q * 64) ws + ones n) (mod-eq_of_lt h)

digit_suc : (n j : ℕ) → n / 2 ^ suc j % 2 ≡ n / 2 / 2 ^ j % 2
digit_suc n j = let e : suc j ≡ 1 + j = omega arith in ap (λ (x : ℕ). x % 2) (ap (λ (i : ℕ). n / 2 ^ i) e ∙ sym (shr-shr n 1 j))

digit_zero : (n : ℕ) → n / 2 ^ 0 % 2 ≡ n % 2
digit_zero n = rw (div-one n)

-- t is the place of the first of n's k digits that is 1, or k
pub record FirstOne (k n t : ℕ) : Type 0 where
  pub below : (j : ℕ) → j < t → n / 2 ^ j % 2 ≡ 0
  pub one : t < k → n / 2 ^ t % 2 ≡ 1

first_more : (k n t d : ℕ) → n % 2 ≡ d → d < 2 → FirstOne k (n / 2) t → FirstOne (suc k) n (under d t)
first_more k n t (suc (suc d)) m h f = absurd (omega arith)
first_more k n t (suc zero) m h f = record { below = λ j g. absurd (omega arith); one = λ g. digit_zero n ∙ m }
first_more k n t zero m h f = record { below = zeros; one = λ g. digit_suc n t ∙ f.one (omega arith) }
  where
    zeros : (j : ℕ) → j < suc t → n / 2 ^ j % 2 ≡ 0
    zeros zero g = digit_zero n ∙ m
    zeros (suc j) g = digit_suc n j ∙ f.below j (omega arith)

pub first_one : (k n : ℕ) → FirstOne k n (count_trailing_zeros k n)
unfolding count_trailing_zeros
first_one zero n = record { below = λ j g. absurd (omega arith); one = λ g. absurd (omega arith) }
first_one (suc k) n = first_more k n (count_trailing_zeros k (n / 2)) (n % 2) refl (omega arith) (first_one k (n / 2))

-- a digit of a number of k digits, and that of its complement
pub digit_not : (k n j : ℕ) → n < 2 ^ k → j < k → ((2 ^ k - 1) - n) / 2 ^ j % 2 + n / 2 ^ j % 2 ≡ 1
digit_not zero n j h g = absurd (omega arith)
digit_not (suc k) n zero h g =
    let p : 2 ^ suc k ≡ 2 ^ k * 2 = pow-suc 2 k in
    rw (digit_zero n, digit_zero ((2 ^ suc k - 1) - n)) (omega arith)
digit_not (suc k) n (suc j) h g =
    let p : 2 ^ suc k ≡ 2 ^ k * 2 = pow-suc 2 k in
    let e : ((2 ^ suc k - 1) - n) / 2 ≡ (2 ^ k - 1) - n / 2 = omega arith in
    rw (digit_suc n j, digit_suc ((2 ^ suc k - 1) - n) j, e) (digit_not k (n / 2) j (omega arith) (omega arith))

-- two digits of which one is 1
other_digit : (x y : ℕ) → x + y ≡ 1 → eqb x 1 ≡ not (eqb y 1)
other_digit x zero e = let f : x ≡ 1 = omega arith in rw f refl
other_digit x (suc zero) e = let f : x ≡ 0 = omega arith in rw f refl
other_digit x (suc (suc y)) e = absurd (omega arith)

-- the words of which each is the complement of one of these
abbrev pub complements : List ℕ → List ℕ
complements ws = tabulate (λ q. (2 ^ 64 - 1) - get_or ws q 0) 16

-- their marks are set where these are not
pub used_complements : (ws : List ℕ) (a : ℕ) → a < 1024 → get_or ws (a / 64) 0 < 2 ^ 64 → used (complements ws) a ≡ not (used ws a)
unfolding used
used_complements ws a h w =
    let e = tabulate_get_d (λ q. (2 ^ 64 - 1) - get_or ws q 0) 16 (a / 64) (omega arith) in
    rw e (other_digit _ _ (digit_not 64 (get_or ws (a / 64) 0) (a % 64) w (omega arith)))

below_or_not : (a b : ℕ) → (a < b) ⊎ (b ≤ a)
below_or_not a b = side (ltb a b) refl
  where
    side : (t : Bool) → ltb a b ≡ t → (a < b) ⊎ (b ≤ a)
    side true e = inl (ltb-true a b e)
    side false e = inr (ltb-false a b e)

-- a number of k digits has no digit 1 past them
digit_past : (k n j : ℕ) → n < 2 ^ k → n / 2 ^ j % 2 ≡ 1 → j < k
digit_past k n j h e = ⊎_elim (λ l. l) (λ l. let z : n / 2 ^ j ≡ 0 = div-eq_of_lt (lt_of_lt_of_le h (pow_mono l)) in absurd (omega arith)) (below_or_not j k)

-- what holds of every address from a on below m, and from m on below n, holds of every one from a on below n
pub onwards : {P : ℕ → Type 0} {a : ℕ} (m n : ℕ) → ((b : ℕ) → a ≤ b → b < m → P b) → ((b : ℕ) → m ≤ b → b < n → P b) → (b : ℕ) → a ≤ b → b < n → P b
onwards m n f g b h l = ⊎_elim (f b h) (λ k. g b k l) (below_or_not b m)

-- ---- a word from its digit s on

module _ (ws : List ℕ) (q s : ℕ) (l : s < 64) where
  abbrev rest : ℕ
  rest = get_or ws q 0 / 2 ^ s

  used_rest : (j : ℕ) → s + j < 64 → used ws (q * 64 + s + j) ≡ eqb (rest / 2 ^ j % 2) 1
  used_rest j h =
      let e : q * 64 + s + j ≡ q * 64 + (s + j) = omega arith in
      ap (used ws) e ∙ used_digit ws q (s + j) h ∙ ap (λ (x : ℕ). eqb (x % 2) 1) (sym (shr-shr (get_or ws q 0) s j))

  -- before its first one no address is in use; at its first one the address is
  pub gap : (t : ℕ) → FirstOne 64 rest t → (b : ℕ) → q * 64 + s ≤ b → b < q * 64 + s + t → b < q * 64 + 64 → used ws b ≡ false
  gap t f b h g k =
      let e : b ≡ q * 64 + s + (b - (q * 64 + s)) = omega arith in
      ap (used ws) e ∙ used_rest (b - (q * 64 + s)) (omega arith) ∙ ap (λ (d : ℕ). eqb d 1) (f.below (b - (q * 64 + s)) (omega arith))

  pub found : (t : ℕ) → get_or ws q 0 < 2 ^ 64 → FirstOne 64 rest t → t < 64 → (s + t < 64) × (used ws (q * 64 + s + t) ≡ true)
  found t w f h =
      let p : s + t < 64 = digit_past 64 (get_or ws q 0) (s + t) w (ap (λ (x : ℕ). x % 2) (sym (shr-shr (get_or ws q 0) s t)) ∙ f.one h) in
      (p, used_rest t p ∙ ap (λ (d : ℕ). eqb d 1) (f.one h))

-- ---- a whole word

module _ (ws : List ℕ) (q : ℕ) where
  pub word_gap : (t : ℕ) → FirstOne 64 (get_or ws q 0) t → t ≤ 64 → (b : ℕ) → q * 64 ≤ b → b < q * 64 + t → used ws b ≡ false
  word_gap t f k b h g =
      let e : b ≡ q * 64 + (b - q * 64) = omega arith in
      ap (used ws) e ∙ used_digit ws q (b - q * 64) (omega arith) ∙ ap (λ (d : ℕ). eqb d 1) (f.below (b - q * 64) (omega arith))

  pub word_found : (t : ℕ) → FirstOne 64 (get_or ws q 0) t → t < 64 → used ws (q * 64 + t) ≡ true
  word_found t f h = used_digit ws q t h ∙ ap (λ (d : ℕ). eqb d 1) (f.one h)
