-- Decimals and hex digits: a number is the value of its decimal, and a word of digits without a leading zero is the decimal of its value. By induction on
-- the digits, the last one first. Assumes nothing.
use borrow.Author.Tests.{ltb-true, ltb-false, eqb-true, lt-ltb, le-ltb, eq-eqb}
use mathlib.Core.Path.{◌≡◌, refl, sym, ap, ◌∙◌}
use mathlib.Core.Bool.{Bool, true, false}
use mathlib.Core.List.{List, [], ◌∷◌, ◌++◌}
use mathlib.Core.Logic.{◌⊎◌, inl, inr, ⊎_elim}
use native.Mathlib.Omega.{arith}
use Prim.Native.Nat.{ℕ, zero, suc, ◌+◌, ◌-◌, ◌*◌, ◌/◌, ◌%◌, ◌^◌, ◌≤◌, ◌<◌}
use lib.Dec.{ltb, eqb}
use lib.ListN.{length, get_or, length-append, get_or-append}
use Rattle.std.specs.Prelude.{Some, None}
use Rattle.text.specs.Text.{decimal_up, decimal, glyph, hex}
use Rattle.octets.specs.Places.{same}
use Rattle.text.specs.Read.{decimal_in, hex_in}
use Rattle.text.specs.Digits.{digit_in}
use Rattle.text.proofs.Each.{Each, each_append}
use Rattle.octets.proofs.Same.{same_refl, same_eq}
use Rattle.text.proofs.Seeks.{seek_is, seek_none, seek_found}

-- one digit, and a digit more
up_small : (k n : ℕ) → n < 10 → decimal_up k n ≡ (48 + n) ∷ []
unfolding decimal_up
up_small zero n h = refl
up_small (suc k) n h = rw (lt-ltb n 10 h)

up_more : (k n : ℕ) → 10 ≤ n → decimal_up (suc k) n ≡ decimal_up k (n / 10) ++ ((48 + n % 10) ∷ [])
unfolding decimal_up
up_more k n h = rw (le-ltb n 10 h)

-- by induction on the digits: a claim of each number below 10, and of a number if it holds of its tenth
module _ (P : ℕ → List ℕ → Type 0) (small : (n : ℕ) → n < 10 → P n ((48 + n) ∷ [])) (more : (n : ℕ) (l : List ℕ) → 10 ≤ n → P (n / 10) l → P n (l ++ ((48 + n % 10) ∷ []))) where
  up_all : (k n : ℕ) → n ≤ k → P n (decimal_up k n)
  up_all zero n h = rw (up_small zero n (omega arith)) (small n (omega arith))
  up_all (suc k) n h = go (ltb n 10) refl (up_all k (n / 10))
    where
      go : (b : Bool) → ltb n 10 ≡ b → (n / 10 ≤ k → P (n / 10) (decimal_up k (n / 10))) → P n (decimal_up (suc k) n)
      go true e r = rw (up_small (suc k) n (ltb-true n 10 e)) (small n (ltb-true n 10 e))
      go false e r = rw (up_more k n (ltb-false n 10 e)) (more n (decimal_up k (n / 10)) (ltb-false n 10 e) (r (omega (arith, ltb-false n 10 e))))

  pub decimal_all : (n : ℕ) → P n (decimal n)
  unfolding decimal
  decimal_all n = up_all n n (omega arith)

-- any k that is large enough gives the decimal
up_enough : (j k n : ℕ) → n ≤ j → n ≤ k → decimal_up j n ≡ decimal_up k n
up_enough j k n h g = up_all (λ m l. (i : ℕ) → m ≤ i → l ≡ decimal_up i m) (λ m s i q. sym (up_small i m s)) step j n h k g
  where
    step : (m : ℕ) (l : List ℕ) → 10 ≤ m → ((i : ℕ) → m / 10 ≤ i → l ≡ decimal_up i (m / 10)) → (i : ℕ) → m ≤ i → l ++ ((48 + m % 10) ∷ []) ≡ decimal_up i m
    step m l t r zero q = absurd (omega arith)
    step m l t r (suc i) q = ap (λ x. x ++ ((48 + m % 10) ∷ [])) (r i (omega arith)) ∙ sym (up_more i m t)

pub decimal_small : (n : ℕ) → n < 10 → decimal n ≡ (48 + n) ∷ []
unfolding decimal
decimal_small n h = up_small n n h

pub decimal_more : (n d : ℕ) → 0 < n → d < 10 → decimal (10 * n + d) ≡ decimal n ++ ((48 + d) ∷ [])
unfolding decimal
decimal_more n d h g =
    let m = 10 * n + d in
    let q : (10 * n + d) / 10 ≡ n = omega arith in
    let r : (10 * n + d) % 10 ≡ d = omega arith in
    up_enough m (suc m) m (omega arith) (omega arith) ∙ up_more m m (omega arith) ∙ rw (q, r, up_enough m n n (omega arith) (omega arith))

-- a number has no more digits than a larger power of ten has zeros
pub decimal_length : (n k : ℕ) → n < 10 ^ suc k → length (decimal n) ≤ suc k
decimal_length = decimal_all (λ m l. (k : ℕ) → m < 10 ^ suc k → length l ≤ suc k) (λ m h k g. omega arith) more
  where
    more : (m : ℕ) (l : List ℕ) → 10 ≤ m → ((k : ℕ) → m / 10 < 10 ^ suc k → length l ≤ suc k) → (k : ℕ) → m < 10 ^ suc k → length (l ++ ((48 + m % 10) ∷ [])) ≤ suc k
    more m l h r zero g = absurd (omega arith)
    more m l h r (suc k) g = omega (arith, length-append l ((48 + m % 10) ∷ []), r k (omega arith))

-- the value of some digits after a value
abbrev value : ℕ → List ℕ → ℕ
value v [] = v
value v (x ∷ xs) = value (10 * v + (x - 48)) xs

value_append : (v : ℕ) (xs ys : List ℕ) → value v (xs ++ ys) ≡ value (value v xs) ys
value_append v [] ys = refl
value_append v (x ∷ xs) ys = value_append (10 * v + (x - 48)) xs ys

value_grows : (v : ℕ) (l : List ℕ) → v ≤ value v l
value_grows v [] = omega arith
value_grows v (x ∷ xs) = omega (arith, value_grows (10 * v + (x - 48)) xs)

decimal_value : (n : ℕ) → value 0 (decimal n) ≡ n
decimal_value n = decimal_all (λ m l. value 0 l ≡ m) (λ m h. omega arith) (λ m l h r. value_append 0 l ((48 + m % 10) ∷ []) ∙ rw r (omega arith)) n

-- a number has one decimal, and no smaller number's decimal begins with it
pub decimal_once : (m n : ℕ) → decimal m ≡ decimal n → m ≡ n
decimal_once m n e = sym (decimal_value m) ∙ ap (value 0) e ∙ decimal_value n

pub decimal_prefix : (m n : ℕ) (l : List ℕ) → decimal n ≡ decimal m ++ l → m ≤ n
decimal_prefix m n l e =
    let q : n ≡ value (value 0 (decimal m)) l = sym (decimal_value n) ∙ ap (value 0) e ∙ value_append 0 (decimal m) l in
    omega (arith, decimal_value m, value_grows (value 0 (decimal m)) l)

-- each digit is one, and the first of several is not 0
abbrev pub Digit : ℕ → Type 0
Digit x = (48 ≤ x) × (x ≤ 57)

pub decimal_digits : (n : ℕ) → Each Digit (decimal n)
unfolding Each
decimal_digits n = decimal_all (λ m l. Each Digit l) (λ m h. ((omega arith, omega arith), tt)) (λ m l h r. each_append Digit l ((48 + m % 10) ∷ []) r ((omega arith, omega arith), tt)) n

abbrev pub Leads : ℕ → List ℕ → Type 0
Leads n l = (0 < length l) × (0 < n → 48 < get_or l 0 0) × (n ≡ 0 → length l ≡ 1)

leads_more : (n : ℕ) (l : List ℕ) → 10 ≤ n → Leads (n / 10) l → Leads n (l ++ ((48 + n % 10) ∷ []))
leads_more n l h r =
    (omega (arith, length-append l ((48 + n % 10) ∷ [])), (λ p. rw (get_or-append l ((48 + n % 10) ∷ []) 0 0 r.0) (r.1 (omega arith))), λ z. omega arith)

pub decimal_leads : (n : ℕ) → Leads n (decimal n)
decimal_leads n = decimal_all Leads (λ m h. (omega arith, (λ p. omega arith), λ z. refl)) leads_more n

-- the number that a word writes in decimal
pub decimal_is : (w : List ℕ) (n : ℕ) → n < 65536 → decimal n ≡ w → decimal_in w ≡ Some n
unfolding decimal_in
decimal_is w n h e =
    seek_is (λ m. same (decimal m) w) 65536 n h (rw e (same_refl w)) (λ m g t. decimal_once m n (same_eq (decimal m) w t ∙ sym e))

pub decimal_none : (w : List ℕ) → ((n : ℕ) → n < 65536 → decimal n ≡ w → ⊥) → decimal_in w ≡ None
unfolding decimal_in
decimal_none w u = seek_none (λ m. same (decimal m) w) 65536 (λ m g t. u m g (same_eq (decimal m) w t))

-- hex digits
pub glyph_low : (d : ℕ) → d < 10 → glyph d ≡ 48 + d
unfolding glyph
glyph_low d h = rw (lt-ltb d 10 h)

pub glyph_high : (d : ℕ) → 10 ≤ d → glyph d ≡ 87 + d
unfolding glyph
glyph_high d h = rw (le-ltb d 10 h)

glyph_either : (d : ℕ) → ((d < 10) × (glyph d ≡ 48 + d)) ⊎ ((10 ≤ d) × (glyph d ≡ 87 + d))
glyph_either d = go (ltb d 10) refl
  where
    go : (b : Bool) → ltb d 10 ≡ b → ((d < 10) × (glyph d ≡ 48 + d)) ⊎ ((10 ≤ d) × (glyph d ≡ 87 + d))
    go true e = inl (ltb-true d 10 e, glyph_low d (ltb-true d 10 e))
    go false e = inr (ltb-false d 10 e, glyph_high d (ltb-false d 10 e))

glyph_above : (d : ℕ) → 48 ≤ glyph d
glyph_above d = ⊎_elim (λ p. omega arith) (λ p. omega arith) (glyph_either d)

glyph_once : (c d : ℕ) → c < 16 → d < 16 → glyph c ≡ glyph d → c ≡ d
glyph_once c d h g e = go (glyph_either c) (glyph_either d)
  where
    go : ((c < 10) × (glyph c ≡ 48 + c)) ⊎ ((10 ≤ c) × (glyph c ≡ 87 + c)) → ((d < 10) × (glyph d ≡ 48 + d)) ⊎ ((10 ≤ d) × (glyph d ≡ 87 + d)) → c ≡ d
    go (inl p) (inl q) = omega arith
    go (inl p) (inr q) = omega arith
    go (inr p) (inl q) = omega arith
    go (inr p) (inr q) = omega arith

pub digit_is : (b d : ℕ) → d < 16 → glyph d ≡ b → digit_in b ≡ Some d
unfolding digit_in
digit_is b d h e = seek_is (λ c. eqb (glyph c) b) 16 d h (eq-eqb (glyph d) b e) (λ m g t. glyph_once m d g h (eqb-true (glyph m) b t ∙ sym e))

pub digit_low : (b d : ℕ) → d < 10 → 48 + d ≡ b → digit_in b ≡ Some d
digit_low b d h e = digit_is b d (omega arith) (glyph_low d h ∙ e)

pub digit_high : (b d : ℕ) → 10 ≤ d → d < 16 → 87 + d ≡ b → digit_in b ≡ Some d
digit_high b d g h e = digit_is b d h (glyph_high d g ∙ e)

pub digit_none : (b : ℕ) → ((d : ℕ) → d < 10 → 48 + d ≡ b → ⊥) → ((d : ℕ) → 10 ≤ d → d < 16 → 87 + d ≡ b → ⊥) → digit_in b ≡ None
unfolding digit_in
digit_none b u v = seek_none (λ c. eqb (glyph c) b) 16 (λ m g t. go m g (eqb-true (glyph m) b t) (glyph_either m))
  where
    go : (m : ℕ) → m < 16 → glyph m ≡ b → ((m < 10) × (glyph m ≡ 48 + m)) ⊎ ((10 ≤ m) × (glyph m ≡ 87 + m)) → ⊥
    go m g e (inl p) = u m p.0 (sym p.1 ∙ e)
    go m g e (inr p) = v m p.0 g (sym p.1 ∙ e)

-- a byte whose digit is found is that digit
pub digit_glyph : (b d : ℕ) → digit_in b ≡ Some d → (d < 16) × (glyph d ≡ b)
unfolding digit_in
digit_glyph b d e = let f = seek_found (λ c. eqb (glyph c) b) 16 d e in (f.0, eqb-true (glyph d) b f.1)

pub digit_glyph_low : (b d : ℕ) → digit_in b ≡ Some d → d < 10 → 48 + d ≡ b
digit_glyph_low b d e h = sym (glyph_low d h) ∙ (digit_glyph b d e).1

hex_once : (b c : ℕ) → b < 256 → c < 256 → hex b ≡ hex c → b ≡ c
unfolding hex
hex_once b c h g e =
    let p : b / 16 ≡ c / 16 = glyph_once (b / 16) (c / 16) (omega arith) (omega arith) (ap (λ l. get_or l 0 0) e) in
    let q : b % 16 ≡ c % 16 = glyph_once (b % 16) (c % 16) (omega arith) (omega arith) (ap (λ l. get_or l 1 0) e) in
    omega arith

pub hex_digits : (b : ℕ) → Each (λ x. 48 ≤ x) (hex b)
unfolding Each hex
hex_digits b = (glyph_above (b / 16), (glyph_above (b % 16), tt))

-- the byte that a word writes in hex
pub hex_is : (w : List ℕ) (b : ℕ) → b < 256 → hex b ≡ w → hex_in w ≡ Some b
unfolding hex_in
hex_is w b h e = seek_is (λ c. same (hex c) w) 256 b h (rw e (same_refl w)) (λ m g t. hex_once m b g h (same_eq (hex m) w t ∙ sym e))

pub hex_none : (w : List ℕ) → ((b : ℕ) → b < 256 → hex b ≡ w → ⊥) → hex_in w ≡ None
unfolding hex_in
hex_none w u = seek_none (λ m. same (hex m) w) 256 (λ m g t. u m g (same_eq (hex m) w t))

pub hex_two : (w : List ℕ) (h l : ℕ) → length w ≡ 2 → digit_in (get_or w 0 0) ≡ Some h → digit_in (get_or w 1 0) ≡ Some l → hex_in w ≡ Some (16 * h + l)
unfolding hex
hex_two [] h l n p q = absurd (omega arith)
hex_two (x ∷ []) h l n p q = absurd (omega arith)
hex_two (x ∷ y ∷ []) h l n p q =
    let a = digit_glyph x h p in
    let b = digit_glyph y l q in
    let u : (16 * h + l) / 16 ≡ h = omega (arith, a.0, b.0) in
    let v : (16 * h + l) % 16 ≡ l = omega (arith, a.0, b.0) in
    hex_is (x ∷ y ∷ []) (16 * h + l) (omega (arith, a.0, b.0)) (rw (u, v, a.1, b.1))
hex_two (x ∷ y ∷ z ∷ zs) h l n p q = absurd (omega arith)

pub hex_sized : (w : List ℕ) → (length w ≡ 2 → ⊥) → hex_in w ≡ None
unfolding hex
hex_sized w n = hex_none w (λ b h e. n (sym (ap length e)))

-- one of the two is no digit
pub hex_high : (w : List ℕ) → digit_in (get_or w 0 0) ≡ None → hex_in w ≡ None
unfolding hex
hex_high w q = hex_none w (λ b g e. let p = digit_is (get_or w 0 0) (b / 16) (omega arith) (ap (λ l. get_or l 0 0) e) in let z : ◌≡◌ {A = ℕ} 0 1 = cc in omega arith)

pub hex_low : (w : List ℕ) → digit_in (get_or w 1 0) ≡ None → hex_in w ≡ None
unfolding hex
hex_low w q = hex_none w (λ b g e. let p = digit_is (get_or w 1 0) (b % 16) (omega arith) (ap (λ l. get_or l 1 0) e) in let z : ◌≡◌ {A = ℕ} 0 1 = cc in omega arith)
