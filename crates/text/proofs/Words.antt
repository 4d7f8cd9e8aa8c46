-- A word is read digit by digit: what is read so far is the decimal of the number so far. Assumes nothing.
use mathlib.Core.Path.{◌≡◌, refl, sym, ap, ◌∙◌}
use mathlib.Core.List.{List, ◌++◌}
use mathlib.Core.Logic.{◌⊎◌, ⊎_elim}
use native.Mathlib.Omega.{arith}
use native.Mathlib.Numerals.{add-one}
use Prim.Native.Nat.{ℕ, zero, suc, ◌+◌, ◌-◌, ◌*◌, ◌≤◌, ◌<◌}
use lib.ListN.{length, get_or, take, drop, take-append-drop}
use lib.Seq.{take-suc, take_all}
use Rattle.std.specs.Prelude.{Some, None}
use Rattle.text.specs.Text.{decimal}
use Rattle.text.specs.Read.{decimal_in}
use Rattle.text.specs.Digits.{digit_in}
use Rattle.text.proofs.Each.{each_at}
use Rattle.text.proofs.Numerals.{Digit, Leads, decimal_small, decimal_more, decimal_prefix, decimal_digits, decimal_leads, decimal_is, decimal_none, digit_low, digit_glyph_low}

-- a word that is no decimal
pub decimal_empty : (w : List ℕ) → length w ≡ 0 → decimal_in w ≡ None
decimal_empty w h = decimal_none w (λ n g e. omega (arith, (decimal_leads n).0, ap length e))

pub decimal_led : (w : List ℕ) → get_or w 0 0 ≡ 48 → 1 < length w → decimal_in w ≡ None
decimal_led w z n = decimal_none w (λ m g e. none m (rw e at (decimal_leads m)))
  where
    none : (m : ℕ) → Leads m w → ⊥
    none zero l = omega (arith, l.2 refl)
    none (suc m) l = omega (arith, l.1 (omega arith))

-- a byte of a decimal is a digit below ten
digit_at : (w : List ℕ) (i n : ℕ) → i < length w → decimal n ≡ w → digit_in (get_or w i 0) ≡ Some (get_or w i 0 - 48)
digit_at w i n h e = let x = each_at Digit w i (rw e at (decimal_digits n)) h in digit_low (get_or w i 0) (get_or w i 0 - 48) (omega (arith, x)) (omega (arith, x))

pub decimal_stray : (w : List ℕ) (i : ℕ) → i < length w → digit_in (get_or w i 0) ≡ None → decimal_in w ≡ None
decimal_stray w i h q = decimal_none w (λ n _ e. let p = digit_at w i n h e in let z : ◌≡◌ {A = ℕ} 0 1 = cc in omega arith)

pub decimal_letter : (w : List ℕ) (i d : ℕ) → i < length w → digit_in (get_or w i 0) ≡ Some d → 9 < d → decimal_in w ≡ None
decimal_letter w i d h q g = decimal_none w (λ n _ e.
    let p = digit_at w i n h e in
    let x = each_at Digit w i (rw e at (decimal_digits n)) h in
    let z : d ≡ get_or w i 0 - 48 = cc in
    omega (arith, x))

-- n is what the first i digits of a word write
unfoldable pub Read : List ℕ → ℕ → ℕ → Type 0
Read w n i = (0 < i → decimal n ≡ take i w) × (0 < i → 1 < length w → 0 < n) × (i ≡ 0 → n ≡ 0)

pub read_none : (w : List ℕ) → Read w 0 0
unfolding Read
read_none w = ((λ h. absurd (omega arith)), (λ h. absurd (omega arith)), λ z. refl)

pub read_more : (w : List ℕ) (x n i d : ℕ) → x ≡ get_or w 0 0 → ((x ≡ 48) × (length w ≤ 1)) ⊎ (x ≡ 48 → ⊥) → i < length w → Read w n i → digit_in (get_or w i 0) ≡ Some d → d ≤ 9 → Read w (10 * n + d) (i + 1)
unfolding Read
read_more w x n zero d s f h r q g =
    let e : 48 + d ≡ get_or w 0 0 = digit_glyph_low (get_or w 0 0) d q (omega arith) in
    let z : 10 * n + d ≡ d = omega (arith, r.2 refl) in
    ((λ _. rw z (decimal_small d (omega arith) ∙ rw e (sym (take-suc w 0 0 h)))), (λ _ m. ⊎_elim (λ p. omega arith) (λ p. omega (arith, p)) f), λ y. absurd (omega arith))
read_more w x n (suc i) d s f h r q g =
    let e : 48 + d ≡ get_or w (suc i) 0 = digit_glyph_low (get_or w (suc i) 0) d q (omega arith) in
    let p : 0 < n = r.1 (omega arith) (omega arith) in
    ((λ _. decimal_more n d p (omega arith) ∙ rw (r.0 (omega arith), e, add-one (suc i)) (sym (take-suc w (suc i) 0 h))), (λ _ _. omega arith), λ y. absurd (omega arith))

-- the number is too large, or the word is read whole
pub read_over : (w : List ℕ) (n i : ℕ) → Read w n (i + 1) → 65535 < n → decimal_in w ≡ None
unfolding Read
read_over w n i r h =
    decimal_none w (λ m g e. omega (arith, decimal_prefix n m (drop (i + 1) w) (e ∙ sym (take-append-drop (i + 1) w) ∙ ap (λ l. l ++ drop (i + 1) w) (sym (r.0 (omega arith))))))

pub read_whole : (w : List ℕ) (n i : ℕ) → Read w n i → 0 < length w → length w ≤ i → n ≤ 65535 → decimal_in w ≡ Some n
unfolding Read
read_whole w n i r p l h = decimal_is w n (omega arith) (r.0 (omega arith) ∙ take_all i w l)
