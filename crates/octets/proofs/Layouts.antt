-- Parts and the number that they make determine each other: by induction on the widths. Assumes nothing.
use mathlib.Core.Path.{◌≡◌, refl, sym, ap, ap₂, ◌∙◌}
use mathlib.Core.Bool.{Bool, true, false, ◌&&◌}
use mathlib.Core.List.{List, [], ◌∷◌, ◌++◌}
use Prim.Native.Nat.{ℕ, zero, suc, ◌+◌, ◌*◌, ◌/◌, ◌%◌, ◌^◌, ◌≤◌, ◌<◌}
use native.Mathlib.Nat.{mod-lt, mod-eq_of_lt, mul-le-mul_right, suc-mul, add-mul, mul_assoc, div-one, pow-succ'}
use native.Mathlib.Omega.{arith}
use lib.ListN.{length, get_or, length-replicate, length-append, replicate-append-replicate}
use lib.Dec.{T, ltb}
use lib.Pow.{pow_pos, pow-add, high, low, field, mod-pow-add, mod-mod-pow}
use borrow.Author.Tests.{ltb-true}
use Rattle.std.specs.Int.{w16, w32, bytes_high_first, from_be_bytes}
use Rattle.octets.specs.Layout.{total, join, split, Fit, none, more, octets, number, bytes}

-- ---- any widths

digit : (v q P j : ℕ) → v < q → j < P → v * P + j < q * P
digit v q P j h g = let m : suc v * P ≤ q * P = mul-le-mul_right P h in omega (arith, suc-mul v P)

pub join_below : {ws vs : List ℕ} → Fit ws vs → join ws vs < 2 ^ total ws
unfolding join total
join_below none = omega arith
join_below (more {w} {v} {ws} {vs} h f) = rw (pow-add 2 w (total ws)) (digit v (2 ^ w) (2 ^ total ws) (join ws vs) h (join_below f))

pub split_fits : (ws : List ℕ) (n : ℕ) → Fit ws (split ws n)
unfolding split
split_fits [] n = none
split_fits (w ∷ ws) n = more (mod-lt (n / 2 ^ total ws) (pow_pos w)) (split_fits ws n)

-- a number's parts make it again, up to the bits that the widths have
pub join_split_mod : (ws : List ℕ) (n : ℕ) → join ws (split ws n) ≡ n % 2 ^ total ws
unfolding join split total
join_split_mod [] n = omega arith
join_split_mod (w ∷ ws) n =
    ap (λ (x : ℕ). n / 2 ^ total ws % 2 ^ w * 2 ^ total ws + x) (join_split_mod ws n) ∙ sym (mod-pow-add n w (total ws))

pub join_split : (ws : List ℕ) (n : ℕ) → n < 2 ^ total ws → join ws (split ws n) ≡ n
join_split ws n h = join_split_mod ws n ∙ mod-eq_of_lt h

-- the parts depend on those bits alone
pub split_mod : (ws : List ℕ) (n : ℕ) → split ws (n % 2 ^ total ws) ≡ split ws n
unfolding split total
split_mod [] n = refl
split_mod (w ∷ ws) n =
    let head : n % 2 ^ (w + total ws) / 2 ^ total ws % 2 ^ w ≡ n / 2 ^ total ws % 2 ^ w = rw (field n w (total ws)) (mod-eq_of_lt (mod-lt (n / 2 ^ total ws) (pow_pos w))) in
    let rest : split ws (n % 2 ^ (w + total ws)) ≡ split ws n = sym (split_mod ws (n % 2 ^ (w + total ws))) ∙ ap (split ws) (mod-mod-pow n w (total ws)) ∙ split_mod ws n in
    ap₂ (λ (x : ℕ) (l : List ℕ). x ∷ l) head rest

pub split_join : {ws vs : List ℕ} → Fit ws vs → split ws (join ws vs) ≡ vs
unfolding join split
split_join none = refl
split_join (more {w} {v} {ws} {vs} h f) =
    let n : ℕ = v * 2 ^ total ws + join ws vs in
    let head : n / 2 ^ total ws % 2 ^ w ≡ v = rw (high v (total ws) (join_below f)) (mod-eq_of_lt h) in
    let rest : split ws n ≡ vs = sym (split_mod ws n) ∙ ap (split ws) (low v (total ws) (join_below f)) ∙ split_join f in
    ap₂ (λ (x : ℕ) (l : List ℕ). x ∷ l) head rest

pub split_length : (ws : List ℕ) (n : ℕ) → length (split ws n) ≡ length ws
unfolding split
split_length [] n = refl
split_length (w ∷ ws) n = ap suc (split_length ws n)

pub fit_length : {ws vs : List ℕ} → Fit ws vs → length vs ≡ length ws
fit_length none = refl
fit_length (more h f) = ap suc (fit_length f)

-- ---- two layouts of one number

-- the parts of one layout are read off the other
pub meet : (ws vs : List ℕ) {us ds : List ℕ} → Fit us ds → join ws vs ≡ join us ds → split us (join ws vs) ≡ ds
meet ws vs {us} f e = ap (split us) e ∙ split_join f

pub total_append : (ws us : List ℕ) → total (ws ++ us) ≡ total ws + total us
unfolding total
total_append [] us = omega arith
total_append (w ∷ ws) us = omega (arith, total_append ws us)

regroup : (v P Q j k : ℕ) → v * (P * Q) + (j * Q + k) ≡ (v * P + j) * Q + k
regroup v P Q j k = omega (arith, add-mul (v * P) j Q, mul_assoc v P Q)

pub join_append : (ws vs us ds : List ℕ) → length ws ≡ length vs → join (ws ++ us) (vs ++ ds) ≡ join ws vs * 2 ^ total us + join us ds
unfolding join
join_append [] [] us ds l = omega arith
join_append [] (v ∷ vs) us ds l = absurd (omega arith)
join_append (w ∷ ws) [] us ds l = absurd (omega arith)
join_append (w ∷ ws) (v ∷ vs) us ds l =
    let q : 2 ^ total (ws ++ us) ≡ 2 ^ total ws * 2 ^ total us = ap (λ (k : ℕ). 2 ^ k) (total_append ws us) ∙ pow-add 2 (total ws) (total us) in
    ap₂ (λ (x y : ℕ). v * x + y) q (join_append ws vs us ds (omega arith)) ∙ regroup v (2 ^ total ws) (2 ^ total us) (join ws vs) (join us ds)

-- ---- ways to show that parts fit

-- a part for each width, as a product: for lists that are written out
abbrev pub Each : List ℕ → List ℕ → Type 0
Each [] [] = Unit
Each [] (v ∷ vs) = ⊥
Each (w ∷ ws) [] = ⊥
Each (w ∷ ws) (v ∷ vs) = (v < 2 ^ w) × Each ws vs

pub fit_each : (ws vs : List ℕ) → Each ws vs → Fit ws vs
fit_each [] [] e = none
fit_each [] (v ∷ vs) e = absurd e
fit_each (w ∷ ws) [] e = absurd e
fit_each (w ∷ ws) (v ∷ vs) e = more e.0 (fit_each ws vs e.1)

pub fit_append : {ws vs us ds : List ℕ} → Fit ws vs → Fit us ds → Fit (ws ++ us) (vs ++ ds)
fit_append none g = g
fit_append (more h f) g = more h (fit_append f g)

-- a test that computes: for closed lists, as `fit-test ws vs tt`
abbrev pub fits : List ℕ → List ℕ → Bool
fits [] [] = true
fits [] (v ∷ vs) = false
fits (w ∷ ws) [] = false
fits (w ∷ ws) (v ∷ vs) = ltb v (2 ^ w) && fits ws vs

test_head : (w v : ℕ) (ws vs : List ℕ) (t : Bool) → ltb v (2 ^ w) ≡ t → T (t && fits ws vs) → (T (fits ws vs) → Fit ws vs) → Fit (w ∷ ws) (v ∷ vs)
test_head w v ws vs true h e f = more (ltb-true v (2 ^ w) h) (f e)
test_head w v ws vs false h e f = absurd e

pub fit_test : (ws vs : List ℕ) → T (fits ws vs) → Fit ws vs
fit_test [] [] e = none
fit_test [] (v ∷ vs) e = absurd e
fit_test (w ∷ ws) [] e = absurd e
fit_test (w ∷ ws) (v ∷ vs) e = test_head w v ws vs (ltb v (2 ^ w)) refl e (fit_test ws vs)

-- a list of n bytes
pub fit_bytes : (n : ℕ) (p : List ℕ) → length p ≡ n → ((i : ℕ) → get_or p i 0 < 2 ^ 8) → Fit (octets n) p
fit_bytes zero [] e g = none
fit_bytes zero (x ∷ p) e g = absurd (omega arith)
fit_bytes (suc n) [] e g = absurd (omega arith)
fit_bytes (suc n) (x ∷ p) e g = more (g 0) (fit_bytes n p (omega arith) (λ i. g (suc i)))

-- ---- bytes

pub octets_total : (n : ℕ) → total (octets n) ≡ 8 * n
unfolding total
octets_total zero = refl
octets_total (suc n) = omega (arith, octets_total n)

-- the bound of w bytes, either way
pub pow_bytes : (w : ℕ) → 2 ^ (8 * w) ≡ 256 ^ w
pow_bytes zero = refl
pow_bytes (suc w) = let e : 8 * suc w ≡ 8 + 8 * w = omega arith in ap (λ (k : ℕ). 2 ^ k) e ∙ pow-add 2 8 (8 * w) ∙ ap (λ (x : ℕ). 256 * x) (pow_bytes w) ∙ sym (pow-succ' 256 w)

pub bytes_length : (w n : ℕ) → length (bytes w n) ≡ w
unfolding bytes
bytes_length w n = split_length (octets w) n ∙ length-replicate w 8

pub number_bytes_mod : (w n : ℕ) → number (bytes w n) ≡ n % 2 ^ (8 * w)
unfolding number bytes
number_bytes_mod w n = rw (bytes_length w n) (join_split_mod (octets w) n ∙ ap (λ (k : ℕ). n % 2 ^ k) (octets_total w))

pub number_bytes : (w n : ℕ) → n < 2 ^ (8 * w) → number (bytes w n) ≡ n
number_bytes w n h = number_bytes_mod w n ∙ mod-eq_of_lt h

pub bytes_injective : (w : ℕ) {m n : ℕ} → m < 2 ^ (8 * w) → n < 2 ^ (8 * w) → bytes w m ≡ bytes w n → m ≡ n
bytes_injective w {m} {n} h g e = sym (number_bytes w m h) ∙ ap number e ∙ number_bytes w n g

pub number_below : (w : ℕ) {bs : List ℕ} → Fit (octets w) bs → number bs < 2 ^ (8 * w)
unfolding number
number_below w {bs} f =
    let l : length bs ≡ w = fit_length f ∙ length-replicate w 8 in
    let h : join (octets w) bs < 2 ^ (8 * w) = rw (octets_total w) at (join_below f) in
    rw l h

pub bytes_number : (w : ℕ) {bs : List ℕ} → Fit (octets w) bs → bytes w (number bs) ≡ bs
unfolding number bytes
bytes_number w {bs} f = let l : length bs ≡ w = fit_length f ∙ length-replicate w 8 in rw l (split_join f)

-- a number as a layout of so many bytes
pub number_join : (w : ℕ) (bs : List ℕ) → length bs ≡ w → number bs ≡ join (octets w) bs
unfolding number
number_join w bs l = rw l

pub number_append : (ds bs : List ℕ) → number (ds ++ bs) ≡ number ds * 2 ^ (8 * length bs) + number bs
unfolding number
number_append ds bs =
    let w : octets (length (ds ++ bs)) ≡ octets (length ds) ++ octets (length bs) = ap octets (length-append ds bs) ∙ sym (replicate-append-replicate (length ds) (length bs) 8) in
    ap (λ (ws : List ℕ). join ws (ds ++ bs)) w ∙ join_append (octets (length ds)) ds (octets (length bs)) bs (length-replicate (length ds) 8)
    ∙ ap (λ (k : ℕ). join (octets (length ds)) ds * 2 ^ k + join (octets (length bs)) bs) (octets_total (length bs))

-- ---- the library's words

-- the bytes that `to_be_bytes` gives
pub bytes_high : (w n : ℕ) → bytes_high_first w n ≡ bytes w n
unfolding bytes split total
bytes_high zero n = refl
bytes_high (suc zero) n = ap (λ (m : ℕ). m % 256 ∷ []) (sym (div-one n))
bytes_high (suc (suc w)) n =
    ap₂ (λ (m : ℕ) (l : List ℕ). n / m % 256 ∷ l) (sym (pow_bytes (suc w)) ∙ ap (λ (k : ℕ). 2 ^ k) (sym (octets_total (suc w)))) (bytes_high (suc w) n)

-- the numbers that `from_be_bytes` gives
pub number_2 : (a b : ℕ) → from_be_bytes w16 (a ∷ b ∷ []) ≡ number (a ∷ b ∷ [])
unfolding number join total
number_2 a b = omega arith

pub number_4 : (a b c d : ℕ) → from_be_bytes w32 (a ∷ b ∷ c ∷ d ∷ []) ≡ number (a ∷ b ∷ c ∷ d ∷ [])
unfolding number join total
number_4 a b c d = omega arith
