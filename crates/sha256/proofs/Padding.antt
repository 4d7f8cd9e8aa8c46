-- The padding is the standard's, and as bytes it is the mark, zeros and the count: both layouts make one number.
-- Assumes nothing.
use mathlib.Core.Path.{◌≡◌, refl, sym, ap, ap₂, ◌∙◌}
use mathlib.Core.List.{List, [], ◌∷◌, ◌++◌, append_assoc}
use Prim.Native.Nat.{ℕ, zero, suc, ◌+◌, ◌*◌, ◌/◌, ◌%◌, ◌^◌, ◌<◌, ◌≤◌}
use native.Mathlib.Omega.{arith}
use lib.Pow.{pow-add}
use lib.ListN.{length, get_or, replicate, length-append, length-replicate, replicate-append-replicate, get_or-eq_default}
use lib.Seq.{drop_at, take_all, append_snoc}
use Rattle.octets.specs.Layout.{total, join, split, Fit, none, more, octets, number, bytes}
use Rattle.octets.proofs.Layouts.{meet, total_append, octets_total, join_append, join_split, split_fits, fit_append, bytes_length, number_bytes}
use Rattle.sha256.specs.Sha256.{zero_bits, padding, padded, word, hashed, absorbed, finished}
use Rattle.sha256.proofs.Blocks.{word_get_d, word_first}

-- ---- §5.1.1: k solves l + 1 + k ≡ 448 modulo 512, and is the least that does
pub zero_bits_right : (l : ℕ) → (l + 1 + zero_bits l) % 512 ≡ 448
zero_bits_right l = omega arith

pub zero_bits_least : (l k : ℕ) → (l + 1 + k) % 512 ≡ 448 → zero_bits l ≤ k
zero_bits_least l k e = omega arith

-- ---- the padding, as bytes
join_zeros : (n : ℕ) → join (octets n) (replicate n 0) ≡ 0
unfolding join
join_zeros zero = refl
join_zeros (suc n) = omega (arith, join_zeros n)

fit_zeros : (n : ℕ) → Fit (octets n) (replicate n 0)
fit_zeros zero = none
fit_zeros (suc n) = more {w = 8} {v = 0} (omega arith) (fit_zeros n)

-- z zero bytes after the mark, and x in four bytes
abbrev tail : ℕ → ℕ → List ℕ
tail z x = replicate z 0 ++ bytes 4 x

abbrev tail_widths : ℕ → List ℕ
tail_widths z = octets z ++ octets 4

tail_total : (z : ℕ) → total (tail_widths z) ≡ 8 * z + 32
tail_total z = total_append (octets z) (octets 4) ∙ ap₂ (λ (a b : ℕ). a + b) (octets_total z) (octets_total 4)

tail_join : (z x : ℕ) → x < 2 ^ 32 → join (tail_widths z) (tail z x) ≡ x
unfolding bytes total
tail_join z x h =
    join_append (octets z) (replicate z 0) (octets 4) (bytes 4 x) (length-replicate z 8 ∙ sym (length-replicate z 0))
    ∙ omega (arith, join_zeros z, join_split (octets 4) x h)

tail_fits : (z x : ℕ) → Fit (tail_widths z) (tail z x)
unfolding bytes
tail_fits z x = fit_append (fit_zeros z) (split_fits (octets 4) x)

-- k = 8 y + 7 zero bits: seven in the mark's byte, and y bytes
marked_join : (y x : ℕ) → x < 2 ^ 32 → join (1 ∷ (8 * y + 7) ∷ 64 ∷ []) (1 ∷ 0 ∷ x ∷ []) ≡ join (8 ∷ tail_widths (y + 4)) (0x80 ∷ tail (y + 4) x)
unfolding join total
marked_join y x h =
    let t = tail_total (y + 4) in
    let e : 8 * y + 7 + (64 + 0) ≡ 7 + total (tail_widths (y + 4)) = omega arith in
    let q : 2 ^ (8 * y + 7 + (64 + 0)) ≡ 128 * 2 ^ total (tail_widths (y + 4)) = ap (λ (k : ℕ). 2 ^ k) e ∙ pow-add 2 7 (total (tail_widths (y + 4))) in
    omega (arith, q, tail_join (y + 4) x h)

marked_bytes : (y x w : ℕ) → x < 2 ^ 32 → w ≡ suc (y + 4 + 4) → bytes w (join (1 ∷ (8 * y + 7) ∷ 64 ∷ []) (1 ∷ 0 ∷ x ∷ [])) ≡ 0x80 ∷ tail (y + 4) x
unfolding bytes
marked_bytes y x w h e =
    let f : Fit (8 ∷ tail_widths (y + 4)) (0x80 ∷ tail (y + 4) x) = more {w = 8} {v = 0x80} (omega arith) (tail_fits (y + 4) x) in
    let u : octets w ≡ 8 ∷ tail_widths (y + 4) = ap octets e ∙ ap (λ (l : List ℕ). 8 ∷ l) (sym (replicate-append-replicate (y + 4) 4 8)) in
    ap (λ (l : List ℕ). split l (join (1 ∷ (8 * y + 7) ∷ 64 ∷ []) (1 ∷ 0 ∷ x ∷ []))) u ∙ meet (1 ∷ (8 * y + 7) ∷ 64 ∷ []) (1 ∷ 0 ∷ x ∷ []) f (marked_join y x h)

-- the zero bytes of the padding of a message of n bytes, its count's first four among them
abbrev pub zeros : ℕ → ℕ
zeros n = zero_bits (8 * n) / 8 + 4

padding_bytes : (n : ℕ) → 8 * n < 2 ^ 32 → padding (8 * n) ≡ 0x80 ∷ tail (zeros n) (8 * n)
unfolding padding
padding_bytes n h =
    let k = zero_bits (8 * n) in
    let e : k ≡ 8 * (k / 8) + 7 = omega arith in
    let w : (1 + k + 64) / 8 ≡ suc (k / 8 + 4 + 4) = omega arith in
    ap (λ (j : ℕ). bytes ((1 + k + 64) / 8) (join (1 ∷ j ∷ 64 ∷ []) (1 ∷ 0 ∷ 8 * n ∷ []))) e ∙ marked_bytes (k / 8) (8 * n) ((1 + k + 64) / 8) h w

-- ---- the rest m of a message of n bytes, which ends as the message does in its last block
abbrev pub with_mark : List ℕ → List ℕ
with_mark m = m ++ (0x80 ∷ [])

-- all but the count's last four bytes: past the mark there are zeros only
abbrev quiet : ℕ → List ℕ → List ℕ
quiet n m = with_mark m ++ replicate (zeros n) 0

padded_parts : (n : ℕ) (m : List ℕ) → 8 * n < 2 ^ 32 → padded n m ≡ quiet n m ++ bytes 4 (8 * n)
unfolding padded
padded_parts n m h =
    ap (λ (l : List ℕ). m ++ l) (padding_bytes n h)
    ∙ sym (ap (λ (l : List ℕ). l ++ bytes 4 (8 * n)) (append_snoc m 0x80 (replicate (zeros n) 0)) ∙ append_assoc m (0x80 ∷ replicate (zeros n) 0) (bytes 4 (8 * n)))

get_d_zeros : (k i : ℕ) → get_or {A = ℕ} (replicate k 0) i 0 ≡ 0
get_d_zeros zero i = refl
get_d_zeros (suc k) zero = refl
get_d_zeros (suc k) (suc i) = get_d_zeros k i

get_d_quiet : (xs : List ℕ) (k i : ℕ) → get_or (xs ++ replicate k 0) i 0 ≡ get_or xs i 0
get_d_quiet [] k i = get_d_zeros k i
get_d_quiet (x ∷ xs) k zero = refl
get_d_quiet (x ∷ xs) k (suc i) = get_d_quiet xs k i

module _ (n : ℕ) (m : List ℕ) (h : 8 * n < 2 ^ 32) (e : n % 64 ≡ length m % 64) where
  quiet_length : length (quiet n m) + 4 ≡ (length m + 72) / 64 * 64
  quiet_length = simp (length-append, length-replicate) (omega arith)

  pub padded_length : length (padded n m) ≡ (length m + 72) / 64 * 64
  padded_length = rw (padded_parts n m h, length-append, bytes_length) quiet_length

  pub word_count : (i : ℕ) → i + 4 ≡ (length m + 72) / 64 * 64 → word (padded n m) i ≡ 8 * n
  unfolding word
  word_count i g =
      let l : length (quiet n m) ≡ i = omega (arith, quiet_length) in
      let b = bytes_length 4 (8 * n) in
      rw (padded_parts n m h, drop_at (quiet n m) (bytes 4 (8 * n)) i l, take_all 4 (bytes 4 (8 * n)) (omega arith)) (number_bytes 4 (8 * n) h)

  pub word_marked : (i : ℕ) → i + 8 ≤ (length m + 72) / 64 * 64
      → word (padded n m) i ≡ number (get_or (with_mark m) i 0 ∷ get_or (with_mark m) (i + 1) 0 ∷ get_or (with_mark m) (i + 2) 0 ∷ get_or (with_mark m) (i + 3) 0 ∷ [])
  word_marked i g =
      let l = quiet_length in
      rw (padded_parts n m h, word_first (quiet n m) (bytes 4 (8 * n)) i (omega arith), word_get_d (quiet n m) i (omega arith)) (simp get_d_quiet)

  pub word_zero : (i : ℕ) → length m < i → i + 8 ≤ (length m + 72) / 64 * 64 → word (padded n m) i ≡ 0
  unfolding number join total
  word_zero i l g =
      let s = length-append m (0x80 ∷ []) in
      let past : (j : ℕ) → i ≤ j → get_or (with_mark m) j 0 ≡ 0 = λ j k. get_or-eq_default (with_mark m) 0 (omega arith) in
      word_marked i g ∙ simp (past i (omega arith), past (i + 1) (omega arith), past (i + 2) (omega arith), past (i + 3) (omega arith))

-- the rest of a message after whole blocks, taken in block by block
pub hashed_finished : (h : List ℕ) (before : ℕ) (m : List ℕ) (i : ℕ) → 8 * (64 * before + length m) < 2 ^ 32 → i ≡ (length m + 72) / 64
    → hashed i h (padded (64 * before + length m) m) ≡ finished h before m
unfolding finished absorbed
hashed_finished h before m i b e =
    let n = 64 * before + length m in
    let l = padded_length n m b (omega arith) in
    let k : i ≡ length (padded n m) / 64 = omega arith in
    ap (λ (j : ℕ). hashed j h (padded n m)) k
