-- Words and blocks of a list are those of the part that holds them, so a message can be hashed in two parts, the first of whole blocks:
-- by induction on the number of blocks. Assumes nothing.
use mathlib.Core.Path.{◌≡◌, refl, ap, ap₂, ◌∙◌}
use mathlib.Core.List.{List, [], ◌∷◌, ◌++◌, append_assoc}
use Prim.Native.Nat.{ℕ, zero, suc, ◌+◌, ◌*◌, ◌/◌, ◌≤◌}
use native.Mathlib.Nat.{add-zero, add-suc}
use native.Mathlib.Omega.{arith}
use lib.ListN.{length, get_or, take, drop, length-append, length-drop}
use lib.Seq.{drop-cons, drop-append-le, take-append-le, drop-append-add}
use Rattle.octets.specs.Layout.{number}
use Rattle.octets.proofs.Places.{tabulate_ext}
use Rattle.constants.specs.Constants.{H0}
use Rattle.compress.specs.Compress.{compress}
use Rattle.sha256.specs.Sha256.{padding, padded, word, block, hashed, absorbed, hash_bytes, sha256, finished}

-- ---- a word, by its bytes
pub word_get_d : (p : List ℕ) (i : ℕ) → i + 4 ≤ length p → word p i ≡ number (get_or p i 0 ∷ get_or p (i + 1) 0 ∷ get_or p (i + 2) 0 ∷ get_or p (i + 3) 0 ∷ [])
unfolding word
word_get_d p i h =
    let one : i + 1 ≡ suc i = omega arith in
    let two : i + 2 ≡ suc (suc i) = omega arith in
    let three : i + 3 ≡ suc (suc (suc i)) = omega arith in
    rw (one, two, three)
    (rw (drop-cons p i 0 (omega arith), drop-cons p (suc i) 0 (omega arith), drop-cons p (suc (suc i)) 0 (omega arith), drop-cons p (suc (suc (suc i))) 0 (omega arith)) refl)

-- ---- two lists, one after the other
module _ (p q : List ℕ) where
  pub word_first : (i : ℕ) → i + 4 ≤ length p → word (p ++ q) i ≡ word p i
  unfolding word
  word_first i h = rw (drop-append-le i p q (omega arith)) (ap number (take-append-le 4 (drop i p) q (rw length-drop (omega arith))))

  pub block_first : (i : ℕ) → 64 * i + 64 ≤ length p → block (p ++ q) i ≡ block p i
  unfolding block
  block_first i h = tabulate_ext _ _ 16 (λ j l. word_first (64 * i + 4 * j) (omega arith))

  hashed_first : (h : List ℕ) (i : ℕ) → 64 * i ≤ length p → hashed i h (p ++ q) ≡ hashed i h p
  unfolding hashed
  hashed_first h zero l = refl
  hashed_first h (suc i) l = ap₂ compress (hashed_first h i (omega arith)) (block_first i (omega arith))

  word_later : (i k : ℕ) → k ≡ length p + i → word (p ++ q) k ≡ word q i
  unfolding word
  word_later i k e = rw e (ap (λ (l : List ℕ). number (take 4 l)) (drop-append-add p q i))

-- ---- the first of them in whole blocks
module _ (b : ℕ) (p q : List ℕ) (e : length p ≡ 64 * b) where
  block_later : (i : ℕ) → block (p ++ q) (b + i) ≡ block q i
  unfolding block
  block_later i = tabulate_ext _ _ 16 (λ j l. word_later p q (64 * i + 4 * j) (64 * (b + i) + 4 * j) (omega arith))

  hashed_later : (h : List ℕ) (i : ℕ) → hashed (b + i) h (p ++ q) ≡ hashed i (hashed b h p) q
  unfolding hashed
  hashed_later h zero = rw add-zero (hashed_first p q h b (omega arith))
  hashed_later h (suc i) = rw add-suc (ap₂ compress (hashed_later h i) (block_later i))

  pub absorbed_append : (h : List ℕ) → absorbed h (p ++ q) ≡ absorbed (absorbed h p) q
  unfolding absorbed
  absorbed_append h =
      let n : length (p ++ q) / 64 ≡ b + length q / 64 = rw length-append (omega arith) in
      let m : length p / 64 ≡ b = omega arith in
      rw (n, m) (hashed_later h (length q / 64))

pub padded_append : (n : ℕ) (p m : List ℕ) → padded n (p ++ m) ≡ p ++ padded n m
unfolding padded
padded_append n p m = append_assoc p m (padding (8 * n))

-- a message that begins with b whole blocks p is finished from p's hash
pub finished_append : (b : ℕ) (p m h : List ℕ) (a : ℕ) → length p ≡ 64 * b → finished h a (p ++ m) ≡ finished (absorbed h p) (a + b) m
unfolding finished
finished_append b p m h a e =
    let n : 64 * a + length (p ++ m) ≡ 64 * (a + b) + length m = rw length-append (omega arith) in
    rw (n, padded_append) (absorbed_append b p (padded (64 * (a + b) + length m) m) e h)

pub sha256_finished : (m : List ℕ) → sha256 m ≡ hash_bytes (finished H0 0 m)
unfolding sha256 finished
sha256_finished m = let n : length m ≡ 64 * 0 + length m = omega arith in ap (λ (k : ℕ). hash_bytes (absorbed H0 (padded k m))) n

pub sha256_append : (b : ℕ) (p m : List ℕ) → length p ≡ 64 * b → sha256 (p ++ m) ≡ hash_bytes (finished (absorbed H0 p) b m)
sha256_append b p m e = let n : 0 + b ≡ b = omega arith in sha256_finished (p ++ m) ∙ ap hash_bytes (finished_append b p m H0 0 e ∙ ap (λ (k : ℕ). finished (absorbed H0 p) k m) n)
