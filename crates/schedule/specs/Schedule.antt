-- SHA-256's message schedule, as FIPS 180-4 has it: the words W_0 .. W_63 of a block of sixteen.
-- Assumes nothing.
use Rattle.std.specs.Prelude.{◌≡◌, ℕ, zero, suc, ◌-◌, ◌<◌, ◌≤◌, cond, List, [], ◌∷◌, ◌++◌, length, nat_lt, slice_index, slice_index_or}
use Rattle.schedule.specs.Words.{◌⊕◌, ◌⊞◌, shr, rotr}

-- FIPS 180-4 (4.6)
abbrev pub σ0 : ℕ → ℕ
σ0 x = rotr 7 x ⊕ rotr 18 x ⊕ shr 3 x

-- FIPS 180-4 (4.7)
abbrev pub σ1 : ℕ → ℕ
σ1 x = rotr 17 x ⊕ rotr 19 x ⊕ shr 10 x

-- FIPS 180-4 §6.2.2, step 1, its second equation: W_t for t from 16 on, from the words w before it
abbrev pub following : List ℕ → ℕ → ℕ
following w t = σ1 (slice_index w (t - 2)) ⊞ slice_index_or w (t - 7) 0 ⊞ σ0 (slice_index w (t - 15)) ⊞ slice_index_or w (t - 16) 0

-- FIPS 180-4 §6.2.2, step 1: W_t, from the block m and the words w before W_t
unfoldable pub word : List ℕ → List ℕ → ℕ → ℕ
word m w t = cond (nat_lt t 16) (slice_index m t) (following w t)

-- FIPS 180-4 §6.2.2, step 1: the first t words of the schedule of the block m
unfoldable pub schedule : ℕ → List ℕ → List ℕ
schedule zero m = []
schedule (suc t) m = schedule t m ++ (word m (schedule t m) t ∷ [])

-- FIPS 180-4 §6.2.2, step 1, as its two equations have it: w is the schedule of the block m
pub record Scheduled (m w : List ℕ) : Type 0 where
  pub size : length w ≡ 64
  pub first : (t : ℕ) → t < 16 → slice_index w t ≡ slice_index m t
  pub later : (t : ℕ) → 16 ≤ t → t < 64 → slice_index w t ≡ following w t
