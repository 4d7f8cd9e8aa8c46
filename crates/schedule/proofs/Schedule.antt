-- The schedule's words are those of the standard's two equations: a word reads only words before it, so that those made later leave it as it is.
-- Assumes nothing.
use Rattle.std.proofs.Common.{◌≡◌, ℕ, zero, suc, ◌+◌, ◌-◌, ◌<◌, ◌≤◌, List, [], ◌∷◌, ◌++◌, length, get_or, drop, set, sym, refl, ap, ◌∙◌, ⊎_elim, le_of_suc-le-suc, not-suc-le-zero, eq-or-lt_of_le, add-one, arith, length-append, le-ltb, lt-ltb}
use native.Mathlib.Decide.{dec_lt}
use lib.ListN.{get_or-append}
use lib.Seq.{get_or_at}
use Rattle.octets.specs.Places.{tabulate}
use Rattle.octets.proofs.Places.{fill_next, tabulate_own}
use Rattle.schedule.specs.Schedule.{following, word, schedule, Scheduled}

schedule_length : (t : ℕ) (m : List ℕ) → length (schedule t m) ≡ t
unfolding schedule
schedule_length zero m = refl
schedule_length (suc t) m = rw (length-append, add-one) (ap suc (schedule_length t m))

-- the standard's two cases
by_case : {A : Type 0} (t : ℕ) → (t < 16 → A) → (16 ≤ t → A) → A
by_case t f g = elim (dec_lt t 16) [ yes h ↦ f h | no n ↦ g (omega arith) ]

word_block : (m w : List ℕ) (t : ℕ) → t < 16 → word m w t ≡ get_or m t 0
unfolding word
word_block m w t h = rw (lt-ltb t 16 h)

word_later : (m w : List ℕ) (t : ℕ) → 16 ≤ t → word m w t ≡ following w t
unfolding word
word_later m w t h = rw (le-ltb t 16 h)

word_append : (m a b : List ℕ) (t : ℕ) → t ≤ length a → word m (a ++ b) t ≡ word m a t
word_append m a b t e =
    by_case t (λ h. word_block m (a ++ b) t h ∙ sym (word_block m a t h))
    (λ h. rw (word_later m (a ++ b) t h, word_later m a t h) (simp (
      get_or-append a b 0 (t - 2) (omega arith),
      get_or-append a b 0 (t - 7) (omega arith),
      get_or-append a b 0 (t - 15) (omega arith),
      get_or-append a b 0 (t - 16) (omega arith),
    )))

-- every word, whatever has been made after it
schedule_word : (n t : ℕ) (m : List ℕ) → t < n → get_or (schedule n m) t 0 ≡ word m (schedule n m) t
unfolding schedule
schedule_word zero t m h = absurd (not-suc-le-zero h)
schedule_word (suc n) t m h =
    let w = schedule n m in
    let l = schedule_length n m in
    let x = word m w n in
    ⊎_elim (λ e. rw e (get_or_at w x [] 0 n l ∙ sym (word_append m w (x ∷ []) n (omega arith))))
    (λ k. get_or-append w (x ∷ []) 0 t (omega arith) ∙ schedule_word n t m k ∙ sym (word_append m w (x ∷ []) t (omega arith)))
    (eq-or-lt_of_le (le_of_suc-le-suc h))

-- the standard's two equations hold of the schedule
pub schedule_rule : (m : List ℕ) → Scheduled m (schedule 64 m)
schedule_rule m = record {
  size = schedule_length 64 m;
  first = λ t h. schedule_word 64 t m (omega arith) ∙ word_block m (schedule 64 m) t h;
  later = λ t g h. schedule_word 64 t m h ∙ word_later m (schedule 64 m) t g;
}

-- a block is its own first sixteen words
pub schedule_block : (m : List ℕ) → length m ≡ 16 → schedule 16 m ≡ m
unfolding schedule word tabulate
schedule_block m h = tabulate_own m 16 h

-- a turn of a loop that fills d with the schedule
pub schedule_turn : (m d w : List ℕ) (t : ℕ) → 16 ≤ t → t < length d → w ≡ schedule t m ++ drop t d
    → set w t (following w t) ≡ schedule (t + 1) m ++ drop (t + 1) d
unfolding schedule
schedule_turn m d w t g h e =
    let l = schedule_length t m in
    rw (← word_later m w t g, e, word_append m (schedule t m) (drop t d) t (omega arith)) (fill_next (schedule t m) d t _ l h ∙ rw add-one)
