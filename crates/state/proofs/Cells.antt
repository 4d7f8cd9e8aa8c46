-- Cells do not meet: a write to one leaves every part of the store before it and past it as it was. Assumes nothing.
use mathlib.Core.Path.{◌≡◌, refl, sym, ap, ap₂, ◌∙◌}
use mathlib.Core.Logic.{◌⊎◌, inl, inr, ⊎_elim}
use mathlib.Core.Bool.{Bool, true, false}
use mathlib.Core.List.{List, ◌++◌, append_assoc}
use Prim.Native.Nat.{ℕ, suc, ◌+◌, ◌-◌, ◌*◌, ◌^◌, ◌≤◌, ◌<◌}
use native.Mathlib.Nat.{mul-le-mul_left, mul-suc}
use native.Mathlib.Omega.{arith}
use borrow.Author.Tests.{ltb-true, ltb-false}
use lib.Dec.{ltb}
use lib.ListN.{length, take, drop, length-append, length-drop, take-append-drop}
use lib.Seq.{length-take-le, take-append-le, drop-append-le, take_at, drop_at, drop-drop}
use Rattle.octets.specs.Layout.{number, bytes}
use Rattle.octets.proofs.Layouts.{bytes_length, number_bytes, pow_bytes}
use Rattle.state.specs.Sizes.{addresses, value_size, cell_size, store_size}
use Rattle.state.specs.Cells.{entry, value_at, stamp_at, entry_at, write_cell}

-- the q elements from p on, where they lie in the first of two lists
part_front : (p q : ℕ) (xs ys : List ℕ) → p + q ≤ length xs → take q (drop p (xs ++ ys)) ≡ take q (drop p xs)
part_front p q xs ys h =
    ap (take q) (drop-append-le p xs ys (omega arith)) ∙ take-append-le q (drop p xs) ys (omega (arith, length-drop p xs))

-- where they lie in the second
part_back : (p q n : ℕ) (xs ys zs : List ℕ) → length xs ≡ n → length zs ≡ n → n ≤ p → take q (drop p (xs ++ ys)) ≡ take q (drop p (zs ++ ys))
part_back p q n xs ys zs k l h =
    let e : n + (p - n) ≡ p = omega arith in
    ap (take q) (rw (← e) (rw (← drop-drop (p - n) n (xs ++ ys), ← drop-drop (p - n) n (zs ++ ys), drop_at xs ys n k, drop_at zs ys n l)))

-- the cell of an address lies in the store
pub cell_within : (w a : ℕ) → a < addresses → cell_size w * a + cell_size w ≤ store_size w
unfolding store_size
cell_within w a h = omega (arith, mul-le-mul_left (cell_size w) h, mul-suc (cell_size w) a)

-- two parts of n elements do not meet
apart : (n a b : ℕ) → (b ≡ a → ⊥) → (n * b + n ≤ n * a) ⊎ (n * a + n ≤ n * b)
apart n a b d = side (ltb b a) refl
  where
    side : (t : Bool) → ltb b a ≡ t → (n * b + n ≤ n * a) ⊎ (n * a + n ≤ n * b)
    side true e = inl (omega (arith, mul-le-mul_left n (ltb-true b a e), mul-suc n b))
    side false e = inr (let g : suc a ≤ b = omega (arith, ltb-false b a e) in omega (arith, mul-le-mul_left n g, mul-suc n a))

pub value_length : (w : ℕ) (m : List ℕ) (a : ℕ) → a < addresses → length m ≡ store_size w → length (value_at w m a) ≡ value_size
unfolding value_at cell_size
value_length w m a h l = length-take-le value_size (drop ((value_size + w) * a) m) (omega (arith, length-drop ((value_size + w) * a) m, cell_within w a h))

module _ (w : ℕ) (m : List ℕ) (a : ℕ) (v : List ℕ) (t : ℕ) (h : a < addresses) (l : length m ≡ store_size w) (k : length v ≡ value_size) where
  front : length (take (cell_size w * a) m) ≡ cell_size w * a
  front = length-take-le (cell_size w * a) m (omega (arith, cell_within w a h))

  cell : length (v ++ bytes w t) ≡ cell_size w
  unfolding cell_size
  cell = rw (length-append v (bytes w t), k, bytes_length w t)

  pub write_length : length (write_cell w m a v t) ≡ store_size w
  unfolding write_cell
  write_length = simp (length-append (take (cell_size w * a) m), length-append (v ++ bytes w t), length-drop) (omega (arith, front, cell, cell_within w a h))

  -- from the cell on
  at : drop (cell_size w * a) (write_cell w m a v t) ≡ v ++ (bytes w t ++ drop (cell_size w * a + cell_size w) m)
  unfolding write_cell
  at = drop_at (take (cell_size w * a) m) _ (cell_size w * a) front ∙ append_assoc v (bytes w t) _

  pub value_written : value_at w (write_cell w m a v t) a ≡ v
  unfolding value_at
  value_written = ap (take value_size) at ∙ take_at v _ value_size k

  pub stamp_written : t < 256 ^ w → stamp_at w (write_cell w m a v t) a ≡ t
  unfolding stamp_at
  stamp_written g =
      ap (λ (x : List ℕ). number (take w x)) (sym (drop-drop value_size (cell_size w * a) (write_cell w m a v t)) ∙ ap (drop value_size) at ∙ drop_at v _ value_size k)
      ∙ ap number (take_at (bytes w t) _ w (bytes_length w t)) ∙ number_bytes w t (omega (arith, pow_bytes w))

  -- a part of the store that does not meet the cell
  before_cell : (p q : ℕ) → p + q ≤ cell_size w * a → take q (drop p (write_cell w m a v t)) ≡ take q (drop p m)
  unfolding write_cell
  before_cell p q g =
      let n : ℕ = cell_size w * a in
      part_front p q (take n m) _ (omega (arith, front)) ∙ sym (part_front p q (take n m) (drop n m) (omega (arith, front))) ∙ ap (λ (x : List ℕ). take q (drop p x)) (take-append-drop n m)

  past_cell : (p q : ℕ) → cell_size w * a + cell_size w ≤ p → take q (drop p (write_cell w m a v t)) ≡ take q (drop p m)
  unfolding write_cell
  past_cell p q g =
      let n : ℕ = cell_size w * a + cell_size w in
      let f : length (take n m) ≡ n = length-take-le n m (omega (arith, cell_within w a h)) in
      ap (λ (x : List ℕ). take q (drop p x)) (sym (append_assoc (take (cell_size w * a) m) (v ++ bytes w t) (drop n m)))
      ∙ part_back p q n (take (cell_size w * a) m ++ (v ++ bytes w t)) (drop n m) (take n m) (length-append (take (cell_size w * a) m) (v ++ bytes w t) ∙ ap₂ (λ (x y : ℕ). x + y) front cell) f g
      ∙ ap (λ (x : List ℕ). take q (drop p x)) (take-append-drop n m)

  -- the bytes of the cell, and of another
  pub cell_written : take (cell_size w) (drop (cell_size w * a) (write_cell w m a v t)) ≡ v ++ bytes w t
  cell_written = ap (take (cell_size w)) (at ∙ sym (append_assoc v (bytes w t) _)) ∙ take_at (v ++ bytes w t) _ (cell_size w) cell

  pub cell_other : (b : ℕ) → (b ≡ a → ⊥) → take (cell_size w) (drop (cell_size w * b) (write_cell w m a v t)) ≡ take (cell_size w) (drop (cell_size w * b) m)
  cell_other b d = ⊎_elim (λ g. before_cell (cell_size w * b) (cell_size w) g) (λ g. past_cell (cell_size w * b) (cell_size w) g) (apart (cell_size w) a b d)

  pub value_other : (b : ℕ) → (b ≡ a → ⊥) → value_at w (write_cell w m a v t) b ≡ value_at w m b
  unfolding value_at cell_size
  value_other b d =
      ⊎_elim (λ g. before_cell (cell_size w * b) value_size (omega arith)) (λ g. past_cell (cell_size w * b) value_size (omega arith)) (apart (cell_size w) a b d)

  pub stamp_other : (b : ℕ) → (b ≡ a → ⊥) → stamp_at w (write_cell w m a v t) b ≡ stamp_at w m b
  unfolding stamp_at cell_size
  stamp_other b d =
      ap number
      (⊎_elim (λ g. before_cell (cell_size w * b + value_size) w (omega arith)) (λ g. past_cell (cell_size w * b + value_size) w (omega arith))
      (apart (cell_size w) a b d))

  pub entry_other : (b : ℕ) → (b ≡ a → ⊥) → entry_at w (write_cell w m a v t) b ≡ entry_at w m b
  unfolding entry_at
  entry_other b d = ap₂ (entry b) (value_other b d) (stamp_other b d)

  pub entry_written : t < 256 ^ w → entry_at w (write_cell w m a v t) a ≡ entry a v t
  unfolding entry_at
  entry_written g = ap₂ (entry a) value_written (stamp_written g)
