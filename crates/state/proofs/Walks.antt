-- A walk address by address: the state and the store after the marked addresses below n, and that after the last address they are the walk's. Assumes nothing.
use mathlib.Core.Path.{◌≡◌, refl, sym, ap, ◌∙◌, subst}
use mathlib.Core.Bool.{Bool, true, false, cond}
use mathlib.Core.List.{List, [], ◌∷◌, map, map-append, map-map, foldl, foldl-append}
use Prim.Native.Nat.{ℕ, zero, suc, ◌≤◌, ◌<◌}
use native.Mathlib.Omega.{arith}
use lib.ListN.{length}
use Rattle.state.specs.Sizes.{addresses, store_size}
use Rattle.state.specs.Marks.{used, used_below, in_use}
use Rattle.state.specs.Cells.{Entry, value_at, entry_at, write_entry}
use Rattle.state.specs.TakePut.{took, take_entry, put_entry}
use Rattle.state.specs.Check.{taken, opening, reput, takes, write_each, write_all, take_each, take_all, put_each}
use Rattle.state.specs.declared.Seal.{Seal}
use Rattle.state.specs.declared.State.{State}
use Rattle.state.proofs.Cells.{write_length, value_length, value_other}

-- what goes from address to address, by x at each that is in use, is made of these one after the other
pub fold_used : {S A : Type 0} (f : S → A → S) (x : ℕ → A) (ws : List ℕ) (g : ℕ → S) → ((n : ℕ) → g (suc n) ≡ cond (used ws n) (f (g n) (x n)) (g n)) → (n : ℕ)
    → g n ≡ foldl f (g 0) (map x (used_below ws n))
unfolding used_below
fold_used f x ws g h zero = refl
fold_used {S} f x ws g h (suc n) =
    h n ∙ go (used ws n) (fold_used f x ws g h n) ∙ sym (foldl-append f (g 0) (map x (used_below ws n)) (map x (cond (used ws n) (n ∷ []) [])))
    ∙ ap (foldl f (g 0)) (sym (map-append x (used_below ws n) (cond (used ws n) (n ∷ []) [])))
  where
    go : (b : Bool) → g n ≡ foldl f (g 0) (map x (used_below ws n)) → cond b (f (g n) (x n)) (g n) ≡ foldl f (foldl f (g 0) (map x (used_below ws n))) (map x (cond b (n ∷ []) []))
    go true e = ap (λ (t : S). f t (x n)) e
    go false e = e

-- the takes of a check, address by address
pub takes_used : (w : ℕ) (s : State) (m : List ℕ) → takes w s m ≡ map (λ a. took (entry_at w m a)) (used_below s.marks addresses)
unfolding takes taken in_use
takes_used w s m = map-map took (entry_at w m) (used_below s.marks addresses)

-- ---- the store after the marked addresses below n are put again

unfoldable pub put_below : ℕ → List ℕ → List ℕ → ℕ → List ℕ
put_below w ws m zero = m
put_below w ws m (suc n) = cond (used ws n) (write_entry w (put_below w ws m n) (opening w m n)) (put_below w ws m n)

pub write_each_whole : (w : ℕ) (ws m : List ℕ) → write_each w ws m ≡ put_below w ws m addresses
unfolding write_each reput in_use put_below
write_each_whole w ws m = sym (fold_used (write_entry w) (opening w m) ws (put_below w ws m) (λ n. refl) addresses)

pub write_all_whole : (w : ℕ) (s : State) (m : List ℕ) → write_all w s m ≡ put_below w s.marks m addresses
unfolding write_all
write_all_whole w s m = write_each_whole w s.marks m

puts_step : (b : Bool) (w : ℕ) (x m : List ℕ) (n : ℕ) → n < addresses → length m ≡ store_size w → length x ≡ store_size w
    → length (cond b (write_entry w x (opening w m n)) x) ≡ store_size w
unfolding write_entry opening
puts_step true w x m n h l k = write_length w x n (value_at w m n) 1 h k (value_length w m n h l)
puts_step false w x m n h l k = k

pub puts_length : (w : ℕ) (ws m : List ℕ) (n : ℕ) → n ≤ addresses → length m ≡ store_size w → length (put_below w ws m n) ≡ store_size w
unfolding put_below
puts_length w ws m zero h l = l
puts_length w ws m (suc n) h l = puts_step (used ws n) w (put_below w ws m n) m n h l (puts_length w ws m n (omega arith) l)

beyond_step : (b : Bool) (w : ℕ) (x m : List ℕ) (n a : ℕ) → n < addresses → n < a → length m ≡ store_size w → length x ≡ store_size w
    → value_at w (cond b (write_entry w x (opening w m n)) x) a ≡ value_at w x a
unfolding write_entry opening
beyond_step true w x m n a h g l k = value_other w x n (value_at w m n) 1 h k (value_length w m n h l) a (λ e. absurd (omega arith))
beyond_step false w x m n a h g l k = refl

-- a value not yet put again is as it was
pub puts_beyond : (w : ℕ) (ws m : List ℕ) (n a : ℕ) → n ≤ a → a < addresses → length m ≡ store_size w → value_at w (put_below w ws m n) a ≡ value_at w m a
unfolding put_below
puts_beyond w ws m zero a h g l = refl
puts_beyond w ws m (suc n) a h g l =
    beyond_step (used ws n) w (put_below w ws m n) m n a (omega arith) h l (puts_length w ws m n (omega arith) l) ∙ puts_beyond w ws m n a (omega arith) g l

module _ (w : ℕ) (tag : Seal → Entry → List ℕ) where
  -- ---- the state after the marked addresses below n are taken, and after they are put

  unfoldable pub take_each_below : List ℕ → State → List ℕ → ℕ → State
  take_each_below ws s m zero = s
  take_each_below ws s m (suc n) = cond (used ws n) (take_entry tag (take_each_below ws s m n) (entry_at w m n)) (take_each_below ws s m n)

  unfoldable pub put_each_below : List ℕ → State → List ℕ → ℕ → State
  put_each_below ws s m zero = s
  put_each_below ws s m (suc n) = cond (used ws n) (put_entry tag (put_each_below ws s m n) (opening w m n)) (put_each_below ws s m n)

  -- after those in use below n are taken
  unfoldable pub take_below : State → List ℕ → ℕ → State
  unfolding take_each_below
  take_below s m n = take_each_below s.marks s m n

  module _ (ws : List ℕ) (s : State) (m : List ℕ) where
    pub take_each_whole : take_each w tag ws s m ≡ take_each_below ws s m addresses
    unfolding take_each taken in_use take_each_below
    take_each_whole = sym (fold_used (take_entry tag) (entry_at w m) ws (take_each_below ws s m) (λ n. refl) addresses)

    pub put_each_whole : put_each w tag ws s m ≡ put_each_below ws s m addresses
    unfolding put_each reput in_use put_each_below
    put_each_whole = sym (fold_used (put_entry tag) (opening w m) ws (put_each_below ws s m) (λ n. refl) addresses)

  pub take_all_whole : (s : State) (m : List ℕ) → take_all w tag s m ≡ take_below s m addresses
  unfolding take_all take_below
  take_all_whole s m = take_each_whole s.marks s m

  -- what a take at an address keeps, all of a check's keep
  pub by_takes : (P : State → Type 0) (m : List ℕ) → ((s : State) (a : ℕ) → a < addresses → P s → P (take_entry tag s (entry_at w m a))) → (s : State) → P s → P (take_all w tag s m)
  unfolding take_below take_each_below
  by_takes P m keeps s h = subst P (sym (take_all_whole s m)) (below addresses (omega arith))
    where
      below : (n : ℕ) → n ≤ addresses → P (take_each_below s.marks s m n)
      below zero l = h
      below (suc n) l = go (used s.marks n) (below n (omega arith))
        where
          go : (b : Bool) → P (take_each_below s.marks s m n) → P (cond b (take_entry tag (take_each_below s.marks s m n) (entry_at w m n)) (take_each_below s.marks s m n))
          go true k = keeps (take_each_below s.marks s m n) n l k
          go false k = k
