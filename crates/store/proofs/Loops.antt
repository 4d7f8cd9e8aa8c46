-- A check's loops, from one marked address to the next: an address between them changes nothing. Assumes nothing.
use mathlib.Core.Path.{◌≡◌, sym, ap, ap₂, ◌∙◌}
use mathlib.Core.Bool.{true, false}
use mathlib.Core.List.{List}
use mathlib.Core.Logic.{⊎_elim}
use Prim.Native.Nat.{ℕ, zero, suc, ◌+◌, ◌≤◌, ◌<◌}
use native.Mathlib.Nat.{eq-or-lt_of_le, le_of_suc-le-suc}
use native.Mathlib.Numerals.{add-one}
use native.Mathlib.Omega.{arith}
use lib.ListN.{length}
use Rattle.marks.specs.Next.{next_used}
use Rattle.marks.proofs.Sets.{next_is}
use Rattle.state.specs.Sizes.{addresses, store_size}
use Rattle.state.specs.Marks.{used}
use Rattle.state.specs.Cells.{Entry, entry, value_at, entry_at, write_entry}
use Rattle.state.specs.TakePut.{take_entry, put_entry}
use Rattle.state.specs.Check.{opening}
use Rattle.state.specs.declared.Seal.{Seal}
use Rattle.state.specs.declared.State.{State}
use Rattle.state.proofs.Walks.{take_each_below, put_each_below, put_below, puts_beyond}

-- n is the next address in use from a on, or the number of addresses
pub record Next (ws : List ℕ) (a n : ℕ) : Type 0 where
  pub from : a ≤ n
  pub to : n ≤ addresses
  pub between : (b : ℕ) → a ≤ b → b < n → used ws b ≡ false
  pub here : n < addresses → used ws n ≡ true

pub next : (ws : List ℕ) (a : ℕ) {n : ℕ} → a ≤ addresses → n ≡ next_used ws a → Next ws a n
next ws a h e =
    let f = next_is ws a in
    rw e (record { from = f.from; to = omega (arith, f.to); between = f.before; here = λ l. f.here (omega arith) })

-- what an address that is not in use does not change is the same at both ends of a gap
gap : {A : Type 0} (f : ℕ → A) (ws : List ℕ) (a n : ℕ) → ((b : ℕ) → used ws b ≡ false → f (suc b) ≡ f b) → a ≤ n → ((b : ℕ) → a ≤ b → b < n → used ws b ≡ false) → f n ≡ f a
gap f ws a zero s h g = let e : 0 ≡ a = omega arith in ap f e
gap f ws a (suc n) s h g =
    ⊎_elim (λ e. ap f (sym e)) (λ l. s n (g n (le_of_suc-le-suc l) (omega arith)) ∙ gap f ws a n s (le_of_suc-le-suc l) (λ b p q. g b p (omega arith)))
    (eq-or-lt_of_le h)

module _ (w : ℕ) (tag : Seal → Entry → List ℕ) (ws : List ℕ) (s : State) (m : List ℕ) where
  take_gap : {a n : ℕ} → Next ws a n → take_each_below w tag ws s m n ≡ take_each_below w tag ws s m a
  unfolding take_each_below
  take_gap {a} {n} g = gap (take_each_below w tag ws s m) ws a n (λ b u. rw u) g.from g.between

  pub take_begin : {n : ℕ} → Next ws 0 n → s ≡ take_each_below w tag ws s m n
  unfolding take_each_below
  take_begin g = sym (take_gap g)

  take_one : (a : ℕ) → used ws a ≡ true → take_each_below w tag ws s m (a + 1) ≡ take_entry tag (take_each_below w tag ws s m a) (entry_at w m a)
  unfolding take_each_below
  take_one a u = rw (add-one, u)

  pub take_turn : (a : ℕ) {n : ℕ} {r t : State} → used ws a ≡ true → Next ws (a + 1) n → r ≡ take_each_below w tag ws s m a → t ≡ take_entry tag r (entry_at w m a)
      → t ≡ take_each_below w tag ws s m n
  take_turn a u g p q = q ∙ ap (λ r. take_entry tag r (entry_at w m a)) p ∙ sym (take_gap g ∙ take_one a u)

  -- the state and the store after the marked addresses below n are put again
  abbrev Put : ℕ → State → List ℕ → Type 0
  Put n r k = (r ≡ put_each_below w tag ws s m n) × (k ≡ put_below w ws m n)

  state_gap : {a n : ℕ} → Next ws a n → put_each_below w tag ws s m n ≡ put_each_below w tag ws s m a
  unfolding put_each_below
  state_gap {a} {n} g = gap (put_each_below w tag ws s m) ws a n (λ b u. rw u) g.from g.between

  store_gap : {a n : ℕ} → Next ws a n → put_below w ws m n ≡ put_below w ws m a
  unfolding put_below
  store_gap {a} {n} g = gap (put_below w ws m) ws a n (λ b u. rw u) g.from g.between

  pub put_begin : {n : ℕ} → Next ws 0 n → Put n s m
  unfolding put_each_below put_below
  put_begin g = (sym (state_gap g), sym (store_gap g))

  state_one : (a : ℕ) → used ws a ≡ true → put_each_below w tag ws s m (a + 1) ≡ put_entry tag (put_each_below w tag ws s m a) (opening w m a)
  unfolding put_each_below
  state_one a u = rw (add-one, u)

  store_one : (a : ℕ) → used ws a ≡ true → put_below w ws m (a + 1) ≡ write_entry w (put_below w ws m a) (opening w m a)
  unfolding put_below
  store_one a u = rw (add-one, u)

  pub put_turn : (a : ℕ) {n : ℕ} {r t : State} {k l v : List ℕ} → a < addresses → length m ≡ store_size w → used ws a ≡ true → Next ws (a + 1) n → Put a r k
      → v ≡ value_at w k a → (t ≡ put_entry tag r (entry a v 1)) × (l ≡ write_entry w k (entry a v 1)) → Put n t l
  unfolding opening
  put_turn a h z u g p e q =
      let f = e ∙ ap (λ k. value_at w k a) p.1 ∙ puts_beyond w ws m a a (omega arith) h z in (
        q.0 ∙ ap₂ (λ r v. put_entry tag r (entry a v 1)) p.0 f ∙ sym (state_gap g ∙ state_one a u),
        q.1 ∙ ap₂ (λ k v. write_entry w k (entry a v 1)) p.1 f ∙ sym (store_gap g ∙ store_one a u),
      )
