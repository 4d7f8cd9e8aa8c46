-- What a call is that is done and that is refused, and what one that is done may rely on: none of its rows holds. Assumes nothing.
use borrow.Author.Tests.{eqb-true, eqb-false, ltb-true, not-false}
use mathlib.Core.Path.{◌≡◌, refl}
use mathlib.Core.Bool.{Bool, true, false, not}
use mathlib.Core.List.{List, [], ◌∷◌}
use mathlib.Core.Logic.{◌≢◌}
use mathlib.Core.Option.{none}
use Prim.Native.Nat.{ℕ, zero, suc, ◌*◌, ◌<◌}
use native.Mathlib.Omega.{arith}
use lib.Dec.{T}
use lib.ListN.{length}
use Rattle.refusal.specs.Refusal.{Row, when, first, done}
use Rattle.refusal.proofs.Passed.{NoneHolds, done_zero, done_other, numbered, none_holds}
use Rattle.state.specs.Sizes.{addresses, value_size, cell_size, store_size, ceiling}
use Rattle.state.specs.Marks.{used}
use Rattle.state.specs.Cells.{value_at}
use Rattle.state.specs.TakePut.{seen, Outcome, outcome}
use Rattle.state.specs.Access.{closed_row, store_row, address_row, buffer_row, clock_row, add_rows, exchange_rows, remove_rows, look_rows, call, look_of, look_from}
use Rattle.state.specs.Check.{check_rows}
use Rattle.state.specs.declared.State.{State}

pub call_done : (rows : List Row) (s : State) (m o : List ℕ) (x : Outcome) → first rows ≡ 0 → call rows s m o x ≡ x
unfolding call
call_done rows s m o x e = done_zero (first rows) x (outcome (seen (first rows) none s m o) []) e

pub call_refused : (rows : List Row) (s : State) (m o : List ℕ) (x : Outcome) → (first rows ≡ 0 → ⊥)
    → call rows s m o x ≡ outcome (seen (first rows) none s m o) []
unfolding call
call_refused rows s m o x h = done_other (first rows) x (outcome (seen (first rows) none s m o) []) h

-- what holds of a call that is done, and of one that is refused by its number, holds of it
module _ (s : State) (m : List ℕ) where
  pub by_rows : (P : Outcome → Type 0) (rows : List Row) (o : List ℕ) (x : Outcome) → (first rows ≡ 0 → P x)
      → ((n : ℕ) → first rows ≡ suc n → P (outcome (seen (suc n) none s m o) [])) → P (call rows s m o x)
  unfolding call
  by_rows P rows o x f g = go (first rows) f g
    where
      go : (n : ℕ) → (n ≡ 0 → P x) → ((k : ℕ) → n ≡ suc k → P (outcome (seen (suc k) none s m o) [])) → P (done n x (outcome (seen n none s m o) []))
      go zero f g = f refl
      go (suc n) f g = g n refl

  -- where a call gives 0 no row holds
  pub done_rows : (rows : List Row) (o : List ℕ) (x : Outcome) → (call rows s m o x).seen.number ≡ 0 → first rows ≡ 0
  done_rows rows o x = by_rows (λ (r : Outcome). r.seen.number ≡ 0 → first rows ≡ 0) rows o x (λ e z. e) (λ n q z. absurd (omega arith))

-- what a call on an address may rely on, the mark of the address being u; and what one that puts may
pub record Ready (w : ℕ) (s : State) (m : List ℕ) (a : ℕ) (u : Bool) : Type 0 where
  pub not_closed : s.closed ≡ false
  pub size : length m ≡ store_size w
  pub below : a < addresses
  pub mark : used s.marks a ≡ u

pub record Timed (w : ℕ) (s : State) (b : List ℕ) : Type 0 where
  pub size : length b ≡ value_size
  pub time : s.clock ≢ ceiling w

pub look_ready : (w : ℕ) (m : List ℕ) (a : ℕ) → first (look_rows w m a) ≡ 0 → (length m ≡ store_size w) × (a < addresses)
unfolding look_rows NoneHolds
look_ready w m a e = let p = none_holds (look_rows w m a) tt e in (eqb-true _ _ (not-false _ p.0), ltb-true _ _ (not-false _ p.1.0))

pub look_done : (w : ℕ) (m : List ℕ) (a : ℕ) → first (look_rows w m a) ≡ 0 → (look_of w m a ≡ value_at w m a) × (look_from w m a ≡ cell_size w * a)
unfolding look_of look_from
look_done w m a e = (done_zero _ _ _ e, done_zero _ _ _ e)

pub look_refused : (w : ℕ) (m : List ℕ) (a : ℕ) → (first (look_rows w m a) ≡ 0 → ⊥) → (look_of w m a ≡ []) × (look_from w m a ≡ 0)
unfolding look_of look_from
look_refused w m a h = (done_other _ _ _ h, done_other _ _ _ h)

module _ (w : ℕ) (s : State) (m : List ℕ) where
  pub check_ready : first (check_rows w s m) ≡ 0 → (s.closed ≡ false) × (length m ≡ store_size w)
  unfolding check_rows NoneHolds
  check_ready e = let p = none_holds (check_rows w s m) tt e in (p.0, eqb-true _ _ (not-false _ p.1.0))

  module _ (a : ℕ) where
    pub remove_ready : first (remove_rows w s m a) ≡ 0 → Ready w s m a true
    unfolding remove_rows NoneHolds
    remove_ready e =
        let p = none_holds (remove_rows w s m a) tt e in
        record { not_closed = p.0; size = eqb-true _ _ (not-false _ p.1.0); below = ltb-true _ _ (not-false _ p.1.1.0); mark = not-false _ p.1.1.1.0 }

    -- add's rows, and load's and store's, are these with t as the test of the mark
    abbrev put_rows : List ℕ → ℕ → Bool → List Row
    put_rows b n t = closed_row s ∷ store_row w m ∷ address_row a ∷ buffer_row b ∷ when n t ∷ clock_row w s ∷ []

    put_ready : (b : List ℕ) (t u : Bool) (n : ℕ) → T (numbered (put_rows b n t)) → (t ≡ false → used s.marks a ≡ u) → first (put_rows b n t) ≡ 0
        → Ready w s m a u × Timed w s b
    unfolding NoneHolds
    put_ready b t u n k f e =
        let p = none_holds (put_rows b n t) k e in (
          record { not_closed = p.0; size = eqb-true _ _ (not-false _ p.1.0); below = ltb-true _ _ (not-false _ p.1.1.0); mark = f p.1.1.1.1.0 },
          record { size = eqb-true _ _ (not-false _ p.1.1.1.0); time = eqb-false _ _ p.1.1.1.1.1.0 },
        )

    pub add_ready : (v : List ℕ) → first (add_rows w s m a v) ≡ 0 → Ready w s m a false × Timed w s v
    unfolding add_rows
    add_ready v = put_ready v (used s.marks a) false 4 tt (λ h. h)

    pub exchange_ready : (b : List ℕ) → first (exchange_rows w s m a b) ≡ 0 → Ready w s m a true × Timed w s b
    unfolding exchange_rows
    exchange_ready b = put_ready b (not (used s.marks a)) true 5 tt (not-false (used s.marks a))
