-- Each call of a run by its rows: where one of them holds it changes nothing, where none does it is done, and then it shows what a call has to. The one place
-- that goes through the calls. Assumes nothing.
use mathlib.Core.Path.{◌≡◌, refl, sym, ◌∙◌}
use mathlib.Core.Bool.{true, false, cond, false≢true}
use mathlib.Core.List.{List, []}
use Prim.Native.Nat.{ℕ}
use native.Mathlib.Omega.{arith}
use Rattle.refusal.specs.Refusal.{Row, first}
use Rattle.state.specs.Cells.{Entry}
use Rattle.state.specs.TakePut.{Outcome}
use Rattle.state.specs.Access.{add_rows, exchange_rows, remove_rows, call, added, add_of, loaded, load_of, stored, store_of, removed, remove_of}
use Rattle.state.specs.Check.{check_rows, agrees, take_all, acceptance, rejection, check_of}
use Rattle.state.specs.declared.Seal.{Seal}
use Rattle.state.specs.declared.State.{State}
use Rattle.state.proofs.Ready.{by_rows, add_ready, exchange_ready, remove_ready, check_ready}
use Rattle.bag.specs.Bag.{Bag}
use Rattle.bag.specs.Following.{Follows}
use Rattle.run.specs.Calls.{Call, add, load, store, remove, check, look, count, lowest, touches, idle, outcome_of}
use Rattle.run.proofs.Does.{Fit, Does, Did, still, does}
use Rattle.run.proofs.Access.{add_does, load_does, store_does, remove_does}
use Rattle.run.proofs.Checks.{check_does}

module _ (w : ℕ) (tag : Seal → Entry → List ℕ) (seal : Seal) (s : State) (m : List ℕ) (b : Bag) (known : s.closed ≡ false → Follows tag seal s b × Fit s b) where
  -- a call that takes or puts: refused, or done from a state that is not closed
  moving : (c : Call) → touches c ≡ true → (rows : List Row) (o : List ℕ) (x : Outcome) → (first rows ≡ 0 → s.closed ≡ false)
      → (first rows ≡ 0 → Follows tag seal s b → Fit s b → Does w tag seal s m b c x) → Did w tag seal s m b c (call rows s m o x)
  moving c y rows o x ready h =
      by_rows s m (Did w tag seal s m b c) rows o x (λ e. let k = known (ready e) in does (ready e) y (h e k.0 k.1)) (λ n q. still (record { state = refl; store = refl; events = refl; verdict = refl; idle = λ z. absurd (omega arith) }))

  unmoved : (c : Call) → touches c ≡ false → Did w tag seal s m b c (idle s m)
  unmoved c n = still (record { state = refl; store = refl; events = refl; verdict = refl; idle = λ z y. false≢true (sym n ∙ y) })

  pub step_did : (c : Call) → Did w tag seal s m b c (outcome_of w tag s m c)
  unfolding outcome_of add_of load_of store_of remove_of check_of
  step_did (add a v) =
      moving (add a v) refl (add_rows w s m a v) [] (added w tag s m a v) (λ e. (add_ready w s m a v e).0.not_closed) (λ e f t. add_does w tag seal s m b f t a v e)
  step_did (load a o) =
      moving (load a o) refl (exchange_rows w s m a o) o (loaded w tag s m a) (λ e. (exchange_ready w s m a o e).0.not_closed) (λ e f t. load_does w tag seal s m b f t a o e)
  step_did (store a v) =
      moving (store a v) refl (exchange_rows w s m a v) [] (stored w tag s m a v) (λ e. (exchange_ready w s m a v e).0.not_closed) (λ e f t. store_does w tag seal s m b f t a v e)
  step_did (remove a) =
      moving (remove a) refl (remove_rows w s m a) [] (removed w tag s m a) (λ e. (remove_ready w s m a e).not_closed) (λ e f t. remove_does w tag seal s m b f t a e)
  step_did check =
      moving check refl (check_rows w s m) [] (cond (agrees (take_all w tag s m)) (acceptance w tag s m) (rejection w tag s m)) (λ e. (check_ready w s m e).0) (λ e f t. check_does w tag seal s m b f t e)
  step_did (look a) = unmoved (look a) refl
  step_did count = unmoved count refl
  step_did lowest = unmoved lowest refl
