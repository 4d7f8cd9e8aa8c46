-- What is seen of a call that is done, and of one that is refused. Assumes nothing.
use mathlib.Core.Path.{◌≡◌, sym, ap, ◌∙◌}
use mathlib.Core.List.{List, []}
use mathlib.Core.Option.{none}
use Prim.Native.Nat.{ℕ}
use Rattle.std.specs.Prelude.{Result, Ok, Err}
use Rattle.std.specs.Result.{IsErr, IsErrAnd}
use Rattle.refusal.specs.Refusal.{Row, first}
use Rattle.refusal.specs.Told.{number_of}
use Rattle.refusal.specs.declared.Refusal.{Refusal}
use Rattle.refusal.proofs.Again.{some_number}
use Rattle.state.specs.TakePut.{seen, moved, checked, Outcome}
use Rattle.state.specs.Access.{call}
use Rattle.state.specs.declared.State.{State}
use Rattle.state.specs.declared.Checked.{Checked}
use Rattle.state.proofs.Ready.{call_done, call_refused}

module _ (rows : List Row) (s : State) (m o : List ℕ) (x : Outcome) where
  pub done_seen : 0 ≡ first rows → x.seen ≡ (call rows s m o x).seen
  done_seen z = sym (ap (λ (y : Outcome). y.seen) (call_done rows s m o x (sym z)))

  refused_seen : (e : Refusal) → number_of e ≡ first rows → seen (number_of e) none s m o ≡ (call rows s m o x).seen
  refused_seen e n = ap (λ (n : ℕ). seen n none s m o) n ∙ sym (ap (λ (y : Outcome). y.seen) (call_refused rows s m o x (λ z. some_number e (n ∙ z))))

  pub refused_moved : (e : Refusal) (y : Result State Refusal) → number_of e ≡ first rows → IsErr y × IsErrAnd y (λ d. d ≡ e) → moved y s m o ≡ (call rows s m o x).seen
  refused_moved e (Ok t) n i = absurd i.1
  refused_moved e (Err d) n i = ap (λ (d : Refusal). seen (number_of d) none s m o) i.1 ∙ refused_seen e n

pub refused_checked : (rows : List Row) (s : State) (m : List ℕ) (x : Outcome) (e : Refusal) (y : Result Checked Refusal) → number_of e ≡ first rows → IsErr y × IsErrAnd y (λ d. d ≡ e)
    → checked y s m ≡ (call rows s m [] x).seen
refused_checked rows s m x e (Ok t) n i = absurd i.1
refused_checked rows s m x e (Err d) n i = ap (λ (d : Refusal). seen (number_of d) none s m []) i.1 ∙ refused_seen rows s m [] x e n
