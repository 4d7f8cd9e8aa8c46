-- A row of a call, as `when` takes it: where it holds `?` passes its refusal on, where it does not the rows after it decide, and the last decides by itself.
-- Assumes nothing.
use mathlib.Core.Path.{◌≡◌, refl, sym, ap, ◌∙◌}
use mathlib.Core.Bool.{Bool, true, false, cond, true≢false}
use Prim.Native.Nat.{ℕ}
use Rattle.std.specs.Prelude.{Result, Ok, Err, is_err}
use Rattle.std.specs.Result.{IsErr, IsErrAnd}
use Rattle.refusal.specs.Told.{number_of, told}
use Rattle.refusal.specs.declared.Refusal.{Refusal}

pub refused : {A : Type 0} {x : Result Unit Refusal} (y : Result A Refusal) (b : Bool) (q e : Refusal) (n : ℕ) → x ≡ cond b (Err q) (Ok tt) → x ≡ Err e
    → IsErr y × IsErrAnd y (λ d. d ≡ e) → told y ≡ cond b (number_of q) n
refused (Ok y) b q e n h k i = absurd i.1
refused (Err y) true q e n h k i = ap told (ap Err i.1 ∙ sym k ∙ h)
refused (Err y) false q e n h k i = absurd (true≢false (ap is_err (sym k ∙ h)))

pub passed : {x : Result Unit Refusal} (b : Bool) (q : Refusal) (t : Unit) → x ≡ cond b (Err q) (Ok tt) → x ≡ Ok t → b ≡ false
passed true q t h k = sym (ap is_err (sym k ∙ h))
passed false q t h k = refl

pub last : {x : Result Unit Refusal} (b : Bool) (q : Refusal) → x ≡ cond b (Err q) (Ok tt) → told x ≡ cond b (number_of q) 0
last true q h = ap told h
last false q h = ap told h
