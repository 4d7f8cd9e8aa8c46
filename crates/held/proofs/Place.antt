-- What a refused call leaves, in place. Assumes nothing.
use mathlib.Core.Path.{◌≡◌, sym, ap}
use mathlib.Core.List.{List}
use mathlib.Core.Option.{none}
use Prim.Native.Nat.{ℕ}
use Rattle.refusal.specs.Told.{number_of}
use Rattle.refusal.specs.declared.Refusal.{Refusal}
use Rattle.refusal.proofs.Again.{some_number}
use Rattle.refusal.proofs.Passed.{done_other}
use Rattle.state.specs.TakePut.{seen}
use Rattle.state.specs.declared.State.{State}
use Rattle.held.specs.Held.{held_of}
use Rattle.held.specs.Answers.{left, in_place}
use Rattle.held.specs.declared.Held.{Held}

pub placed : (h : Held) (e : Refusal) (s : State) (m o : List ℕ) → left (number_of e) h m o ≡ in_place h (seen (number_of e) none s m o)
unfolding in_place
placed h e s m o = ap (λ (k : Held). left (number_of e) k m o) (sym (done_other (number_of e) (held_of s) h (some_number e)))
