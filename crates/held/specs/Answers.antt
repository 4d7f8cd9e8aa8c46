-- What the calls under C names give: the definitions of the calls that they wrap, with the state in place and each answer as a number.
-- Assumes nothing.
use Rattle.std.specs.Prelude.{List, ℕ, ℤ, Result, Ok, Err}
use Rattle.std.proofs.Math.Option.{Option, none, some}
use Rattle.refusal.specs.Refusal.{first, done}
use Rattle.refusal.specs.declared.Refusal.{Refusal}
use Rattle.state.specs.Sizes.{store_size}
use Rattle.state.specs.TakePut.{Seen}
use Rattle.state.specs.Access.{look_rows, look_from}
use Rattle.state.specs.declared.Verdict.{Verdict}
use Rattle.state.specs.declared.Verdict.TheVariants.{Accept, Stamp, Tag}
use Rattle.going.specs.declared.Going.{Going}
use Rattle.going.specs.declared.Going.TheVariants.{OtherMember, NoOrder, Back, Forward}
use Rattle.held.specs.Held.{held_of}
use Rattle.held.specs.declared.Held.{Held}

-- the answer of a call with this number and this verdict: the number; and of a check that rejects 254 for a stamp, and 255 for the tags. So 0 is an accept,
-- and nothing else of a check is
abbrev pub answer : ℕ → Option Verdict → ℕ
answer n (some Accept) = n
answer n (some (Stamp a)) = 254
answer n (some Tag) = 255
answer n none = n

-- what the caller has after a call in place: the answer, and what is in the state, the lent store and the out buffer (none: no bytes)
pub record Left : Type 0 where
  pub answer : ℕ
  pub state : Held
  pub store : List ℕ
  pub out : List ℕ

abbrev pub left : ℕ → Held → List ℕ → List ℕ → Left
left n h m o = record { answer = n; state = h; store = m; out = o }

-- a call's outcome, in place: a refused call leaves the state's own numbers as they were
unfoldable pub in_place : Held → Seen → Left
in_place h y = left (answer y.number y.verdict) (done y.number (held_of y.state) h) y.store y.out

-- Check: what the lent number is after it: the address of a reject for a stamp, and else what it was
abbrev pub stamp_or : ℕ → Option Verdict → ℕ
stamp_or n (some Accept) = n
stamp_or n (some (Stamp a)) = a
stamp_or n (some Tag) = n
stamp_or n none = n

-- Look: where in the store the value begins; refused, the size of a store, where none begins
unfoldable pub look_answer : ℕ → List ℕ → ℕ → ℕ
look_answer w m a = done (first (look_rows w m a)) (look_from w m a) (store_size w)

-- Lowest free: what the lent number is after it; refused, what it was
abbrev pub free_or : ℕ → Result ℕ Refusal → ℕ
free_or n (Ok a) = a
free_or n (Err r) = n

-- Going back: 0 forward, 1 back, 2 another member's, 16 no order
abbrev pub going_answer : Going → ℕ
going_answer (Forward d) = 0
going_answer (Back d) = 1
going_answer OtherMember = 2
going_answer NoOrder = 16

-- what the lent number is after it: the distance, and where there is none what it was
abbrev pub distance_or : ℤ → Going → ℤ
distance_or n (Forward d) = d
distance_or n (Back d) = d
distance_or n OtherMember = n
distance_or n NoOrder = n
