-- A run: the calls after a start, each with the bytes that it is lent, the earliest first; and what they do.
-- Over the stamp's width w and the tag. Assumes nothing.
use Rattle.std.specs.Prelude.{Bool, true, false, List, [], ◌∷◌, ◌++◌, ℕ}
use Rattle.std.proofs.Math.Option.{none}
use Rattle.state.specs.Cells.{Entry}
use Rattle.state.specs.TakePut.{Event, seen, Outcome}
use Rattle.state.specs.Access.{add_of, load_of, store_of, remove_of}
use Rattle.state.specs.Check.{check_of}
use Rattle.state.specs.declared.Seal.{Seal}
use Rattle.state.specs.declared.State.{State}

-- a call with its arguments, which may be any: an address, and the value given or the out buffer lent
pub data Call : Type 0 where
  add : ℕ → List ℕ → Call
  load : ℕ → List ℕ → Call
  store : ℕ → List ℕ → Call
  remove : ℕ → Call
  check : Call
  look : ℕ → Call
  count : Call
  lowest : Call

-- a call as it is made, with the bytes that it is lent as the store: any bytes, and any number of them
pub record Made : Type 0 where
  pub call : Call
  pub bytes : List ℕ

abbrev pub made : Call → List ℕ → Made
made c m = record { call = c; bytes = m }

-- does the call take or put; look, count and lowest free do not
abbrev pub touches : Call → Bool
touches (add a v) = true
touches (load a o) = true
touches (store a v) = true
touches (remove a) = true
touches check = true
touches (look a) = false
touches count = false
touches lowest = false

-- 01, Look, Count, Lowest free: they change nothing. What they answer is in their contracts, and no part of a run
abbrev pub idle : State → List ℕ → Outcome
idle s m = record { seen = seen 0 none s m []; events = [] }

module _ (w : ℕ) (tag : Seal → Entry → List ℕ) where
  -- what a call does; and what it gives, but for look, count and lowest free
  unfoldable pub outcome_of : State → List ℕ → Call → Outcome
  outcome_of s m (add a v) = add_of w tag s m a v
  outcome_of s m (load a o) = load_of w tag s m a o
  outcome_of s m (store a v) = store_of w tag s m a v
  outcome_of s m (remove a) = remove_of w tag s m a
  outcome_of s m check = check_of w tag s m
  outcome_of s m (look a) = idle s m
  outcome_of s m count = idle s m
  outcome_of s m lowest = idle s m

  -- each call gets the state that the call before gave back: the state after some calls, and all that they did, in order
  unfoldable pub after : State → List Made → State
  after s [] = s
  after s (x ∷ xs) = after (outcome_of s x.bytes x.call).seen.state xs

  unfoldable pub events : State → List Made → List Event
  events s [] = []
  events s (x ∷ xs) = let r = outcome_of s x.bytes x.call in r.events ++ events r.seen.state xs
