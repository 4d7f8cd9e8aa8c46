-- 01, Check. Over the stamp's width w and the tag. What a check takes and what an accepted one puts are two lists; the state, the store and the events are
-- made of these. The lists and the walks along them are over words of marks, which say at what addresses: a check's are the state's own. Assumes nothing.
use Rattle.std.specs.Prelude.{Bool, true, false, cond, not, ◌&&◌, ℕ}
use mathlib.Core.List.{List, [], ◌∷◌, ◌++◌, map, foldl}
use Rattle.std.proofs.Math.Option.{Option, none, some}
use Rattle.refusal.specs.Refusal.{Row}
use Rattle.state.specs.Marks.{in_use}
use Rattle.state.specs.Cells.{Entry, entry, value_at, entry_at, write_entry}
use Rattle.state.specs.Multiset.{empty_hash, same_hash}
use Rattle.state.specs.TakePut.{Event, took, put, accepted, seen, Outcome, outcome, close, take_entry, put_entry}
use Rattle.state.specs.Access.{closed_row, store_row, call}
use Rattle.state.specs.declared.Seal.{Seal}
use Rattle.state.specs.declared.State.{State}
use Rattle.state.specs.declared.Verdict.{Verdict}
use Rattle.state.specs.declared.Verdict.TheVariants.{Accept, Stamp, Tag}

-- the number of each verdict: a check that is refused says nothing, and its number stands beside it
abbrev pub verdict_number : Option Verdict → Option ℕ
verdict_number (some v) = some 0
verdict_number none = none

-- and what it carries: accept, reject, or no verdict; and the address that a reject names
abbrev pub verdict_accepts : Option Verdict → Option Bool
verdict_accepts (some Accept) = some true
verdict_accepts (some (Stamp a)) = some false
verdict_accepts (some Tag) = some false
verdict_accepts none = none

abbrev pub verdict_address : Option Verdict → Option ℕ
verdict_address (some Accept) = none
verdict_address (some (Stamp a)) = some a
verdict_address (some Tag) = none
verdict_address none = none

unfoldable pub check_rows : ℕ → State → List ℕ → List Row
check_rows w s m = closed_row s ∷ store_row w m ∷ []

-- what is taken at the marked addresses: each with what its cell holds, lowest first
unfoldable pub taken : ℕ → List ℕ → List ℕ → List Entry
taken w ws m = map (entry_at w m) (in_use ws)

-- and what is put there again: the value that its cell holds, with stamp 1
unfoldable pub opening : ℕ → List ℕ → ℕ → Entry
opening w m a = entry a (value_at w m a) 1

unfoldable pub reput : ℕ → List ℕ → List ℕ → List Entry
reput w ws m = map (opening w m) (in_use ws)

-- a new period: empty hashes, and the clock at 1
unfoldable pub opened : State → State
opened s =
    record { seal = s.seal; put = empty_hash; take = empty_hash; clock = 1; fault = s.fault; first = s.first; closed = s.closed; marks = s.marks }

-- the hashes are equal and no fault is marked
unfoldable pub agrees : State → Bool
agrees s = same_hash s.put s.take && not s.fault

-- why a check rejects, by the state after its takes: a stamp that was ahead, where it was first found, and else the tags
unfoldable pub reason : State → Verdict
reason t = cond t.fault (Stamp t.first) Tag

-- the events of a check: its takes, and an accepted one's puts
unfoldable pub takes : ℕ → State → List ℕ → List Event
takes w s m = map took (taken w s.marks m)

unfoldable pub puts : ℕ → State → List ℕ → List Event
puts w s m = map put (reput w s.marks m)

-- the store after the puts, at the marked addresses and at those in use
unfoldable pub write_each : ℕ → List ℕ → List ℕ → List ℕ
write_each w ws m = foldl (write_entry w) m (reput w ws m)

unfoldable pub write_all : ℕ → State → List ℕ → List ℕ
unfolding write_each
write_all w s m = write_each w s.marks m

module _ (w : ℕ) (tag : Seal → Entry → List ℕ) where
  -- the state after the takes, at the marked addresses and at those in use
  unfoldable pub take_each : List ℕ → State → List ℕ → State
  take_each ws s m = foldl (take_entry tag) s (taken w ws m)

  unfoldable pub take_all : State → List ℕ → State
  unfolding take_each
  take_all s m = take_each s.marks s m

  -- the state after the puts, at the marked addresses; and in a new period, at those in use
  unfoldable pub put_each : List ℕ → State → List ℕ → State
  put_each ws s m = foldl (put_entry tag) s (reput w ws m)

  unfoldable pub put_all : State → List ℕ → State
  unfolding put_each
  put_all s m = put_each s.marks (opened s) m

  -- accepted: between the takes, which end a period, and the puts, which begin the next
  unfoldable pub acceptance : State → List ℕ → Outcome
  acceptance s m = outcome (seen 0 (some Accept) (put_all s m) (write_all w s m) []) (takes w s m ++ (accepted ∷ puts w s m))

  -- rejected, for a reason that counts the check's own takes: the state given, closed, and the store as it was
  unfoldable pub rejection : State → List ℕ → Outcome
  rejection s m = outcome (seen 0 (some (reason (take_all s m))) (close s) m []) (takes w s m)

  unfoldable pub check_of : State → List ℕ → Outcome
  check_of s m = call (check_rows w s m) s m [] (cond (agrees (take_all s m)) (acceptance s m) (rejection s m))
