-- 01, "The trusted state and the moves": take and put, and what a call gives. The tag is a parameter: `tag seal entry`.
-- Assumes nothing.
use Rattle.std.specs.Prelude.{Bool, true, cond, not, ◌||◌, ◌&&◌, List, ℕ, ◌+◌, ltb, Result, Ok, Err, []}
use Rattle.std.proofs.Math.Option.{Option, none, some}
use Rattle.std.specs.Result.{result_unwrap_or}
use Rattle.refusal.specs.Told.{told}
use Rattle.refusal.specs.declared.Refusal.{Refusal}
use Rattle.state.specs.Cells.{Entry, entry}
use Rattle.state.specs.Multiset.{with_tag}
use Rattle.state.specs.declared.Seal.{Seal}
use Rattle.state.specs.declared.State.{State}
use Rattle.state.specs.declared.Verdict.{Verdict}
use Rattle.state.specs.declared.Checked.{Checked}

-- what a call did, in order, for definitions only: entries taken and put, and that a check accepted
pub data Event : Type 0 where
  took : Entry → Event
  put : Entry → Event
  accepted : Event

-- what the caller has after a call: its number, the verdict if there is one, the state, the bytes of the lent store and of the lent out buffer (none: no bytes)
pub record Seen : Type 0 where
  pub number : ℕ
  pub verdict : Option Verdict
  pub state : State
  pub store : List ℕ
  pub out : List ℕ

abbrev pub seen : ℕ → Option Verdict → State → List ℕ → List ℕ → Seen
seen n v s m o = record { number = n; verdict = v; state = s; store = m; out = o }

-- of a call on the state s that gives a state where it is done, and of a check of it: refused, the caller still has s
abbrev pub moved : Result State Refusal → State → List ℕ → List ℕ → Seen
moved r s m o = seen (told r) none (result_unwrap_or r s) m o

abbrev pub verdict_in : Result Checked Refusal → Option Verdict
verdict_in (Ok c) = some c.verdict
verdict_in (Err r) = none

abbrev pub state_in : Result Checked Refusal → State → State
state_in (Ok c) s = c.state
state_in (Err r) s = s

abbrev pub checked : Result Checked Refusal → State → List ℕ → Seen
checked r s m = seen (told r) (verdict_in r) (state_in r s) m []

pub record Outcome : Type 0 where
  pub seen : Seen
  pub events : List Event

abbrev pub outcome : Seen → List Event → Outcome
outcome x es = record { seen = x; events = es }

-- the state with other marks
unfoldable pub with_marks : State → List ℕ → State
with_marks s ws =
    record { seal = s.seal; put = s.put; take = s.take; clock = s.clock; fault = s.fault; first = s.first; closed = s.closed; marks = ws }

-- the state, closed
unfoldable pub close : State → State
close s =
    record { seal = s.seal; put = s.put; take = s.take; clock = s.clock; fault = s.fault; first = s.first; closed = true; marks = s.marks }

-- the entry that a put of v at a makes: its stamp is the clock, raised by 1
unfoldable pub next : State → ℕ → List ℕ → Entry
next s a v = entry a v (s.clock + 1)

-- the address of the first fault after a take of e, the clock being c and that address a before: e's, where its stamp is above the clock and no fault is marked yet
abbrev pub first_fault : Bool → ℕ → ℕ → Entry → ℕ
first_fault fault a c e = cond (not fault && ltb c e.stamp) e.address a

module _ (tag : Seal → Entry → List ℕ) where
  -- Take of the entry that was read
  unfoldable pub take_entry : State → Entry → State
  take_entry s e =
      record {
        seal = s.seal;
        put = s.put;
        take = with_tag s.take (tag s.seal e);
        clock = s.clock;
        fault = s.fault || ltb s.clock e.stamp;
        first = first_fault s.fault s.first s.clock e;
        closed = s.closed;
        marks = s.marks;
      }

  -- Put of an entry, whose stamp the clock becomes
  unfoldable pub put_entry : State → Entry → State
  put_entry s e =
      record { seal = s.seal; put = with_tag s.put (tag s.seal e); take = s.take; clock = e.stamp; fault = s.fault; first = s.first; closed = s.closed; marks = s.marks }
