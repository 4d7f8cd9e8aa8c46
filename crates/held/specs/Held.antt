-- 01, "The trusted state and the moves": the state as a caller in another language holds it, in plain numbers of which each may have any value.
-- Assumes nothing.
use Rattle.std.specs.Prelude.{Bool, cond, not, ℕ, eqb}
use Rattle.state.specs.declared.State.{State}
use Rattle.held.specs.declared.Held.{Held}

-- a mark as a byte: 0 is clear, and any other number is set; a call that writes it writes 0 or 1
abbrev pub is_set : ℕ → Bool
is_set n = not (eqb n 0)

abbrev pub byte_of : Bool → ℕ
byte_of b = cond b 1 0

-- the state that is held
unfoldable pub state_of : Held → State
state_of h = record {
  seal = record { key = h.key };
  put = record { tag = h.put.tag; number = h.put.number };
  take = record { tag = h.take.tag; number = h.take.number };
  clock = h.clock;
  fault = is_set h.fault;
  first = h.first;
  closed = is_set h.closed;
  marks = h.marks;
}

-- how a state is written
unfoldable pub held_of : State → Held
held_of s = record {
  key = s.seal.key;
  marks = s.marks;
  put = record { tag = s.put.tag; number = s.put.number };
  take = record { tag = s.take.tag; number = s.take.number };
  clock = s.clock;
  fault = byte_of s.fault;
  closed = byte_of s.closed;
  first = s.first;
  unused = 0;
}
