-- The calls in place are the calls: what the state in place stands for after each is the state that the call gives back, and a check's answer and the address
-- that it writes tell its verdict. Assumes nothing.
use Rattle.std.specs.Prelude.{◌≡◌, List, ◌↔◌, ◌≢◌, ℕ}
use Rattle.std.proofs.Math.Option.{some}
use Rattle.state.specs.TakePut.{Seen}
use Rattle.state.specs.Calls.{Calls}
use Rattle.state.specs.declared.State.{State}
use Rattle.state.specs.declared.Verdict.TheVariants.{Accept, Stamp, Tag}
use Rattle.filter.specs.declared.FilterRecord.{FilterRecord}
use Rattle.held.specs.Held.{state_of, held_of}
use Rattle.held.specs.Fields.{record_of, fields_of}
use Rattle.held.specs.Answers.{in_place, stamp_or}
use Rattle.held.specs.declared.Held.{Held}

-- the state in place after a call stands for the one that the call gives
abbrev pub InPlace : Held → Seen → Type 0
InPlace h y = state_of (in_place h y).state ≡ y.state

pub record Same (c : Calls) : Type 0 where
  pub add : (h : Held) (m : List ℕ) (a : ℕ) (v : List ℕ) → InPlace h (c.add (state_of h) m a v)
  pub load : (h : Held) (m : List ℕ) (a : ℕ) (o : List ℕ) → InPlace h (c.load (state_of h) m a o)
  pub store : (h : Held) (m : List ℕ) (a : ℕ) (v : List ℕ) → InPlace h (c.store (state_of h) m a v)
  pub remove : (h : Held) (m : List ℕ) (a : ℕ) → InPlace h (c.remove (state_of h) m a)
  pub check : (h : Held) (m : List ℕ) → InPlace h (c.check (state_of h) m)
  -- what is written is read back
  pub state : (s : State) → state_of (held_of s) ≡ s
  pub filter : (r : FilterRecord) → record_of (fields_of r) ≡ r
  -- the first fault's address stands in its own field
  pub first : (s : State) → (held_of s).first ≡ s.first
  -- a check answers 0 exactly where it accepts, 254 exactly where it rejects for a stamp, and 255 exactly where it rejects for the tags
  pub accepts : (h : Held) (m : List ℕ) → ((in_place h (c.check (state_of h) m)).answer ≡ 0) ↔ ((c.check (state_of h) m).verdict ≡ some Accept)
  pub rejects_stamp : (h : Held) (m : List ℕ) → ((in_place h (c.check (state_of h) m)).answer ≡ 254) ↔ ((a : ℕ) × ((c.check (state_of h) m).verdict ≡ some (Stamp a)))
  pub rejects_tag : (h : Held) (m : List ℕ) → ((in_place h (c.check (state_of h) m)).answer ≡ 255) ↔ ((c.check (state_of h) m).verdict ≡ some Tag)
  -- with 254 the lent address is the stamp's, and with any other answer it is what it was
  pub address : (n a : ℕ) → stamp_or n (some (Stamp a)) ≡ a
  pub address_left : (h : Held) (m : List ℕ) (n : ℕ) → (in_place h (c.check (state_of h) m)).answer ≢ 254 → stamp_or n (c.check (state_of h) m).verdict ≡ n
