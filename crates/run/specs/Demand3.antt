-- Demand 3. In our words:
--
-- A run is a start with any key, refused or not, and after it any calls with any arguments, refused ones too. Each call gets the state that the call
-- before gave back, and is lent any bytes as the store.
--
-- First half. Let the run end with a check, and let it accept. Then each answered load of the run handed out what an add or a store had set last at that
-- address. Or there is an accepted check in the run at which hashes collide: in its period no entry was put twice, and what was put there and what was
-- taken there are two multisets that differ, and their hashes do not. The period of an accepted check is all that was done since the accepted check
-- before it, or since the start: from the puts of that check on, to the takes of this one.
--
-- Second half. As long as every cell in use comes back as it was left, a check that is not refused accepts. All other bytes may be any at every call, and
-- a call that is refused, as one that is lent a store of another size, does no harm.
--
-- It is stated by places: `run ≡ before ++ (x ∷ later)` says that the call x stands in the run after the calls `before`. Of the tag nothing is asked.
-- Assumes nothing.
use Rattle.std.specs.Prelude.{◌≡◌, true, List, [], ◌∷◌, ◌++◌, ◌⊎◌, ◌≢◌, ℕ, ◌≤◌}
use Rattle.std.proofs.Math.Option.{some}
use Rattle.state.specs.Marks.{used}
use Rattle.state.specs.Cells.{Entry, entry_at}
use Rattle.state.specs.Multiset.{hash}
use Rattle.state.specs.Counts.{times}
use Rattle.state.specs.Start.{sealed, start_of}
use Rattle.state.specs.TakePut.{Event, took, put, accepted, Outcome}
use Rattle.state.specs.Check.{takes}
use Rattle.state.specs.declared.Seal.{Seal}
use Rattle.state.specs.declared.State.{State}
use Rattle.state.specs.declared.Verdict.TheVariants.{Accept}
use Rattle.run.specs.Calls.{Call, add, load, store, check, Made, made, touches, outcome_of, after, events}

-- ---- multisets, by counts

-- no two alike
abbrev pub NoTwoAlike : List Entry → Type 0
NoTwoAlike es = (e : Entry) → times e es ≤ 1

-- different multisets: some entry is not as often in the one as in the other
abbrev pub Differ : List Entry → List Entry → Type 0
Differ ps ts = (e : Entry) × (times e ps ≢ times e ts)

-- ---- events

-- the entries put, and the entries taken
unfoldable pub put_in : List Event → List Entry
put_in [] = []
put_in (put e ∷ es) = e ∷ put_in es
put_in (took e ∷ es) = put_in es
put_in (accepted ∷ es) = put_in es

unfoldable pub taken_in : List Event → List Entry
taken_in [] = []
taken_in (put e ∷ es) = taken_in es
taken_in (took e ∷ es) = e ∷ taken_in es
taken_in (accepted ∷ es) = taken_in es

-- of all that was done, `period` is what was done since the last accepted check, or since the start: what stands before it is nothing or ends with an
-- accepted check, and in it stands none. An accepted check's takes come before the event `accepted`, and its puts after it (01, Check)
pub record Since (all period : List Event) : Type 0 where
  pub past : List Event
  pub place : all ≡ past ++ period
  pub begins : (past ≡ []) ⊎ ((old : List Event) × (past ≡ old ++ (accepted ∷ [])))
  pub unbroken : (p q : List Event) → period ≡ p ++ (accepted ∷ q) → ⊥

-- ---- calls

-- the latest call of a run of which P holds; P before x is said of a call x that stands after the calls `before`
pub record Latest {A : Type 0} (P : List A → A → Type 0) (run : List A) : Type 0 where
  pub before : List A
  pub call : A
  pub later : List A
  pub place : run ≡ before ++ (call ∷ later)
  pub holds : P before call
  pub last : (p q : List A) (x : A) → later ≡ p ++ (x ∷ q) → P (before ++ (call ∷ p)) x → ⊥

-- the call adds or stores v at a
abbrev pub Sets : Call → ℕ → List ℕ → Type 0
Sets c a v = (c ≡ add a v) ⊎ (c ≡ store a v)

module _ (w : ℕ) (tag : Seal → Entry → List ℕ) (key : List ℕ) where
  -- the state after a run, what a call that follows it gives, and all that a run did, in order
  abbrev pub state_after : List Made → State
  state_after run = after w tag (start_of key).state run

  abbrev pub result : List Made → Made → Outcome
  result before x = outcome_of w tag (state_after before) x.bytes x.call

  abbrev pub events_of : List Made → List Event
  events_of run = events w tag (start_of key).state run

  -- all that was done up to the verdict of a check: by the calls before it, and its own takes
  abbrev pub up_to : List Made → List ℕ → List Event
  up_to before m = events_of before ++ takes w (state_after before) m

  -- the call is not refused
  abbrev pub Done : List Made → Made → Type 0
  Done before x = (result before x).seen.number ≡ 0

  -- a check accepts
  abbrev pub Accepts : List Made → List ℕ → Type 0
  Accepts before m = (result before (made check m)).seen.verdict ≡ some Accept

  -- ---- first half

  -- a call that adds or stores at a, done
  abbrev pub SetAt : ℕ → List Made → Made → Type 0
  SetAt a before x = Done before x × (v : List ℕ) × Sets x.call a v

  -- v is the value last added or stored at a: the argument of the latest such call
  abbrev pub LastSet : List Made → ℕ → List ℕ → Type 0
  LastSet run a v = (l : Latest (SetAt a) run) × Sets l.call.call a v

  -- each load at its place, where it is answered, gave the value last set at its address by the calls before it
  abbrev pub EachLoad : List Made → Type 0
  EachLoad run =
      (before later : List Made) (a : ℕ) (o m : List ℕ) → run ≡ before ++ (made (load a o) m ∷ later)
      → Done before (made (load a o) m) → LastSet before a (result before (made (load a o) m)).seen.out

  -- for some check at its place, which accepts: what was put and taken in its period, its own takes included
  pub record Collision (run : List Made) : Type 0 where
    pub before : List Made
    pub later : List Made
    pub bytes : List ℕ
    pub place : run ≡ before ++ (made check bytes ∷ later)
    pub accepts : Accepts before bytes
    pub period : List Event
    pub since : Since (up_to before bytes) period
    pub alike : NoTwoAlike (put_in period)
    pub differ : Differ (put_in period) (taken_in period)
    pub equal : hash (tag (sealed key)) (put_in period) ≡ hash (tag (sealed key)) (taken_in period)

  -- the last call is a check that accepts
  abbrev pub LastAccepts : List Made → Type 0
  LastAccepts run = (before : List Made) × (m : List ℕ) × (run ≡ before ++ (made check m ∷ [])) × Accepts before m

  -- ---- second half

  -- a call that is not refused, and no look, count or lowest free
  abbrev pub Touches : List Made → Made → Type 0
  Touches before x = Done before x × (touches x.call ≡ true)

  -- each cell in use reaches each such call as the latest such call before it left it; all other bytes may be any
  abbrev pub Unaltered : List Made → Type 0
  Unaltered run =
      (before later : List Made) (x : Made) → run ≡ before ++ (x ∷ later) → Touches before x → (l : Latest Touches before)
      → (a : ℕ) → used (state_after before).marks a ≡ true → entry_at w x.bytes a ≡ entry_at w (result l.before l.call).seen.store a

  abbrev pub EachCheck : List Made → Type 0
  EachCheck run =
      (before later : List Made) (m : List ℕ) → run ≡ before ++ (made check m ∷ later) → Done before (made check m) → Accepts before m

-- ---- demand 3, for a stamp of w bytes and any tag

abbrev pub Demand3 : ℕ → (Seal → Entry → List ℕ) → Type 0
Demand3 w tag =
    (key : List ℕ) (run : List Made)
    → (LastAccepts w tag key run → EachLoad w tag key run ⊎ Collision w tag key run) × (Unaltered w tag key run → EachCheck w tag key run)
