-- What a call has to show to be part of a run: that what it does is a lawful list of events, that the state and the marks follow it, that its fault stays
-- settled, that the store follows where it is honest, and how the values go on. All else that is proved of runs follows from it. Assumes nothing.
use mathlib.Core.Path.{◌≡◌}
use mathlib.Core.Bool.{true, false}
use mathlib.Core.List.{List, [], ◌∷◌, ◌++◌}
use mathlib.Core.Option.{some, none}
use mathlib.Core.Logic.{◌⊎◌}
use Prim.Native.Nat.{ℕ, ◌≤◌}
use lib.ListN.{length}
use Rattle.state.specs.Sizes.{ceiling}
use Rattle.state.specs.Marks.{used}
use Rattle.state.specs.Cells.{Entry}
use Rattle.state.specs.TakePut.{Event, accepted, Outcome}
use Rattle.state.specs.Check.{takes}
use Rattle.state.specs.declared.Seal.{Seal}
use Rattle.state.specs.declared.State.{State}
use Rattle.state.specs.declared.Verdict.TheVariants.{Accept}
use Rattle.bag.specs.Bag.{Bag, there, follow}
use Rattle.bag.specs.Law.{Along, Lawful, Right}
use Rattle.bag.specs.Following.{Follows, Holds, PutFits, Bytes, TakeFits}
use Rattle.run.specs.Calls.{Call, load, check, touches}
use Rattle.run.specs.Demand3.{Sets}
use Rattle.run.proofs.Settled.{Settled}

-- an address is in use where an entry is held
pub record Fit (s : State) (b : Bag) : Type 0 where
  pub marked : (a : ℕ) → used s.marks a ≡ there (b.held a)
  pub sixteen : length s.marks ≡ 16

-- the clock fits the stamp, and so does a new period's
abbrev pub Room : ℕ → Bag → Type 0
Room w b = (1 ≤ ceiling w) × (b.clock ≤ ceiling w)

-- the value of an entry that is held after a call was set by the call; or the call sets nothing there, and what was held there before has that value
abbrev pub Kept : Bag → Call → ℕ → Entry → Type 0
Kept b c a e = Sets c a e.value ⊎ (((v : List ℕ) → Sets c a v → ⊥) × ((d : Entry) × (b.held a ≡ some d) × (d.value ≡ e.value)))

module _ (w : ℕ) (tag : Seal → Entry → List ℕ) (seal : Seal) (s : State) (m : List ℕ) (b : Bag) (c : Call) where
  -- a call that is done, and takes or puts
  pub record Does (r : Outcome) : Type 0 where
    pub number : r.seen.number ≡ 0
    pub lawful : Lawful (tag seal) b r.events
    pub follows : r.seen.state.closed ≡ false → Follows tag seal r.seen.state (follow b r.events)
    pub fit : r.seen.state.closed ≡ false → Fit r.seen.state (follow b r.events)
    pub settled : Settled s → Settled r.seen.state
    pub put_fits : Room w b → Along (PutFits w) b r.events
    pub take_fits : Bytes m → Along (TakeFits w) b r.events
    pub honest : Room w b → Holds w b m → Right b r.events × Holds w (follow b r.events) r.seen.store
    pub kept : Right b r.events → (a : ℕ) (e : Entry) → (follow b r.events).held a ≡ some e → Kept b c a e
    pub answers : (a : ℕ) (o : List ℕ) → c ≡ load a o → Right b r.events → (d : Entry) × (b.held a ≡ some d) × (d.value ≡ r.seen.out)
    pub accepts : (p q : List Event) → r.events ≡ p ++ (accepted ∷ q) → (c ≡ check) × (r.seen.verdict ≡ some Accept) × (p ≡ takes w s m)

  -- a call that is refused, or idle
  pub record Still (r : Outcome) : Type 0 where
    pub state : r.seen.state ≡ s
    pub store : r.seen.store ≡ m
    pub events : r.events ≡ []
    pub verdict : r.seen.verdict ≡ none
    pub idle : r.seen.number ≡ 0 → touches c ≡ true → ⊥

  pub data Did (r : Outcome) : Type 0 where
    still : Still r → Did r
    does : s.closed ≡ false → touches c ≡ true → Does r → Did r
