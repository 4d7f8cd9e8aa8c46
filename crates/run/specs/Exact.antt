-- Demand 2, its sentence on the check, said of whole runs. In our words:
--
-- After any run, a check that is not refused accepts exactly when the entries put and the entries taken in its period have equal hashes, and no entry
-- taken in its period, by a call or by the check itself, had a stamp ahead of the clock of its time. The period is demand 3's: all that was done since
-- the accepted check before, or since the start, with the check's own takes at its end.
--
-- It rejects for a stamp at an address exactly when some such entry had a stamp ahead, and the first of them, in the order in which they were taken, is of that
-- address, which is below 1,024; and for the tags exactly when none had, and the hashes differ.
--
-- And at any time, as long as the state is not closed, it tells of the period so far: its hashes are those of the entries put and taken, under the seal of
-- the start; no fault is marked exactly when no stamp was ahead; else the first fault's address is that of the first such take. In every state of a run, closed
-- or not, that address is 0 where no fault is marked, and below 1,024.
--
-- The clock is told by what was done: 0 at the start, a put's stamp after that put, 1 after an accepted check. It is the state's clock.
-- Of the tag nothing is asked, nor of the stamp's width. Assumes nothing.
use Rattle.std.specs.Prelude.{◌≡◌, true, false, ◌↔◌, ◌≢◌, ℕ, ◌<◌}
use Rattle.std.proofs.Math.Option.{some}
use mathlib.Core.List.{List, ◌∷◌, ◌++◌, foldl}
use Rattle.state.specs.Cells.{Entry}
use Rattle.state.specs.Multiset.{hash}
use Rattle.state.specs.Start.{sealed}
use Rattle.state.specs.TakePut.{Event, took, put, accepted}
use Rattle.state.specs.Effects.{Ahead}
use Rattle.state.specs.declared.Seal.{Seal}
use Rattle.state.specs.declared.State.{State}
use Rattle.state.specs.declared.Verdict.TheVariants.{Stamp, Tag}
use Rattle.run.specs.Calls.{check, Made, made}
use Rattle.run.specs.Demand3.{put_in, taken_in, Since, state_after, result, events_of, up_to, Done, Accepts}

-- the clock after an event, c being the clock before it; and the clock after all that was done since the start
unfoldable pub tick : ℕ → Event → ℕ
tick c (took e) = c
tick c (put e) = e.stamp
tick c accepted = 1

abbrev pub clock_after : List Event → ℕ
clock_after = foldl tick 0

-- of what was done after `past`, no take was ahead of the clock of its time
abbrev pub NoneAhead : List Event → List Event → Type 0
NoneAhead past es = (p q : List Event) (e : Entry) → es ≡ p ++ (took e ∷ q) → Ahead (clock_after (past ++ p)) e → ⊥

-- of what was done after `past`, the first take that was ahead of the clock of its time is at the address a
pub record AheadFirstAt (past es : List Event) (a : ℕ) : Type 0 where
  pub before : List Event
  pub entry : Entry
  pub later : List Event
  pub place : es ≡ before ++ (took entry ∷ later)
  pub address : entry.address ≡ a
  pub ahead : Ahead (clock_after (past ++ before)) entry
  pub none_before : NoneAhead past before

-- whatever was done, there is one period, and no other
abbrev pub OnePeriod : Type 0
OnePeriod = (all : List Event) → (period : List Event) × Since all period × ((other : List Event) → Since all other → other ≡ period)

-- the state s is told by all that was done since a start with the seal k
pub record Told (tag : Seal → Entry → List ℕ) (k : Seal) (s : State) (all period : List Event) (since : Since all period) : Type 0 where
  pub seal : s.seal ≡ k
  pub put : s.put ≡ hash (tag k) (put_in period)
  pub take : s.take ≡ hash (tag k) (taken_in period)
  pub clock : s.clock ≡ clock_after all
  pub fault : (s.fault ≡ false) ↔ NoneAhead since.past period
  pub first : (a : ℕ) → ((s.fault ≡ true) × (s.first ≡ a)) ↔ AheadFirstAt since.past period a

module _ (w : ℕ) (tag : Seal → Entry → List ℕ) where
  abbrev pub StateExact : Type 0
  StateExact =
      (key : List ℕ) (run : List Made) → (state_after w tag key run).closed ≡ false
      → (period : List Event) (since : Since (events_of w tag key run) period) → Told tag (sealed key) (state_after w tag key run) (events_of w tag key run) period since

  abbrev pub FirstAddress : Type 0
  FirstAddress =
      (key : List ℕ) (run : List Made) → ((state_after w tag key run).fault ≡ false → (state_after w tag key run).first ≡ 0) × ((state_after w tag key run).first < 1024)

  abbrev pub CheckExact : Type 0
  CheckExact =
      (key : List ℕ) (before : List Made) (m : List ℕ) → Done w tag key before (made check m)
      → (period : List Event) (since : Since (up_to w tag key before m) period)
      → Accepts w tag key before m ↔ ((hash (tag (sealed key)) (put_in period) ≡ hash (tag (sealed key)) (taken_in period)) × NoneAhead since.past period)

  abbrev pub ReasonExact : Type 0
  ReasonExact =
      (key : List ℕ) (before : List Made) (m : List ℕ) → Done w tag key before (made check m)
      → (period : List Event) (since : Since (up_to w tag key before m) period)
      → ((a : ℕ) → ((result w tag key before (made check m)).seen.verdict ≡ some (Stamp a)) ↔ AheadFirstAt since.past period a)
      × (((result w tag key before (made check m)).seen.verdict ≡ some Tag)
      ↔ (NoneAhead since.past period × (hash (tag (sealed key)) (put_in period) ≢ hash (tag (sealed key)) (taken_in period))))

  abbrev pub StampBelow : Type 0
  StampBelow = (key : List ℕ) (before : List Made) (m : List ℕ) (a : ℕ) → (result w tag key before (made check m)).seen.verdict ≡ some (Stamp a) → a < 1024
