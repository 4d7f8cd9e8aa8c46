-- How many entries were put and taken in a run. In our words:
--
-- As long as the state is not closed, the entries put in the period so far are as many as the entries taken in it and the addresses in use together. So at every
-- check that is not refused, whatever it says, as many were put as were taken once it has taken its own: from a start the element numbers never differ at a
-- check.
--
-- The counts are whole numbers, and no modulus is in them; the state's numbers are theirs modulo 2^32. Of the tag nothing is asked, nor of the stamp's width.
-- Assumes nothing.
use Rattle.std.specs.Prelude.{◌≡◌, false, List, ℕ, ◌+◌, length}
use Rattle.state.specs.Marks.{count_of}
use Rattle.state.specs.Cells.{Entry}
use Rattle.state.specs.TakePut.{Event}
use Rattle.state.specs.Check.{take_all}
use Rattle.state.specs.declared.Seal.{Seal}
use Rattle.run.specs.Calls.{check, Made, made}
use Rattle.run.specs.Demand3.{put_in, taken_in, Since, state_after, events_of, up_to, Done}

module _ (w : ℕ) (tag : Seal → Entry → List ℕ) where
  abbrev pub PutsCounted : Type 0
  PutsCounted =
      (key : List ℕ) (run : List Made) → (state_after w tag key run).closed ≡ false
      → (period : List Event) → Since (events_of w tag key run) period → length (put_in period) ≡ length (taken_in period) + count_of (state_after w tag key run).marks

  -- the numbers of the state after a check's takes, and how many were put and taken in its period
  abbrev pub NumbersAgree : Type 0
  NumbersAgree =
      (key : List ℕ) (before : List Made) (m : List ℕ) → Done w tag key before (made check m)
      → ((take_all w tag (state_after w tag key before) m).put.number ≡ (take_all w tag (state_after w tag key before) m).take.number)
      × ((period : List Event) → Since (up_to w tag key before m) period → length (put_in period) ≡ length (taken_in period))
