-- SHA-256's compression of one block, as FIPS 180-4 has it, over the schedule and the round. Lists hold words in the standard's order.
-- Assumes nothing.
use Rattle.std.specs.Prelude.{ℕ, zero, suc, List, slice_index, slice_index_or}
use Rattle.constants.specs.Constants.{K}
use Rattle.octets.specs.Places.{tabulate}
use Rattle.schedule.specs.Words.{◌⊞◌}
use Rattle.schedule.specs.Schedule.{schedule}
use Rattle.round.specs.Round.{round}

-- FIPS 180-4 §6.2.2, step 3: the first t rounds, over the schedule w
unfoldable pub rounds : ℕ → List ℕ → List ℕ → List ℕ
rounds zero w s = s
rounds (suc t) w s = round (slice_index K t) (slice_index w t) (rounds t w s)

-- FIPS 180-4 §6.2.2, step 4: the running hash h, each word increased by the one that the rounds left in its place
unfoldable pub increased : List ℕ → List ℕ → List ℕ
increased s h = tabulate (λ i. slice_index_or s i 0 ⊞ slice_index_or h i 0) 8

-- FIPS 180-4 §6.2.2: the running hash after a block of sixteen words
unfoldable pub compress : List ℕ → List ℕ → List ℕ
compress h block = increased (rounds 64 (schedule 64 block) h) h
