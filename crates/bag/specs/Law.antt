-- The law of a list of events, from any bag: a take is of an address where an entry is held, whichever entry it takes; a put is where none is held, and its
-- stamp is the clock raised by 1, or the clock itself as long as nothing was taken since the last accepted check; a check accepts only where nothing is
-- held any more, the two hashes agree and no stamp was ahead of the clock.
-- Assumes nothing.
use Rattle.std.specs.Prelude.{◌≡◌, List, [], ◌∷◌, ◌⊎◌, ℕ, ◌+◌}
use Rattle.std.proofs.Math.Option.{none, some}
use Rattle.state.specs.Cells.{Entry}
use Rattle.state.specs.Multiset.{hash}
use Rattle.state.specs.TakePut.{Event, took, put, accepted}
use Rattle.bag.specs.Bag.{Bag, noted}

-- P holds of each event and the bag before it
abbrev pub Along : (Bag → Event → Type 0) → Bag → List Event → Type 0
Along P b [] = Unit {0}
Along P b (e ∷ es) = P b e × Along P (noted b e) es

abbrev pub Bare : Bag → Type 0
Bare b = (a : ℕ) → b.held a ≡ none

abbrev pub Stamped : Bag → Entry → Type 0
Stamped b e = (e.stamp ≡ b.clock + 1) ⊎ ((b.takes ≡ []) × (e.stamp ≡ b.clock))

abbrev pub May : (Entry → List ℕ) → Bag → Event → Type 0
May tag b (took e) = (d : Entry) × (b.held e.address ≡ some d)
May tag b (put e) = (b.held e.address ≡ none) × Stamped b e
May tag b accepted = Bare b × (hash tag b.puts ≡ hash tag b.takes) × (b.fault ≡ none)

abbrev pub Lawful : (Entry → List ℕ) → Bag → List Event → Type 0
Lawful tag = Along (May tag)

-- each take takes what is held
abbrev pub TakesHeld : Bag → Event → Type 0
TakesHeld b (took e) = b.held e.address ≡ some e
TakesHeld b (put e) = Unit {0}
TakesHeld b accepted = Unit {0}

abbrev pub Right : Bag → List Event → Type 0
Right = Along TakesHeld
