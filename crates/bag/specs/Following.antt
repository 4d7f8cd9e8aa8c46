-- How the trusted state and the lent store go with a bag: the state's hashes, clock, fault mark and first fault's address are the bag's, an honest store holds
-- what is held, and entries fit their cells and their messages.
-- Assumes nothing.
use Rattle.std.specs.Prelude.{◌≡◌, true, List, ◌↔◌, ℕ, ◌≤◌, ◌<◌, length, get_or}
use Rattle.std.proofs.Math.Option.{Option, none, some}
use Rattle.state.specs.Sizes.{addresses, value_size, ceiling}
use Rattle.state.specs.Cells.{Entry, entry_at}
use Rattle.state.specs.Multiset.{hash, Fits}
use Rattle.state.specs.TakePut.{Event, took, put, accepted}
use Rattle.state.specs.Check.{agrees}
use Rattle.state.specs.declared.Seal.{Seal}
use Rattle.state.specs.declared.State.{State}
use Rattle.bag.specs.Bag.{Bag, there}

-- ---- the trusted state

-- the address of a fault: 0 where there is none
abbrev pub fault_address : Option ℕ → ℕ
fault_address none = 0
fault_address (some a) = a

-- a state has the seal, the bag's clock and fault, and the hashes of what the bag has put and taken; its marks are no part of this
pub record Follows (tag : Seal → Entry → List ℕ) (k : Seal) (s : State) (b : Bag) : Type 0 where
  pub seal : s.seal ≡ k
  pub put : s.put ≡ hash (tag k) b.puts
  pub take : s.take ≡ hash (tag k) b.takes
  pub clock : s.clock ≡ b.clock
  pub fault : s.fault ≡ there b.fault
  pub first : s.first ≡ fault_address b.fault

-- so a check that looks at such a state after its takes tells of the bag exactly
abbrev pub AgreesExactly : (Seal → Entry → List ℕ) → Seal → Type 0
AgreesExactly tag k = (s : State) (b : Bag) → Follows tag k s b → (agrees s ≡ true) ↔ ((hash (tag k) b.puts ≡ hash (tag k) b.takes) × (b.fault ≡ none))

-- ---- the store

-- it holds at each address what is held there
abbrev pub Holds : ℕ → Bag → List ℕ → Type 0
Holds w b m = (a : ℕ) (e : Entry) → b.held a ≡ some e → entry_at w m a ≡ e

-- an entry that fits its cell
pub record InCell (w : ℕ) (e : Entry) : Type 0 where
  pub address : e.address < addresses
  pub value : length e.value ≡ value_size
  pub stamp : e.stamp ≤ ceiling w

-- each entry put fits its cell
abbrev pub PutFits : ℕ → Bag → Event → Type 0
PutFits w b (took e) = Unit {0}
PutFits w b (put e) = InCell w e
PutFits w b accepted = Unit {0}

-- a list of bytes, and each entry taken fits its message, as it does where the store is one
abbrev pub Bytes : List ℕ → Type 0
Bytes m = (i : ℕ) → get_or m i 0 < 256

abbrev pub TakeFits : ℕ → Bag → Event → Type 0
TakeFits w b (took e) = Fits w e
TakeFits w b (put e) = Unit {0}
TakeFits w b accepted = Unit {0}
