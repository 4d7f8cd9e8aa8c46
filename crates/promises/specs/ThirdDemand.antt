-- Demand 3. In our words: take any run of calls after a start, each given the state that the one before gave back, while the store may hold other bytes at
-- each call. If the last call is a check that accepts, every load answered in the run gave the value last added or stored at its address; or else at some
-- accepted check the entries put in its period, no two alike, and the entries taken in it are different multisets with one hash. And if the cells in use
-- reach each call unaltered, every check that is not refused accepts.
--
-- The statement is `Demand3` (crate `run`), over the state that a start gives and the outcome of each call; here these are what the library's calls give. A
-- look, a count and a search for the lowest free address may stand in a run and change nothing in it. Assumes nothing.
use Rattle.std.specs.Prelude.{◌≡◌, List, [], ℕ}
use Rattle.state.specs.Cells.{Entry}
use Rattle.state.specs.declared.Seal.{Seal}
use Rattle.state.specs.declared.State.{State}
use Rattle.run.specs.Calls.{add, load, store, remove, check, outcome_of}
use Rattle.run.specs.Demand3.{state_after, Demand3}
use Rattle.run.specs.Sense.{LastOne, HonestNoCollision, UnusedMayChange, HandedBack}
use Rattle.promises.specs.Library.{Library}

pub record ThirdDemand (tag : Seal → Entry → List ℕ) (l : Library) : Type 0 where
  -- the runs spoken of are runs of these calls
  pub start : (key : List ℕ) → (l.store.start key).state ≡ state_after 2 tag key []
  pub add : (s : State) (m : List ℕ) (a : ℕ) (v : List ℕ) → l.store.add s m a v ≡ (outcome_of 2 tag s m (add a v)).seen
  pub load : (s : State) (m : List ℕ) (a : ℕ) (o : List ℕ) → l.store.load s m a o ≡ (outcome_of 2 tag s m (load a o)).seen
  pub store : (s : State) (m : List ℕ) (a : ℕ) (v : List ℕ) → l.store.store s m a v ≡ (outcome_of 2 tag s m (store a v)).seen
  pub remove : (s : State) (m : List ℕ) (a : ℕ) → l.store.remove s m a ≡ (outcome_of 2 tag s m (remove a)).seen
  pub check : (s : State) (m : List ℕ) → l.store.check s m ≡ (outcome_of 2 tag s m check).seen
  -- the demand, both halves
  pub demand : Demand3 2 tag
  -- there is one value last set; its excuse is not always at hand; it asks for no cell that is not in use, and for no more than what was left
  pub last_one : LastOne 2 tag
  pub honest : HonestNoCollision 2 tag
  pub unused : UnusedMayChange 2 tag
  pub handed_back : HandedBack 2 tag
