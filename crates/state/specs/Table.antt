-- 01, "Numbers given back", for the calls of the store, written out: every call's conditions in their order, each with its number; and that a refusal changes
-- nothing. No row of a definition is cited. The numbers that go with the stamp's width are `cell` and `size`, of a cell and of a store, and `ceiling`, the last
-- clock. Assumes nothing.
use Rattle.std.specs.Prelude.{◌≡◌, true, false, List, [], ◌∷◌, ◌⊎◌, ◌≢◌, ℕ, ◌*◌, ◌/◌, ◌%◌, ◌^◌, ◌<◌, length, get_or, take, drop, replicate}
use Rattle.std.proofs.Math.Option.{none, some}
use Rattle.refusal.specs.Cases.{Case, given, FirstOf}
use Rattle.state.specs.TakePut.{Seen}
use Rattle.state.specs.Calls.{Calls}
use Rattle.state.specs.declared.Hash.{Hash}
use Rattle.state.specs.declared.State.{State}
use Rattle.state.specs.declared.Verdict.TheVariants.{Accept, Stamp, Tag}

-- address a is in use: bit a % 64, from the lowest, of word a / 64
abbrev pub Marked : State → ℕ → Type 0
Marked s a = (get_or s.marks (a / 64) 0 / 2 ^ (a % 64)) % 2 ≡ 1

-- what a call of the state s with the bytes m and the out buffer o gives: a number by its conditions, and where that is not 0 all is as it was
pub record Answers (cases : List Case) (x : Seen) (s : State) (m o : List ℕ) : Type 0 where
  pub number : FirstOf cases x.number
  pub unchanged : x.number ≢ 0 → (x.state ≡ s) × (x.store ≡ m) × (x.out ≡ o) × (x.verdict ≡ none)

-- the hash of nothing
abbrev pub zero_hash : Hash
zero_hash = record { tag = replicate 32 0; number = 0 }

pub record Table (cell size ceiling : ℕ) (c : Calls) : Type 0 where
  pub start : (k : List ℕ) → FirstOf (given 8 (length k ≢ 32) ∷ []) (c.start k).number
  pub start_state : (k : List ℕ) → (c.start k).number ≡ 0
      → (c.start k).state ≡ record { seal = record { key = k }; put = zero_hash; take = zero_hash; clock = 0; fault = false; first = 0; closed = false; marks = replicate 16 0 }
  pub start_refused : (k : List ℕ) → (c.start k).number ≢ 0
      → (c.start k).state ≡ record { seal = record { key = replicate 32 0 }; put = zero_hash; take = zero_hash; clock = 0; fault = false; first = 0; closed = true; marks = replicate 16 0 }
  pub add : (s : State) (m : List ℕ) (a : ℕ) (v : List ℕ)
      → Answers (given 7 (s.closed ≡ true) ∷ given 1 (length m ≢ size) ∷ given 2 (1023 < a) ∷ given 3 (length v ≢ 28) ∷ given 4 (Marked s a) ∷ given 6 (s.clock ≡ ceiling) ∷ [])
      (c.add s m a v) s m []
  pub load : (s : State) (m : List ℕ) (a : ℕ) (o : List ℕ)
      → Answers (given 7 (s.closed ≡ true) ∷ given 1 (length m ≢ size) ∷ given 2 (1023 < a) ∷ given 3 (length o ≢ 28) ∷ given 5 (¬ Marked s a) ∷ given 6 (s.clock ≡ ceiling) ∷ [])
      (c.load s m a o) s m o
  pub store : (s : State) (m : List ℕ) (a : ℕ) (v : List ℕ)
      → Answers (given 7 (s.closed ≡ true) ∷ given 1 (length m ≢ size) ∷ given 2 (1023 < a) ∷ given 3 (length v ≢ 28) ∷ given 5 (¬ Marked s a) ∷ given 6 (s.clock ≡ ceiling) ∷ [])
      (c.store s m a v) s m []
  pub remove : (s : State) (m : List ℕ) (a : ℕ)
      → Answers (given 7 (s.closed ≡ true) ∷ given 1 (length m ≢ size) ∷ given 2 (1023 < a) ∷ given 5 (¬ Marked s a) ∷ []) (c.remove s m a) s m []
  pub check : (s : State) (m : List ℕ) → Answers (given 7 (s.closed ≡ true) ∷ given 1 (length m ≢ size) ∷ []) (c.check s m) s m []
  -- a check that is done says accept, or reject for a stamp at an address or for the tags
  pub check_says : (s : State) (m : List ℕ) → (c.check s m).number ≡ 0
      → ((c.check s m).verdict ≡ some Accept) ⊎ (((c.check s m).verdict ≡ some Tag) ⊎ ((a : ℕ) × ((c.check s m).verdict ≡ some (Stamp a))))
  -- a look gives the cell's value where it lies, and no bytes at the store's first where the store or the address is refused
  pub look : (m : List ℕ) (a : ℕ) → length m ≡ size → a < 1024 → (c.look m a ≡ take 28 (drop (cell * a) m)) × (c.look_from m a ≡ cell * a)
  pub look_size : (m : List ℕ) (a : ℕ) → length m ≡ size → a < 1024 → length (c.look m a) ≡ 28
  pub look_refused : (m : List ℕ) (a : ℕ) → (length m ≢ size) ⊎ (1023 < a) → (c.look m a ≡ []) × (c.look_from m a ≡ 0)
