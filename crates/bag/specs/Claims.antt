-- What holds of every list of events that keeps the law, from any bag that is orderly, as the empty one is: the source's theorem 5.1, with the collision shown
-- in the place of an assumption on the hash. A run of calls needs only to show that its events keep the law.
-- Assumes nothing.
use Rattle.std.specs.Prelude.{◌≡◌, List, [], ◌∷◌, ◌++◌, ◌⊎◌, ◌≢◌, ℕ, zero, suc, ◌+◌, ◌≤◌, ◌<◌, length}
use Rattle.std.proofs.Math.Option.{Option, none, some}
use Rattle.state.specs.Cells.{Entry}
use Rattle.state.specs.Multiset.{hash}
use Rattle.state.specs.Counts.{same_entry, once, times}
use Rattle.state.specs.TakePut.{Event, accepted}
use Rattle.bag.specs.Bag.{Bag, listed, follow}
use Rattle.bag.specs.Law.{Bare, Lawful, Right}

-- how often an entry is held at its address: once or not at all
abbrev pub held_times : Option Entry → Entry → ℕ
held_times none c = 0
held_times (some e) c = once (same_entry c e)

-- no stamp put is above the clock; no two puts are alike; an entry is held at its own address; each put is held still or was owed by one take, and each take
-- owed one entry: what was put is what was owed and what is held
pub record Orderly (b : Bag) : Type 0 where
  pub later : (c : Entry) → b.clock < c.stamp → times c b.puts ≡ 0
  pub alike : (c : Entry) → times c b.puts ≤ 1
  pub placed : (a : ℕ) (e : Entry) → b.held a ≡ some e → e.address ≡ a
  pub balance : (c : Entry) → times c b.puts ≡ times c b.owed + held_times (b.held c.address) c
  pub paired : length b.owed ≡ length b.takes

module _ (tag : Entry → List ℕ) where
  abbrev pub StaysOrderly : Type 0
  StaysOrderly = (b : Bag) (es : List Event) → Orderly b → Lawful tag b es → Orderly (follow b es)

  -- ---- soundness

  -- at some accepted check the puts and the takes of its period, no two puts alike, are different multisets with one hash
  pub record Collides (b : Bag) (es : List Event) : Type 0 where
    pub past : List Event
    pub rest : List Event
    pub place : es ≡ past ++ (accepted ∷ rest)
    pub alike : (c : Entry) → times c (follow b past).puts ≤ 1
    pub differ : (c : Entry) × (times c (follow b past).puts ≢ times c (follow b past).takes)
    pub equal : hash tag (follow b past).puts ≡ hash tag (follow b past).takes

  -- how a period stands: a stamp was ahead of the clock; or some entry was taken more often than put, and no later put can be equal to it; or each take took
  -- what was owed, and then R
  pub data Stands (b : Bag) (R : Type 0) : Type 0 where
    ahead : (a : ℕ) → b.fault ≡ some a → Stands b R
    bad : (c : Entry) → c.stamp ≤ b.clock → times c b.puts < times c b.takes → Stands b R
    right : b.takes ≡ b.owed → R → Stands b R

  abbrev pub Sound : Type 0
  Sound = (b : Bag) (es : List Event) → Orderly b → Stands b (Unit {0}) → Lawful tag b es → Collides b es ⊎ Stands (follow b es) (Right b es)

  -- so after an accepted check every take before it took what was held, or hashes have collided
  abbrev pub SoundAccepted : Type 0
  SoundAccepted =
      (b : Bag) (past rest : List Event) → Orderly b → Stands b (Unit {0}) → Lawful tag b (past ++ (accepted ∷ rest))
      → Collides b (past ++ (accepted ∷ rest)) ⊎ Right b past

  -- ---- completeness

  -- where each take takes what is held no stamp is ahead, and once nothing is held any more what was put is what was taken
  abbrev pub Complete : Type 0
  Complete =
      (b : Bag) (es : List Event) → Orderly b → b.takes ≡ b.owed → b.fault ≡ none → Lawful tag b es → Right b es
      → ((follow b es).fault ≡ none) × (Bare (follow b es) → (c : Entry) → times c (follow b es).puts ≡ times c (follow b es).takes)

-- ---- how many

-- what is held at the addresses below n
unfoldable pub held_below : ℕ → (ℕ → Option Entry) → List Entry
held_below zero held = []
held_below (suc n) held = held_below n held ++ listed (held n)

-- where nothing is held from n on, as many were put as were taken and are held, whatever was taken: as numbers, not modulo any
abbrev pub Counted : Type 0
Counted = (b : Bag) (n : ℕ) → Orderly b → ((a : ℕ) → n ≤ a → b.held a ≡ none) → length b.puts ≡ length b.takes + length (held_below n b.held)
