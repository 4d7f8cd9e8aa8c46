-- 01, "The trusted state and the moves", written out: what each call of the store that is done does, from any state, to every field of the state and to every
-- byte of the store. Nothing of the definitions is cited but the list of the addresses in use, and that list is claimed too.
-- Over the stamp's width w: a cell has 28 + w bytes. Assumes nothing.
use Rattle.std.specs.Prelude.{◌≡◌, true, false, ◌⊎◌, ◌↔◌, ◌≢◌, ℕ, ◌+◌, ◌*◌, ◌%◌, ◌^◌, ◌<◌, ◌≤◌, length, take, drop, replicate}
use mathlib.Core.List.{List, [], ◌∷◌, ◌++◌, map, foldl, Memᴰ}
use Rattle.std.proofs.Math.Option.{Option, some}
use Rattle.octets.specs.Layout.{number, bytes}
use Rattle.octets.specs.Places.{xor}
use Rattle.state.specs.Marks.{in_use}
use Rattle.state.specs.Cells.{Entry, entry}
use Rattle.state.specs.TakePut.{Seen}
use Rattle.state.specs.Calls.{Calls}
use Rattle.state.specs.Table.{Marked, zero_hash}
use Rattle.state.specs.declared.Hash.{Hash}
use Rattle.state.specs.declared.Seal.{Seal}
use Rattle.state.specs.declared.State.{State}
use Rattle.state.specs.declared.Verdict.{Verdict}
use Rattle.state.specs.declared.Verdict.TheVariants.{Accept, Stamp, Tag}

-- what every state of the program has, and a made-up one need not: its numbers of elements fit 32 bits, and there are 16 words of marks
pub record Typed (s : State) : Type 0 where
  pub puts : s.put.number < 2 ^ 32
  pub takes : s.take.number < 2 ^ 32
  pub words : length s.marks ≡ 16

-- an entry's stamp is ahead of the clock; that of some of these is; and the first of these whose stamp is ahead is at the address a
abbrev pub Ahead : ℕ → Entry → Type 0
Ahead clock e = clock < e.stamp

abbrev pub SomeAhead : ℕ → List Entry → Type 0
SomeAhead clock es = (e : Entry) × Memᴰ e es × Ahead clock e

pub record FirstAhead (clock : ℕ) (es : List Entry) (a : ℕ) : Type 0 where
  pub before : List Entry
  pub entry : Entry
  pub later : List Entry
  pub place : es ≡ before ++ (entry ∷ later)
  pub address : entry.address ≡ a
  pub ahead : Ahead clock entry
  pub none_before : ¬ SomeAhead clock before

-- once these are taken from the state s a fault is marked, and it is at a: where it was before, or else at the first of them whose stamp is ahead
abbrev pub FoundAt : State → List Entry → ℕ → Type 0
FoundAt s es a = ((s.fault ≡ true) × (a ≡ s.first)) ⊎ ((s.fault ≡ false) × FirstAhead s.clock es a)

-- once these are taken no fault is marked
abbrev pub NoneFound : State → List Entry → Type 0
NoneFound s es = (s.fault ≡ false) × ¬ SomeAhead s.clock es

-- the fault of the state t, which is s after these are taken: marked, and where; or not marked, and then the address is as it was
abbrev pub Faulted : State → State → List Entry → Type 0
Faulted s t es = ((t.fault ≡ true) × FoundAt s es t.first) ⊎ ((t.fault ≡ false) × NoneFound s es × (t.first ≡ s.first))

-- each number is below the next
abbrev pub Rising : List ℕ → Type 0
Rising [] = Unit
Rising (x ∷ xs) = ((y : ℕ) → Memᴰ y xs → x < y) × Rising xs

-- rejected: the state as it was, but closed, and the store as it was
pub record Rejected (s : State) (m : List ℕ) (x : Seen) : Type 0 where
  pub seal : x.state.seal ≡ s.seal
  pub put : x.state.put ≡ s.put
  pub take : x.state.take ≡ s.take
  pub clock : x.state.clock ≡ s.clock
  pub fault : x.state.fault ≡ s.fault
  pub first : x.state.first ≡ s.first
  pub closed : x.state.closed ≡ true
  pub marks : x.state.marks ≡ s.marks
  pub store : x.store ≡ m

module _ (w : ℕ) where
  -- what some bytes hold at an address
  abbrev pub cell_in : List ℕ → ℕ → List ℕ
  cell_in m a = take (28 + w) (drop ((28 + w) * a) m)

  abbrev pub value_in : List ℕ → ℕ → List ℕ
  value_in m a = take 28 (drop ((28 + w) * a) m)

  abbrev pub stamp_in : List ℕ → ℕ → ℕ
  stamp_in m a = number (take w (drop ((28 + w) * a + 28) m))

  abbrev pub entry_in : List ℕ → ℕ → Entry
  entry_in m a = entry a (value_in m a) (stamp_in m a)

  -- the bytes with others in the place of a cell
  abbrev pub with_cell : List ℕ → ℕ → List ℕ → List ℕ
  with_cell m a cell = take ((28 + w) * a) m ++ (cell ++ drop ((28 + w) * a + (28 + w)) m)

  -- the entries at the addresses in use, as a check takes them and as an accepted one puts them
  abbrev pub taken_of : State → List ℕ → List Entry
  taken_of s m = map (entry_in m) (in_use s.marks)

  abbrev pub put_of : State → List ℕ → List Entry
  put_of s m = map (λ a. entry a (value_in m a) 1) (in_use s.marks)

  module _ (tag : Seal → Entry → List ℕ) where
    -- a hash that some entries have joined, under a seal
    abbrev pub joined : Seal → Hash → List Entry → Hash
    joined seal h es = record { tag = foldl xor h.tag (map (tag seal) es); number = (h.number + length es) % 2 ^ 32 }

    -- t is the state s after some entries were taken and some put, the clock being c then; all but the marks
    pub record After (s t : State) (takes puts : List Entry) (c : ℕ) : Type 0 where
      pub seal : t.seal ≡ s.seal
      pub put : t.put ≡ joined s.seal s.put puts
      pub take : t.take ≡ joined s.seal s.take takes
      pub clock : t.clock ≡ c
      pub fault : Faulted s t takes
      pub closed : t.closed ≡ s.closed

    -- the condition of a check: the hashes agree once these are taken, no fault was marked, and no stamp is ahead of the clock
    pub record Agrees (s : State) (m : List ℕ) : Type 0 where
      pub hashes : s.put ≡ joined s.seal s.take (taken_of s m)
      pub faultless : s.fault ≡ false
      pub on_time : (a : ℕ) → a < 1024 → Marked s a → stamp_in m a ≤ s.clock

    -- accepted: a new period, in which every address in use is put with its value and stamp 1; other cells are as they were
    pub record Accepted (s : State) (m : List ℕ) (x : Seen) : Type 0 where
      pub seal : x.state.seal ≡ s.seal
      pub put : x.state.put ≡ joined s.seal zero_hash (put_of s m)
      pub take : x.state.take ≡ zero_hash
      pub clock : x.state.clock ≡ 1
      pub fault : x.state.fault ≡ false
      pub first : x.state.first ≡ s.first
      pub closed : x.state.closed ≡ false
      pub marks : x.state.marks ≡ s.marks
      pub size : length x.store ≡ length m
      pub used : (a : ℕ) → a < 1024 → Marked s a → cell_in x.store a ≡ value_in m a ++ bytes w 1
      pub unused : (a : ℕ) → a < 1024 → ¬ Marked s a → cell_in x.store a ≡ cell_in m a

    -- why a check rejects: for a stamp that was ahead, its own takes counted after those of the calls, with the address; and else for hashes that differ
    abbrev pub Reason : State → List ℕ → Option Verdict → Type 0
    Reason s m v =
        ((a : ℕ) × (v ≡ some (Stamp a)) × FoundAt s (taken_of s m) a)
        ⊎ ((v ≡ some Tag) × NoneFound s (taken_of s m) × (s.put ≢ joined s.seal s.take (taken_of s m)))

    pub record Effects (c : Calls) : Type 0 where
      -- Add: a put at the raised clock, and the mark
      pub add : (s : State) (m : List ℕ) (a : ℕ) (v : List ℕ) → Typed s → (c.add s m a v).number ≡ 0
          → After s (c.add s m a v).state [] (entry a v (s.clock + 1) ∷ []) (s.clock + 1) × ((c.add s m a v).store ≡ with_cell m a (v ++ bytes w (s.clock + 1)))
      pub add_marks : (s : State) (m : List ℕ) (a : ℕ) (v : List ℕ) → Typed s → (c.add s m a v).number ≡ 0
          → (b : ℕ) → Marked (c.add s m a v).state b ↔ ((b ≡ a) ⊎ Marked s b)
      -- Load: a take, and a put of the same value, which is handed out
      pub load : (s : State) (m : List ℕ) (a : ℕ) (o : List ℕ) → Typed s → (c.load s m a o).number ≡ 0
          → After s (c.load s m a o).state (entry_in m a ∷ []) (entry a (value_in m a) (s.clock + 1) ∷ []) (s.clock + 1)
          × ((c.load s m a o).store ≡ with_cell m a (value_in m a ++ bytes w (s.clock + 1))) × ((c.load s m a o).out ≡ value_in m a)
      -- Store: a take, and a put of the new value
      pub store : (s : State) (m : List ℕ) (a : ℕ) (v : List ℕ) → Typed s → (c.store s m a v).number ≡ 0
          → After s (c.store s m a v).state (entry_in m a ∷ []) (entry a v (s.clock + 1) ∷ []) (s.clock + 1) × ((c.store s m a v).store ≡ with_cell m a (v ++ bytes w (s.clock + 1)))
      -- Remove: a take; the clock stays; the cell is zeros; the mark is gone
      pub remove : (s : State) (m : List ℕ) (a : ℕ) → Typed s → (c.remove s m a).number ≡ 0
          → After s (c.remove s m a).state (entry_in m a ∷ []) [] s.clock × ((c.remove s m a).store ≡ with_cell m a (replicate (28 + w) 0))
      pub remove_marks : (s : State) (m : List ℕ) (a : ℕ) → Typed s → (c.remove s m a).number ≡ 0
          → (b : ℕ) → Marked (c.remove s m a).state b ↔ ((b ≢ a) × Marked s b)
      -- load and store leave the marks
      pub load_marks : (s : State) (m : List ℕ) (a : ℕ) (o : List ℕ) → (c.load s m a o).state.marks ≡ s.marks
      pub store_marks : (s : State) (m : List ℕ) (a : ℕ) (v : List ℕ) → (c.store s m a v).state.marks ≡ s.marks
      -- Check: accept exactly where its condition holds, and else reject, for the one reason that there is
      pub check : (s : State) (m : List ℕ) → Typed s → (c.check s m).number ≡ 0
          → (((c.check s m).verdict ≡ some Accept) × Agrees s m × Accepted s m (c.check s m))
          ⊎ (Reason s m (c.check s m).verdict × ¬ Agrees s m × Rejected s m (c.check s m))
      -- the list of addresses in use has each of them, and no other, lowest first
      pub each_in_use : (s : State) → Typed s → Rising (in_use s.marks) × ((a : ℕ) → Memᴰ a (in_use s.marks) ↔ ((a < 1024) × Marked s a))
