-- 01, "The examples that are proved": all fourteen under one claim, with more of filter records, checks and key serials. Each speaks of what the library's calls give, and holds for all that it leaves open.
-- Assumes nothing.
use Rattle.std.specs.Prelude.{◌≡◌, true, false, List, [], ◌∷◌, ◌++◌, ℕ, ◌+◌, ◌-◌, ◌^◌, ◌<◌, length, take, drop, replicate, Ok, Err}
use Rattle.std.proofs.Math.Option.{some}
use Rattle.refusal.specs.declared.Refusal.TheVariants.{NoneFree}
use Rattle.octets.specs.Layout.{number, bytes}
use Rattle.state.specs.Cells.{Entry, entry}
use Rattle.state.specs.Multiset.{hash}
use Rattle.state.specs.Start.{sealed}
use Rattle.state.specs.Access.{free_number}
use Rattle.state.specs.Table.{Marked, zero_hash}
use Rattle.state.specs.declared.Seal.{Seal}
use Rattle.state.specs.declared.State.{State}
use Rattle.state.specs.declared.Verdict.TheVariants.{Stamp}
use Rattle.hmac.specs.Hmac.{hmac}
use Rattle.promises.specs.Library.{Library}
use Rattle.promises.specs.Filters.{Example6, Example7, Example8, Example9, Example10, Example11, ExampleUnequal, ExampleHost}
use Rattle.promises.specs.Serials.{ExampleRound, ExampleHalf, ExampleEqual, ExampleOther}

-- a word of marks, all set
abbrev pub full : ℕ
full = 2 ^ 64 - 1

-- a state of zeros with these marks
abbrev pub marking : List ℕ → State
marking ws = record { seal = record { key = replicate 32 0 }; put = zero_hash; take = zero_hash; clock = 0; fault = false; first = 0; closed = false; marks = ws }

-- the state is open, the store and the value have their sizes
pub record Sized (s : State) (m v : List ℕ) : Type 0 where
  pub unclosed : s.closed ≡ false
  pub store : length m ≡ 30720
  pub value : length v ≡ 28

module _ (l : Library) where
  -- 1. cell 0 is bytes 0 to 29: what an add at 0 writes, and no other
  abbrev pub Example1 : Type 0
  Example1 =
      (s : State) (m v : List ℕ) → (l.store.add s m 0 v).number ≡ 0 → (l.store.add s m 0 v).store ≡ (v ++ bytes 2 (s.clock + 1)) ++ drop 30 m

  -- 2. cell 1,023 is bytes 30,690 to 30,719
  abbrev pub Example2 : Type 0
  Example2 =
      (s : State) (m v : List ℕ) → (l.store.add s m 1023 v).number ≡ 0 → (l.store.add s m 1023 v).store ≡ take 30690 m ++ (v ++ bytes 2 (s.clock + 1))

  -- 4. address 1,024: number 2; for a look, no bytes
  abbrev pub Example4 : Type 0
  Example4 = (s : State) (m v : List ℕ) → Sized s m v
      → ((l.store.add s m 1024 v).number ≡ 2) × ((l.store.load s m 1024 v).number ≡ 2) × ((l.store.store s m 1024 v).number ≡ 2)
      × ((l.store.remove s m 1024).number ≡ 2) × (l.store.look m 1024 ≡ [])

  -- 5. at clock 65,534 an add works, and leaves the clock at 65,535; there it gives 6
  abbrev pub Example5 : Type 0
  Example5 = (s : State) (m v : List ℕ) (a : ℕ) → Sized s m v → a < 1024 → ¬ Marked s a
      → (s.clock ≡ 65534 → ((l.store.add s m a v).number ≡ 0) × ((l.store.add s m a v).state.clock ≡ 65535))
      × (s.clock ≡ 65535 → (l.store.add s m a v).number ≡ 6)

  -- 12. marks 0 to 63 set: count 64, lowest free 64
  abbrev pub Example12 : Type 0
  Example12 = (l.store.count (marking (full ∷ replicate 15 0)) ≡ 64) × (l.store.lowest_free (marking (full ∷ replicate 15 0)) ≡ Ok 64)

  -- 13. all set: count 1,024, number 9
  abbrev pub Example13 : Type 0
  Example13 = (l.store.count (marking (replicate 16 full)) ≡ 1024) × (l.store.lowest_free (marking (replicate 16 full)) ≡ Err NoneFree) × (free_number (Err NoneFree) ≡ 9)

  -- a fault that is marked: the check names the address that the state has, whatever the store holds
  abbrev pub ExampleMarked : Type 0
  ExampleMarked = (s : State) (m : List ℕ) → s.closed ≡ false → length m ≡ 30720 → s.fault ≡ true → (l.store.check s m).verdict ≡ some (Stamp s.first)

  -- address 2 in use at clock 0, and its stamp, bytes 88 and 89, not 0: the check names 2, and in the state the fault and its address are as they were, and it is
  -- closed
  abbrev pub ExampleFound : Type 0
  ExampleFound = (m : List ℕ) → length m ≡ 30720 → 0 < number (take 2 (drop 88 m))
      → ((l.store.check (marking (4 ∷ replicate 15 0)) m).verdict ≡ some (Stamp 2)) × ((l.store.check (marking (4 ∷ replicate 15 0)) m).state.fault ≡ false)
      × ((l.store.check (marking (4 ∷ replicate 15 0)) m).state.first ≡ 0) × ((l.store.check (marking (4 ∷ replicate 15 0)) m).state.closed ≡ true)

module _ (tag : Seal → Entry → List ℕ) where
  -- 3. address 5, stamp 3, a zero value: message 01 00 05, 28 zeros, 00 03
  abbrev pub Example3 : Type 0
  Example3 = (key : List ℕ) → tag (sealed key) (entry 5 (replicate 28 0) 3) ≡ hmac key (0x01 ∷ 0x00 ∷ 0x05 ∷ (replicate 28 0 ++ (0x00 ∷ 0x03 ∷ [])))

  -- 14. {x, x} and {y, y} have equal hashes, whatever x and y are, under every seal
  abbrev pub Example14 : Type 0
  Example14 = (seal : Seal) (x y : Entry) → hash (tag seal) (x ∷ x ∷ []) ≡ hash (tag seal) (y ∷ y ∷ [])

-- all fourteen, two more of filter records, two of what a check names, and those of key serials
pub record Examples (tag : Seal → Entry → List ℕ) (l : Library) : Type 0 where
  -- 1. cell 0
  pub cell_0 : Example1 l
  -- 2. cell 1,023
  pub cell_1023 : Example2 l
  -- 3. the message of an entry
  pub message_5 : Example3 tag
  -- 4. address 1,024
  pub address_1024 : Example4 l
  -- 5. the last two clocks
  pub last_clocks : Example5 l
  -- 6. permit 192.0.2.0/24, longest 24, AS 64496, serial 7: its 28 bytes
  pub permit_24 : Example6 l.pack l.unpack
  -- 7. the same with byte 3 as 01: 12
  pub spare_bit : Example7 l.unpack
  -- 8. IPv4 with length 33, longest 33: 13; with length 25, longest 24: 13
  pub lengths : Example8 l.pack l.unpack
  -- 9. 192.0.2.1/24: 14
  pub past_prefix : Example9 l.pack l.unpack
  -- 10. AS 0: 15
  pub member_0 : Example10 l.pack l.unpack
  -- 11. deny ::1/128, longest 128: begins A0 20 00 00
  pub deny_128 : Example11 l.pack
  -- 12. a word of marks
  pub marks_64 : Example12 l
  -- 13. every mark
  pub marks_all : Example13 l
  -- 14. twins
  pub twins : Example14 tag
  -- lengths that differ, each in its own place; and a whole IPv4 address
  pub unequal_lengths : ExampleUnequal l.pack l.unpack
  pub host : ExampleHost l.pack l.unpack
  -- a stamp ahead of the clock that a call found, and one that the check itself finds
  pub fault_marked : ExampleMarked l
  pub fault_found : ExampleFound l
  -- key serials that go round, that are 2^31 apart or one off it, that are equal; and another member's
  pub round : ExampleRound l.compare
  pub half : ExampleHalf l.compare
  pub equal : ExampleEqual l.compare
  pub other_member : ExampleOther l.compare
