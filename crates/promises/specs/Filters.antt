-- 01, "The examples that are proved", 6 to 11: filter records, two more, and what is lawful though it is zero. Said of any functions p that pack and u that unpack.
-- Assumes nothing.
use Rattle.std.specs.Prelude.{◌≡◌, List, [], ◌∷◌, ◌++◌, ℕ, ◌^◌, ◌<◌, length, take, set, replicate}
use Rattle.refusal.specs.Refusal.{Filled, filled}
use Rattle.filter.specs.Filter.{bytes_of, Unpacked, unpacked, zero_filter}
use Rattle.filter.specs.Promises.{Within}
use Rattle.filter.specs.declared.Family.{Family}
use Rattle.filter.specs.declared.Family.TheVariants.{Ipv4, Ipv6}
use Rattle.filter.specs.declared.Action.{Action}
use Rattle.filter.specs.declared.Action.TheVariants.{Deny, Permit}
use Rattle.filter.specs.declared.FilterRecord.{FilterRecord}

-- permit 192.0.2.x of a length, a longest length and a member, serial 7
abbrev pub permit : ℕ → ℕ → ℕ → ℕ → FilterRecord
permit x l m a = record { family = Ipv4; action = Permit; length = l; longest = m; member = a; serial = 7; prefix = 192 ∷ 0 ∷ 2 ∷ x ∷ replicate 12 0 }

abbrev pub bytes6 : List ℕ
bytes6 =
    0x46 ∷ 0x06 ∷ 0x00 ∷ 0x00 ∷ 0x00 ∷ 0x00 ∷ 0xFB ∷ 0xF0 ∷ 0x00 ∷ 0x00 ∷ 0x00 ∷ 0x07 ∷ 0xC0 ∷ 0x00 ∷ 0x02 ∷ 0x00 ∷ replicate 12 0

-- permit 10.1.0.0/16, longest 24, AS 64496, serial 7: the prefix length, 16, comes before the longest, 24
abbrev pub unequal : FilterRecord
unequal = record { family = Ipv4; action = Permit; length = 16; longest = 24; member = 64496; serial = 7; prefix = 10 ∷ 1 ∷ replicate 14 0 }

abbrev pub bytes_unequal : List ℕ
bytes_unequal =
    0x44 ∷ 0x06 ∷ 0x00 ∷ 0x00 ∷ 0x00 ∷ 0x00 ∷ 0xFB ∷ 0xF0 ∷ 0x00 ∷ 0x00 ∷ 0x00 ∷ 0x07 ∷ 0x0A ∷ 0x01 ∷ replicate 14 0

-- permit 192.0.2.1/32, longest 32, AS 64496, serial 7
abbrev pub bytes_host : List ℕ
bytes_host =
    0x48 ∷ 0x08 ∷ 0x00 ∷ 0x00 ∷ 0x00 ∷ 0x00 ∷ 0xFB ∷ 0xF0 ∷ 0x00 ∷ 0x00 ∷ 0x00 ∷ 0x07 ∷ 0xC0 ∷ 0x00 ∷ 0x02 ∷ 0x01 ∷ replicate 12 0

-- deny ::1/128, longest 128, of any lawful member and any serial
abbrev pub deny11 : ℕ → ℕ → FilterRecord
deny11 a s = record { family = Ipv6; action = Deny; length = 128; longest = 128; member = a; serial = s; prefix = replicate 15 0 ++ (1 ∷ []) }

-- length 0 and serial 0, with any lawful longest length and member
abbrev pub zeros : Family → Action → ℕ → ℕ → FilterRecord
zeros f x l a = record { family = f; action = x; length = 0; longest = l; member = a; serial = 0; prefix = replicate 16 0 }

module _ (p : FilterRecord → List ℕ → Filled) where
  abbrev pub Example11 : Type 0
  Example11 = (a s : ℕ) → 0 < a → a < 2 ^ 32 → s < 2 ^ 32 → (out : List ℕ) → length out ≡ 28
      → ((p (deny11 a s) out).number ≡ 0) × (take 4 (p (deny11 a s) out).out ≡ 0xA0 ∷ 0x20 ∷ 0x00 ∷ 0x00 ∷ [])

  -- pack takes what is zero and lawful
  abbrev pub ZerosLawful : Type 0
  ZerosLawful = (f : Family) (x : Action) (l a : ℕ) → Within f l → 0 < a → (out : List ℕ) → length out ≡ 28 → (p (zeros f x l a) out).number ≡ 0

abbrev pub Example7 : (List ℕ → Unpacked) → Type 0
Example7 u = u (set bytes6 3 0x01) ≡ unpacked 12 zero_filter

module _ (p : FilterRecord → List ℕ → Filled) (u : List ℕ → Unpacked) where
  -- pack makes these bytes of it in every buffer of 28, and unpack makes it of these bytes
  abbrev pub Makes : FilterRecord → List ℕ → Type 0
  Makes r bs = ((out : List ℕ) → length out ≡ 28 → p r out ≡ filled 0 bs) × (u bs ≡ unpacked 0 r)

  -- pack refuses it for every buffer of 28 bytes, and unpack refuses its bytes
  abbrev pub Refuses : ℕ → FilterRecord → Type 0
  Refuses n r = ((out : List ℕ) → length out ≡ 28 → p r out ≡ filled n out) × (u (bytes_of r) ≡ unpacked n zero_filter)

  abbrev pub Example6 : Type 0
  Example6 = Makes (permit 0 24 24 64496) bytes6

  abbrev pub Example8 : Type 0
  Example8 = Refuses 13 (permit 0 33 33 64496) × Refuses 13 (permit 0 25 24 64496)

  abbrev pub Example9 : Type 0
  Example9 = Refuses 14 (permit 1 24 24 64496)

  abbrev pub Example10 : Type 0
  Example10 = Refuses 15 (permit 0 24 24 0)

  abbrev pub ExampleUnequal : Type 0
  ExampleUnequal = Makes unequal bytes_unequal

  abbrev pub ExampleHost : Type 0
  ExampleHost = Makes (permit 1 32 32 64496) bytes_host
