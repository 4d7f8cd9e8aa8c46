-- What is promised of packing and unpacking, said of any two functions; those of the definitions are proved to keep it.
-- Demand 2, its last sentence: a lawful filter record has one form of 28 bytes, and 28 lawful bytes give one filter record.
-- Demand 1, for these calls: the table's numbers, in their order, and what a refusal leaves. No row of a definition is cited.
-- `FieldsFit` and `BytesFit` say no more than the types do: every value of the program has them.
-- Assumes nothing.
use Rattle.std.specs.Prelude.{◌≡◌, List, [], ◌∷◌, ◌↔◌, ◌≢◌, ℕ, ◌<◌, ◌≤◌, length, replicate}
use Rattle.refusal.specs.Refusal.{Filled, filled}
use Rattle.refusal.specs.Cases.{Case, given, FirstOf}
use Rattle.filter.specs.Filter.{bit, spare_in, filter_in, FieldsFit, BytesFit, Lawful, LawfulBytes, Unpacked, unpacked}
use Rattle.filter.specs.declared.Family.{Family}
use Rattle.filter.specs.declared.Family.TheVariants.{Ipv4, Ipv6}
use Rattle.filter.specs.declared.Action.TheVariants.{Deny}
use Rattle.filter.specs.declared.FilterRecord.{FilterRecord}

-- the lengths in order and within the family's, and no bit set past the prefix length
abbrev pub Within : Family → ℕ → Type 0
Within Ipv4 n = n ≤ 32
Within Ipv6 n = n ≤ 128

abbrev pub Ordered : FilterRecord → Type 0
Ordered r = (r.length ≤ r.longest) × Within r.family r.longest

abbrev pub Clear : FilterRecord → Type 0
Clear r = (i : ℕ) → r.length ≤ i → i < 128 → bit r.prefix i ≡ 0

-- 13 to 15
abbrev pub unlawful : FilterRecord → List Case
unlawful r = given 13 (¬ Ordered r) ∷ given 14 (¬ Clear r) ∷ given 15 (r.member ≡ 0) ∷ []

module _ (p : FilterRecord → List ℕ → Filled) (u : List ℕ → Unpacked) where
  -- lawful filter records and lawful bytes stand one to one
  pub record OneToOne : Type 0 where
    -- there and back
    pub unpack_pack : (r : FilterRecord) (out : List ℕ) → FieldsFit r → Lawful r → length out ≡ 28 → u (p r out).out ≡ unpacked 0 r
    pub pack_unpack : (bs out : List ℕ) → BytesFit bs → LawfulBytes bs → length out ≡ 28 → p (u bs).filter out ≡ filled 0 bs
    -- pack accepts exactly the lawful filter records, and unpack exactly the lawful bytes
    pub pack_accepts : (r : FilterRecord) (out : List ℕ) → FieldsFit r → ((p r out).number ≡ 0) ↔ ((length out ≡ 28) × Lawful r)
    pub unpack_accepts : (bs : List ℕ) → ((u bs).number ≡ 0) ↔ LawfulBytes bs
    -- what one makes the other takes
    pub packed_lawful : (r : FilterRecord) (out : List ℕ) → FieldsFit r → Lawful r → length out ≡ 28 → BytesFit (p r out).out × LawfulBytes (p r out).out
    pub unpacked_lawful : (bs : List ℕ) → LawfulBytes bs → FieldsFit (u bs).filter × Lawful (u bs).filter
    -- one form for each filter record, and one filter record for each form
    pub one_form : (bs cs : List ℕ) → BytesFit bs → BytesFit cs → LawfulBytes bs → LawfulBytes cs → (u bs).filter ≡ (u cs).filter → bs ≡ cs
    pub one_filter : (r s : FilterRecord) (out : List ℕ) → FieldsFit r → FieldsFit s → Lawful r → Lawful s → length out ≡ 28 → (p r out).out ≡ (p s out).out → r ≡ s

  -- each number exactly; a refused pack leaves every byte, a refused unpack gives a filter record with all fields zero
  pub record Numbers : Type 0 where
    pub pack : (r : FilterRecord) (out : List ℕ) → FieldsFit r → FirstOf (given 11 (length out ≢ 28) ∷ unlawful r) (p r out).number
    pub pack_unchanged : (r : FilterRecord) (out : List ℕ) → (p r out).number ≢ 0 → (p r out).out ≡ out
    pub unpack : (bs : List ℕ) → FirstOf (given 11 (length bs ≢ 28) ∷ given 12 (spare_in bs ≢ 0) ∷ unlawful (filter_in bs)) (u bs).number
    pub unpack_zeros : (bs : List ℕ) → (u bs).number ≢ 0
        → (u bs).filter ≡ record { family = Ipv4; action = Deny; length = 0; longest = 0; member = 0; serial = 0; prefix = replicate 16 0 }
