-- 01, "The filter record" and "Numbers given back": the layout, what is lawful, and what pack and unpack give.
-- Assumes nothing.
use Rattle.std.specs.Prelude.{◌≡◌, Bool, cond, not, ◌&&◌, List, [], ◌∷◌, ℕ, ◌-◌, ◌*◌, ◌/◌, ◌%◌, ◌^◌, ◌<◌, ◌≤◌, length, get_or, replicate, leb, eqb}
use Rattle.octets.specs.Layout.{join, split, Fit, octets, number, bytes}
use Rattle.refusal.specs.Refusal.{Row, when, first, done, Filled, fills}
use Rattle.filter.specs.declared.Family.{Family}
use Rattle.filter.specs.declared.Family.TheVariants.{Ipv4, Ipv6}
use Rattle.filter.specs.declared.Action.{Action}
use Rattle.filter.specs.declared.Action.TheVariants.{Deny, Permit}
use Rattle.filter.specs.declared.FilterRecord.{FilterRecord}

-- ---- 01, "The filter record": the layout

-- bits from the most significant of byte 0: family, action, prefix length, longest length, spare, member AS number, key serial, prefix
abbrev pub widths : List ℕ
widths = 1 ∷ 1 ∷ 8 ∷ 8 ∷ 14 ∷ 32 ∷ 32 ∷ 128 ∷ []

-- the number of each family and of each action; and the family and the action of a number
abbrev pub family_number : Family → ℕ
family_number Ipv4 = 0
family_number Ipv6 = 1

abbrev pub action_number : Action → ℕ
action_number Deny = 0
action_number Permit = 1

abbrev pub family_of : ℕ → Family
family_of n = cond (eqb n (family_number Ipv4)) Ipv4 Ipv6

abbrev pub action_of : ℕ → Action
action_of n = cond (eqb n (action_number Deny)) Deny Permit

-- the parts of a filter record in the order of the widths, its spare bits 0; and the filter record of some parts
abbrev pub parts_of : FilterRecord → List ℕ
parts_of r =
    family_number r.family ∷ action_number r.action ∷ r.length ∷ r.longest ∷ 0 ∷ r.member ∷ r.serial ∷ number r.prefix ∷ []

abbrev pub filter_of : List ℕ → FilterRecord
filter_of vs = record {
  family = family_of (get_or vs 0 0);
  action = action_of (get_or vs 1 0);
  length = get_or vs 2 0;
  longest = get_or vs 3 0;
  member = get_or vs 5 0;
  serial = get_or vs 6 0;
  prefix = bytes 16 (get_or vs 7 0);
}

-- the 28 bytes of a filter record; the parts that bytes hold, their spare bits and their filter record
unfoldable pub bytes_of : FilterRecord → List ℕ
bytes_of r = bytes 28 (join widths (parts_of r))

unfoldable pub parts_in : List ℕ → List ℕ
parts_in bs = split widths (number bs)

unfoldable pub spare_in : List ℕ → ℕ
spare_in bs = get_or (parts_in bs) 4 0

unfoldable pub filter_in : List ℕ → FilterRecord
filter_in bs = filter_of (parts_in bs)

-- ---- 01, The filter record: lawful. An IPv4 prefix has at most 32 bits, and every bit of the 128 past its length is 0

-- the longest length that a family has
abbrev pub top_of : Family → ℕ
top_of Ipv4 = 32
top_of Ipv6 = 128

-- bit i of a prefix, from the most significant of its byte 0
abbrev pub bit : List ℕ → ℕ → ℕ
bit p i = number p / 2 ^ (127 - i) % 2

pub record Lawful (r : FilterRecord) : Type 0 where
  pub ordered : r.length ≤ r.longest
  pub bounded : r.longest ≤ top_of r.family
  pub clear : (i : ℕ) → r.length ≤ i → i < 128 → bit r.prefix i ≡ 0
  pub member : r.member ≡ 0 → ⊥

pub record LawfulBytes (bs : List ℕ) : Type 0 where
  pub size : length bs ≡ 28
  pub spare : spare_in bs ≡ 0
  pub filter : Lawful (filter_in bs)

-- what every value of the types has, and a plain number or list need not: each field, and each byte, fits its type
pub record FieldsFit (r : FilterRecord) : Type 0 where
  pub length : r.length < 2 ^ 8
  pub longest : r.longest < 2 ^ 8
  pub member : r.member < 2 ^ 32
  pub serial : r.serial < 2 ^ 32
  pub prefix : Fit (octets 16) r.prefix

abbrev pub BytesFit : List ℕ → Type 0
BytesFit bs = Fit (octets (length bs)) bs

-- ---- 01, "Numbers given back": 11 to 15, in order

-- some bit of these bytes past the first l is set
unfoldable pub set_past : List ℕ → ℕ → Bool
set_past p l = not (eqb (number p % 2 ^ (8 * length p - l)) 0)

-- 13 lengths unlawful, 14 a bit past the prefix length set, 15 member number 0
unfoldable pub filter_rows : FilterRecord → List Row
filter_rows r =
    when 13 (not (leb r.length r.longest && leb r.longest (top_of r.family)))
    ∷ when 14 (set_past r.prefix r.length)
    ∷ when 15 (eqb r.member 0)
    ∷ []

-- 11 buffer not 28 bytes
unfoldable pub pack_rows : FilterRecord → List ℕ → List Row
pack_rows r out = when 11 (not (eqb (length out) 28)) ∷ filter_rows r

-- 11, and 12 a spare bit set
unfoldable pub unpack_rows : List ℕ → List Row
unpack_rows bs = when 11 (not (eqb (length bs) 28)) ∷ when 12 (not (eqb (spare_in bs) 0)) ∷ filter_rows (filter_in bs)

-- ---- 01, "Numbers given back": what the calls give

unfoldable pub pack_of : FilterRecord → List ℕ → Filled
pack_of r out = fills (pack_rows r out) (bytes_of r) out

-- all fields zero
abbrev pub zero_filter : FilterRecord
zero_filter = record { family = family_of 0; action = action_of 0; length = 0; longest = 0; member = 0; serial = 0; prefix = replicate 16 0 }

-- what unpack gives: its number, and a filter record
pub record Unpacked : Type 0 where
  pub number : ℕ
  pub filter : FilterRecord

abbrev pub unpacked : ℕ → FilterRecord → Unpacked
unpacked n r = record { number = n; filter = r }

unfoldable pub unpack_of : List ℕ → Unpacked
unpack_of bs = unpacked (first (unpack_rows bs)) (done (first (unpack_rows bs)) (filter_in bs) zero_filter)
