-- Demand 2. In our words: the digest is FIPS 180-4's SHA-256, the keyed tag is RFC 2104's HMAC, and the multiset hash is the source's definition 4.4 with no
-- nonce. A check accepts exactly when both hashes agree and no stamp ran ahead of the clock. A lawful filter record has one form of 28 bytes, and 28 lawful
-- bytes give one filter record.
--
-- A later request, in our words: a check that rejects names the first take of its period whose stamp ran ahead of the clock, and the tags where none did. From a
-- start the numbers of elements never differ at a check.
--
-- Another: key serials go round, in RFC 1982's order with 32 bits. A comparison of two filter records says first whether the member is another; then 16 where the
-- serials are exactly 2^31 apart, which have no order; and else the distance from the one held to the one offered, which is "back" where it is negative.
--
-- `sha256`, `hmac` and the layout of a filter record are definitions, in the standards' and the rules' order; here they are what the library's calls give.
-- Assumes nothing.
use Rattle.std.specs.Prelude.{◌≡◌, ℕ, ◌%◌, ◌≤◌, length, replicate}
use mathlib.Core.List.{List, ◌∷◌, ◌++◌, map, foldl}
use Rattle.octets.specs.Layout.{bytes}
use Rattle.octets.specs.Places.{xor}
use Rattle.refusal.specs.Refusal.{filled}
use Rattle.constants.specs.Constants.{KRule, H0Rule}
use Rattle.sha256.specs.Sha256.{sha256}
use Rattle.hmac.specs.Hmac.{hmac}
use Rattle.state.specs.Cells.{Entry}
use Rattle.state.specs.Multiset.{Fits, hash}
use Rattle.state.specs.Counts.{times}
use Rattle.state.specs.Effects.{Effects}
use Rattle.state.specs.declared.Seal.{Seal}
use Rattle.filter.specs.Promises.{OneToOne}
use Rattle.serials.specs.Claims.{Rfc1982}
use Rattle.going.specs.Going.{Compares}
use Rattle.run.specs.Exact.{OnePeriod, StateExact, CheckExact, ReasonExact, FirstAddress, StampBelow}
use Rattle.run.specs.Counted.{PutsCounted, NumbersAgree}
use Rattle.promises.specs.Library.{Library}
use Rattle.promises.specs.Filters.{ZerosLawful}

-- an entry's message of 33 bytes: 01, the address in 2, the value, the stamp in 2
abbrev pub message33 : Entry → List ℕ
message33 e = 0x01 ∷ (bytes 2 e.address ++ (e.value ++ bytes 2 e.stamp))

pub record SecondDemand (tag : Seal → Entry → List ℕ) (l : Library) : Type 0 where
  -- the digest; its constants follow the rule of roots
  pub digest : (m out : List ℕ) → length m ≤ 8192 → length out ≡ 32 → l.digest m out ≡ filled 0 (sha256 m)
  pub round_constants : KRule
  pub starting_words : H0Rule
  -- the keyed tag, and that of an entry, whose message no other entry has
  pub mac : (k m out : List ℕ) → length k ≤ 1024 → length m ≤ 4096 → length out ≡ 32 → l.mac k m out ≡ filled 0 (hmac k m)
  pub tags : (seal : Seal) (e : Entry) → tag seal e ≡ hmac seal.key (message33 e)
  pub one_entry : (d e : Entry) → Fits 2 d → Fits 2 e → message33 d ≡ message33 e → d ≡ e
  -- the hash of a multiset, listed in any order: the exclusive-or of all its tags, and how many elements there are
  pub hashes : (seal : Seal) (es : List Entry) → hash (tag seal) es ≡ record { tag = foldl xor (replicate 32 0) (map (tag seal) es); number = length es % 4294967296 }
  pub same_hash : (seal : Seal) (p t : List Entry) → ((e : Entry) → times e p ≡ times e t) → hash (tag seal) p ≡ hash (tag seal) t
  -- from any state: what each call that is done does with the hashes and all else, and which verdict a check gives
  pub effects : Effects 2 tag l.store
  -- of whole runs: a check that is done accepts exactly when the hashes of its period agree and no stamp in it was ahead of the clock of its time; else it names
  -- the first take of its period that was ahead, at an address below 1,024, or the tags; at any time a state that is not closed tells as much of its period, of
  -- which there is one
  pub check_exactly : CheckExact 2 tag
  pub reason_exactly : ReasonExact 2 tag
  pub stamp_below : StampBelow 2 tag
  pub first_address : FirstAddress 2 tag
  pub state_exactly : StateExact 2 tag
  pub one_period : OnePeriod
  -- the entries put in it are as many as those taken and the addresses in use together; so the element numbers never differ at a check
  pub puts_counted : PutsCounted 2 tag
  pub numbers_agree : NumbersAgree 2 tag
  -- filter records; length 0 and serial 0 are lawful
  pub filters : OneToOne l.pack l.unpack
  pub zeros_lawful : ZerosLawful l.pack
  -- key serials: what the distance is, by RFC 1982's order, and that the comparison gives it
  pub serials : Rfc1982
  pub comparison : Compares l.compare
