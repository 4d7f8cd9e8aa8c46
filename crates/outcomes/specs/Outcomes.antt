-- 01, "How tight each contract is": no public function asks anything of its arguments, and any two outcomes that its contract admits are equal.
-- Of a function's contract, as the toolchain reads it, `Asked` is what a caller must show of the arguments, and `Learnt` what it may then rely on, of the
-- arguments, the result and the parameters at the end of the call. So each entry speaks of the contract itself. Assumes nothing.
use Rattle.std.specs.Prelude.{◌≡◌, ℕ, ◌<◌, ◌^◌}
use mir.Syntax.{w64}
use mir.Val.{Fits}
use denote.Param.{number}
use contract.Lifetimes.{Lfts}
use denote.Triple.Entry.{Args, Res}
use denote.Triple.Clauses.{Ended, Lasts, AtExit, at_exit}
use Rattle.refusal.specs.contracts.Refusal.number as RefusalNumber
use Rattle.refusal.proofs.Refusal.number.Reads as RefusalNumberReads
use Rattle.refusal.specs.contracts.Refusal.when as RefusalWhen
use Rattle.refusal.proofs.Refusal.when.Reads as RefusalWhenReads
use Rattle.refusal.specs.contracts.told as Told
use Rattle.refusal.proofs.told.Reads as ToldReads
use Rattle.state.specs.contracts.State.start as Start
use Rattle.state.proofs.State.start.Reads as StartReads
use Rattle.store.specs.contracts.add as Add
use Rattle.store.proofs.add.Reads as AddReads
use Rattle.store.specs.contracts.load as Load
use Rattle.store.proofs.load.Reads as LoadReads
use Rattle.store.specs.contracts.store as Store
use Rattle.store.proofs.store.Reads as StoreReads
use Rattle.store.specs.contracts.remove as Remove
use Rattle.store.proofs.remove.Reads as RemoveReads
use Rattle.store.specs.contracts.check as Check
use Rattle.store.proofs.check.Reads as CheckReads
use Rattle.store.specs.contracts.look as Look
use Rattle.store.proofs.look.Reads as LookReads
use Rattle.store.specs.contracts.count as Count
use Rattle.store.proofs.count.Reads as CountReads
use Rattle.store.specs.contracts.lowest_free as LowestFree
use Rattle.store.proofs.lowest_free.Reads as LowestFreeReads
use Rattle.sha256.specs.contracts.digest as Digest
use Rattle.sha256.proofs.digest.Reads as DigestReads
use Rattle.hmac.specs.contracts.mac as Mac
use Rattle.hmac.proofs.mac.Reads as MacReads
use Rattle.filter.specs.contracts.pack as Pack
use Rattle.filter.proofs.pack.Reads as PackReads
use Rattle.filter.specs.contracts.unpack as Unpack
use Rattle.filter.proofs.unpack.Reads as UnpackReads
use Rattle.filter.specs.contracts.U8FromFamily.from as NumberOfFamily
use Rattle.filter.proofs.U8FromFamily.from.Reads as NumberOfFamilyReads
use Rattle.filter.specs.contracts.U8FromAction.from as NumberOfAction
use Rattle.filter.proofs.U8FromAction.from.Reads as NumberOfActionReads
use Rattle.filter.specs.contracts.FamilyFromU8.from as FamilyOfNumber
use Rattle.filter.proofs.FamilyFromU8.from.Reads as FamilyOfNumberReads
use Rattle.filter.specs.contracts.ActionFromU8.from as ActionOfNumber
use Rattle.filter.proofs.ActionFromU8.from.Reads as ActionOfNumberReads
use Rattle.going.specs.contracts.compare as Compare
use Rattle.going.proofs.compare.Reads as CompareReads
use Rattle.serials.specs.contracts.distance as Distance
use Rattle.serials.proofs.distance.Reads as DistanceReads
use Rattle.lent.specs.contracts.copy as Copy
use Rattle.lent.proofs.copy.Reads as CopyReads
use Rattle.constants.specs.contracts.round_constants as RoundConstants
use Rattle.constants.proofs.round_constants.Reads as RoundConstantsReads
use Rattle.constants.specs.contracts.initial_hash as InitialHash
use Rattle.constants.proofs.initial_hash.Reads as InitialHashReads
use Rattle.schedule.specs.contracts.scheduled as Scheduled
use Rattle.schedule.proofs.scheduled.Reads as ScheduledReads
use Rattle.round.specs.contracts.one_round as OneRound
use Rattle.round.proofs.one_round.Reads as OneRoundReads
use Rattle.compress.specs.contracts.compressed as Compressed
use Rattle.compress.proofs.compressed.Reads as CompressedReads
use Rattle.sha256.specs.contracts.absorb as Absorb
use Rattle.sha256.proofs.absorb.Reads as AbsorbReads
use Rattle.sha256.specs.contracts.finish as Finish
use Rattle.sha256.proofs.finish.Reads as FinishReads
use Rattle.sha256.specs.contracts.hash_bytes as HashBytes
use Rattle.sha256.proofs.hash_bytes.Reads as HashBytesReads
use Rattle.hmac.specs.contracts.tag as HmacTag
use Rattle.hmac.proofs.tag.Reads as HmacTagReads
use Rattle.marks.specs.contracts.used as Used
use Rattle.marks.proofs.used.Reads as UsedReads
use Rattle.marks.specs.contracts.with_mark as WithMark
use Rattle.marks.proofs.with_mark.Reads as WithMarkReads
use Rattle.marks.specs.contracts.without_mark as WithoutMark
use Rattle.marks.proofs.without_mark.Reads as WithoutMarkReads
use Rattle.marks.specs.contracts.count as MarksCount
use Rattle.marks.proofs.count.Reads as MarksCountReads
use Rattle.marks.specs.contracts.lowest as Lowest
use Rattle.marks.proofs.lowest.Reads as LowestReads
use Rattle.marks.specs.contracts.next_used as NextUsed
use Rattle.marks.proofs.next_used.Reads as NextUsedReads
use Rattle.numbers.specs.contracts.add as NumberOfAdd
use Rattle.numbers.proofs.add.Reads as NumberOfAddReads
use Rattle.numbers.specs.contracts.exchange as NumberOfExchange
use Rattle.numbers.proofs.exchange.Reads as NumberOfExchangeReads
use Rattle.numbers.specs.contracts.remove as NumberOfRemove
use Rattle.numbers.proofs.remove.Reads as NumberOfRemoveReads
use Rattle.numbers.specs.contracts.check as NumberOfCheck
use Rattle.numbers.proofs.check.Reads as NumberOfCheckReads
use Rattle.numbers.specs.contracts.look as NumberOfLook
use Rattle.numbers.proofs.look.Reads as NumberOfLookReads
use Rattle.octets.specs.contracts.bytes_2 as Bytes2
use Rattle.octets.proofs.bytes_2.Reads as Bytes2Reads
use Rattle.octets.specs.contracts.number_2 as Number2
use Rattle.octets.proofs.number_2.Reads as Number2Reads
use Rattle.octets.specs.contracts.xor as Xor
use Rattle.octets.proofs.xor.Reads as XorReads
use Rattle.entries.specs.contracts.cell as Cell
use Rattle.entries.proofs.cell.Reads as CellReads
use Rattle.entries.specs.contracts.value_part as ValuePart
use Rattle.entries.proofs.value_part.Reads as ValuePartReads
use Rattle.entries.specs.contracts.stamp_at as StampAt
use Rattle.entries.proofs.stamp_at.Reads as StampAtReads
use Rattle.entries.specs.contracts.write as Write
use Rattle.entries.proofs.write.Reads as WriteReads
use Rattle.entries.specs.contracts.message as Message
use Rattle.entries.proofs.message.Reads as MessageReads
use Rattle.entries.specs.contracts.tag as Tag
use Rattle.entries.proofs.tag.Reads as TagReads
use Rattle.multiset.specs.contracts.with_tag as WithTag
use Rattle.multiset.proofs.with_tag.Reads as WithTagReads
use Rattle.multiset.specs.contracts.same as Same
use Rattle.multiset.proofs.same.Reads as SameReads
use Rattle.periods.specs.contracts.agrees as Agrees
use Rattle.periods.proofs.agrees.Reads as AgreesReads
use Rattle.periods.specs.contracts.opened as Opened
use Rattle.periods.proofs.opened.Reads as OpenedReads
use Rattle.periods.specs.contracts.close as Close
use Rattle.periods.proofs.close.Reads as CloseReads
use Rattle.periods.specs.contracts.reason as Reason
use Rattle.periods.proofs.reason.Reads as ReasonReads
use Rattle.text.specs.contracts.decimal as Decimal
use Rattle.text.proofs.decimal.Reads as DecimalReads
use Rattle.text.specs.contracts.hex as Hex
use Rattle.text.proofs.hex.Reads as HexReads
use Rattle.page.specs.contracts.Page.put as Put
use Rattle.page.proofs.Page.put.Reads as PutReads
use Rattle.page.specs.contracts.Page.put_decimal as PutDecimal
use Rattle.page.proofs.Page.put_decimal.Reads as PutDecimalReads
use Rattle.page.specs.contracts.Page.put_hex as PutHex
use Rattle.page.proofs.Page.put_hex.Reads as PutHexReads
use Rattle.lines.specs.contracts.find as Find
use Rattle.lines.proofs.find.Reads as FindReads
use Rattle.lines.specs.contracts.parse as Parse
use Rattle.lines.proofs.parse.Reads as ParseReads
use Rattle.answers.specs.contracts.say as Say
use Rattle.answers.proofs.say.Reads as SayReads
use Rattle.commands.specs.contracts.run as Command
use Rattle.commands.proofs.run.Reads as CommandReads
use Rattle.session.specs.contracts.run as Run
use Rattle.session.proofs.run.Reads as RunReads

-- an outcome: the result, and for each parameter what the function leaves where it can write; κs are the lifetimes of what is lent
module _ (T : Ended) where
  abbrev Lives : Type 0
  Lives = Lfts T.signature.lifetimes

  pub record Tight (asked : (κs : Lives) → Args T.signature κs → Type 0) (learnt : (κs : Lives) → Args T.signature κs → Res T.signature κs → AtExit T κs → Type 0) : Type 0 where
    pub any : (κs : Lives) (a : Args T.signature κs) → asked κs a
    pub one : (κs : Lives) (a : Args T.signature κs) (r r' : Res T.signature κs) (l l' : Lasts T κs a)
        → learnt κs a r (at_exit T κs a l) → learnt κs a r' (at_exit T κs a l') → (r ≡ r') × (l ≡ l')

-- (of a function with a length N in its type, at each length that an array may have)
pub record Outcomes : Type 1 where
  -- the calls
  pub start : Tight Start.ended StartReads.Asked StartReads.Learnt
  pub add : Tight Add.ended AddReads.Asked AddReads.Learnt
  pub load : Tight Load.ended LoadReads.Asked LoadReads.Learnt
  pub store : Tight Store.ended StoreReads.Asked StoreReads.Learnt
  pub remove : Tight Remove.ended RemoveReads.Asked RemoveReads.Learnt
  pub check : Tight Check.ended CheckReads.Asked CheckReads.Learnt
  pub count : Tight Count.ended CountReads.Asked CountReads.Learnt
  pub lowest_free : Tight LowestFree.ended LowestFreeReads.Asked LowestFreeReads.Learnt
  pub digest : Tight Digest.ended DigestReads.Asked DigestReads.Learnt
  pub mac : Tight Mac.ended MacReads.Asked MacReads.Learnt
  pub pack : Tight Pack.ended PackReads.Asked PackReads.Learnt
  pub unpack : Tight Unpack.ended UnpackReads.Asked UnpackReads.Learnt
  pub compare : Tight Compare.ended CompareReads.Asked CompareReads.Learnt
  -- the functions below them
  pub refusal_number : Tight RefusalNumber.ended RefusalNumberReads.Asked RefusalNumberReads.Learnt
  pub refusal_when : Tight RefusalWhen.ended RefusalWhenReads.Asked RefusalWhenReads.Learnt
  pub told : Tight Told.ended ToldReads.Asked ToldReads.Learnt
  pub number_of_family : Tight NumberOfFamily.ended NumberOfFamilyReads.Asked NumberOfFamilyReads.Learnt
  pub number_of_action : Tight NumberOfAction.ended NumberOfActionReads.Asked NumberOfActionReads.Learnt
  pub family_of_number : Tight FamilyOfNumber.ended FamilyOfNumberReads.Asked FamilyOfNumberReads.Learnt
  pub action_of_number : Tight ActionOfNumber.ended ActionOfNumberReads.Asked ActionOfNumberReads.Learnt
  pub distance : Tight Distance.ended DistanceReads.Asked DistanceReads.Learnt
  pub copy : Tight Copy.ended CopyReads.Asked CopyReads.Learnt
  pub round_constants : Tight RoundConstants.ended RoundConstantsReads.Asked RoundConstantsReads.Learnt
  pub initial_hash : Tight InitialHash.ended InitialHashReads.Asked InitialHashReads.Learnt
  pub scheduled : Tight Scheduled.ended ScheduledReads.Asked ScheduledReads.Learnt
  pub one_round : Tight OneRound.ended OneRoundReads.Asked OneRoundReads.Learnt
  pub compressed : Tight Compressed.ended CompressedReads.Asked CompressedReads.Learnt
  pub absorb : Tight Absorb.ended AbsorbReads.Asked AbsorbReads.Learnt
  pub finish : Tight Finish.ended FinishReads.Asked FinishReads.Learnt
  pub hash_bytes : Tight HashBytes.ended HashBytesReads.Asked HashBytesReads.Learnt
  pub hmac_tag : Tight HmacTag.ended HmacTagReads.Asked HmacTagReads.Learnt
  pub used : Tight Used.ended UsedReads.Asked UsedReads.Learnt
  pub with_mark : Tight WithMark.ended WithMarkReads.Asked WithMarkReads.Learnt
  pub without_mark : Tight WithoutMark.ended WithoutMarkReads.Asked WithoutMarkReads.Learnt
  pub marks_count : Tight MarksCount.ended MarksCountReads.Asked MarksCountReads.Learnt
  pub lowest : Tight Lowest.ended LowestReads.Asked LowestReads.Learnt
  pub next_used : Tight NextUsed.ended NextUsedReads.Asked NextUsedReads.Learnt
  pub number_of_add : Tight NumberOfAdd.ended NumberOfAddReads.Asked NumberOfAddReads.Learnt
  pub number_of_exchange : Tight NumberOfExchange.ended NumberOfExchangeReads.Asked NumberOfExchangeReads.Learnt
  pub number_of_remove : Tight NumberOfRemove.ended NumberOfRemoveReads.Asked NumberOfRemoveReads.Learnt
  pub number_of_check : Tight NumberOfCheck.ended NumberOfCheckReads.Asked NumberOfCheckReads.Learnt
  pub number_of_look : Tight NumberOfLook.ended NumberOfLookReads.Asked NumberOfLookReads.Learnt
  pub bytes_2 : Tight Bytes2.ended Bytes2Reads.Asked Bytes2Reads.Learnt
  pub number_2 : Tight Number2.ended Number2Reads.Asked Number2Reads.Learnt
  pub xor : (N : ℕ) (f : Fits w64 N) → N < 2 ^ 63 → Tight (Xor.ended (number N)) (XorReads.Asked N f) (XorReads.Learnt N f)
  pub cell : Tight Cell.ended CellReads.Asked CellReads.Learnt
  pub stamp_at : Tight StampAt.ended StampAtReads.Asked StampAtReads.Learnt
  pub write : Tight Write.ended WriteReads.Asked WriteReads.Learnt
  pub message : Tight Message.ended MessageReads.Asked MessageReads.Learnt
  pub tag : Tight Tag.ended TagReads.Asked TagReads.Learnt
  pub with_tag : Tight WithTag.ended WithTagReads.Asked WithTagReads.Learnt
  pub same : Tight Same.ended SameReads.Asked SameReads.Learnt
  pub agrees : Tight Agrees.ended AgreesReads.Asked AgreesReads.Learnt
  pub opened : Tight Opened.ended OpenedReads.Asked OpenedReads.Learnt
  pub close : Tight Close.ended CloseReads.Asked CloseReads.Learnt
  pub reason : Tight Reason.ended ReasonReads.Asked ReasonReads.Learnt
  -- the bench's library
  pub decimal : Tight Decimal.ended DecimalReads.Asked DecimalReads.Learnt
  pub hex : Tight Hex.ended HexReads.Asked HexReads.Learnt
  pub put : Tight Put.ended PutReads.Asked PutReads.Learnt
  pub put_decimal : Tight PutDecimal.ended PutDecimalReads.Asked PutDecimalReads.Learnt
  pub put_hex : Tight PutHex.ended PutHexReads.Asked PutHexReads.Learnt
  pub find : Tight Find.ended FindReads.Asked FindReads.Learnt
  pub parse : Tight Parse.ended ParseReads.Asked ParseReads.Learnt
  pub say : Tight Say.ended SayReads.Asked SayReads.Learnt
  pub command : Tight Command.ended CommandReads.Asked CommandReads.Learnt
  pub run : Tight Run.ended RunReads.Asked RunReads.Learnt
  -- look can write nothing, and hands back a part of the lent store: its bytes, and the place where it lies
  pub look_any : (κs : Lfts 1) (a : Args Look.signature κs) → LookReads.Asked κs a
  pub look : (κs : Lfts 1) (a : Args Look.signature κs) (r r' : Res Look.signature κs) (e e' : AtExit Look.ended κs)
      → LookReads.Learnt κs a r e → LookReads.Learnt κs a r' e' → (r.now ≡ r'.now) × (r.ref_ptr ≡ r'.ref_ptr)
  -- and so does the part of the store that is a value
  pub value_part_any : (κs : Lfts 1) (a : Args ValuePart.signature κs) → ValuePartReads.Asked κs a
  pub value_part : (κs : Lfts 1) (a : Args ValuePart.signature κs) (r r' : Res ValuePart.signature κs) (e e' : AtExit ValuePart.ended κs)
      → ValuePartReads.Learnt κs a r e → ValuePartReads.Learnt κs a r' e' → (r.now ≡ r'.now) × (r.ref_ptr ≡ r'.ref_ptr)
