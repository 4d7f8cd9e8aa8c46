-- 01, "How tight each contract is", of the functions of `exports`, each of which `exports_c` calls under its C name, with the same contract, and of those by value
-- that do their work. Of a function that is lent a struct the entry speaks of the clauses in the toolchain's program logic: there, in every model, they ask
-- nothing and tell one plain claim, and any two outcomes that the claim admits are equal. Assumes nothing.
use Rattle.std.specs.Prelude.{◌≡◌}
use seplogic.Ra.Ura.{Ura}
use base.Logic.{SProp, emp}
use prog.Memory.{Memory}
use prog.Routine.{Routine}
use types.Logic.{Logic}
use contract.Lifetimes.{Lfts}
use contract.Monad.{Fun, fact}
use denote.Triple.Entry.{Args, Res}
use denote.Triple.Clauses.{Ended, Clauses, Lasts, AtExit, at_exit}
use Rattle.outcomes.specs.Outcomes.{Tight}
use Rattle.held.specs.contracts.start as HeldStart
use Rattle.held.proofs.start.Reads as HeldStartReads
use Rattle.held.specs.contracts.add as HeldAdd
use Rattle.held.proofs.add.Reads as HeldAddReads
use Rattle.held.specs.contracts.load as HeldLoad
use Rattle.held.proofs.load.Reads as HeldLoadReads
use Rattle.held.specs.contracts.store as HeldStore
use Rattle.held.proofs.store.Reads as HeldStoreReads
use Rattle.held.specs.contracts.remove as HeldRemove
use Rattle.held.proofs.remove.Reads as HeldRemoveReads
use Rattle.held.specs.contracts.check as HeldCheck
use Rattle.held.proofs.check.Reads as HeldCheckReads
use Rattle.held.specs.contracts.count as HeldCount
use Rattle.held.proofs.count.Reads as HeldCountReads
use Rattle.held.specs.contracts.lowest_free as HeldLowestFree
use Rattle.held.proofs.lowest_free.Reads as HeldLowestFreeReads
use Rattle.held.specs.contracts.StateFromHeld.from as HeldState
use Rattle.held.proofs.StateFromHeld.from.Reads as HeldStateReads
use Rattle.held.specs.contracts.HeldFromState.from as HeldHeld
use Rattle.held.proofs.HeldFromState.from.Reads as HeldHeldReads
use Rattle.held.specs.contracts.FilterRecordFromFields.from as HeldRecord
use Rattle.held.proofs.FilterRecordFromFields.from.Reads as HeldRecordReads
use Rattle.held.specs.contracts.FieldsFromFilterRecord.from as HeldFields
use Rattle.held.proofs.FieldsFromFilterRecord.from.Reads as HeldFieldsReads
use Rattle.held.specs.contracts.pack as HeldPack
use Rattle.held.proofs.pack.Reads as HeldPackReads
use Rattle.held.specs.contracts.unpack as HeldUnpack
use Rattle.held.proofs.unpack.Reads as HeldUnpackReads
use Rattle.held.specs.contracts.compare as HeldCompare
use Rattle.held.proofs.compare.Reads as HeldCompareReads
use Rattle.exports.specs.contracts.pintlecup_start as Start
use Rattle.exports.specs.contracts.pintlecup_add as Add
use Rattle.exports.specs.contracts.pintlecup_load as Load
use Rattle.exports.specs.contracts.pintlecup_store as Store
use Rattle.exports.specs.contracts.pintlecup_remove as Remove
use Rattle.exports.specs.contracts.pintlecup_check as Check
use Rattle.exports.specs.contracts.pintlecup_look as Look
use Rattle.exports.proofs.pintlecup_look.Reads as LookReads
use Rattle.exports.specs.contracts.pintlecup_count as Count
use Rattle.exports.specs.contracts.pintlecup_lowest_free as LowestFree
use Rattle.exports.specs.contracts.pintlecup_digest as Digest
use Rattle.exports.proofs.pintlecup_digest.Reads as DigestReads
use Rattle.exports.specs.contracts.pintlecup_hmac as Hmac
use Rattle.exports.proofs.pintlecup_hmac.Reads as HmacReads
use Rattle.exports.specs.contracts.pintlecup_pack as Pack
use Rattle.exports.specs.contracts.pintlecup_unpack as Unpack
use Rattle.exports.specs.contracts.pintlecup_compare as Compare

-- a contract, in every model of the logic
abbrev pub InModels : Ended → Type 2
InModels T = (M : Type 1) (𝓤 : Ura M) (𝓛 : Logic 𝓤) → (Memory → SProp 𝓤) → (Routine → Fun 𝓤) → Clauses 𝓤 T

module _ (T : Ended) where
  abbrev Lives : Type 0
  Lives = Lfts T.signature.lifetimes

  pub record TightLent (clauses : InModels T) : Type 2 where
    pub Learnt : (κs : Lives) → Args T.signature κs → Res T.signature κs → AtExit T κs → Type 0
    pub asks : (M : Type 1) (𝓤 : Ura M) (𝓛 : Logic 𝓤) (m : Memory → SProp 𝓤) (f : Routine → Fun 𝓤) (κs : Lives) (a : Args T.signature κs)
        (g : (clauses M 𝓤 𝓛 m f κs a).ghost) → (clauses M 𝓤 𝓛 m f κs a).requires g ≡ emp 𝓤
    pub tells : (M : Type 1) (𝓤 : Ura M) (𝓛 : Logic 𝓤) (m : Memory → SProp 𝓤) (f : Routine → Fun 𝓤) (κs : Lives) (a : Args T.signature κs)
        (g : (clauses M 𝓤 𝓛 m f κs a).ghost) (r : Res T.signature κs) (e : AtExit T κs) → (clauses M 𝓤 𝓛 m f κs a).ensures g r e ≡ fact 𝓤 (Learnt κs a r e)
    pub one : (κs : Lives) (a : Args T.signature κs) (r r' : Res T.signature κs) (l l' : Lasts T κs a)
        → Learnt κs a r (at_exit T κs a l) → Learnt κs a r' (at_exit T κs a l') → (r ≡ r') × (l ≡ l')

pub record Exported : Type 2 where
  -- by value
  pub held_start : Tight HeldStart.ended HeldStartReads.Asked HeldStartReads.Learnt
  pub held_add : Tight HeldAdd.ended HeldAddReads.Asked HeldAddReads.Learnt
  pub held_load : Tight HeldLoad.ended HeldLoadReads.Asked HeldLoadReads.Learnt
  pub held_store : Tight HeldStore.ended HeldStoreReads.Asked HeldStoreReads.Learnt
  pub held_remove : Tight HeldRemove.ended HeldRemoveReads.Asked HeldRemoveReads.Learnt
  pub held_check : Tight HeldCheck.ended HeldCheckReads.Asked HeldCheckReads.Learnt
  pub held_count : Tight HeldCount.ended HeldCountReads.Asked HeldCountReads.Learnt
  pub held_lowest_free : Tight HeldLowestFree.ended HeldLowestFreeReads.Asked HeldLowestFreeReads.Learnt
  pub held_state : Tight HeldState.ended HeldStateReads.Asked HeldStateReads.Learnt
  pub held_held : Tight HeldHeld.ended HeldHeldReads.Asked HeldHeldReads.Learnt
  pub held_record : Tight HeldRecord.ended HeldRecordReads.Asked HeldRecordReads.Learnt
  pub held_fields : Tight HeldFields.ended HeldFieldsReads.Asked HeldFieldsReads.Learnt
  pub held_pack : Tight HeldPack.ended HeldPackReads.Asked HeldPackReads.Learnt
  pub held_unpack : Tight HeldUnpack.ended HeldUnpackReads.Asked HeldUnpackReads.Learnt
  pub held_compare : Tight HeldCompare.ended HeldCompareReads.Asked HeldCompareReads.Learnt
  -- under C names
  pub start : TightLent Start.ended (λ M 𝓤. Start.clauses {M = M} {𝓤 = 𝓤})
  pub add : TightLent Add.ended (λ M 𝓤. Add.clauses {M = M} {𝓤 = 𝓤})
  pub load : TightLent Load.ended (λ M 𝓤. Load.clauses {M = M} {𝓤 = 𝓤})
  pub store : TightLent Store.ended (λ M 𝓤. Store.clauses {M = M} {𝓤 = 𝓤})
  pub remove : TightLent Remove.ended (λ M 𝓤. Remove.clauses {M = M} {𝓤 = 𝓤})
  pub check : TightLent Check.ended (λ M 𝓤. Check.clauses {M = M} {𝓤 = 𝓤})
  pub look : Tight Look.ended LookReads.Asked LookReads.Learnt
  pub count : TightLent Count.ended (λ M 𝓤. Count.clauses {M = M} {𝓤 = 𝓤})
  pub lowest_free : TightLent LowestFree.ended (λ M 𝓤. LowestFree.clauses {M = M} {𝓤 = 𝓤})
  pub digest : Tight Digest.ended DigestReads.Asked DigestReads.Learnt
  pub hmac : Tight Hmac.ended HmacReads.Asked HmacReads.Learnt
  pub pack : TightLent Pack.ended (λ M 𝓤. Pack.clauses {M = M} {𝓤 = 𝓤})
  pub unpack : TightLent Unpack.ended (λ M 𝓤. Unpack.clauses {M = M} {𝓤 = 𝓤})
  pub compare : TightLent Compare.ended (λ M 𝓤. Compare.clauses {M = M} {𝓤 = 𝓤})
