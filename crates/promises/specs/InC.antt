-- The tie of the calls under C names: of the functions of `exports`, each of which `exports_c` calls under its C name, with the same contract. Of a function that
-- is lent a struct it speaks of the clauses in the toolchain's program logic: there, in every model, what they ensure is a plain claim (`fact`), and here is
-- which: that what the caller holds after the call stands for what the library `l` gives. The answers' numbers are in `held/specs/Answers.antt`. Assumes nothing.
use Rattle.std.specs.Prelude.{◌≡◌, [], ◌⊎◌, ◌≢◌, ◌*◌, ◌<◌, length}
use seplogic.Ra.Ura.{Ura}
use base.Logic.{SProp}
use prog.Memory.{Memory}
use prog.Routine.{Routine}
use types.Logic.{Logic}
use contract.Lifetimes.{Lfts}
use contract.Monad.{Fun, fact}
use denote.Triple.Entry.{Args, Res}
use denote.Triple.Clauses.{Ended, AtExit}
use Rattle.refusal.specs.Refusal.{filled}
use Rattle.state.specs.Access.{free_number}
use Rattle.held.specs.Held.{state_of, held_of}
use Rattle.held.specs.Fields.{record_of, fields_of}
use Rattle.held.specs.Answers.{left, in_place, stamp_or, free_or, going_answer, distance_or}
use Rattle.going.specs.declared.Going.{Going}
use Rattle.held.specs.Same.{Same}
use Rattle.held.specs.Answered.{Answered}
use Rattle.outcomes.specs.Exports.{InModels}
use Rattle.exports.specs.contracts.pintlecup_start as Start
use Rattle.exports.specs.contracts.pintlecup_add as Add
use Rattle.exports.specs.contracts.pintlecup_load as Load
use Rattle.exports.specs.contracts.pintlecup_store as Store
use Rattle.exports.specs.contracts.pintlecup_remove as Remove
use Rattle.exports.specs.contracts.pintlecup_check as Check
use Rattle.exports.specs.contracts.pintlecup_look as Look
use Rattle.exports.proofs.pintlecup_look.Reads as LookReads
use Rattle.exports.specs.contracts.pintlecup_count as Count
use Rattle.exports.specs.contracts.pintlecup_lowest_free as LowestFree
use Rattle.exports.specs.contracts.pintlecup_digest as Digest
use Rattle.exports.proofs.pintlecup_digest.Reads as DigestReads
use Rattle.exports.specs.contracts.pintlecup_hmac as Hmac
use Rattle.exports.proofs.pintlecup_hmac.Reads as HmacReads
use Rattle.exports.specs.contracts.pintlecup_pack as Pack
use Rattle.exports.specs.contracts.pintlecup_unpack as Unpack
use Rattle.exports.specs.contracts.pintlecup_compare as Compare
use Rattle.promises.specs.Library.{Library}
use Rattle.promises.specs.Tied.{Tells}

-- in every model, what the contract ensures is `says`
abbrev pub TellsLent : (T : Ended) → InModels T → ((κs : Lfts T.signature.lifetimes) → Args T.signature κs → Res T.signature κs → AtExit T κs → Type 0) → Type 2
TellsLent T clauses says =
    (M : Type 1) (𝓤 : Ura M) (𝓛 : Logic 𝓤) (m : Memory → SProp 𝓤) (f : Routine → Fun 𝓤) (κs : Lfts T.signature.lifetimes) (a : Args T.signature κs)
    (g : (clauses M 𝓤 𝓛 m f κs a).ghost) (r : Res T.signature κs) (e : AtExit T κs) → (clauses M 𝓤 𝓛 m f κs a).ensures g r e ≡ fact 𝓤 (says κs a r e)

pub record InC (l : Library) : Type 2 where
  pub start : TellsLent Start.ended (λ M 𝓤. Start.clauses {M = M} {𝓤 = 𝓤})
      (λ κs a r e. (r ≡ (l.store.start a.1.0.now).number) × (e.0.now ≡ held_of (l.store.start a.1.0.now).state))
  pub add : TellsLent Add.ended (λ M 𝓤. Add.clauses {M = M} {𝓤 = 𝓤})
      (λ κs a r e. left r e.0.now e.1.0.now [] ≡ in_place a.0.now (l.store.add (state_of a.0.now) a.1.0.now a.1.1.0 a.1.1.1.0.now))
  pub load : TellsLent Load.ended (λ M 𝓤. Load.clauses {M = M} {𝓤 = 𝓤})
      (λ κs a r e. left r e.0.now e.1.0.now e.1.1.1.0.now ≡ in_place a.0.now (l.store.load (state_of a.0.now) a.1.0.now a.1.1.0 a.1.1.1.0.now))
  pub store : TellsLent Store.ended (λ M 𝓤. Store.clauses {M = M} {𝓤 = 𝓤})
      (λ κs a r e. left r e.0.now e.1.0.now [] ≡ in_place a.0.now (l.store.store (state_of a.0.now) a.1.0.now a.1.1.0 a.1.1.1.0.now))
  pub remove : TellsLent Remove.ended (λ M 𝓤. Remove.clauses {M = M} {𝓤 = 𝓤})
      (λ κs a r e. left r e.0.now e.1.0.now [] ≡ in_place a.0.now (l.store.remove (state_of a.0.now) a.1.0.now a.1.1.0))
  pub check : TellsLent Check.ended (λ M 𝓤. Check.clauses {M = M} {𝓤 = 𝓤})
      (λ κs a r e. (left r e.0.now e.1.0.now [] ≡ in_place a.0.now (l.store.check (state_of a.0.now) a.1.0.now))
      × (e.1.1.0.now ≡ stamp_or a.1.1.0.now (l.store.check (state_of a.0.now) a.1.0.now).verdict))
  -- where the value begins, and a store's size where a look is refused
  pub look : Tells Look.ended LookReads.Learnt (λ κs a r e. length a.0.now ≡ 30720 → a.1.0 < 1024 → r ≡ 30 * a.1.0)
  pub look_refused : Tells Look.ended LookReads.Learnt (λ κs a r e. (length a.0.now ≢ 30720) ⊎ (1023 < a.1.0) → r ≡ 30720)
  pub count : TellsLent Count.ended (λ M 𝓤. Count.clauses {M = M} {𝓤 = 𝓤}) (λ κs a r e. r ≡ l.store.count (state_of a.0.now))
  pub lowest_free : TellsLent LowestFree.ended (λ M 𝓤. LowestFree.clauses {M = M} {𝓤 = 𝓤})
      (λ κs a r e. (r ≡ free_number (l.store.lowest_free (state_of a.0.now))) × (e.1.0.now ≡ free_or a.1.0.now (l.store.lowest_free (state_of a.0.now))))
  pub digest : Tells Digest.ended DigestReads.Learnt (λ κs a r e. filled r e.1.0 ≡ l.digest a.0.now a.1.0.now)
  pub hmac : Tells Hmac.ended HmacReads.Learnt (λ κs a r e. filled r e.1.1.0 ≡ l.mac a.0.now a.1.0.now a.1.1.0.now)
  pub pack : TellsLent Pack.ended (λ M 𝓤. Pack.clauses {M = M} {𝓤 = 𝓤}) (λ κs a r e. filled r e.1.0.now ≡ l.pack (record_of a.0.now) a.1.0.now)
  pub unpack : TellsLent Unpack.ended (λ M 𝓤. Unpack.clauses {M = M} {𝓤 = 𝓤})
      (λ κs a r e. (r ≡ (l.unpack a.0.now).number) × (e.1.0.now ≡ fields_of (l.unpack a.0.now).filter))
  pub compare : TellsLent Compare.ended (λ M 𝓤. Compare.clauses {M = M} {𝓤 = 𝓤})
      (λ κs a r e. (r ≡ going_answer (l.compare (record_of a.0.now) (record_of a.1.0.now)))
      × (e.1.1.0.now ≡ distance_or a.1.1.0.now (l.compare (record_of a.0.now) (record_of a.1.0.now))))
  -- what is held in place stands for the state that the call gives, and a check's answer and the address that it writes tell its verdict
  pub same : Same l.store
  -- and a comparison's answer and the distance that it writes tell what it gives
  pub answered : (g : Going) → Answered g
