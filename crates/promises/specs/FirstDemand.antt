-- Demand 1. In our words: every call ends, for inputs of all sizes and for any state. What lies outside the limits is refused by its number, by a look with an
-- empty part; any state given comes back equal, and no lent byte has changed.
--
-- That a call ends is proved of each function with its contract, and the contract asks nothing of its arguments. Keys, values, messages and the store of a look
-- are lent shared: their type forbids writing. The numbers are the table's, written out. Assumes nothing.
use Rattle.std.specs.Prelude.{◌≡◌, List, [], ◌∷◌, ◌⊎◌, ◌↔◌, ◌≢◌, ℕ, ◌<◌, length}
use Rattle.std.proofs.Math.Option.{Option, none, some}
use contract.Lifetimes.{Lfts}
use denote.Triple.Entry.{Args}
use denote.Triple.Clauses.{Ended}
use Rattle.refusal.specs.Cases.{given, FirstOf}
use Rattle.state.specs.Marks.{in_use}
use Rattle.state.specs.Access.{free_number, free_address}
use Rattle.state.specs.Check.{verdict_number, verdict_accepts, verdict_address}
use Rattle.state.specs.Table.{Marked, Table}
use Rattle.state.specs.declared.State.{State}
use Rattle.state.specs.declared.Verdict.{Verdict}
use Rattle.state.specs.declared.Verdict.TheVariants.{Stamp}
use Rattle.filter.specs.Promises.{Numbers}
use Rattle.state.specs.contracts.State.start as Start
use Rattle.state.proofs.State.start.Reads as StartReads
use Rattle.store.specs.contracts.add as Add
use Rattle.store.proofs.add.Reads as AddReads
use Rattle.store.specs.contracts.load as Load
use Rattle.store.proofs.load.Reads as LoadReads
use Rattle.store.specs.contracts.store as Store
use Rattle.store.proofs.store.Reads as StoreReads
use Rattle.store.specs.contracts.remove as Remove
use Rattle.store.proofs.remove.Reads as RemoveReads
use Rattle.store.specs.contracts.check as Check
use Rattle.store.proofs.check.Reads as CheckReads
use Rattle.store.specs.contracts.look as Look
use Rattle.store.proofs.look.Reads as LookReads
use Rattle.store.specs.contracts.count as Count
use Rattle.store.proofs.count.Reads as CountReads
use Rattle.store.specs.contracts.lowest_free as LowestFree
use Rattle.store.proofs.lowest_free.Reads as LowestFreeReads
use Rattle.sha256.specs.contracts.digest as Digest
use Rattle.sha256.proofs.digest.Reads as DigestReads
use Rattle.hmac.specs.contracts.mac as Mac
use Rattle.hmac.proofs.mac.Reads as MacReads
use Rattle.filter.specs.contracts.pack as Pack
use Rattle.filter.proofs.pack.Reads as PackReads
use Rattle.filter.specs.contracts.unpack as Unpack
use Rattle.filter.proofs.unpack.Reads as UnpackReads
use Rattle.going.specs.contracts.compare as Compare
use Rattle.going.proofs.compare.Reads as CompareReads
use Rattle.session.specs.contracts.run as Bench
use Rattle.session.proofs.run.Reads as BenchReads
use Rattle.promises.specs.Library.{Library}

-- a contract that holds of all arguments
abbrev pub OfAll : (T : Ended) → ((κs : Lfts T.signature.lifetimes) → Args T.signature κs → Type 0) → Type 0
OfAll T asked = (κs : Lfts T.signature.lifetimes) (a : Args T.signature κs) → asked κs a

-- what each call's contract asks of its arguments: nothing
pub record Asks : Type 1 where
  pub start : OfAll Start.ended StartReads.Asked
  pub add : OfAll Add.ended AddReads.Asked
  pub load : OfAll Load.ended LoadReads.Asked
  pub store : OfAll Store.ended StoreReads.Asked
  pub remove : OfAll Remove.ended RemoveReads.Asked
  pub check : OfAll Check.ended CheckReads.Asked
  pub look : OfAll Look.ended LookReads.Asked
  pub count : OfAll Count.ended CountReads.Asked
  pub lowest_free : OfAll LowestFree.ended LowestFreeReads.Asked
  pub digest : OfAll Digest.ended DigestReads.Asked
  pub mac : OfAll Mac.ended MacReads.Asked
  pub pack : OfAll Pack.ended PackReads.Asked
  pub unpack : OfAll Unpack.ended UnpackReads.Asked
  pub compare : OfAll Compare.ended CompareReads.Asked
  pub bench : OfAll Bench.ended BenchReads.Asked

-- every address is in use
abbrev pub AllInUse : State → Type 0
AllInUse s = (a : ℕ) → a < 1024 → Marked s a

-- a is the smallest address that is not in use
pub record Lowest (s : State) (a : ℕ) : Type 0 where
  pub below : a < 1024
  pub free : ¬ Marked s a
  pub before : (b : ℕ) → b < a → Marked s b

pub record FirstDemand (l : Library) : Type 1 where
  pub asks : Asks
  -- the calls of the store: a cell has 30 bytes, a store 30,720, and 65,535 is the last clock
  pub table : Table 30 30720 65535 l.store
  -- a check has a verdict exactly where it is done, and a verdict an address exactly where it is a reject for a stamp
  pub check_number : (s : State) (m : List ℕ) → ((l.store.check s m).number ≡ 0) ↔ (verdict_number (l.store.check s m).verdict ≡ some 0)
  pub check_verdict : (s : State) (m : List ℕ) → ((l.store.check s m).number ≢ 0) ↔ (verdict_accepts (l.store.check s m).verdict ≡ none)
  pub check_address : (v : Option Verdict) (a : ℕ) → (verdict_address v ≡ some a) ↔ (v ≡ some (Stamp a))
  -- count and lowest free: how many addresses are in use; the smallest that is not, and 9 where there is none
  pub count : (s : State) → l.store.count s ≡ length (in_use s.marks)
  pub lowest_number : (s : State) → FirstOf (given 9 (AllInUse s) ∷ []) (free_number (l.store.lowest_free s))
  pub lowest_address : (s : State) (a : ℕ) → (free_address (l.store.lowest_free s) ≡ some a) ↔ Lowest s a
  -- digest and HMAC
  pub digest : (m out : List ℕ) → FirstOf (given 10 ((8192 < length m) ⊎ (length out ≢ 32)) ∷ []) (l.digest m out).number
  pub digest_unchanged : (m out : List ℕ) → (l.digest m out).number ≢ 0 → (l.digest m out).out ≡ out
  pub mac : (k m out : List ℕ) → FirstOf (given 10 (((1024 < length k) ⊎ (4096 < length m)) ⊎ (length out ≢ 32)) ∷ []) (l.mac k m out).number
  pub mac_unchanged : (k m out : List ℕ) → (l.mac k m out).number ≢ 0 → (l.mac k m out).out ≡ out
  -- pack and unpack
  pub filters : Numbers l.pack l.unpack
