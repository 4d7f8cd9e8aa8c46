-- The tie between the code and the claims: what the contract of each public call lets one learn, at the end of the call, is what the library `l` gives for
-- the call's arguments. A contract, as the toolchain reads it, is `Learnt`: of the arguments a, the result r, and the last values e of what is lent to be written.
-- Lent bytes are told by `now`, and where they lie by `ref_ptr`. Assumes nothing.
use Rattle.std.specs.Prelude.{◌≡◌, []}
use contract.Lifetimes.{Lfts}
use denote.Triple.Entry.{Args, Res}
use denote.Triple.Clauses.{Ended, Lasts, AtExit, at_exit}
use Rattle.refusal.specs.Refusal.{filled}
use Rattle.refusal.specs.Told.{told}
use Rattle.filter.specs.Filter.{unpacked}
use Rattle.lent.specs.Lent.{lies}
use Rattle.page.specs.Page.{page, whole}
use Rattle.state.specs.Start.{started}
use Rattle.state.specs.TakePut.{moved, checked}
use Rattle.state.specs.contracts.State.start as Start
use Rattle.state.proofs.State.start.Reads as StartReads
use Rattle.store.specs.contracts.add as Add
use Rattle.store.proofs.add.Reads as AddReads
use Rattle.store.specs.contracts.load as Load
use Rattle.store.proofs.load.Reads as LoadReads
use Rattle.store.specs.contracts.store as Store
use Rattle.store.proofs.store.Reads as StoreReads
use Rattle.store.specs.contracts.remove as Remove
use Rattle.store.proofs.remove.Reads as RemoveReads
use Rattle.store.specs.contracts.check as Check
use Rattle.store.proofs.check.Reads as CheckReads
use Rattle.store.specs.contracts.look as Look
use Rattle.store.proofs.look.Reads as LookReads
use Rattle.store.specs.contracts.count as Count
use Rattle.store.proofs.count.Reads as CountReads
use Rattle.store.specs.contracts.lowest_free as LowestFree
use Rattle.store.proofs.lowest_free.Reads as LowestFreeReads
use Rattle.sha256.specs.contracts.digest as Digest
use Rattle.sha256.proofs.digest.Reads as DigestReads
use Rattle.hmac.specs.contracts.mac as Mac
use Rattle.hmac.proofs.mac.Reads as MacReads
use Rattle.filter.specs.contracts.pack as Pack
use Rattle.filter.proofs.pack.Reads as PackReads
use Rattle.filter.specs.contracts.unpack as Unpack
use Rattle.filter.proofs.unpack.Reads as UnpackReads
use Rattle.going.specs.contracts.compare as Compare
use Rattle.going.proofs.compare.Reads as CompareReads
use Rattle.session.specs.contracts.run as Bench
use Rattle.session.proofs.run.Reads as BenchReads
use Rattle.promises.specs.Library.{Library}

-- of every outcome that a contract allows, `says` holds; κs are the lifetimes of what is lent
module _ (T : Ended) (learnt : (κs : Lfts T.signature.lifetimes) → (a : Args T.signature κs) → Res T.signature κs → AtExit T κs → Type 0) where
  abbrev pub Tells : ((κs : Lfts T.signature.lifetimes) → (a : Args T.signature κs) → Res T.signature κs → Lasts T κs a → Type 0) → Type 0
  Tells says = (κs : Lfts T.signature.lifetimes) (a : Args T.signature κs) (r : Res T.signature κs) (e : Lasts T κs a) → learnt κs a r (at_exit T κs a e) → says κs a r e

pub record Tied (l : Library) : Type 1 where
  pub start : Tells Start.ended StartReads.Learnt (λ κs a r e. started (told r.answer) r.state ≡ l.store.start a.0.now)
  pub add : Tells Add.ended AddReads.Learnt
      (λ κs a r e. moved r a.0 e.1.0 [] ≡ l.store.add a.0 a.1.0.now a.1.1.0 a.1.1.1.0.now)
  pub load : Tells Load.ended LoadReads.Learnt
      (λ κs a r e. moved r a.0 e.1.0 e.1.1.1.0 ≡ l.store.load a.0 a.1.0.now a.1.1.0 a.1.1.1.0.now)
  pub store : Tells Store.ended StoreReads.Learnt
      (λ κs a r e. moved r a.0 e.1.0 [] ≡ l.store.store a.0 a.1.0.now a.1.1.0 a.1.1.1.0.now)
  pub remove : Tells Remove.ended RemoveReads.Learnt
      (λ κs a r e. moved r a.0 e.1.0 [] ≡ l.store.remove a.0 a.1.0.now a.1.1.0)
  pub check : Tells Check.ended CheckReads.Learnt
      (λ κs a r e. checked r a.0 e.1.0 ≡ l.store.check a.0 a.1.0.now)
  -- the part that a look gives lies in the lent store itself
  pub look : Tells Look.ended LookReads.Learnt
      (λ κs a r e. (r.now ≡ l.store.look a.0.now a.1.0) × (r.ref_ptr ≡ lies a.0 (l.store.look_from a.0.now a.1.0)))
  pub count : Tells Count.ended CountReads.Learnt (λ κs a r e. r ≡ l.store.count a.0)
  pub lowest_free : Tells LowestFree.ended LowestFreeReads.Learnt (λ κs a r e. r ≡ l.store.lowest_free a.0)
  pub digest : Tells Digest.ended DigestReads.Learnt (λ κs a r e. filled (told r) e.1.0 ≡ l.digest a.0.now a.1.0.now)
  pub mac : Tells Mac.ended MacReads.Learnt (λ κs a r e. filled (told r) e.1.1.0 ≡ l.mac a.0.now a.1.0.now a.1.1.0.now)
  pub pack : Tells Pack.ended PackReads.Learnt (λ κs a r e. filled (told r) e.1.0 ≡ l.pack a.0 a.1.0.now)
  pub unpack : Tells Unpack.ended UnpackReads.Learnt (λ κs a r e. unpacked (told r.answer) r.filter ≡ l.unpack a.0.now)
  pub compare : Tells Compare.ended CompareReads.Learnt (λ κs a r e. r ≡ l.compare a.0 a.1.0)
  pub bench : Tells Bench.ended BenchReads.Learnt (λ κs a r e. page e.1.0 r ≡ whole a.1.0.now (l.bench a.0.now))
