-- What a take marks, when a check accepts, and what an accepted check leaves of the state. Assumes nothing.
use mathlib.Core.Path.{◌≡◌, refl, sym, ap, ap₂, ◌∙◌, subst}
use mathlib.Core.Bool.{Bool, true, false, cond, not, ◌||◌, ◌&&◌, true≢false, false≢true}
use mathlib.Core.List.{List, []}
use mathlib.Core.Logic.{◌↔◌, ◌≢◌}
use mathlib.Core.Option.{Option, none, some, some-injective}
use Prim.Native.Nat.{ℕ, zero, suc, ◌≤◌, ◌<◌}
use native.Mathlib.Omega.{arith}
use lib.Dec.{ltb}
use borrow.Author.Tests.{lt-ltb, le-ltb, not-true}
use Rattle.refusal.specs.Refusal.{first, done}
use Rattle.state.specs.Sizes.{addresses}
use Rattle.state.specs.Marks.{used}
use Rattle.state.specs.Cells.{Entry}
use Rattle.state.specs.Multiset.{empty_hash, same_hash}
use Rattle.state.specs.TakePut.{seen, outcome, take_entry, put_entry}
use Rattle.state.specs.Access.{call}
use Rattle.state.specs.Check.{check_rows, opening, opened, agrees, reason, take_all, put_each, put_all, acceptance, rejection, check_of}
use Rattle.state.specs.declared.Seal.{Seal}
use Rattle.state.specs.declared.State.{State}
use Rattle.state.specs.declared.Verdict.{Verdict}
use Rattle.state.specs.declared.Verdict.TheVariants.{Accept, Stamp, Tag}
use Rattle.octets.proofs.Same.{both}
use Rattle.state.proofs.Multiset.{same_hash_true, equal_same_hash}
use Rattle.state.proofs.Walks.{put_each_below, put_each_whole}
use Rattle.state.proofs.Marked.{unset}

module _ (tag : Seal → Entry → List ℕ) (s : State) where
  -- a take where a fault is marked leaves it as it is; where none is, a stamp above the clock marks it at the entry's address, and any other marks none
  pub take_faulted : (e : Entry) → s.fault ≡ true → ((take_entry tag s e).fault ≡ true) × ((take_entry tag s e).first ≡ s.first)
  unfolding take_entry
  take_faulted e f = (ap (λ (b : Bool). b || ltb s.clock e.stamp) f, ap (λ (b : Bool). cond (not b && ltb s.clock e.stamp) e.address s.first) f)

  pub take_found : (e : Entry) → s.fault ≡ false → s.clock < e.stamp → ((take_entry tag s e).fault ≡ true) × ((take_entry tag s e).first ≡ e.address)
  unfolding take_entry
  take_found e f h = let l = lt-ltb s.clock e.stamp h in (ap₂ ◌||◌ f l, ap₂ (λ b c. cond (not b && c) e.address s.first) f l)

  pub take_calm : (e : Entry) → s.fault ≡ false → e.stamp ≤ s.clock → ((take_entry tag s e).fault ≡ false) × ((take_entry tag s e).first ≡ s.first)
  unfolding take_entry
  take_calm e f h = let l = le-ltb s.clock e.stamp h in (ap₂ ◌||◌ f l, ap₂ (λ b c. cond (not b && c) e.address s.first) f l)

  -- after a take the first fault's address is what it was, or the entry's
  pub take_first : (P : ℕ → Type 0) (e : Entry) → P s.first → P e.address → P (take_entry tag s e).first
  unfolding take_entry
  take_first P e h k = go (not s.fault && ltb s.clock e.stamp)
    where
      go : (b : Bool) → P (cond b e.address s.first)
      go true = k
      go false = h

-- the hashes are equal and no fault is marked
pub agrees_tells : (t : State) → agrees t ≡ true → (t.put ≡ t.take) × (t.fault ≡ false)
unfolding agrees
agrees_tells t h =
    let p = both (same_hash t.put t.take) (not t.fault) h in
    (same_hash_true t.put t.take p.0, not-true t.fault p.1)

pub equal_agrees : (t : State) → t.put ≡ t.take → t.fault ≡ false → agrees t ≡ true
unfolding agrees
equal_agrees t h f = rw (equal_same_hash t.put t.take h, f)

-- a reason is no accept
pub reason_rejects : (t : State) {A : Type 0} → reason t ≡ Accept → A
unfolding reason
reason_rejects t {A} = go t.fault
  where
    go : (b : Bool) → cond b (Stamp t.first) Tag ≡ Accept → A
    go true e = let y : ◌≡◌ {A = ℕ} 0 1 = cc in absurd (omega arith)
    go false e = let y : ◌≡◌ {A = ℕ} 0 1 = cc in absurd (omega arith)

module _ (w : ℕ) (tag : Seal → Entry → List ℕ) (s : State) (m : List ℕ) where
  abbrev t : State
  t = take_all w tag s m

  -- what a check that is not refused says, by the state after its takes
  pub verdict_is : first (check_rows w s m) ≡ 0 → (check_of w tag s m).seen.verdict ≡ some (cond (agrees t) Accept (reason t))
  unfolding check_of call acceptance rejection
  verdict_is e = ap (λ (n : ℕ). (done n (cond (agrees t) (acceptance w tag s m) (rejection w tag s m)) (outcome (seen n none s m []) [])).seen.verdict) e ∙ go (agrees t)
    where
      go : (b : Bool) → (cond b (acceptance w tag s m) (rejection w tag s m)).seen.verdict ≡ some (cond b Accept (reason t))
      go true = refl
      go false = refl

  module _ (e : first (check_rows w s m) ≡ 0) where
    abbrev verdict : Option Verdict
    verdict = (check_of w tag s m).seen.verdict

    -- accept exactly where the hashes are equal and no fault is marked
    pub accepts_tells : verdict ≡ some Accept → (t.put ≡ t.take) × (t.fault ≡ false)
    accepts_tells v = go (agrees t) refl (sym (verdict_is e) ∙ v)
      where
        go : (b : Bool) → agrees t ≡ b → some (cond b Accept (reason t)) ≡ some Accept → (t.put ≡ t.take) × (t.fault ≡ false)
        go true h k = agrees_tells t h
        go false h k = reason_rejects t (some-injective _ _ k)

    pub equal_accepts : t.put ≡ t.take → t.fault ≡ false → verdict ≡ some Accept
    equal_accepts h f = verdict_is e ∙ rw (equal_agrees t h f)

    -- for a stamp exactly where a fault is marked, and with the first one's address; and for the tags exactly where none is and the hashes differ
    pub says_stamp : (a : ℕ) → (verdict ≡ some (Stamp a)) ↔ ((t.fault ≡ true) × (t.first ≡ a))
    unfolding reason
    says_stamp a = ((λ v. tells (agrees t) refl t.fault refl (sym (verdict_is e) ∙ v)), λ k. verdict_is e ∙ rw (unset (agrees t) (λ h. false≢true (sym (agrees_tells t h).1 ∙ k.0)), k.0, k.1))
      where
        tells : (b : Bool) → agrees t ≡ b → (c : Bool) → t.fault ≡ c → some (cond b Accept (cond c (Stamp t.first) Tag)) ≡ some (Stamp a) → (t.fault ≡ true) × (t.first ≡ a)
        tells true h c f k = let y : ◌≡◌ {A = ℕ} 0 1 = cc in absurd (omega arith)
        tells false h true f k = (f, cc)
        tells false h false f k = let y : ◌≡◌ {A = ℕ} 0 1 = cc in absurd (omega arith)

    pub says_tag : (verdict ≡ some Tag) ↔ ((t.fault ≡ false) × (t.put ≢ t.take))
    unfolding reason
    says_tag = ((λ v. tells (agrees t) refl t.fault refl (sym (verdict_is e) ∙ v)), λ k. verdict_is e ∙ rw (unset (agrees t) (λ h. k.1 (agrees_tells t h).0), k.0))
      where
        tells : (b : Bool) → agrees t ≡ b → (c : Bool) → t.fault ≡ c → some (cond b Accept (cond c (Stamp t.first) Tag)) ≡ some Tag → (t.fault ≡ false) × (t.put ≢ t.take)
        tells true h c f k = let y : ◌≡◌ {A = ℕ} 0 1 = cc in absurd (omega arith)
        tells false h true f k = let y : ◌≡◌ {A = ℕ} 0 1 = cc in absurd (omega arith)
        tells false h false f k = (f, λ q. true≢false (sym (equal_agrees t q f) ∙ h))

  -- accepted: the take hash begins empty and the clock is 1, also with no address in use; the rest but the put hash is as it was
  pub record Opens (t : State) : Type 0 where
    pub seal : t.seal ≡ s.seal
    pub take : t.take ≡ empty_hash
    pub clock : t.clock ≡ 1
    pub fault : t.fault ≡ s.fault
    pub first : t.first ≡ s.first
    pub closed : t.closed ≡ s.closed
    pub marks : t.marks ≡ s.marks

  module _ (ws : List ℕ) where
    opens_below : (n : ℕ) → Opens (put_each_below w tag ws (opened s) m n)
    unfolding put_each_below opened put_entry opening
    opens_below zero = record { seal = refl; take = refl; clock = refl; fault = refl; first = refl; closed = refl; marks = refl }
    opens_below (suc n) = go (used ws n) (opens_below n)
      where
        x : State
        x = put_each_below w tag ws (opened s) m n

        go : (b : Bool) → Opens x → Opens (cond b (put_entry tag x (opening w m n)) x)
        go true h = record { seal = h.seal; take = h.take; clock = refl; fault = h.fault; first = h.first; closed = h.closed; marks = h.marks }
        go false h = h

    -- whatever addresses are put
    pub opens_each : Opens (put_each w tag ws (opened s) m)
    opens_each = subst Opens (sym (put_each_whole w tag ws (opened s) m)) (opens_below addresses)

  pub opens : Opens (put_all w tag s m)
  unfolding put_all
  opens = opens_each s.marks
