-- What take and put make of a state, field by field. Assumes nothing.
use borrow.Author.Tests.{lt-ltb, le-ltb, not-true, not-false}
use mathlib.Core.Path.{◌≡◌, sym, ap, ap₂, ◌∙◌}
use mathlib.Core.Bool.{Bool, true, false, cond, not, ◌||◌, ◌&&◌, or-false, and-false}
use mathlib.Core.List.{List}
use mathlib.Core.Option.{none}
use Prim.Native.Nat.{ℕ, ◌≤◌, ◌<◌}
use lib.Dec.{ltb}
use Rattle.state.specs.Cells.{Entry, entry, value_at, stamp_at, entry_at}
use Rattle.state.specs.Multiset.{with_tag}
use Rattle.state.specs.TakePut.{seen, take_entry, put_entry}
use Rattle.state.specs.declared.State.{State}
use Rattle.state.specs.declared.Hash.{Hash}
use Rattle.state.specs.declared.Seal.{Seal}

-- the state with another take hash and fault, and with another put hash and clock
abbrev pub with_take : State → Hash → Bool → ℕ → State
with_take s h f a = record { seal = s.seal; put = s.put; take = h; clock = s.clock; fault = f; first = a; closed = s.closed; marks = s.marks }

abbrev pub with_put : State → Hash → ℕ → State
with_put s h t = record { seal = s.seal; put = h; take = s.take; clock = t; fault = s.fault; first = s.first; closed = s.closed; marks = s.marks }

-- the fault mark f and the first fault's address x after a take at a of the stamp t
abbrev pub FaultAfter : State → ℕ → ℕ → Bool → ℕ → Type 0
FaultAfter s a t f x = (f ≡ (s.fault || ltb s.clock t)) × (x ≡ cond (not s.fault && ltb s.clock t) a s.first)

module _ (s : State) (a t : ℕ) where
  -- a stamp above the clock where no fault is marked, one where a fault is, and a stamp that is not above
  pub fault_found : not s.fault ≡ true → s.clock < t → FaultAfter s a t true a
  fault_found n h = let f = not-true s.fault n in (rw (f, lt-ltb s.clock t h), rw (f, lt-ltb s.clock t h))

  pub fault_stays : not s.fault ≡ false → FaultAfter s a t s.fault s.first
  fault_stays n = let f = not-false s.fault n in (rw f, rw f)

  pub fault_none : t ≤ s.clock → FaultAfter s a t s.fault s.first
  fault_none h = (rw (le-ltb s.clock t h) (sym (or-false s.fault)), rw (le-ltb s.clock t h, and-false (not s.fault)))

module _ (w : ℕ) (tag : Seal → Entry → List ℕ) (s : State) (m : List ℕ) (a : ℕ) where
  -- a take, by its parts: the new hash h, the tag k, the value v and the stamp t read, the new fault f at x
  pub take_is : {h : Hash} {k v : List ℕ} {t : ℕ} {f : Bool} {x : ℕ} → h ≡ with_tag s.take k → k ≡ tag s.seal (entry a v t) → v ≡ value_at w m a → t ≡ stamp_at w m a
      → FaultAfter s a t f x → with_take s h f x ≡ take_entry tag s (entry_at w m a)
  unfolding take_entry entry_at
  take_is p q r u g =
      let hash = p ∙ ap (with_tag s.take) (q ∙ ap₂ (λ v t. tag s.seal (entry a v t)) r u) in
      let fault = g.0 ∙ ap (λ t. s.fault || ltb s.clock t) u in
      let first = g.1 ∙ ap (λ t. cond (not s.fault && ltb s.clock t) a s.first) u in
      λ i. with_take s (hash i) (fault i) (first i)

  -- it keeps the clock
  pub take_clock : {t : State} → t ≡ take_entry tag s (entry_at w m a) → t.clock ≡ s.clock
  unfolding take_entry
  take_clock p = ap (λ (t : State). t.clock) p

-- a put, by the new hash h and the tag k
pub put_is : (tag : Seal → Entry → List ℕ) (s : State) (e : Entry) {h : Hash} {k : List ℕ} → h ≡ with_tag s.put k → k ≡ tag s.seal e → with_put s h e.stamp ≡ put_entry tag s e
unfolding put_entry
put_is tag s e p q = ap (λ (h : Hash). with_put s h e.stamp) (p ∙ ap (with_tag s.put) q)

-- what is seen of a call that is done
pub same_seen : {s t : State} {m n o q : List ℕ} → s ≡ t → m ≡ n → o ≡ q → seen 0 none s m o ≡ seen 0 none t n q
same_seen {t = t} {n = n} {o = o} e f g = ap₂ (λ s m. seen 0 none s m o) e f ∙ ap (seen 0 none t n) g
