-- A lawful event leaves a bag orderly: a put has a stamp above every one put before, or nothing was taken yet and then all that was put is held, so it is new;
-- a take moves one entry from what is held to what was owed. Assumes nothing.
use mathlib.Core.Path.{◌≡◌, refl, sym, ap, ◌∙◌}
use mathlib.Core.Bool.{Bool, true, false, false≢true}
use mathlib.Core.List.{List, [], ◌∷◌}
use mathlib.Core.Option.{Option, none, some}
use mathlib.Core.Logic.{◌⊎◌, inl, inr, ◌≢◌}
use Prim.Native.Nat.{ℕ, ◌+◌, ◌≤◌, ◌<◌}
use native.Mathlib.Omega.{arith}
use lib.Dec.{eqb}
use lib.ListN.{length, length-append}
use borrow.Author.Tests.{eqb-true, eqb-false, eq-eqb}
use Rattle.state.specs.Cells.{Entry}
use Rattle.state.specs.Counts.{same_entry, once, times}
use Rattle.state.specs.TakePut.{Event, took, put, accepted}
use Rattle.state.proofs.Multiset.{same_entry_true, times_last}
use Rattle.bag.specs.Bag.{Bag, empty, upd, there, noted}
use Rattle.bag.specs.Law.{Bare, Stamped, May}
use Rattle.bag.specs.Claims.{held_times, Orderly, StaysOrderly}

-- ---- what is held

pub none_some : {B : Type 0} {o : Option B} {e : B} {A : Type 0} → o ≡ none → o ≡ some e → A
none_some p q = absurd (false≢true (ap there (sym p ∙ q)))

pub upd_same : (f : ℕ → Option Entry) (a : ℕ) (x : Option Entry) (b : ℕ) → eqb b a ≡ true → upd f a x b ≡ x
unfolding upd
upd_same f a x b e = rw e

pub upd_other : (f : ℕ → Option Entry) (a : ℕ) (x : Option Entry) (b : ℕ) → eqb b a ≡ false → upd f a x b ≡ f b
unfolding upd
upd_other f a x b e = rw e

-- what a changed function has at an address
pub upd_tells : (f : ℕ → Option Entry) (a : ℕ) (x : Option Entry) (n : ℕ) {o : Option Entry} → upd f a x n ≡ o → ((n ≡ a) × (x ≡ o)) ⊎ ((n ≢ a) × (f n ≡ o))
upd_tells f a x n {o} k = go (eqb n a) refl
  where
    go : (t : Bool) → eqb n a ≡ t → ((n ≡ a) × (x ≡ o)) ⊎ ((n ≢ a) × (f n ≡ o))
    go true q = inl (eqb-true n a q, sym (upd_same f a x n q) ∙ k)
    go false q = inr (eqb-false n a q, sym (upd_other f a x n q) ∙ k)

pub upd_here : (f : ℕ → Option Entry) (a : ℕ) (x : Option Entry) → upd f a x a ≡ x
upd_here f a x = upd_same f a x a (eq-eqb a a refl)

-- ---- one event

pub same_stamp : (c e : Entry) → same_entry c e ≡ true → c.stamp ≡ e.stamp
same_stamp c e k = ap (λ (x : Entry). x.stamp) (same_entry_true c e k)

pub other_entry : (c e : Entry) → eqb c.address e.address ≡ false → same_entry c e ≡ false
unfolding same_entry
other_entry c e h = rw h

-- nothing was owed where nothing was taken
owed_none : (b : Bag) → Orderly b → b.takes ≡ [] → (c : Entry) → times c b.owed ≡ 0
unfolding times
owed_none b o e c = go b.owed (o.paired ∙ ap length e)
  where
    go : (l : List Entry) → length l ≡ 0 → times c l ≡ 0
    go [] h = refl
    go (d ∷ l) h = absurd (omega arith)

pub empty_orderly : (c : ℕ) → Orderly (empty c)
unfolding empty times
empty_orderly c =
    record { later = λ e h. refl; alike = λ e. omega arith; placed = λ a e h. none_some refl h; balance = λ e. refl; paired = refl }

module _ (tag : Entry → List ℕ) (b : Bag) (o : Orderly b) where
  -- an entry that may be put was not put before
  new : (e : Entry) → b.held e.address ≡ none → Stamped b e → times e b.puts ≡ 0
  new e free (inl s) = o.later e (omega arith)
  new e free (inr (n, s)) =
      let z : held_times (b.held e.address) e ≡ 0 = ap (λ (x : Option Entry). held_times x e) free in
      omega (arith, o.balance e, owed_none b o n e)

  put_orderly : (e : Entry) → b.held e.address ≡ none → Stamped b e → Orderly (noted b (put e))
  unfolding noted
  put_orderly e free s =
      record {
        later = λ c k. rw (times_last c b.puts e) (later c k (same_entry c e) refl);
        alike = λ c. rw (times_last c b.puts e) (alike c (same_entry c e) refl);
        placed = λ a c k. elim (upd_tells b.held e.address (some e) a k) [ inl (q, z) ↦ let y : e ≡ c = cc in ap (λ (x : Entry). x.address) (sym y) ∙ sym q | inr (q, z) ↦ o.placed a c z ];
        balance = λ c. rw (times_last c b.puts e) (balance c (eqb c.address e.address) refl);
        paired = o.paired;
      }
    where
      clock : b.clock ≤ e.stamp
      clock = elim s [ inl h ↦ omega arith | inr (n, h) ↦ omega arith ]

      later : (c : Entry) → e.stamp < c.stamp → (t : Bool) → same_entry c e ≡ t → once (same_entry c e) + times c b.puts ≡ 0
      later c k true q = absurd (omega (arith, same_stamp c e q))
      later c k false q = rw q (omega (arith, o.later c (omega (arith, clock))))

      alike : (c : Entry) (t : Bool) → same_entry c e ≡ t → once (same_entry c e) + times c b.puts ≤ 1
      alike c true q = let f = ap (λ (x : Entry). times x b.puts) (same_entry_true c e q) in rw q (omega (arith, f, new e free s))
      alike c false q = rw q (omega (arith, o.alike c))

      balance : (c : Entry) (t : Bool) → eqb c.address e.address ≡ t → once (same_entry c e) + times c b.puts ≡ times c b.owed + held_times (upd b.held e.address (some e) c.address) c
      balance c true q =
          let f : held_times (b.held c.address) c ≡ 0 = ap (λ (x : Option Entry). held_times x c) (ap b.held (eqb-true _ _ q) ∙ free) in
          rw (upd_same b.held e.address (some e) c.address q) (omega (arith, o.balance c))
      balance c false q = rw (upd_other b.held e.address (some e) c.address q, other_entry c e q) (omega (arith, o.balance c))

  take_orderly : (e d : Entry) → b.held e.address ≡ some d → Orderly (noted b (took e))
  unfolding noted
  take_orderly e d h =
      record {
        later = o.later;
        alike = o.alike;
        placed = λ a c k. elim (upd_tells b.held e.address none a k) [ inl (q, z) ↦ none_some refl z | inr (q, z) ↦ o.placed a c z ];
        balance = λ c. rw (h, times_last c b.owed d) (balance c (eqb c.address e.address) refl);
        paired = rw (h, length-append b.owed (d ∷ []), length-append b.takes (e ∷ [])) (omega (arith, o.paired));
      }
    where
      at : d.address ≡ e.address
      at = o.placed e.address d h

      balance : (c : Entry) (t : Bool) → eqb c.address e.address ≡ t → times c b.puts ≡ once (same_entry c d) + times c b.owed + held_times (upd b.held e.address none c.address) c
      balance c true q =
          let f : held_times (b.held c.address) c ≡ once (same_entry c d) = ap (λ (x : Option Entry). held_times x c) (ap b.held (eqb-true _ _ q) ∙ h) in
          rw (upd_same b.held e.address none c.address q) (omega (arith, o.balance c))
      balance c false q =
          rw (upd_other b.held e.address none c.address q, other_entry c d (ap (eqb c.address) at ∙ q)) (omega (arith, o.balance c))

  pub noted_orderly : (e : Event) → May tag b e → Orderly (noted b e)
  unfolding noted
  noted_orderly (took e) (d, h) = take_orderly e d h
  noted_orderly (put e) (free, s) = put_orderly e free s
  noted_orderly accepted m = empty_orderly 1

-- ---- all

pub stays_orderly : (tag : Entry → List ℕ) → StaysOrderly tag
stays_orderly tag b [] o l = o
stays_orderly tag b (e ∷ es) o (m, l) = stays_orderly tag (noted b e) es (noted_orderly tag b o e m) l

-- where nothing is held what was put is what was owed
pub put_owed : (b : Bag) → Orderly b → Bare b → (c : Entry) → times c b.puts ≡ times c b.owed
put_owed b o n c = let z : held_times (b.held c.address) c ≡ 0 = ap (λ (x : Option Entry). held_times x c) (n c.address) in omega (arith, o.balance c)
