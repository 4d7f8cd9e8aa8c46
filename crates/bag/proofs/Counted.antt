-- What was put is what was owed and what is held, entry by entry; so as many were put as were owed and are held, and each take owed one. Assumes nothing.
use mathlib.Core.Path.{◌≡◌, refl, sym, ap, ◌∙◌}
use mathlib.Core.Bool.{Bool, true, false}
use mathlib.Core.List.{◌++◌}
use mathlib.Core.Option.{Option, none, some}
use Prim.Native.Nat.{ℕ, zero, suc, ◌+◌, ◌≤◌, ◌<◌}
use native.Mathlib.Omega.{arith}
use lib.Dec.{eqb, ltb}
use lib.ListN.{length, length-append}
use borrow.Author.Tests.{eqb-true, eqb-false, ltb-true, ltb-false}
use Rattle.state.specs.Cells.{Entry}
use Rattle.state.specs.Counts.{once, times}
use Rattle.state.proofs.Multiset.{times_append, same_lengths}
use Rattle.bag.specs.Bag.{Bag, listed}
use Rattle.bag.specs.Claims.{held_times, Orderly, held_below, Counted}
use Rattle.bag.proofs.Orderly.{other_entry}

-- how often an entry is among none or one
times_listed : (c : Entry) (o : Option Entry) → times c (listed o) ≡ held_times o c
unfolding times
times_listed c none = refl
times_listed c (some e) = omega arith

module _ (b : Bag) (o : Orderly b) (c : Entry) where
  -- at another address than its own it is not held
  elsewhere : (n : ℕ) → (c.address ≡ n → ⊥) → held_times (b.held n) c ≡ 0
  elsewhere n h = go (b.held n) refl
    where
      go : (x : Option Entry) → b.held n ≡ x → held_times x c ≡ 0
      go none q = refl
      go (some e) q = ap once (other_entry c e (differs (eqb c.address e.address) refl))
        where
          differs : (t : Bool) → eqb c.address e.address ≡ t → eqb c.address e.address ≡ false
          differs true k = absurd (h (eqb-true _ _ k ∙ o.placed n e q))
          differs false k = k

  -- among what is held below n it is as often as at its address
  times_held : (n : ℕ) → ((c.address < n → times c (held_below n b.held) ≡ held_times (b.held c.address) c)) × (n ≤ c.address → times c (held_below n b.held) ≡ 0)
  unfolding held_below times
  times_held zero = ((λ h. absurd (omega arith)), λ h. refl)
  times_held (suc n) = go (eqb c.address n) refl (times_held n)
    where
      sum : times c (held_below n b.held ++ listed (b.held n)) ≡ times c (held_below n b.held) + held_times (b.held n) c
      sum = times_append c (held_below n b.held) (listed (b.held n)) ∙ ap (λ (k : ℕ). times c (held_below n b.held) + k) (times_listed c (b.held n))

      go : (t : Bool) → eqb c.address n ≡ t → (c.address < n → times c (held_below n b.held) ≡ held_times (b.held c.address) c) × (n ≤ c.address → times c (held_below n b.held) ≡ 0)
          → (c.address < suc n → times c (held_below n b.held ++ listed (b.held n)) ≡ held_times (b.held c.address) c) × (suc n ≤ c.address → times c (held_below n b.held ++ listed (b.held n)) ≡ 0)
      go true q (low, high) =
          let k = eqb-true c.address n q in
          let z : held_times (b.held n) c ≡ held_times (b.held c.address) c = ap (λ (a : ℕ). held_times (b.held a) c) (sym k) in
          ((λ h. omega (arith, sum, high (omega arith), z)), λ h. absurd (omega arith))
      go false q (low, high) =
          let k = eqb-false c.address n q in
          ((λ h. omega (arith, sum, low (omega arith), elsewhere n k)), λ h. omega (arith, sum, high (omega arith), elsewhere n k))

pub counted : Counted
counted b n o none_from =
    same_lengths b.puts (b.owed ++ held_below n b.held) (λ c. omega (arith, o.balance c, times_append c b.owed (held_below n b.held), all c (ltb c.address n) refl))
    ∙ length-append b.owed (held_below n b.held) ∙ ap (λ (k : ℕ). k + length (held_below n b.held)) o.paired
  where
    all : (c : Entry) (t : Bool) → ltb c.address n ≡ t → times c (held_below n b.held) ≡ held_times (b.held c.address) c
    all c true k = (times_held b o c n).0 (ltb-true _ _ k)
    all c false k = let h = ltb-false _ _ k in (times_held b o c n).1 h ∙ ap (λ (x : Option Entry). held_times x c) (sym (none_from c.address h))
