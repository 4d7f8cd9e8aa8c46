-- What is held was put, so its stamp is not ahead of the clock; and where each take takes what is held, the takes are what was owed. Assumes nothing.
use mathlib.Core.Path.{◌≡◌, refl, sym, ap, ap₂, ◌∙◌}
use mathlib.Core.Bool.{Bool, true, false}
use mathlib.Core.List.{List, [], ◌∷◌, ◌++◌}
use mathlib.Core.Option.{Option, none, some}
use Prim.Native.Nat.{ℕ, ◌≤◌}
use native.Mathlib.Omega.{arith}
use lib.Dec.{ltb}
use borrow.Author.Tests.{ltb-true, ltb-false, le-ltb}
use Rattle.state.specs.Cells.{Entry}
use Rattle.state.specs.Counts.{once, times}
use Rattle.state.specs.TakePut.{Event, took, put, accepted}
use Rattle.state.proofs.Multiset.{same_entry_refl}
use Rattle.bag.specs.Bag.{Bag, empty, listed, noted}
use Rattle.bag.specs.Law.{TakesHeld}
use Rattle.bag.specs.Claims.{held_times, Orderly, Complete}
use Rattle.bag.proofs.Orderly.{noted_orderly, put_owed}

-- the stamp of what is held is not ahead of the clock
pub held_on_time : (b : Bag) → Orderly b → (e : Entry) → b.held e.address ≡ some e → e.stamp ≤ b.clock
held_on_time b o e h = go (ltb b.clock e.stamp) refl
  where
    go : (t : Bool) → ltb b.clock e.stamp ≡ t → e.stamp ≤ b.clock
    go true k =
        let z : held_times (b.held e.address) e ≡ 1 = ap (λ (x : Option Entry). held_times x e) h ∙ ap once (same_entry_refl e) in
        absurd (omega (arith, o.later e (ltb-true b.clock e.stamp k), o.balance e))
    go false k = ltb-false b.clock e.stamp k

module _ (tag : Entry → List ℕ) where
  noted_calm : (b : Bag) (e : Event) → Orderly b → b.fault ≡ none → TakesHeld b e → (noted b e).fault ≡ none
  unfolding noted empty
  noted_calm b (took e) o f h = rw (f, le-ltb b.clock e.stamp (held_on_time b o e h))
  noted_calm b (put e) o f h = f
  noted_calm b accepted o f h = refl

  noted_owed : (b : Bag) (e : Event) → b.takes ≡ b.owed → TakesHeld b e → (noted b e).takes ≡ (noted b e).owed
  unfolding noted empty
  noted_owed b (took e) q h = ap₂ ◌++◌ q (ap listed (sym h))
  noted_owed b (put e) q h = q
  noted_owed b accepted q h = refl

  pub complete : Complete tag
  complete b [] o q f l r = (f, λ n c. put_owed b o n c ∙ ap (times c) (sym q))
  complete b (e ∷ es) o q f (m, l) (h, r) = complete (noted b e) es (noted_orderly tag b o e m) (noted_owed b e q h) (noted_calm b e o f h) l r
