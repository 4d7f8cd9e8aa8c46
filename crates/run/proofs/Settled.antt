-- A take is at an address below 1,024; so it keeps that the first fault's address is 0 where no fault is marked, and below 1,024. Assumes nothing.
use mathlib.Core.Path.{◌≡◌, refl, sym, ◌∙◌}
use mathlib.Core.Bool.{Bool, true, false, true≢false}
use mathlib.Core.List.{List}
use Prim.Native.Nat.{ℕ, ◌<◌}
use lib.Dec.{ltb}
use borrow.Author.Tests.{ltb-true, ltb-false}
use Rattle.state.specs.Sizes.{addresses}
use Rattle.state.specs.Cells.{Entry, entry_at}
use Rattle.state.specs.TakePut.{take_entry}
use Rattle.state.specs.Check.{take_all}
use Rattle.state.specs.declared.Seal.{Seal}
use Rattle.state.specs.declared.State.{State}
use Rattle.state.proofs.Walks.{by_takes}
use Rattle.state.proofs.Guards.{take_faulted, take_found, take_calm, take_first}

abbrev pub Settled : State → Type 0
Settled s = (s.fault ≡ false → s.first ≡ 0) × (s.first < addresses)

module _ (w : ℕ) (tag : Seal → Entry → List ℕ) where
  pub take_settles : (s : State) (e : Entry) → e.address < addresses → Settled s → Settled (take_entry tag s e)
  take_settles s e b (z, l) = (go s.fault refl (ltb s.clock e.stamp) refl, take_first tag s (λ n. n < addresses) e l b)
    where
      go : (f : Bool) → s.fault ≡ f → (a : Bool) → ltb s.clock e.stamp ≡ a → (take_entry tag s e).fault ≡ false → (take_entry tag s e).first ≡ 0
      go true h a k q = absurd (true≢false (sym (take_faulted tag s e h).0 ∙ q))
      go false h true k q = absurd (true≢false (sym (take_found tag s e h (ltb-true _ _ k)).0 ∙ q))
      go false h false k q = (take_calm tag s e h (ltb-false _ _ k)).1 ∙ z h

  -- after a check's takes
  pub taken_settled : (s : State) (m : List ℕ) → Settled s → Settled (take_all w tag s m)
  unfolding entry_at
  taken_settled s m k = by_takes w tag Settled m (λ t a b. take_settles t (entry_at w m a) b) s k
