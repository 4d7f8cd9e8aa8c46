-- Between accepted checks the fault that was found first stays. So where none was found before, none is found and each take was on time, or the fault is at the
-- first take that was not. Assumes nothing.
use mathlib.Core.Path.{◌≡◌, refl, ap}
use mathlib.Core.Bool.{Bool, true, false}
use mathlib.Core.List.{List, [], ◌∷◌, ◌++◌}
use mathlib.Core.Logic.{◌⊎◌, inl, inr}
use mathlib.Core.Option.{Option, none, some}
use Prim.Native.Nat.{ℕ, ◌≤◌, ◌<◌}
use lib.Dec.{ltb}
use borrow.Author.Tests.{ltb-true, ltb-false}
use Rattle.state.specs.Cells.{Entry}
use Rattle.state.specs.TakePut.{Event, took, put, accepted}
use Rattle.bag.specs.Bag.{Bag, noted, follow}
use Rattle.bag.specs.Law.{Along}
use Rattle.bag.proofs.Orderly.{none_some}
use Rattle.bag.proofs.Unbroken.{Unbroken, rest_unbroken}

stays : (b : Bag) (es : List Event) (a : ℕ) → Unbroken es → b.fault ≡ some a → (follow b es).fault ≡ some a
unfolding noted
stays b [] a u h = h
stays b (took e ∷ es) a u h = stays (noted b (took e)) es a (rest_unbroken (took e) es u) (rw h)
stays b (put e ∷ es) a u h = stays (noted b (put e)) es a (rest_unbroken (put e) es u) h
stays b (accepted ∷ es) a u h = absurd (u [] es refl)

-- where none is found after some events, none was before
pub calm_before : (b : Bag) (es : List Event) → Unbroken es → (follow b es).fault ≡ none → b.fault ≡ none
calm_before b es u h = go b.fault refl
  where
    go : (o : Option ℕ) → b.fault ≡ o → b.fault ≡ none
    go none q = q
    go (some a) q = none_some h (stays b es a u q)

-- a take whose stamp is not ahead of the clock
abbrev pub OnTime : Bag → Event → Type 0
OnTime b (took e) = e.stamp ≤ b.clock
OnTime b (put e) = Unit {0}
OnTime b accepted = Unit {0}

-- the first take that is not on time is at a
pub record FirstNotOnTime (b : Bag) (es : List Event) (a : ℕ) : Type 0 where
  pub before : List Event
  pub entry : Entry
  pub later : List Event
  pub place : es ≡ before ++ (took entry ∷ later)
  pub address : entry.address ≡ a
  pub ahead : (follow b before).clock < entry.stamp
  pub on_time : Along OnTime b before

abbrev Faults : Bag → List Event → Type 0
Faults b es = (((follow b es).fault ≡ none) × Along OnTime b es) ⊎ ((a : ℕ) × ((follow b es).fault ≡ some a) × FirstNotOnTime b es a)

-- an event that is on time, and the others after it
more : (b : Bag) (x : Event) (es : List Event) → OnTime b x → Faults (noted b x) es → Faults b (x ∷ es)
more b x es h (inl (f, n)) = inl (f, (h, n))
more b x es h (inr (a, f, k)) =
    inr (
      a,
      f,
      record {
        before = x ∷ k.before;
        entry = k.entry;
        later = k.later;
        place = ap (λ (l : List Event). x ∷ l) k.place;
        address = k.address;
        ahead = k.ahead;
        on_time = (h, k.on_time);
      },
    )

pub faults : (b : Bag) (es : List Event) → Unbroken es → b.fault ≡ none → Faults b es
unfolding noted
faults b [] u h = inl (h, tt)
faults b (took e ∷ es) u h = go (ltb b.clock e.stamp) refl (faults (noted b (took e)) es rest)
  where
    rest : Unbroken es
    rest = rest_unbroken (took e) es u

    go : (t : Bool) → ltb b.clock e.stamp ≡ t → ((noted b (took e)).fault ≡ none → Faults (noted b (took e)) es) → Faults b (took e ∷ es)
    go true k r =
        let f : (follow (noted b (took e)) es).fault ≡ some e.address = stays (noted b (took e)) es e.address rest (rw (h, k)) in
        inr (e.address, f, record { before = []; entry = e; later = es; place = refl; address = refl; ahead = ltb-true _ _ k; on_time = tt })
    go false k r = more b (took e) es (ltb-false _ _ k) (r (rw (h, k)))
faults b (put e ∷ es) u h = more b (put e) es tt (faults (noted b (put e)) es (rest_unbroken (put e) es u) h)
faults b (accepted ∷ es) u h = absurd (u [] es refl)
