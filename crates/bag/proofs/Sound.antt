-- A wrong take whose stamp is not ahead of the clock takes an entry that was put as often as taken once more, and no later put can be equal to that entry: it
-- stays a witness that puts and takes differ. An accepted check rules out a stamp that is ahead, and makes of the witness a collision. Assumes nothing.
use mathlib.Core.Path.{◌≡◌, refl, sym, ap, ap₂, ◌∙◌, subst}
use mathlib.Core.Bool.{Bool, true, false}
use mathlib.Core.List.{List, [], ◌∷◌, ◌++◌}
use mathlib.Core.Option.{Option, none, some}
use mathlib.Core.Logic.{◌⊎◌, inl, inr, ⊎_map}
use Prim.Native.Nat.{ℕ, ◌+◌, ◌≤◌, ◌<◌}
use native.Mathlib.Omega.{arith}
use lib.Dec.{ltb}
use borrow.Author.Tests.{ltb-false}
use Rattle.state.specs.Cells.{Entry}
use Rattle.state.specs.Counts.{same_entry, once, times}
use Rattle.state.specs.TakePut.{Event, took, put, accepted}
use Rattle.state.proofs.Multiset.{same_entry_true, times_last, times_self}
use Rattle.bag.specs.Bag.{Bag, empty, listed, found, noted, follow}
use Rattle.bag.specs.Law.{Stamped, May, Lawful, TakesHeld, Right}
use Rattle.bag.specs.Claims.{held_times, Orderly, Collides, Stands, ahead, bad, right, Sound, SoundAccepted}
use Rattle.bag.proofs.Lists.{place_stays}
use Rattle.bag.proofs.Along.{along_split}
use Rattle.bag.proofs.Orderly.{none_some, same_stamp, noted_orderly, stays_orderly}

module _ (tag : Entry → List ℕ) where
  stands_map : {b : Bag} {Q R : Type 0} → (Q → R) → Stands tag b Q → Stands tag b R
  stands_map f (ahead a h) = ahead a h
  stands_map f (bad c h k) = bad c h k
  stands_map f (right e q) = right e (f q)

  -- ---- one event

  module _ (b : Bag) (o : Orderly b) {R : Type 0} where
    take_stands : (e d : Entry) → b.held e.address ≡ some d → Stands tag b R → Stands tag (noted b (took e)) (R × TakesHeld b (took e))
    unfolding noted
    take_stands e d h (ahead a k) = ahead a (rw k)
    take_stands e d h (bad c k n) = bad c k (rw (times_last c b.takes e) (omega arith))
    take_stands e d h (right q r) = stamp (ltb b.clock e.stamp) refl
      where
        Then : Type 0
        Then = Stands tag (noted b (took e)) (R × (b.held e.address ≡ some e))

        same : e.stamp ≤ b.clock → (t : Bool) → same_entry e d ≡ t → Then
        same k true p =
            let f : e ≡ d = same_entry_true e d p in
            right (ap₂ ◌++◌ q (ap (λ (x : Entry). x ∷ []) f ∙ ap listed (sym h))) (r, h ∙ ap some (sym f))
        same k false p =
            let z : held_times (b.held e.address) e ≡ 0 = ap (λ (x : Option Entry). held_times x e) h ∙ ap once p in
            bad e k (omega (arith, o.balance e, ap (times e) q, times_self e b.takes))

        found_now : (o : Option ℕ) → ltb b.clock e.stamp ≡ true → (a : ℕ) × (found o b.clock e ≡ some a)
        found_now none k = (e.address, rw k)
        found_now (some a) k = (a, refl)

        stamp : (t : Bool) → ltb b.clock e.stamp ≡ t → Then
        stamp true k = let a = found_now b.fault k in ahead a.0 a.1
        stamp false k = same (ltb-false b.clock e.stamp k) (same_entry e d) refl

    put_stands : (e : Entry) → Stamped b e → Stands tag b R → Stands tag (noted b (put e)) R
    unfolding noted times
    put_stands e s (ahead a k) = ahead a k
    put_stands e s (right q r) = right q r
    put_stands e s (bad c k n) =
        elim s [ inl g ↦ bad c (omega arith) (rw (times_last c b.puts e) (differs (omega arith) (same_entry c e) refl)) | inr (g, f) ↦ absurd (omega (arith, ap (times c) g)) ]
      where
        differs : b.clock < e.stamp → (t : Bool) → same_entry c e ≡ t → once (same_entry c e) + times c b.puts < times c b.takes
        differs g true q = absurd (omega (arith, same_stamp c e q))
        differs g false q = rw q (omega arith)

  -- where no stamp was ahead some entry was taken more often than put, or all is right
  More : Bag → Type 0
  More b = (c : Entry) × (times c b.puts < times c b.takes)

  calm_tells : (b : Bag) {R : Type 0} → b.fault ≡ none → Stands tag b R → More b ⊎ R
  unfolding More
  calm_tells b f (ahead a h) = none_some f h
  calm_tells b f (bad c h k) = inl (c, k)
  calm_tells b f (right q r) = inr r

  -- an event leaves how the period stands, or is an accepted check at which some entry was taken more often than put
  noted_stands : (b : Bag) (e : Event) {R : Type 0} → Orderly b → May tag b e → Stands tag b R → (More b × (e ≡ accepted)) ⊎ Stands tag (noted b e) (R × TakesHeld b e)
  unfolding noted empty
  noted_stands b (took e) o (d, h) s = inr (take_stands b o e d h s)
  noted_stands b (put e) o (free, t) s = inr (stands_map (λ r. (r, tt)) (put_stands b o e t s))
  noted_stands b accepted o m s = ⊎_map (λ c. (c, refl)) (λ r. right refl (r, tt)) (calm_tells b m.2 s)

  -- ---- all

  collides_here : (b : Bag) (past rest : List Event) → Orderly (follow b past) → May tag (follow b past) accepted → More (follow b past) → Collides tag b (past ++ (accepted ∷ rest))
  unfolding More
  collides_here b past rest o m (c, k) =
      record { past = past; rest = rest; place = refl; alike = o.alike; differ = (c, λ f. omega arith); equal = m.1 }

  -- where no collision is shown, R is known of the beginning and each take took what was held
  from : (b : Bag) (es : List Event) {R : Type 0} → Orderly b → Stands tag b R → Lawful tag b es → Collides tag b es ⊎ Stands tag (follow b es) (R × Right b es)
  from b [] o s l = inr (stands_map (λ r. (r, tt)) s)
  from b (e ∷ es) {R} o s (m, l) =
      elim (noted_stands b e o m s) [
        | inl (c, q) ↦ inl (subst (λ (x : Event). Collides tag b (x ∷ es)) (sym q) (collides_here b [] es o (subst (May tag b) q m) c))
        | inr t ↦ ⊎_map later (stands_map (λ r. (r.0.0, (r.0.1, r.1)))) (from (noted b e) es (noted_orderly tag b o e m) t l)
      ]
    where
      later : Collides tag (noted b e) es → Collides tag b (e ∷ es)
      later c = record { past = e ∷ c.past; rest = c.rest; place = ap (λ (l : List Event). e ∷ l) c.place; alike = c.alike; differ = c.differ; equal = c.equal }

  pub sound : Sound tag
  sound b es o s l = ⊎_map (λ c. c) (stands_map (λ r. r.1)) (from b es o s l)

  pub sound_accepted : SoundAccepted tag
  sound_accepted b past rest o s l =
      let p = along_split (May tag) b past (accepted ∷ rest) l in
      let m = p.1.0 in
      elim (sound b past o s p.0) [
        | inl c ↦ inl (record { past = c.past; rest = c.rest ++ (accepted ∷ rest); place = place_stays past c.past accepted c.rest (accepted ∷ rest) c.place; alike = c.alike; differ = c.differ; equal = c.equal })
        | inr t ↦ ⊎_map (collides_here b past rest (stays_orderly tag b past o p.0) m) (λ r. r) (calm_tells (follow b past) m.2 t)
      ]
