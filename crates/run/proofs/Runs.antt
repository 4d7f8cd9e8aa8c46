-- A run of any kind of calls, by its events: what each call shows of its own events, of the values and of the stores that go with them, holds of the whole run,
-- call by call. Assumes nothing.
use mathlib.Core.Path.{◌≡◌, refl, sym, ap, ◌∙◌, subst}
use mathlib.Core.List.{List, [], ◌∷◌, ◌++◌, append-nil, foldl-append}
use mathlib.Core.Logic.{◌⊎◌, inl, inr, ⊎_map}
use Prim.Native.Nat.{ℕ}
use Rattle.state.specs.TakePut.{Event}
use Rattle.bag.specs.Bag.{Bag, empty, noted, follow}
use Rattle.bag.specs.Law.{Bare, TakesHeld, Right}
use Rattle.bag.specs.Following.{Holds}
use Rattle.bag.proofs.Lists.{by_last, place_in, no_place, place_stays}
use Rattle.bag.proofs.Along.{along_append, along_split}
use Rattle.run.specs.Demand3.{Latest}
use Rattle.run.proofs.Latest.{latest_here, latest_keeps}

-- X is a call with what it is lent, and a run is a list of these, the earliest first; `does` are the events of a call after a run
module _ {X : Type 0} (does : List X → X → List Event) (events_of : List X → List Event) (events_none : events_of [] ≡ [])
    (events_last : (run : List X) (x : X) → events_of (run ++ (x ∷ [])) ≡ events_of run ++ does run x) where
  abbrev pub bag_after : List X → Bag
  bag_after run = follow (empty 0) (events_of run)

  -- what holds of no call, and of a run with one call more, holds of every run and all that it did
  pub by_calls : (P : List X → List Event → Type 0) → P [] [] → ((run : List X) (x : X) → P run (events_of run) → P (run ++ (x ∷ [])) (events_of run ++ does run x))
      → (run : List X) → P run (events_of run)
  by_calls P base more =
      by_last (λ (run : List X). P run (events_of run)) (subst (P []) (sym events_none) base) (λ run x h. subst (P (run ++ (x ∷ []))) (sym (events_last run x)) (more run x h))

  -- ---- the call that an event belongs to

  -- an event e, `past` being all that was done before it: its call, and what that call had done before it
  pub record CallOf (run : List X) (past : List Event) (e : Event) : Type 0 where
    pub before : List X
    pub call : X
    pub later : List X
    pub place : run ≡ before ++ (call ∷ later)
    pub first : List Event
    pub rest : List Event
    pub up_to : past ≡ events_of before ++ first
    pub within : does before call ≡ first ++ (e ∷ rest)

  pub call_of : (e : Event) (run : List X) (past rest : List Event) → events_of run ≡ past ++ (e ∷ rest) → CallOf run past e
  call_of e =
      by_calls (λ run all. (past rest : List Event) → all ≡ past ++ (e ∷ rest) → CallOf run past e) (λ past rest h. absurd (no_place past e rest h))
      (λ run x ih past rest h.
      elim (place_in (events_of run) (does run x) past e rest h) [
        | inl (d, f, g) ↦ stays run x past (ih past d f)
        | inr (d, f, g) ↦ record { before = run; call = x; later = []; place = refl; first = d; rest = rest; up_to = f; within = g }
      ])
    where
      stays : (run : List X) (x : X) (past : List Event) → CallOf run past e → CallOf (run ++ (x ∷ [])) past e
      stays run x past c =
          record { before = c.before; call = c.call; later = c.later ++ (x ∷ []); place = place_stays run c.before c.call c.later (x ∷ []) c.place; first = c.first; rest = c.rest; up_to = c.up_to; within = c.within }

  -- ---- values

  -- A call sets some value at an address (Set), namely v (To); Keeps says of a run and all that it did which value it keeps there. Where each take takes what
  -- is held, and where what is kept was set by the call just made, or was kept before it and not set again, it is what the latest such call set.
  module _ (Set : ℕ → List X → X → Type 0) (To : X → ℕ → List ℕ → Type 0) (Keeps : List X → List Event → ℕ → List ℕ → Type 0)
      (kept-none : (a : ℕ) (v : List ℕ) → Keeps [] [] a v → ⊥)
      (kept : (run : List X) (x : X) → Right (bag_after run) (does run x) → (a : ℕ) (v : List ℕ) → Keeps (run ++ (x ∷ [])) (events_of run ++ does run x) a v
      → (Set a run x × To x a v) ⊎ ((Set a run x → ⊥) × Keeps run (events_of run) a v)) where
    abbrev LatestTo : List X → ℕ → List ℕ → Type 0
    LatestTo run a v = (l : Latest (Set a) run) × To l.call a v

    pub kept_latest : (run : List X) → Right (empty 0) (events_of run) → (a : ℕ) (v : List ℕ) → Keeps run (events_of run) a v → LatestTo run a v
    unfolding latest_here latest_keeps
    kept_latest =
        by_calls (λ run all. Right (empty 0) all → (a : ℕ) (v : List ℕ) → Keeps run all a v → LatestTo run a v) (λ r a v k. absurd (kept-none a v k))
        (λ run x ih r a v k.
        let p = along_split TakesHeld (empty 0) (events_of run) (does run x) r in
        elim (kept run x p.1 a v k) [
          | inl (s, h) ↦ (latest_here (Set a) run x s, h)
          | inr (n, q) ↦ let l = ih p.0 a v q in (latest_keeps (Set a) run x l.0 n, l.1)
        ])

  -- ---- stores

  -- Of the calls that take or put (Moving), each is lent a store and leaves one. Where each that is lent a store that holds what is held takes what is held, and
  -- leaves one that holds what is held then, and where those that the latest left are lent again, every take takes what is held.
  module _ (w : ℕ) (Moving : List X → X → Type 0) (made : X → List ℕ) (left : List X → X → List ℕ)
      (moving : (run : List X) (x : X) → Moving run x ⊎ ((Moving run x → ⊥) × (does run x ≡ [])))
      (honest : (run : List X) (x : X) → Moving run x → Holds w (bag_after run) (made x) → Right (bag_after run) (does run x) × Holds w (follow (bag_after run) (does run x)) (left run x)) where
    -- nothing is held, or the store that the latest of them left holds it
    abbrev pub Left : List X → List Event → Type 0
    Left run all = Bare (follow (empty 0) all) ⊎ ((l : Latest Moving run) × Holds w (follow (empty 0) all) (left l.before l.call))

    -- each is lent what is held, where the one before it left that
    abbrev pub LentAgain : List X → Type 0
    LentAgain run = (before later : List X) (x : X) → run ≡ before ++ (x ∷ later) → Moving before x → Left before (events_of before) → Holds w (bag_after before) (made x)

    pub lent_right : (run : List X) → LentAgain run → Right (empty 0) (events_of run) × Left run (events_of run)
    unfolding empty latest_here latest_keeps
    lent_right =
        by_calls (λ run all. LentAgain run → Right (empty 0) all × Left run all) (λ h. (tt, inl (λ a. refl)))
        (λ run x ih h.
        let p = ih (λ before later y e. h before (later ++ (x ∷ [])) y (place_stays run before y later (x ∷ []) e)) in
        elim (moving run x) [
          | inl m ↦
              let k = honest run x m (h run [] x refl m p.1) in
              (along_append TakesHeld (empty 0) (events_of run) (does run x) p.0 k.0, inr (latest_here Moving run x m, subst (λ (b : Bag). Holds w b (left run x)) (sym (foldl-append noted (empty 0) (events_of run) (does run x))) k.1))
          | inr (n, e) ↦
              let same = sym (ap (λ (es : List Event). events_of run ++ es) e ∙ append-nil (events_of run)) in
              (subst (Right (empty 0)) same p.0, subst (Left (run ++ (x ∷ []))) same (⊎_map (λ k. k) (λ l. (latest_keeps Moving run x l.0 n, l.1)) p.1))
        ])
