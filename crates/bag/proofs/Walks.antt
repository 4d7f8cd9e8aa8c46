-- A walk over the addresses where an entry is held, each once, as a check makes it: a take at each leaves nothing held, and a put at each again is lawful from
-- the empty bag. Assumes nothing.
use mathlib.Core.Path.{◌≡◌, refl, sym, ap, ◌∙◌}
use mathlib.Core.Bool.{Bool, true, false, cond}
use mathlib.Core.List.{List, [], map}
use mathlib.Core.Option.{none, some}
use mathlib.Core.Logic.{inr}
use Prim.Native.Nat.{ℕ, ◌≤◌, ◌<◌}
use lib.ListN.{length}
use Rattle.state.specs.Sizes.{addresses, store_size, ceiling}
use Rattle.state.specs.Cells.{Entry, entry_at}
use Rattle.state.specs.TakePut.{Event, took, put}
use Rattle.state.specs.Check.{opening}
use Rattle.state.proofs.Cells.{value_length}
use Rattle.bag.specs.Bag.{Bag, empty, there, noted, follow}
use Rattle.bag.specs.Law.{Along, Bare, May, Lawful, TakesHeld, Right}
use Rattle.bag.specs.Following.{Holds, PutFits, Bytes, TakeFits}
use Rattle.bag.proofs.Orderly.{upd_other}
use Rattle.bag.proofs.Cases.{there_some, there_none}
use Rattle.bag.proofs.Sizes.{taken_fits}
use Rattle.bag.proofs.Addresses.{among, Distinct, held_each, along_each, right_each}

-- a take at each of these addresses of what its cell holds, and a put of the value with stamp 1
abbrev pub takes_at : ℕ → List ℕ → List ℕ → List Event
takes_at w m cs = map took (map (entry_at w m) cs)

abbrev pub puts_at : ℕ → List ℕ → List ℕ → List Event
puts_at w m cs = map put (map (opening w m) cs)

module _ (w : ℕ) (m : List ℕ) (b : Bag) (cs : List ℕ) (once : Distinct cs) (exact : (a : ℕ) → among a cs ≡ there (b.held a)) where
  -- ---- the takes

  pub takes_lawful : (tag : Entry → List ℕ) → Lawful tag b (takes_at w m cs)
  unfolding noted entry_at
  takes_lawful tag =
      along_each (May tag) (λ b a. (d : Entry) × (b.held a ≡ some d)) took (entry_at w m) (λ b a h. h) (λ b c a n h. (h.0, upd_other b.held c none a n ∙ h.1)) cs once b
      (λ a k. there_some (b.held a) (sym (exact a) ∙ k))

  pub takes_right : Holds w b m → Right b (takes_at w m cs)
  unfolding noted entry_at
  takes_right h =
      along_each TakesHeld (λ b a. b.held a ≡ some (entry_at w m a)) took (entry_at w m) (λ b a h. h) (λ b c a n h. upd_other b.held c none a n ∙ h) cs once b
      (λ a k. let d = there_some (b.held a) (sym (exact a) ∙ k) in d.1 ∙ ap some (sym (h a d.0 d.1)))

  pub right_held : Right b (takes_at w m cs) → (a : ℕ) → among a cs ≡ true → b.held a ≡ some (entry_at w m a)
  unfolding entry_at
  right_held r = right_each (entry_at w m) (λ c. refl) cs b r

  pub takes_bare : Bare (follow b (takes_at w m cs))
  unfolding noted entry_at
  takes_bare a = held_each took (entry_at w m) (λ c. none) (λ b c. refl) cs b a ∙ go (among a cs) refl
    where
      go : (u : Bool) → among a cs ≡ u → cond (among a cs) none (b.held a) ≡ none
      go true u = rw u
      go false u = rw u (there_none (b.held a) (sym (exact a) ∙ u))

  -- ---- the puts

  pub puts_lawful : (tag : Entry → List ℕ) → Lawful tag (empty 1) (puts_at w m cs)
  unfolding noted empty opening
  puts_lawful tag =
      along_each (May tag) (λ b a. (b.held a ≡ none) × (b.takes ≡ []) × (b.clock ≡ 1)) put (opening w m) (λ b a h. (h.0, inr (h.1, sym h.2)))
      (λ b c a n h. (upd_other b.held c (some (opening w m c)) a n ∙ h.0, h.1, refl)) cs once (empty 1) (λ a k. (refl, refl, refl))

  -- what is held after them
  pub puts_held : (a : ℕ) → (follow (empty 1) (puts_at w m cs)).held a ≡ cond (among a cs) (some (opening w m a)) none
  unfolding noted empty opening
  puts_held a = held_each put (opening w m) (λ c. some (opening w m c)) (λ b c. refl) cs (empty 1) a

  -- ---- sizes

  module _ (below : (a : ℕ) → among a cs ≡ true → a < addresses) (size : length m ≡ store_size w) where
    pub takes_fit : Bytes m → Along (TakeFits w) b (takes_at w m cs)
    takes_fit h = along_each (TakeFits w) (λ b a. a < addresses) took (entry_at w m) (λ b a k. taken_fits w m h a k size) (λ b c a n k. k) cs once b below

    pub puts_fit : 1 ≤ ceiling w → Along (PutFits w) (empty 1) (puts_at w m cs)
    unfolding opening
    puts_fit one =
        along_each (PutFits w) (λ b a. a < addresses) put (opening w m) (λ b a k. record { address = k; value = value_length w m a k size; stamp = one })
        (λ b c a n k. k) cs once (empty 1) below
