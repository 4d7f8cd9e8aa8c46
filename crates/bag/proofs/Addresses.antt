-- An event at each address of a list, as the takes and the puts of a check are: each is at its own address, so what is held at the others is as it was. And
-- the addresses in use are such a list, none of them twice. Assumes nothing.
use mathlib.Core.Path.{◌≡◌, refl, sym, ap, ◌∙◌, subst}
use mathlib.Core.Bool.{Bool, true, false, cond, ◌||◌, false≢true, or-true}
use mathlib.Core.List.Memᴰ
use mathlib.Core.List.{List, [], ◌∷◌, map, Memᴰ}
use mathlib.Core.Option.{Option, none, some}
use mathlib.Core.Logic.{⊎_elim}
use Prim.Native.Nat.{ℕ}
use native.Mathlib.Omega.{arith}
use lib.Dec.{eqb}
use lib.ListN.{length}
use borrow.Author.Tests.{eqb-true, eq-eqb, ne_eqb}
use Rattle.state.specs.Sizes.{addresses}
use Rattle.state.specs.Marks.{used, used_below, in_use}
use Rattle.state.specs.Cells.{Entry}
use Rattle.state.specs.TakePut.{Event, took}
use Rattle.state.specs.Effects.{Rising}
use Rattle.state.proofs.Marks.{used_is_below}
use Rattle.state.proofs.InUse.{in_use_only, in_use_all, in_use_rising}
use Rattle.bag.specs.Bag.{Bag, upd, noted, follow}
use Rattle.bag.specs.Law.{Along, Right}
use Rattle.bag.proofs.Orderly.{upd_same, upd_other}

-- is the address in the list
unfoldable pub among : ℕ → List ℕ → Bool
among a [] = false
among a (c ∷ cs) = eqb a c || among a cs

-- no address is in it twice
unfoldable pub Distinct : List ℕ → Type 0
Distinct [] = Unit {0}
Distinct (c ∷ cs) = (among c cs ≡ false) × Distinct cs

-- ---- an event at each: k is a take or a put, and e c its entry at the address c

-- what is held then, where the event at c leaves o c there
module _ (k : Entry → Event) (e : ℕ → Entry) (o : ℕ → Option Entry) (one : (b : Bag) (c : ℕ) → (noted b (k (e c))).held ≡ upd b.held c (o c)) where
  pub held_each : (cs : List ℕ) (b : Bag) (a : ℕ) → (follow b (map k (map e cs))).held a ≡ cond (among a cs) (o a) (b.held a)
  unfolding among
  held_each [] b a = refl
  held_each (c ∷ cs) b a = held_each cs (noted b (k (e c))) a ∙ ap (λ (f : ℕ → Option Entry). cond (among a cs) (o a) (f a)) (one b c) ∙ go (among a cs) (eqb a c) refl
    where
      go : (t u : Bool) → eqb a c ≡ u → cond t (o a) (upd b.held c (o c) a) ≡ cond (u || t) (o a) (b.held a)
      go true true q = refl
      go true false q = refl
      go false true q = upd_same b.held c (o c) a q ∙ ap o (sym (eqb-true a c q))
      go false false q = upd_other b.held c (o c) a q

-- what holds along them: Q is what the event at an address needs, and an event elsewhere keeps
module _ (P : Bag → Event → Type 0) (Q : Bag → ℕ → Type 0) (k : Entry → Event) (e : ℕ → Entry) (need : (b : Bag) (c : ℕ) → Q b c → P b (k (e c)))
    (keep : (b : Bag) (c a : ℕ) → eqb a c ≡ false → Q b a → Q (noted b (k (e c))) a) where
  pub along_each : (cs : List ℕ) → Distinct cs → (b : Bag) → ((a : ℕ) → among a cs ≡ true → Q b a) → Along P b (map k (map e cs))
  unfolding among Distinct
  along_each [] d b h = tt
  along_each (c ∷ cs) (n, d) b h =
      (need b c (h c (rw (eq-eqb c c refl))), along_each cs d (noted b (k (e c))) (λ a q. keep b c a (apart a q) (h a (rw (q, or-true)))))
    where
      apart : (a : ℕ) → among a cs ≡ true → eqb a c ≡ false
      apart a q = ne_eqb a c (λ z. false≢true (sym n ∙ ap (λ (x : ℕ). among x cs) (sym z) ∙ q))

-- a right take at each was of what was held before them all
pub right_each : (e : ℕ → Entry) → ((c : ℕ) → (e c).address ≡ c) → (cs : List ℕ) (b : Bag) → Right b (map took (map e cs)) → (a : ℕ) → among a cs ≡ true → b.held a ≡ some (e a)
unfolding among noted
right_each e at [] b r a k = absurd (false≢true k)
right_each e at (c ∷ cs) b (h, r) a k = go (eqb a c) refl (right_each e at cs (noted b (took (e c))) r a)
  where
    go : (t : Bool) → eqb a c ≡ t → (among a cs ≡ true → upd b.held (e c).address none a ≡ some (e a)) → b.held a ≡ some (e a)
    go true q ih = subst (λ (z : ℕ). b.held z ≡ some (e z)) (sym (eqb-true a c q)) (sym (ap b.held (at c)) ∙ h)
    go false q ih = sym (upd_other b.held (e c).address none a (ap (eqb a) (at c) ∙ q)) ∙ ih (sym (ap (λ (t : Bool). t || among a cs) q) ∙ k)

-- ---- the addresses in use

among_member : (a : ℕ) (cs : List ℕ) → among a cs ≡ true → Memᴰ a cs
unfolding among
among_member a [] k = absurd (false≢true k)
among_member a (c ∷ cs) k = go (eqb a c) refl (among_member a cs) k
  where
    go : (t : Bool) → eqb a c ≡ t → (among a cs ≡ true → Memᴰ a cs) → (t || among a cs) ≡ true → Memᴰ a (c ∷ cs)
    go true q ih k = Memᴰ.head (eqb-true a c q)
    go false q ih k = Memᴰ.tail (ih k)

member_among : (a : ℕ) (cs : List ℕ) → Memᴰ a cs → among a cs ≡ true
unfolding among
member_among a [] m = absurd (Memᴰ.not-nil m)
member_among a (c ∷ cs) m = ⊎_elim (λ q. rw (eq-eqb a c q)) (λ k. rw (member_among a cs k, or-true)) (Memᴰ.cases_cons m)

rising_distinct : (cs : List ℕ) → Rising cs → Distinct cs
unfolding Distinct
rising_distinct [] r = tt
rising_distinct (c ∷ cs) (r, rs) = (go (among c cs) refl, rising_distinct cs rs)
  where
    go : (t : Bool) → among c cs ≡ t → among c cs ≡ false
    go true q = absurd (omega (arith, r c (among_member c cs q)))
    go false q = q

module _ (ws : List ℕ) where
  pub among_in_use : length ws ≡ 16 → (a : ℕ) → among a (in_use ws) ≡ used ws a
  unfolding in_use
  among_in_use sixteen a = go (among a (used_below ws addresses)) refl (used ws a) refl
    where
      go : (t : Bool) → among a (used_below ws addresses) ≡ t → (u : Bool) → used ws a ≡ u → among a (used_below ws addresses) ≡ used ws a
      go true q u e = q ∙ sym (in_use_only ws addresses a (among_member a (used_below ws addresses) q)).1
      go false q true e = member_among a (used_below ws addresses) (in_use_all ws addresses a (used_is_below ws a sixteen e) e) ∙ sym e
      go false q false e = q ∙ sym e

  pub in_use_distinct : Distinct (in_use ws)
  unfolding in_use
  in_use_distinct = rising_distinct (used_below ws addresses) (in_use_rising ws addresses)
