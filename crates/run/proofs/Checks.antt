-- A check that is done: each address in use is taken once, so nothing is held after its takes; an accepted one puts each of them again, from an empty bag.
-- Assumes nothing.
use mathlib.Core.Path.{◌≡◌, refl, sym, ap, ◌∙◌, subst}
use mathlib.Core.Bool.{Bool, true, false, cond, true≢false}
use mathlib.Core.List.{List, [], ◌∷◌, ◌++◌, foldl-append, append-nil, tail-eq_of_cons-eq}
use mathlib.Core.Option.{none, some}
use mathlib.Core.Logic.{inl, inr}
use Prim.Native.Nat.{ℕ, ◌<◌}
use native.Mathlib.Omega.{arith}
use lib.ListN.{length}
use Rattle.state.specs.Sizes.{addresses, store_size}
use Rattle.refusal.specs.Refusal.{first}
use Rattle.state.specs.Marks.{used, in_use}
use Rattle.state.specs.Cells.{Entry, entry_at}
use Rattle.state.specs.Multiset.{hash}
use Rattle.state.specs.TakePut.{Event, took, put, accepted, close}
use Rattle.state.specs.Check.{check_rows, taken, opening, reput, opened, agrees, takes, puts, write_all, take_all, put_all, acceptance, rejection}
use Rattle.state.specs.declared.Seal.{Seal}
use Rattle.state.specs.declared.State.{State}
use Rattle.state.proofs.Ready.{check_ready}
use Rattle.state.proofs.Marks.{used_is_below}
use Rattle.state.proofs.Guards.{opens}
use Rattle.bag.specs.Bag.{Bag, empty, there, noted, follow}
use Rattle.bag.specs.Law.{Along, Bare, May, Lawful, TakesHeld, Right}
use Rattle.bag.specs.Following.{fault_address, Follows, Holds, PutFits, Bytes, TakeFits}
use Rattle.bag.proofs.Lists.{place_in}
use Rattle.bag.proofs.Cases.{by_cond}
use Rattle.bag.proofs.Unbroken.{Unbroken, unbroken, takes_plain, puts_plain}
use Rattle.bag.proofs.Along.{along_append, along_split, along_map}
use Rattle.bag.proofs.Orderly.{none_some}
use Rattle.bag.proofs.Faults.{calm_before}
use Rattle.bag.proofs.Follows.{opened_follows, takes_follow, puts_follow, verdict}
use Rattle.bag.proofs.Stores.{takes_hold, puts_hold}
use Rattle.bag.proofs.Addresses.{among, Distinct, among_in_use, in_use_distinct}
use Rattle.bag.proofs.Walks.{takes_lawful, takes_right, right_held, takes_bare, takes_fit, puts_lawful, puts_held, puts_fit}
use Rattle.run.specs.Calls.{check}
use Rattle.run.specs.Demand3.{Sets}
use Rattle.run.proofs.Settled.{Settled}
use Rattle.run.proofs.Does.{Fit, Room, Kept, Does}

check_sets : (n : ℕ) (u : List ℕ) {A : Type 0} → Sets check n u → A
check_sets n u (inl e) = let z : ◌≡◌ {A = ℕ} 0 1 = cc in absurd (omega arith)
check_sets n u (inr e) = let z : ◌≡◌ {A = ℕ} 0 1 = cc in absurd (omega arith)

module _ (w : ℕ) (tag : Seal → Entry → List ℕ) (seal : Seal) (s : State) (m : List ℕ) (b : Bag) (f : Follows tag seal s b) (t : Fit s b) where
  -- the addresses in use are those where an entry is held
  abbrev cs : List ℕ
  cs = in_use s.marks

  exact : (a : ℕ) → among a cs ≡ there (b.held a)
  exact a = among_in_use s.marks t.sixteen a ∙ t.marked a

  abbrev once : Distinct cs
  once = in_use_distinct s.marks

  below : (a : ℕ) → among a cs ≡ true → a < addresses
  below a k = used_is_below s.marks a t.sixteen (sym (among_in_use s.marks t.sixteen a) ∙ k)

  -- ---- the takes, which every check makes

  pub taken_lawful : Lawful (tag seal) b (takes w s m)
  unfolding takes taken
  taken_lawful = takes_lawful w m b cs once exact (tag seal)

  pub taken_right : Holds w b m → Right b (takes w s m)
  unfolding takes taken
  taken_right = takes_right w m b cs once exact

  taken_fit : length m ≡ store_size w → Bytes m → Along (TakeFits w) b (takes w s m)
  unfolding takes taken
  taken_fit = takes_fit w m b cs once exact below

  pub taken_bare : Bare (follow b (takes w s m))
  unfolding takes taken
  taken_bare = takes_bare w m b cs once exact

  pub taken_follows : Follows tag seal (take_all w tag s m) (follow b (takes w s m))
  unfolding takes take_all
  taken_follows = takes_follow tag seal s b (taken w s.marks m) f

  taken_holds : Holds w b m → Holds w (follow b (takes w s m)) m
  unfolding takes
  taken_holds = takes_hold w b m (taken w s.marks m)

  taken_unbroken : Unbroken (takes w s m)
  unfolding takes
  taken_unbroken = unbroken (takes w s m) (takes_plain (taken w s.marks m))

  rejection_does : length m ≡ store_size w → Does w tag seal s m b check (rejection w tag s m)
  unfolding rejection close takes
  rejection_does size =
      record {
        number = refl;
        lawful = taken_lawful;
        follows = λ o. absurd (true≢false o);
        fit = λ o. absurd (true≢false o);
        put_fits = λ g. along_map (PutFits w) took (λ x e. tt) b (taken w s.marks m);
        take_fits = taken_fit size;
        honest = λ g h. (taken_right h, taken_holds h);
        kept = λ r a e k. none_some (taken_bare a) k;
        answers = λ n o q. let z : ◌≡◌ {A = ℕ} 0 1 = cc in absurd (omega arith);
        accepts = λ x y q. absurd (taken_unbroken x y q);
        settled = λ k. k;
      }

  -- ---- an accepted one

  module _ (size : length m ≡ store_size w) (agreed : agrees (take_all w tag s m) ≡ true) where
    abbrev all : List Event
    all = takes w s m ++ (accepted ∷ puts w s m)

    -- what it leaves is what its puts make of an empty bag
    opens_empty : follow b all ≡ follow (empty 1) (puts w s m)
    unfolding noted
    opens_empty = foldl-append noted b (takes w s m) (accepted ∷ puts w s m)

    accepts_exactly : (hash (tag seal) (follow b (takes w s m)).puts ≡ hash (tag seal) (follow b (takes w s m)).takes) × ((follow b (takes w s m)).fault ≡ none)
    accepts_exactly = (verdict tag seal (take_all w tag s m) (follow b (takes w s m)) taken_follows).0 agreed

    accepted_lawful : Lawful (tag seal) b all
    unfolding noted puts reput
    accepted_lawful =
        along_append (May (tag seal)) b (takes w s m) (accepted ∷ puts w s m) taken_lawful
        ((taken_bare, accepts_exactly.0, accepts_exactly.1), puts_lawful w m b cs once exact (tag seal))

    accepted_follows : Follows tag seal (put_all w tag s m) (follow b all)
    unfolding takes puts put_all
    accepted_follows =
        let calm = calm_before b (takes w s m) taken_unbroken accepts_exactly.1 in
        subst (Follows tag seal (put_all w tag s m)) (sym opens_empty)
        (puts_follow tag seal (opened s) (empty 1) (reput w s.marks m) (opened_follows tag seal s f.seal (f.fault ∙ ap there calm) (f.first ∙ ap fault_address calm)))

    accepted_held : (a : ℕ) → (follow b all).held a ≡ cond (used s.marks a) (some (opening w m a)) none
    unfolding puts reput
    accepted_held a =
        ap (λ (x : Bag). x.held a) opens_empty ∙ puts_held w m b cs once exact a ∙ ap (λ (u : Bool). cond u (some (opening w m a)) none) (among_in_use s.marks t.sixteen a)

    opening_fits : Room w b → Along (PutFits w) (empty 1) (puts w s m)
    unfolding puts reput
    opening_fits g = puts_fit w m b cs once exact below size g.0

    accepted_fit : Fit (put_all w tag s m) (follow b all)
    accepted_fit =
        let o = (opens w tag s m).marks in
        record { marked = λ a. ap (λ (ws : List ℕ). used ws a) o ∙ go (used s.marks a) (opening w m a) ∙ ap there (sym (accepted_held a)); sixteen = ap length o ∙ t.sixteen }
      where
        go : (u : Bool) (e : Entry) → u ≡ there (cond u (some e) none)
        go true e = refl
        go false e = refl

    accepted_holds : Room w b → Holds w (follow b all) (write_all w s m)
    unfolding write_all puts empty
    accepted_holds g =
        subst (λ (x : Bag). Holds w x (write_all w s m)) (sym opens_empty)
        (puts_hold w (empty 1) m (reput w s.marks m) (opening_fits g) size (λ a e k. none_some refl k))

    accepted_kept : Right b all → (a : ℕ) (e : Entry) → (follow b all).held a ≡ some e → Kept b check a e
    unfolding entry_at opening takes taken
    accepted_kept r a e k = go (used s.marks a) refl
      where
        go : (u : Bool) → used s.marks a ≡ u → Kept b check a e
        go true u =
            let z : some (opening w m a) ≡ some e = sym (accepted_held a ∙ rw u) ∙ k in
            let y : opening w m a ≡ e = cc in
            let h = right_held w m b cs once exact (along_split TakesHeld b (takes w s m) (accepted ∷ puts w s m) r).0 a (among_in_use s.marks t.sixteen a ∙ u) in
            inr ((λ v h. check_sets a v h), (entry_at w m a, h, ap (λ (x : Entry). x.value) y))
        go false u = none_some (accepted_held a ∙ rw u) k

    accepted_place : (p q : List Event) → all ≡ p ++ (accepted ∷ q) → p ≡ takes w s m
    unfolding puts
    accepted_place p q e =
        elim (place_in (takes w s m) (accepted ∷ puts w s m) p accepted q e) [ inl (d, g, h) ↦ absurd (taken_unbroken p d g) | inr (d, g, h) ↦ here d g h ]
      where
        here : (d : List Event) → p ≡ takes w s m ++ d → accepted ∷ puts w s m ≡ d ++ (accepted ∷ q) → p ≡ takes w s m
        here [] g h = g ∙ append-nil (takes w s m)
        here (x ∷ d) g h = absurd (unbroken (puts w s m) (puts_plain (reput w s.marks m)) d q (tail-eq_of_cons-eq h))

    accepted_settled : Settled s → Settled (put_all w tag s m)
    accepted_settled k = let o = opens w tag s m in ((λ h. o.first ∙ k.0 (sym o.fault ∙ h)), subst (λ (n : ℕ). n < addresses) (sym o.first) k.1)

    acceptance_does : Does w tag seal s m b check (acceptance w tag s m)
    unfolding acceptance takes puts noted
    acceptance_does =
        record {
          number = refl;
          lawful = accepted_lawful;
          follows = λ o. accepted_follows;
          fit = λ o. accepted_fit;
          put_fits = λ g. along_append (PutFits w) b (takes w s m) (accepted ∷ puts w s m) (along_map (PutFits w) took (λ x e. tt) b (taken w s.marks m)) (tt, opening_fits g);
          take_fits = λ h. along_append (TakeFits w) b (takes w s m) (accepted ∷ puts w s m) (taken_fit size h) (tt, along_map (TakeFits w) put (λ x e. tt) (empty 1) (reput w s.marks m));
          honest = λ g h. (along_append TakesHeld b (takes w s m) (accepted ∷ puts w s m) (taken_right h) (tt, along_map TakesHeld put (λ x e. tt) (empty 1) (reput w s.marks m)), accepted_holds g);
          kept = accepted_kept;
          answers = λ n o q. let z : ◌≡◌ {A = ℕ} 0 1 = cc in absurd (omega arith);
          accepts = λ p q e. (refl, refl, accepted_place p q e);
          settled = accepted_settled;
        }

  pub check_does : first (check_rows w s m) ≡ 0 → Does w tag seal s m b check (cond (agrees (take_all w tag s m)) (acceptance w tag s m) (rejection w tag s m))
  check_does e =
      let size = (check_ready w s m e).1 in
      by_cond (Does w tag seal s m b check) (agrees (take_all w tag s m)) (acceptance_does size) (λ k. rejection_does size)
