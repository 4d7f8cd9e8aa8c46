-- Add, load, store and remove, where they are done: each takes or puts at one address, and leaves what is held elsewhere. Assumes nothing.
use mathlib.Core.Path.{◌≡◌, refl, sym, ap, ◌∙◌, subst}
use mathlib.Core.Bool.{Bool, true, false}
use mathlib.Core.List.{List, [], ◌∷◌}
use mathlib.Core.Option.{none, some}
use mathlib.Core.Logic.{inl, inr, ◌≢◌}
use Prim.Native.Nat.{ℕ, ◌+◌}
use native.Mathlib.Omega.{arith}
use lib.Dec.{eqb}
use lib.ListN.{length, replicate, length-replicate}
use borrow.Author.Tests.{eqb-true, eqb-false, eq-eqb}
use Rattle.refusal.specs.Refusal.{first}
use Rattle.state.specs.Sizes.{value_size, ceiling}
use Rattle.state.specs.Marks.{used, marked, unmarked}
use Rattle.state.specs.Cells.{Entry, value_at, entry_at, write_entry}
use Rattle.state.specs.TakePut.{took, put, seen, outcome, with_marks, next, take_entry, put_entry}
use Rattle.state.specs.Access.{add_rows, exchange_rows, remove_rows, added, loaded, stored, removed}
use Rattle.state.specs.declared.Seal.{Seal}
use Rattle.state.specs.declared.State.{State}
use Rattle.state.proofs.Cells.{value_length}
use Rattle.state.proofs.Marks.{used_marked, used_unmarked, length_marked, length_unmarked}
use Rattle.state.proofs.Ready.{Ready, add_ready, exchange_ready, remove_ready}
use Rattle.bag.specs.Bag.{Bag, upd, there, noted}
use Rattle.bag.specs.Following.{Follows, Holds, InCell}
use Rattle.bag.proofs.Unbroken.{unbroken}
use Rattle.bag.proofs.Orderly.{none_some, upd_other, upd_here}
use Rattle.bag.proofs.Follows.{take_follows, put_follows}
use Rattle.bag.proofs.Sizes.{taken_fits}
use Rattle.bag.proofs.Cases.{there_some, there_none}
use Rattle.bag.proofs.Stores.{take_holds, put_holds, free_holds}
use Rattle.run.specs.Calls.{Call, add, load, store, remove}
use Rattle.run.specs.Demand3.{Sets}
use Rattle.run.proofs.Settled.{take_settles}
use Rattle.run.proofs.Does.{Fit, Room, Kept, Does}

-- ---- marks and what is held

marks_follow : (tag : Seal → Entry → List ℕ) (seal : Seal) (s : State) (b : Bag) (ws : List ℕ) → Follows tag seal s b → Follows tag seal (with_marks s ws) b
unfolding with_marks
marks_follow tag seal s b ws f = record { seal = f.seal; put = f.put; take = f.take; clock = f.clock; fault = f.fault; first = f.first }

-- an address that is not in use holds nothing, and one in use something
free : (s : State) (b : Bag) → Fit s b → (a : ℕ) → used s.marks a ≡ false → b.held a ≡ none
free s b t a u = there_none (b.held a) (sym (t.marked a) ∙ u)

held : (s : State) (b : Bag) → Fit s b → (a : ℕ) → used s.marks a ≡ true → (d : Entry) × (b.held a ≡ some d)
held s b t a u = there_some (b.held a) (sym (t.marked a) ∙ u)

-- an honest store has at an address in use what is held there
held_there : (w : ℕ) (s : State) (b : Bag) (m : List ℕ) → Fit s b → Holds w b m → (a : ℕ) → used s.marks a ≡ true → b.held a ≡ some (entry_at w m a)
held_there w s b m t h a u = let d = held s b t a u in d.1 ∙ ap some (sym (h a d.0 d.1))

-- ---- one address

-- a bag x and a state r after a call that touches the address a alone
module _ (s : State) (b : Bag) (t : Fit s b) (a : ℕ) (x : Bag) (elsewhere : (n : ℕ) → eqb n a ≡ false → x.held n ≡ b.held n) where
  fit_at : (r : State) → length r.marks ≡ length s.marks → ((n : ℕ) → eqb n a ≡ false → used r.marks n ≡ used s.marks n)
      → used r.marks a ≡ there (x.held a) → Fit r x
  fit_at r l same here = record { marked = λ n. go n (eqb n a) refl; sixteen = l ∙ t.sixteen }
    where
      go : (n : ℕ) (u : Bool) → eqb n a ≡ u → used r.marks n ≡ there (x.held n)
      go n true q = subst (λ (z : ℕ). used r.marks z ≡ there (x.held z)) (sym (eqb-true n a q)) here
      go n false q = same n q ∙ t.marked n ∙ ap there (sym (elsewhere n q))

  kept_at : (c : Call) → ((n : ℕ) (v : List ℕ) → Sets c n v → n ≡ a) → ((e : Entry) → x.held a ≡ some e → Kept b c a e) → (n : ℕ) (e : Entry) → x.held n ≡ some e → Kept b c n e
  kept_at c only here n e k = go (eqb n a) refl
    where
      go : (u : Bool) → eqb n a ≡ u → Kept b c n e
      go true q = let z : n ≡ a = eqb-true n a q in subst (λ (y : ℕ). Kept b c y e) (sym z) (here e (ap x.held (sym z) ∙ k))
      go false q = inr ((λ v h. eqb-false n a q (only n v h)), (e, sym (elsewhere n q) ∙ k, refl))

-- what calls set
add_sets : (a : ℕ) (v : List ℕ) (n : ℕ) (u : List ℕ) → Sets (add a v) n u → n ≡ a
add_sets a v n u (inl e) = cc
add_sets a v n u (inr e) = cc

store_sets : (a : ℕ) (v : List ℕ) (n : ℕ) (u : List ℕ) → Sets (store a v) n u → n ≡ a
store_sets a v n u (inl e) = cc
store_sets a v n u (inr e) = cc

load_sets : (a : ℕ) (o : List ℕ) (n : ℕ) (u : List ℕ) {A : Type 0} → Sets (load a o) n u → A
load_sets a o n u (inl e) = let z : ◌≡◌ {A = ℕ} 0 1 = cc in absurd (omega arith)
load_sets a o n u (inr e) = let z : ◌≡◌ {A = ℕ} 0 1 = cc in absurd (omega arith)

remove_sets : (a n : ℕ) (u : List ℕ) {A : Type 0} → Sets (remove a) n u → A
remove_sets a n u (inl e) = let z : ◌≡◌ {A = ℕ} 0 1 = cc in absurd (omega arith)
remove_sets a n u (inr e) = let z : ◌≡◌ {A = ℕ} 0 1 = cc in absurd (omega arith)

module _ (w : ℕ) (tag : Seal → Entry → List ℕ) (seal : Seal) (s : State) (m : List ℕ) (b : Bag) (f : Follows tag seal s b) (t : Fit s b) where
  next_fits : (u : Bool) (a : ℕ) (v : List ℕ) → Ready w s m a u → length v ≡ value_size → s.clock ≢ ceiling w → Room w b → InCell w (next s a v)
  unfolding next
  next_fits u a v p l time g = record { address = p.below; value = l; stamp = omega (arith, f.clock) }

  -- ---- add

  pub add_does : (a : ℕ) (v : List ℕ) → first (add_rows w s m a v) ≡ 0 → Does w tag seal s m b (add a v) (added w tag s m a v)
  unfolding added noted next put_entry with_marks
  add_does a v e =
      let p = add_ready w s m a v e in
      let d = next s a v in
      let fits = next_fits false a v p.0 p.1.size p.1.time in
      let elsewhere : (n : ℕ) → eqb n a ≡ false → upd b.held a (some d) n ≡ b.held n = upd_other b.held a (some d) in
      record {
        number = refl;
        lawful = ((free s b t a p.0.mark, inl (ap (λ (c : ℕ). c + 1) f.clock)), tt);
        follows = λ o. marks_follow tag seal (put_entry tag s d) (noted b (put d)) (marked s.marks a) (put_follows tag seal s b d f);
        fit = λ o. fit_at s b t a (noted b (put d)) elsewhere _ (length_marked s.marks a) (λ n q. used_marked s.marks a t.sixteen p.0.below n ∙ rw q) (used_marked s.marks a t.sixteen p.0.below a ∙ rw (eq-eqb a a refl, upd_here b.held a (some d)));
        put_fits = λ g. (fits g, tt);
        take_fits = λ h. (tt, tt);
        honest = λ g h. ((tt, tt), put_holds w b m h p.0.size d (fits g));
        kept = λ r. kept_at s b t a (noted b (put d)) elsewhere (add a v) (add_sets a v) (λ c k. let z : some d ≡ some c = sym (upd_here b.held a (some d)) ∙ k in let y : d ≡ c = cc in inl (inl (ap (λ (g : Entry). add a g.value) y)));
        answers = λ n o q. let z : ◌≡◌ {A = ℕ} 0 1 = cc in absurd (omega arith);
        accepts = λ x y q. absurd (unbroken (put d ∷ []) refl x y q);
        settled = λ k. k;
      }

  -- ---- load and store: the cell of an address is taken, and a value put there

  module _ (a : ℕ) (v : List ℕ) where
    abbrev old : Entry
    old = entry_at w m a

    abbrev new : Entry
    new = next (take_entry tag s old) a v

    exchange_does : (c : Call) (out : List ℕ) → Ready w s m a true → length v ≡ value_size → s.clock ≢ ceiling w
        → ((n : ℕ) (u : List ℕ) → Sets c n u → n ≡ a) → (b.held a ≡ some old → Kept b c a new)
        → ((n : ℕ) (o : List ℕ) → c ≡ load n o → b.held a ≡ some old → (d : Entry) × (b.held n ≡ some d) × (d.value ≡ out))
        → Does w tag seal s m b c (outcome (seen 0 none (put_entry tag (take_entry tag s old) new) (write_entry w m new) out) (took old ∷ put new ∷ []))
    unfolding noted next take_entry put_entry entry_at
    exchange_does c out p l time only here answer =
        let taken : Bag = noted b (took old) in
        let fits = next_fits true a v p l time in
        let elsewhere : (n : ℕ) → eqb n a ≡ false → upd (upd b.held a none) a (some new) n ≡ b.held n =
        λ n q. upd_other (upd b.held a none) a (some new) n q ∙ upd_other b.held a none n q in
        record {
          number = refl;
          lawful = (held s b t a p.mark, ((upd_here b.held a none, inl (ap (λ (c : ℕ). c + 1) f.clock)), tt));
          follows = λ o. put_follows tag seal (take_entry tag s old) taken new (take_follows tag seal s b old f);
          fit = λ o. fit_at s b t a (noted taken (put new)) elsewhere _ refl (λ n q. refl) (p.mark ∙ ap there (sym (upd_here (upd b.held a none) a (some new))));
          put_fits = λ g. (tt, (fits g, tt));
          take_fits = λ h. (taken_fits w m h a p.below p.size, (tt, tt));
          honest = λ g h. ((held_there w s b m t h a p.mark, (tt, tt)), put_holds w taken m (take_holds w b m h old) p.size new (fits g));
          kept =
              λ r. kept_at s b t a (noted taken (put new)) elsewhere c only
              (λ d k. let z : some new ≡ some d = sym (upd_here (upd b.held a none) a (some new)) ∙ k in let y : new ≡ d = cc in subst (Kept b c a) y (here r.0));
          answers = λ n o q r. answer n o q r.0;
          accepts = λ x y q. absurd (unbroken (took old ∷ put new ∷ []) refl x y q);
          settled = take_settles w tag s old p.below;
        }

  pub load_does : (a : ℕ) (o : List ℕ) → first (exchange_rows w s m a o) ≡ 0 → Does w tag seal s m b (load a o) (loaded w tag s m a)
  unfolding loaded entry_at next
  load_does a o e =
      let p = exchange_ready w s m a o e in
      exchange_does a (value_at w m a) (load a o) (value_at w m a) p.0 (value_length w m a p.0.below p.0.size) p.1.time (λ n u h. load_sets a o n u h)
      (λ k. inr ((λ u h. load_sets a o a u h), (entry_at w m a, k, refl))) (λ n u q k. let z : n ≡ a = cc in (entry_at w m a, ap b.held z ∙ k, refl))

  pub store_does : (a : ℕ) (v : List ℕ) → first (exchange_rows w s m a v) ≡ 0 → Does w tag seal s m b (store a v) (stored w tag s m a v)
  unfolding stored next
  store_does a v e =
      let p = exchange_ready w s m a v e in
      exchange_does a v (store a v) [] p.0 p.1.size p.1.time (store_sets a v) (λ k. inl (inr refl)) (λ n o q. let z : ◌≡◌ {A = ℕ} 0 1 = cc in absurd (omega arith))

  -- ---- remove

  pub remove_does : (a : ℕ) → first (remove_rows w s m a) ≡ 0 → Does w tag seal s m b (remove a) (removed w tag s m a)
  unfolding removed noted take_entry with_marks entry_at
  remove_does a e =
      let p = remove_ready w s m a e in
      let old = entry_at w m a in
      let elsewhere : (n : ℕ) → eqb n a ≡ false → upd b.held a none n ≡ b.held n = upd_other b.held a none in
      record {
        number = refl;
        lawful = (held s b t a p.mark, tt);
        follows = λ o. marks_follow tag seal (take_entry tag s old) (noted b (took old)) (unmarked s.marks a) (take_follows tag seal s b old f);
        fit = λ o. fit_at s b t a (noted b (took old)) elsewhere _ (length_unmarked s.marks a) (λ n q. used_unmarked s.marks a t.sixteen p.below n ∙ rw q) (used_unmarked s.marks a t.sixteen p.below a ∙ rw (eq-eqb a a refl, upd_here b.held a none));
        put_fits = λ g. (tt, tt);
        take_fits = λ h. (taken_fits w m h a p.below p.size, tt);
        honest =
            λ g h. ((held_there w s b m t h a p.mark, tt), free_holds w (noted b (took old)) m (take_holds w b m h old) p.size a (upd_here b.held a none) p.below (replicate value_size 0) 0 (length-replicate value_size 0));
        kept = λ r. kept_at s b t a (noted b (took old)) elsewhere (remove a) (λ n u h. remove_sets a n u h) (λ d k. none_some (upd_here b.held a none) k);
        answers = λ n o q. let z : ◌≡◌ {A = ℕ} 0 1 = cc in absurd (omega arith);
        accepts = λ x y q. absurd (unbroken (took old ∷ []) refl x y q);
        settled = take_settles w tag s old p.below;
      }
