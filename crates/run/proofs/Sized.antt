-- Every entry that a run puts fits the cells, and where the lent stores are bytes every entry that it takes fits the message: each call shows it of its own. So
-- two entries of a run with one message are one entry. Assumes nothing.
use mathlib.Core.Path.{◌≡◌, refl, sym, subst}
use mathlib.Core.List.{List, [], ◌∷◌, ◌++◌}
use mathlib.Core.Logic.{◌⊎◌, inl, inr}
use Prim.Native.Nat.{ℕ, zero, suc, ◌≤◌}
use native.Mathlib.Nat.{one-le-pow, pow-succ'}
use native.Mathlib.Omega.{arith}
use Rattle.state.specs.Sizes.{addresses, ceiling}
use Rattle.state.specs.Cells.{Entry}
use Rattle.state.specs.Multiset.{message, Fits}
use Rattle.state.specs.TakePut.{Event, took, put, accepted}
use Rattle.state.specs.declared.Seal.{Seal}
use Rattle.state.proofs.Messages.{message_injective}
use Rattle.bag.specs.Bag.{Bag, empty, noted, follow}
use Rattle.bag.specs.Law.{Along}
use Rattle.bag.specs.Following.{InCell, PutFits, Bytes, TakeFits}
use Rattle.bag.proofs.Lists.{place_stays}
use Rattle.bag.proofs.Along.{along_append, along_split}
use Rattle.bag.proofs.Sizes.{below_bound}
use Rattle.run.specs.Calls.{Made}
use Rattle.run.specs.Demand3.{events_of}
use Rattle.run.proofs.Does.{Room, still, does}
use Rattle.run.proofs.FromStart.{done_by, bag_of, by_run, run_did}

pub ceiling_one : (w : ℕ) → 1 ≤ w → 1 ≤ ceiling w
unfolding ceiling
ceiling_one zero h = absurd (omega arith)
ceiling_one (suc w) h = rw (pow-succ' 256 w) (omega (arith, one-le-pow w 256 (omega arith)))

-- where each put fits, so does the clock
clock_fits : (w : ℕ) → 1 ≤ ceiling w → (b : Bag) (es : List Event) → b.clock ≤ ceiling w → Along (PutFits w) b es → (follow b es).clock ≤ ceiling w
unfolding noted empty
clock_fits w one b [] h f = h
clock_fits w one b (took e ∷ es) h f = clock_fits w one (noted b (took e)) es h f.1
clock_fits w one b (put e ∷ es) h f = clock_fits w one (noted b (put e)) es f.0.stamp f.1
clock_fits w one b (accepted ∷ es) h f = clock_fits w one (empty 1) es one f.1

-- every lent store is bytes
abbrev pub AllBytes : List Made → Type 0
AllBytes run = (before later : List Made) (x : Made) → run ≡ before ++ (x ∷ later) → Bytes x.bytes

module _ (w : ℕ) (tag : Seal → Entry → List ℕ) (key : List ℕ) where
  -- where each put fits, so does the clock
  module _ (one : 1 ≤ w) where
    room : (all : List Event) → Along (PutFits w) (empty 0) all → Room w (follow (empty 0) all)
    unfolding empty
    room all h = let c = ceiling_one w one in (c, clock_fits w c (empty 0) all (omega arith) h)

    puts_fit : (run : List Made) → Along (PutFits w) (empty 0) (events_of w tag key run)
    puts_fit =
        by_run w tag key (λ run all. Along (PutFits w) (empty 0) all) tt
        (λ run x ih.
        along_append (PutFits w) (empty 0) (events_of w tag key run) (done_by w tag key run x) ih
        (elim (run_did w tag key run x) [ still n ↦ subst (Along (PutFits w) (bag_of w tag key run)) (sym n.events) tt | does o y d ↦ d.put_fits (room (events_of w tag key run) ih) ]))

    pub run_room : (run : List Made) → Room w (bag_of w tag key run)
    run_room run = room (events_of w tag key run) (puts_fit run)

    -- each entry put, whatever is lent
    pub one_put_fits : (run : List Made) (p q : List Event) (e : Entry) → events_of w tag key run ≡ p ++ (put e ∷ q) → InCell w e
    one_put_fits run p q e k = (along_split (PutFits w) (empty 0) p (put e ∷ q) (subst (Along (PutFits w) (empty 0)) k (puts_fit run))).1.0

  -- each entry taken, where every lent store is bytes
  takes_fit : (run : List Made) → AllBytes run → Along (TakeFits w) (empty 0) (events_of w tag key run)
  takes_fit =
      by_run w tag key (λ run all. AllBytes run → Along (TakeFits w) (empty 0) all) (λ h. tt)
      (λ run x ih h.
      along_append (TakeFits w) (empty 0) (events_of w tag key run) (done_by w tag key run x) (ih (λ before later y e. h before (later ++ (x ∷ [])) y (place_stays run before y later (x ∷ []) e)))
      (elim (run_did w tag key run x) [ still n ↦ subst (Along (TakeFits w) (bag_of w tag key run)) (sym n.events) tt | does o y d ↦ d.take_fits (h run [] x refl) ]))

  module _ (one : 1 ≤ w) (run : List Made) (h : AllBytes run) where
    pub entries_sized : (p q : List Event) (e : Entry) → (events_of w tag key run ≡ p ++ (put e ∷ q)) ⊎ (events_of w tag key run ≡ p ++ (took e ∷ q)) → Fits w e
    unfolding addresses
    entries_sized p q e (inl k) =
        let f = one_put_fits one run p q e k in
        record { address = omega (arith, f.address); value = f.value; stamp = below_bound w e.stamp f.stamp }
    entries_sized p q e (inr k) = (along_split (TakeFits w) (empty 0) p (took e ∷ q) (subst (Along (TakeFits w) (empty 0)) k (takes_fit run h))).1.0

    -- so two entries of a run with one message are one entry
    pub message_tells : (p q p' q' : List Event) (d e : Entry)
        → (events_of w tag key run ≡ p ++ (put d ∷ q)) ⊎ (events_of w tag key run ≡ p ++ (took d ∷ q))
        → (events_of w tag key run ≡ p' ++ (put e ∷ q')) ⊎ (events_of w tag key run ≡ p' ++ (took e ∷ q')) → message w d ≡ message w e → d ≡ e
    message_tells p q p' q' d e k g = message_injective w d e (entries_sized p q d k) (entries_sized p' q' e g)
