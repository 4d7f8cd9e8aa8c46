-- Each call that is done takes and puts what is claimed, and a check's verdict is told by the entry state and the bytes. Assumes nothing.
use mathlib.Core.Path.{◌≡◌, refl, sym, ap, ap₂, ◌∙◌, subst}
use mathlib.Core.Bool.{Bool, true, false, cond, false≢true}
use mathlib.Core.List.Memᴰ
use mathlib.Core.List.{List, [], ◌∷◌, ◌++◌, map, foldl, Memᴰ}
use mathlib.Core.Logic.{◌⊎◌, inl, inr, ⊎_elim, ◌↔◌, ◌≢◌}
use mathlib.Core.Option.{some}
use Prim.Native.Nat.{ℕ, zero, suc, ◌+◌, ◌*◌, ◌%◌, ◌^◌, ◌<◌, ◌≤◌}
use native.Mathlib.Nat.{zero-div}
use native.Mathlib.Omega.{arith}
use lib.Dec.{eqb}
use lib.ListN.{length, take, drop, replicate, length-map, replicate-append-replicate}
use borrow.Author.Tests.{eqb-true, eqb-false}
use Rattle.refusal.specs.Refusal.{Row, first}
use Rattle.octets.specs.Layout.{total, split, octets, bytes}
use Rattle.octets.specs.Places.{xor}
use Rattle.state.specs.Sizes.{addresses, value_size, cell_size, store_size}
use Rattle.state.specs.Marks.{used, in_use}
use Rattle.state.specs.Cells.{Entry, entry, value_at, stamp_at, entry_at, write_cell, write_entry}
use Rattle.state.specs.Multiset.{empty_hash, with_tag}
use Rattle.state.specs.TakePut.{Seen, Outcome, with_marks, close, next, take_entry, put_entry}
use Rattle.state.specs.Access.{add_rows, exchange_rows, remove_rows, call, added, loaded, stored, removed, add_of, load_of, store_of, remove_of}
use Rattle.state.specs.Check.{check_rows, taken, opening, reput, opened, agrees, reason, take_all, put_all, acceptance, rejection, check_of}
use Rattle.state.specs.Calls.{calls}
use Rattle.state.specs.Table.{Marked, zero_hash}
use Rattle.state.specs.Effects.{Typed, SomeAhead, FoundAt, NoneFound, cell_in, value_in, stamp_in, entry_in, with_cell, joined, After, taken_of, put_of, Agrees, Accepted, Reason, Rejected, Effects}
use Rattle.state.specs.declared.Hash.{Hash}
use Rattle.state.specs.declared.Seal.{Seal}
use Rattle.state.specs.declared.State.{State}
use Rattle.state.specs.declared.Verdict.TheVariants.{Accept}
use Rattle.state.proofs.Cells.{cell_written, cell_other, value_length}
use Rattle.state.proofs.InUse.{in_use_only, in_use_all, in_use_rising}
use Rattle.state.proofs.Walks.{put_below, write_all_whole, puts_length}
use Rattle.state.proofs.Joins.{tags_join, Taken, taken_each, put_of_each, put_seal}
use Rattle.state.proofs.Marked.{unset, marked_used, used_marks, set_mark, clear_mark}
use Rattle.state.proofs.Guards.{agrees_tells, equal_agrees, opens}
use Rattle.state.proofs.Ready.{call_done, by_rows, done_rows, check_ready, add_ready, remove_ready}

bytes_zero : (w : ℕ) → bytes w 0 ≡ replicate w 0
unfolding bytes split
bytes_zero zero = refl
bytes_zero (suc w) = ap₂ ◌∷◌ (ap (λ (n : ℕ). n % 2 ^ 8) (zero-div (2 ^ total (octets w)))) (bytes_zero w)

-- ---- a call that is done

-- its rows do not hold, and it is what it is where none does
pub done_is : (rows : List Row) (s : State) (m o : List ℕ) (x : Outcome) → (call rows s m o x).seen.number ≡ 0 → (first rows ≡ 0) × (call rows s m o x ≡ x)
done_is rows s m o x e = let z = done_rows s m rows o x e in (z, call_done rows s m o x z)

-- the marks are as they were, also where it is refused
marks_kept : (rows : List Row) (s : State) (m o : List ℕ) (x : Outcome) → x.seen.state.marks ≡ s.marks → (call rows s m o x).seen.state.marks ≡ s.marks
marks_kept rows s m o x e = by_rows s m (λ (r : Outcome). r.seen.state.marks ≡ s.marks) rows o x (λ z. e) (λ n q. refl)

module _ (w : ℕ) (tag : Seal → Entry → List ℕ) where
  joins : (seal : Seal) (h : Hash) (es : List Entry) → h.number < 2 ^ 32 → foldl with_tag h (map (tag seal) es) ≡ joined w tag seal h es
  joins seal h es l =
      tags_join h (map (tag seal) es) l
      ∙ ap (λ (n : ℕ). record { tag = foldl xor h.tag (map (tag seal) es); number = (h.number + n) % 2 ^ 32 }) (length-map es (tag seal))

  -- after takes alone, and after takes and a put
  take_after : (s t : State) (es : List Entry) → Typed s → Taken tag s t es → After w tag s t es [] s.clock
  take_after s t es y r = record {
    seal = r.seal;
    put = r.put ∙ joins s.seal s.put [] y.puts;
    take = r.take ∙ joins s.seal s.take es y.takes;
    clock = r.clock;
    fault = r.fault;
    closed = r.closed;
  }

  put_after : (s t : State) (es : List Entry) (e : Entry) → Typed s → Taken tag s t es → After w tag s (put_entry tag t e) es (e ∷ []) e.stamp
  unfolding put_entry
  put_after s t es e y r = record {
    seal = r.seal;
    put = ap₂ (λ (h : Hash) (k : Seal). with_tag h (tag k e)) r.put r.seal ∙ joins s.seal s.put (e ∷ []) y.puts;
    take = r.take ∙ joins s.seal s.take es y.takes;
    clock = refl;
    fault = r.fault;
    closed = r.closed;
  }

  other_marks : (s t : State) (es ps : List Entry) (c : ℕ) (ws : List ℕ) → After w tag s t es ps c → After w tag s (with_marks t ws) es ps c
  unfolding with_marks
  other_marks s t es ps c ws r = record { seal = r.seal; put = r.put; take = r.take; clock = r.clock; fault = r.fault; closed = r.closed }

  -- ---- add, load, store and remove

  module _ (s : State) (m : List ℕ) (a : ℕ) (y : Typed s) where
    abbrev Add : List ℕ → Seen → Type 0
    Add v x = After w tag s x.state [] (entry a v (s.clock + 1) ∷ []) (s.clock + 1) × (x.store ≡ with_cell w m a (v ++ bytes w (s.clock + 1)))

    add_effect : (v : List ℕ) → (add_of w tag s m a v).seen.number ≡ 0 → Add v (add_of w tag s m a v).seen
    unfolding add_of added next write_entry write_cell cell_size value_size
    add_effect v e =
        subst (λ (r : Outcome). Add v r.seen) (sym (done_is (add_rows w s m a v) s m [] _ e).1)
        (other_marks s _ [] _ _ _ (put_after s s [] (entry a v (s.clock + 1)) y (taken_each tag [] s)), refl)

    add_marks : (v : List ℕ) → (add_of w tag s m a v).seen.number ≡ 0 → (b : ℕ) → Marked (add_of w tag s m a v).seen.state b ↔ ((b ≡ a) ⊎ Marked s b)
    unfolding add_of added with_marks
    add_marks v e =
        let d = done_is (add_rows w s m a v) s m [] (added w tag s m a v) e in
        set_mark s (add_of w tag s m a v).seen.state a y.words (add_ready w s m a v d.0).0.below (ap (λ (r : Outcome). r.seen.state.marks) d.1)

    -- load and store: v is the value put, and o what is handed out
    abbrev Exchange : List ℕ → List ℕ → Seen → Type 0
    Exchange v o x =
        After w tag s x.state (entry_in w m a ∷ []) (entry a v (s.clock + 1) ∷ []) (s.clock + 1)
        × (x.store ≡ with_cell w m a (v ++ bytes w (s.clock + 1))) × (x.out ≡ o)

    load_effect : (o : List ℕ) → (load_of w tag s m a o).seen.number ≡ 0 → Exchange (value_in w m a) (value_in w m a) (load_of w tag s m a o).seen
    unfolding load_of loaded next take_entry entry_at value_at stamp_at write_entry write_cell cell_size value_size
    load_effect o e =
        subst (λ (r : Outcome). Exchange (value_in w m a) (value_in w m a) r.seen) (sym (done_is (exchange_rows w s m a o) s m o _ e).1)
        (put_after s _ (entry_in w m a ∷ []) (entry a (value_in w m a) (s.clock + 1)) y (taken_each tag (entry_in w m a ∷ []) s), refl, refl)

    store_effect : (v : List ℕ) → (store_of w tag s m a v).seen.number ≡ 0 → Exchange v [] (store_of w tag s m a v).seen
    unfolding store_of stored next take_entry entry_at value_at stamp_at write_entry write_cell cell_size value_size
    store_effect v e =
        subst (λ (r : Outcome). Exchange v [] r.seen) (sym (done_is (exchange_rows w s m a v) s m [] _ e).1)
        (put_after s _ (entry_in w m a ∷ []) (entry a v (s.clock + 1)) y (taken_each tag (entry_in w m a ∷ []) s), refl, refl)

    abbrev Remove : Seen → Type 0
    Remove x = After w tag s x.state (entry_in w m a ∷ []) [] s.clock × (x.store ≡ with_cell w m a (replicate (28 + w) 0))

    remove_effect : (remove_of w tag s m a).seen.number ≡ 0 → Remove (remove_of w tag s m a).seen
    unfolding remove_of removed entry_at value_at stamp_at write_cell cell_size value_size
    remove_effect e =
        subst (λ (r : Outcome). Remove r.seen) (sym (done_is (remove_rows w s m a) s m [] _ e).1) (
          other_marks s _ (entry_in w m a ∷ []) [] _ _ (take_after s _ (entry_in w m a ∷ []) y (taken_each tag (entry_in w m a ∷ []) s)),
          ap (with_cell w m a) (ap (λ (z : List ℕ). replicate 28 0 ++ z) (bytes_zero w) ∙ replicate-append-replicate 28 w 0),
        )

    remove_marks : (remove_of w tag s m a).seen.number ≡ 0 → (b : ℕ) → Marked (remove_of w tag s m a).seen.state b ↔ ((b ≢ a) × Marked s b)
    unfolding remove_of removed with_marks
    remove_marks e =
        let d = done_is (remove_rows w s m a) s m [] (removed w tag s m a) e in
        clear_mark s (remove_of w tag s m a).seen.state a y.words (remove_ready w s m a d.0).below (ap (λ (r : Outcome). r.seen.state.marks) d.1)

  -- ---- check

  -- what some bytes hold at an address, in the definitions' words
  module _ (s : State) (m : List ℕ) (y : Typed s) where
    takes_told : taken w s.marks m ≡ taken_of w s m
    unfolding taken entry_at value_at stamp_at cell_size value_size
    takes_told = refl

    all : Taken tag s (take_all w tag s m) (taken_of w s m)
    unfolding take_all
    all = subst (λ (es : List Entry). Taken tag s (foldl (take_entry tag) s es) (taken_of w s m)) (sym takes_told) (taken_each tag (taken_of w s m) s)

    -- an address in use is among those taken
    among : (a : ℕ) → a < 1024 → Marked s a → Memᴰ (entry_in w m a) (taken_of w s m)
    unfolding in_use addresses
    among a h k = Memᴰ.map (entry_in w m) (in_use_all s.marks 1024 a h (marked_used s a k))

    -- no fault after the takes: none before, and no stamp ahead
    none : (take_all w tag s m).fault ≡ false → NoneFound s (taken_of w s m)
    none f = ⊎_elim (λ k. absurd (false≢true (sym f ∙ k.0))) (λ k. k.1) all.fault

    agreed : agrees (take_all w tag s m) ≡ true → Agrees w tag s m
    agreed e =
        let h = agrees_tells (take_all w tag s m) e in
        let n = none h.1 in
        record {
          hashes = sym all.put ∙ h.0 ∙ all.take ∙ joins s.seal s.take (taken_of w s m) y.takes;
          faultless = n.0;
          on_time = λ a l k. let d : s.clock < stamp_in w m a → ⊥ = λ g. n.1 (entry_in w m a, among a l k, g) in omega arith;
        }

    agree : Agrees w tag s m → agrees (take_all w tag s m) ≡ true
    unfolding in_use addresses
    agree g =
        equal_agrees (take_all w tag s m) (all.put ∙ g.hashes ∙ sym (all.take ∙ joins s.seal s.take (taken_of w s m) y.takes))
        (⊎_elim (λ k. absurd (found k.1)) (λ k. k.0) all.fault)
      where
        none_ahead : SomeAhead s.clock (taken_of w s m) → ⊥
        none_ahead (e, k, l) =
            let r = Memᴰ.of_map (entry_in w m) (in_use s.marks) k in
            let u = in_use_only s.marks 1024 r.0 r.1 in
            let b = g.on_time r.0 u.0 (used_marks s r.0 u.1) in
            let q : stamp_in w m r.0 ≡ e.stamp = ap (λ (x : Entry). x.stamp) r.2 in
            omega arith

        found : {a : ℕ} → FoundAt s (taken_of w s m) a → ⊥
        found (inl (f, q)) = false≢true (sym g.faultless ∙ f)
        found (inr (f, q)) =
            none_ahead (q.entry, subst (Memᴰ q.entry) (sym q.place) (Memᴰ.append_right q.before (Memᴰ.head refl)), q.ahead)

    -- the reason of a reject
    because : agrees (take_all w tag s m) ≡ false → Reason w tag s m (some (reason (take_all w tag s m)))
    unfolding reason
    because e = ⊎_elim
        (λ k. inl ((take_all w tag s m).first, rw k.0, k.1))
        (λ k. inr (rw k.0, k.1, λ h. false≢true (sym e ∙ equal_agrees (take_all w tag s m) (all.put ∙ h ∙ sym (all.take ∙ joins s.seal s.take (taken_of w s m) y.takes)) k.0)))
        all.fault

  -- ---- the cells after an accepted check

  module _ (ws m : List ℕ) (size : length m ≡ store_size w) where
    abbrev cell_over : List ℕ → ℕ → List ℕ
    cell_over x a = take (cell_size w) (drop (cell_size w * a) x)

    -- a cell that is not put again
    cell_kept : (n a : ℕ) → n ≤ addresses → (a < n → used ws a ≡ false) → cell_over (put_below w ws m n) a ≡ cell_over m a
    unfolding put_below write_entry opening
    cell_kept zero a h u = refl
    cell_kept (suc n) a h u = go (used ws n) refl (cell_kept n a (omega arith) (λ l. u (omega arith)))
      where
        x : List ℕ
        x = put_below w ws m n

        go : (b : Bool) → used ws n ≡ b → cell_over x a ≡ cell_over m a → cell_over (cond b (write_cell w x n (value_at w m n) 1) x) a ≡ cell_over m a
        go true e ih =
            cell_other w x n (value_at w m n) 1 h (puts_length w ws m n (omega arith) size) (value_length w m n h size) a
            (λ q. false≢true (sym (u (omega arith)) ∙ ap (used ws) q ∙ e)) ∙ ih
        go false e ih = ih

    -- a cell that is
    cell_put : (n a : ℕ) → n ≤ addresses → a < n → used ws a ≡ true → cell_over (put_below w ws m n) a ≡ value_at w m a ++ bytes w 1
    unfolding put_below write_entry opening
    cell_put zero a h l u = absurd (omega arith)
    cell_put (suc n) a h l u = go (eqb a n) refl (cell_put n a (omega arith))
      where
        x : List ℕ
        x = put_below w ws m n

        long : length x ≡ store_size w
        long = puts_length w ws m n (omega arith) size

        go : (b : Bool) → eqb a n ≡ b → (a < n → used ws a ≡ true → cell_over x a ≡ value_at w m a ++ bytes w 1)
            → cell_over (cond (used ws n) (write_cell w x n (value_at w m n) 1) x) a ≡ value_at w m a ++ bytes w 1
        go true e ih =
            let q = eqb-true a n e in
            rw (ap (used ws) (sym q) ∙ u, q) (cell_written w x n (value_at w m n) 1 h long (value_length w m n h size))
        go false e ih = let d : a ≢ n = eqb-false a n e in other (used ws n) (ih (omega arith) u)
          where
            other : (c : Bool) → cell_over x a ≡ value_at w m a ++ bytes w 1 → cell_over (cond c (write_cell w x n (value_at w m n) 1) x) a ≡ value_at w m a ++ bytes w 1
            other true r = cell_other w x n (value_at w m n) 1 h long (value_length w m n h size) a (eqb-false a n e) ∙ r
            other false r = r

  module _ (s : State) (m : List ℕ) (y : Typed s) where
    accepted : length m ≡ store_size w → s.closed ≡ false → Agrees w tag s m → Accepted w tag s m (acceptance w tag s m).seen
    unfolding acceptance put_all reput opening opened empty_hash addresses cell_size value_size value_at
    accepted size c g = record {
      seal = put_seal tag (reput w s.marks m) (opened s);
      put = put_of_each tag (reput w s.marks m) (opened s) ∙ joins s.seal zero_hash (put_of w s m) (omega arith);
      take = (opens w tag s m).take;
      clock = (opens w tag s m).clock;
      fault = (opens w tag s m).fault ∙ g.faultless;
      first = (opens w tag s m).first;
      closed = (opens w tag s m).closed ∙ c;
      marks = (opens w tag s m).marks;
      size = ap length (write_all_whole w s m) ∙ puts_length w s.marks m addresses (omega arith) size ∙ sym size;
      used = λ a h k. ap (λ (x : List ℕ). cell_in w x a) (write_all_whole w s m) ∙ cell_put s.marks m size addresses a (omega arith) h (marked_used s a k);
      unused = λ a h k. ap (λ (x : List ℕ). cell_in w x a) (write_all_whole w s m) ∙ cell_kept s.marks m size addresses a (omega arith) (λ l. unset (used s.marks a) (λ u. k (used_marks s a u)));
    }

    rejected : Rejected s m (rejection w tag s m).seen
    unfolding rejection close
    rejected = record { seal = refl; put = refl; take = refl; clock = refl; fault = refl; first = refl; closed = refl; marks = refl; store = refl }

    abbrev Checked : Seen → Type 0
    Checked x = ((x.verdict ≡ some Accept) × Agrees w tag s m × Accepted w tag s m x) ⊎ (Reason w tag s m x.verdict × ¬ Agrees w tag s m × Rejected s m x)

    check_effect : (check_of w tag s m).seen.number ≡ 0 → Checked (check_of w tag s m).seen
    unfolding check_of acceptance rejection
    check_effect e = subst (λ (r : Outcome). Checked r.seen) (sym d.1) (go (agrees (take_all w tag s m)) refl)
      where
        d : (first (check_rows w s m) ≡ 0) × (check_of w tag s m ≡ cond (agrees (take_all w tag s m)) (acceptance w tag s m) (rejection w tag s m))
        d = done_is (check_rows w s m) s m [] _ e

        go : (b : Bool) → agrees (take_all w tag s m) ≡ b → Checked (cond b (acceptance w tag s m) (rejection w tag s m)).seen
        go true q = let r = check_ready w s m d.0 in let g = agreed s m y q in inl (refl, g, accepted r.1 r.0 g)
        go false q = inr (because s m y q, (λ g. false≢true (sym q ∙ agree s m y g)), rejected)

  pub effects : Effects w tag (calls w tag)
  unfolding in_use addresses load_of loaded store_of stored put_entry take_entry
  effects = record {
    add = λ s m a v y e. add_effect s m a y v e;
    add_marks = λ s m a v y e. add_marks s m a y v e;
    load = λ s m a o y e. load_effect s m a y o e;
    store = λ s m a v y e. let r = store_effect s m a y v e in (r.0, r.1);
    remove = λ s m a y e. remove_effect s m a y e;
    remove_marks = λ s m a y e. remove_marks s m a y e;
    load_marks = λ s m a o. marks_kept (exchange_rows w s m a o) s m o (loaded w tag s m a) refl;
    store_marks = λ s m a v. marks_kept (exchange_rows w s m a v) s m [] (stored w tag s m a v) refl;
    check = λ s m y e. check_effect s m y e;
    each_in_use = λ s y. (
      in_use_rising s.marks 1024,
      λ a. ((λ k. let r = in_use_only s.marks 1024 a k in (r.0, used_marks s a r.1)), (λ k. in_use_all s.marks 1024 a k.0 (marked_used s a k.1))),
    );
  }
