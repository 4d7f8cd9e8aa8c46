-- Each row of a call tests its condition of the table, and a refused call is what it was given. Assumes nothing.
use mathlib.Core.Path.{◌≡◌, refl, sym, ap, ◌∙◌, subst}
use mathlib.Core.Bool.{Bool, true, false, cond}
use mathlib.Core.List.{List, [], ◌∷◌}
use mathlib.Core.Logic.{◌⊎◌, inl, inr, ◌≢◌, ⊎_elim}
use mathlib.Core.Option.{Option, none, some}
use Prim.Native.Nat.{ℕ, ◌+◌, ◌-◌, ◌*◌, ◌/◌, ◌%◌, ◌^◌, ◌<◌}
use native.Mathlib.Omega.{arith}
use lib.Dec.{ltb}
use lib.ListN.{length, get_or}
use borrow.Author.Tests.{eq-eqb, ltb-true, ltb-false, lt-ltb, not-true, not-false}
use Rattle.refusal.specs.Refusal.{Row, first}
use Rattle.refusal.specs.Cases.{Case, given, FirstOf}
use Rattle.refusal.proofs.Cases.{Tests, TestsAll, flag, equal, differ, first_of}
use Rattle.refusal.proofs.Passed.{done_zero, done_other}
use Rattle.state.specs.Sizes.{key_size, words, addresses, value_size, cell_size, store_size, ceiling}
use Rattle.state.specs.Marks.{used}
use Rattle.state.specs.Cells.{Entry, value_at}
use Rattle.state.specs.Multiset.{empty_hash}
use Rattle.state.specs.Start.{sealed, fresh, no_state, start_rows, start_of}
use Rattle.state.specs.TakePut.{Outcome}
use Rattle.state.specs.Access.{address_row, unused_row, add_rows, exchange_rows, remove_rows, look_rows, call, added, loaded, stored, removed, add_of, load_of, store_of, remove_of}
use Rattle.state.specs.Check.{check_rows, agrees, reason, take_all, acceptance, rejection, check_of}
use Rattle.state.specs.Calls.{calls}
use Rattle.state.specs.Table.{Marked, Answers, Table}
use Rattle.state.specs.declared.Seal.{Seal}
use Rattle.state.specs.declared.State.{State}
use Rattle.state.specs.declared.Verdict.{Verdict}
use Rattle.state.specs.declared.Verdict.TheVariants.{Accept, Stamp, Tag}
use Rattle.state.proofs.Cells.{value_length}
use Rattle.state.proofs.Ready.{by_rows, done_rows, look_ready, look_done, look_refused}
use Rattle.state.proofs.Guards.{verdict_is}

-- ---- tests

above : (a : ℕ) → Tests (address_row a) (given 2 (1023 < a))
unfolding addresses
above a = record {
  number = refl;
  yes = λ e. let h = ltb-false a 1024 (not-true (ltb a 1024) e) in omega arith;
  no = λ e h. let k = ltb-true a 1024 (not-false (ltb a 1024) e) in omega arith;
}

absent : (s : State) (a : ℕ) → Tests (unused_row s a) (given 5 (¬ Marked s a))
unfolding used
absent s a = let t = differ 5 ((get_or s.marks (a / 64) 0 / 2 ^ (a % 64)) % 2) 1 in record { number = refl; yes = t.yes; no = t.no }

-- ---- a call

module _ (rows : List Row) (cases : List Case) (s : State) (m o : List ℕ) (x : Outcome) where
  answers : TestsAll rows cases → x.seen.number ≡ 0 → Answers cases (call rows s m o x).seen s m o
  answers t z = record {
    number = let f = first_of rows cases t in by_rows s m (λ (r : Outcome). FirstOf cases r.seen.number) rows o x (λ e. subst (FirstOf cases) (e ∙ sym z) f) (λ n q. subst (FirstOf cases) q f);
    unchanged =
        by_rows s m (λ (r : Outcome). r.seen.number ≢ 0 → (r.seen.state ≡ s) × (r.seen.store ≡ m) × (r.seen.out ≡ o) × (r.seen.verdict ≡ none)) rows o x
        (λ e h. absurd (h z)) (λ n q h. (refl, refl, refl, refl));
  }

either_zero : (b : Bool) (x y : Outcome) → x.seen.number ≡ 0 → y.seen.number ≡ 0 → (cond b x y).seen.number ≡ 0
either_zero true x y p q = p
either_zero false x y p q = q

module _ (w : ℕ) (tag : Seal → Entry → List ℕ) where
  check_answers : (s : State) (m : List ℕ) → Answers (given 7 (s.closed ≡ true) ∷ given 1 (length m ≢ store_size w) ∷ []) (check_of w tag s m).seen s m []
  unfolding check_of check_rows acceptance rejection
  check_answers s m =
      answers (check_rows w s m) _ s m [] _ (flag 7 s.closed, (differ 1 (length m) (store_size w), tt))
      (either_zero (agrees (take_all w tag s m)) (acceptance w tag s m) (rejection w tag s m) refl refl)

  -- a verdict of a check that is done
  abbrev Says : Option Verdict → Type 0
  Says v = (v ≡ some Accept) ⊎ ((v ≡ some Tag) ⊎ ((a : ℕ) × (v ≡ some (Stamp a))))

  check_says : (s : State) (m : List ℕ) → (check_of w tag s m).seen.number ≡ 0 → Says (check_of w tag s m).seen.verdict
  unfolding check_of reason
  check_says s m h = subst Says (sym (verdict_is w tag s m (done_rows s m (check_rows w s m) [] _ h))) (said (agrees t) t.fault)
    where
      t : State
      t = take_all w tag s m

      said : (b c : Bool) → Says (some (cond b Accept (cond c (Stamp t.first) Tag)))
      said true c = inl refl
      said false true = inr (inr (t.first, refl))
      said false false = inr (inl refl)

  pub look_first : (m : List ℕ) (a : ℕ) → length m ≡ store_size w → a < addresses → first (look_rows w m a) ≡ 0
  unfolding look_rows
  look_first m a l h = rw (eq-eqb (length m) (store_size w) l, lt-ltb a addresses h)

  pub look_other : (m : List ℕ) (a : ℕ) → (length m ≢ store_size w) ⊎ (1023 < a) → first (look_rows w m a) ≢ 0
  unfolding addresses
  look_other m a h e = let r = look_ready w m a e in ⊎_elim (λ n. n r.0) (λ g. omega (arith, r.1)) h

  start_tests : (k : List ℕ) → TestsAll (start_rows k) (given 8 (length k ≢ key_size) ∷ [])
  start_tests k = (differ 8 (length k) key_size, tt)

  add_tests : (s : State) (m : List ℕ) (a : ℕ) (v : List ℕ) → TestsAll (add_rows w s m a v)
      (given 7 (s.closed ≡ true) ∷ given 1 (length m ≢ store_size w) ∷ given 2 (1023 < a) ∷ given 3 (length v ≢ value_size) ∷ given 4 (Marked s a) ∷ given 6 (s.clock ≡ ceiling w) ∷ [])
  unfolding add_rows used
  add_tests s m a v =
      (flag 7 s.closed, (differ 1 (length m) (store_size w), (above a, (differ 3 (length v) value_size, (equal 4 ((get_or s.marks (a / 64) 0 / 2 ^ (a % 64)) % 2) 1, (equal 6 s.clock (ceiling w), tt))))))

  remove_tests : (s : State) (m : List ℕ) (a : ℕ) → TestsAll (remove_rows w s m a)
      (given 7 (s.closed ≡ true) ∷ given 1 (length m ≢ store_size w) ∷ given 2 (1023 < a) ∷ given 5 (¬ Marked s a) ∷ [])
  unfolding remove_rows
  remove_tests s m a = (flag 7 s.closed, (differ 1 (length m) (store_size w), (above a, (absent s a, tt))))

  -- load's and store's
  exchange_tests : (s : State) (m : List ℕ) (a : ℕ) (b : List ℕ) → TestsAll (exchange_rows w s m a b)
      (given 7 (s.closed ≡ true) ∷ given 1 (length m ≢ store_size w) ∷ given 2 (1023 < a) ∷ given 3 (length b ≢ value_size) ∷ given 5 (¬ Marked s a) ∷ given 6 (s.clock ≡ ceiling w) ∷ [])
  unfolding exchange_rows
  exchange_tests s m a b =
      (flag 7 s.closed, (differ 1 (length m) (store_size w), (above a, (differ 3 (length b) value_size, (absent s a, (equal 6 s.clock (ceiling w), tt))))))

  pub table : Table (28 + w) ((28 + w) * 1024) (256 ^ w - 1) (calls w tag)
  unfolding addresses value_size cell_size store_size ceiling key_size words empty_hash sealed fresh no_state start_of added loaded stored removed add_of load_of store_of remove_of value_at
  table = record {
    start = λ k. first_of (start_rows k) (given 8 (length k ≢ key_size) ∷ []) (start_tests k);
    start_state = λ k e. done_zero (first (start_rows k)) (fresh (sealed k) false) no_state e;
    start_refused = λ k h. done_other (first (start_rows k)) (fresh (sealed k) false) no_state h;
    add = λ s m a v. answers (add_rows w s m a v) _ s m [] (added w tag s m a v) (add_tests s m a v) refl;
    load = λ s m a o. answers (exchange_rows w s m a o) _ s m o (loaded w tag s m a) (exchange_tests s m a o) refl;
    store = λ s m a v. answers (exchange_rows w s m a v) _ s m [] (stored w tag s m a v) (exchange_tests s m a v) refl;
    remove = λ s m a. answers (remove_rows w s m a) _ s m [] (removed w tag s m a) (remove_tests s m a) refl;
    check = check_answers;
    check_says = check_says;
    look = λ m a l h. look_done w m a (look_first m a l h);
    look_size = λ m a l h. ap length (look_done w m a (look_first m a l h)).0 ∙ value_length w m a h l;
    look_refused = λ m a h. look_refused w m a (look_other m a h);
  }
