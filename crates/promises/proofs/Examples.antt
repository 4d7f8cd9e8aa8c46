-- The examples of the calls compute once the rows that an example fixes are known, and follow from the table and from what each call does; the others are
-- proved where their definitions stand. Assumes nothing.
use borrow.Author.Tests.{eq-eqb, ne_eqb, lt-ltb}
use mathlib.Core.Path.{◌≡◌, refl, sym, ap, ◌∙◌}
use mathlib.Core.Bool.{false, cond, true≢false}
use mathlib.Core.List.{List, [], ◌∷◌, ◌++◌, append-nil}
use mathlib.Core.Option.{some}
use mathlib.Core.Logic.{⊎_elim}
use Prim.Native.Nat.{ℕ, ◌+◌, ◌<◌}
use native.Mathlib.Omega.{arith}
use lib.Dec.{eqb}
use lib.ListN.{length, take, drop, replicate}
use lib.Seq.{drop-length}
use Rattle.octets.specs.Layout.{total, split, number, bytes}
use Rattle.refusal.specs.Refusal.{first}
use Rattle.state.specs.Sizes.{width, addresses, value_size, cell_size, store_size, ceiling}
use Rattle.state.specs.Marks.{used, used_below, in_use, count_below, count_of, first_from, lowest_free}
use Rattle.state.specs.Cells.{stamp_at, entry_at, write_cell, write_entry}
use Rattle.state.specs.Multiset.{message}
use Rattle.state.specs.Start.{sealed}
use Rattle.state.specs.TakePut.{Outcome, next, with_marks, take_entry, put_entry}
use Rattle.state.specs.Access.{add_rows, exchange_rows, remove_rows, look_rows, call, added, add_of, load_of, store_of, remove_of, look_of, lowest_of, free_number}
use Rattle.state.specs.Check.{check_rows, taken, take_all}
use Rattle.state.specs.Table.{Marked}
use Rattle.state.specs.Effects.{Typed, Rejected}
use Rattle.state.specs.declared.State.{State}
use Rattle.state.specs.declared.Verdict.TheVariants.{Stamp}
use Rattle.state.proofs.Multiset.{pairs}
use Rattle.state.proofs.Ready.{call_done, call_refused, add_ready}
use Rattle.state.proofs.Joins.{taken_each}
use Rattle.state.proofs.Guards.{says_stamp}
use Rattle.state.proofs.Effects.{done_is, effects}
use Rattle.run.specs.Calls.{outcome_of}
use Rattle.run.proofs.Exact.{check_number}
use Rattle.entries.specs.Tag.{tag, tag_of}
use Rattle.hmac.proofs.Answers.{hmac_length}
use Rattle.promises.specs.Library.{library}
use Rattle.promises.specs.Examples.{Sized, Example1, Example2, Example3, Example4, Example5, Example12, Example13, Example14, ExampleMarked, ExampleFound, marking, Examples}
use Rattle.promises.proofs.Filters.{example_6, example_7, example_8, example_9, example_10, example_11, example_unequal, example_host}
use Rattle.promises.proofs.Serials.{example_round, example_half, example_equal, example_other}

example_3 : Example3 tag
unfolding message bytes split total sealed tag_of
example_3 key = refl

example_12 : Example12 library
unfolding count_of count_below used lowest_of lowest_free first_from addresses
example_12 = (refl, refl)

example_13 : Example13 library
unfolding count_of count_below used lowest_of lowest_free first_from addresses free_number
example_13 = (refl, refl, refl)

example_14 : Example14 tag
unfolding tag_of
example_14 seal x y = pairs (tag seal) (λ e. hmac_length seal.key (message width e)) x y

-- what an add that is done writes
add_stores : (s : State) (m : List ℕ) (a : ℕ) (v : List ℕ) → (add_of width tag s m a v).seen.number ≡ 0
    → ((add_of width tag s m a v).seen.store ≡ write_cell width m a v (s.clock + 1)) × (length m ≡ store_size width)
unfolding add_of added write_entry next
add_stores s m a v e =
    let d = done_is (add_rows width s m a v) s m [] (added width tag s m a v) e in
    (ap (λ (r : Outcome). r.seen.store) d.1, (add_ready width s m a v d.0).0.size)

example_1 : Example1 library
unfolding write_cell cell_size value_size
example_1 s m v e = (add_stores s m 0 v e).0

last_cell : (m v : List ℕ) (t : ℕ) → length m ≡ 30720 → write_cell width m 1023 v t ≡ take 30690 m ++ (v ++ bytes 2 t)
unfolding write_cell cell_size value_size
last_cell m v t l =
    ap (λ k. take 30690 m ++ ((v ++ bytes 2 t) ++ k)) (ap (λ n. drop n m) (sym l) ∙ drop-length m) ∙ ap (λ k. take 30690 m ++ k) (append-nil (v ++ bytes 2 t))

example_2 : Example2 library
unfolding store_size addresses cell_size value_size
example_2 s m v e = let d = add_stores s m 1023 v e in d.0 ∙ last_cell m v (s.clock + 1) d.1

example_4 : Example4 library
unfolding add_of load_of store_of remove_of look_of call add_rows exchange_rows remove_rows look_rows store_size addresses cell_size value_size
example_4 s m v z =
    let l = eq-eqb (length m) 30720 z.store in
    (simp (z.unclosed, l), simp (z.unclosed, l), simp (z.unclosed, l), simp (z.unclosed, l), simp l)

rows_at : (s : State) (m v : List ℕ) (a c : ℕ) → Sized s m v → a < 1024 → ¬ Marked s a → s.clock ≡ c → first (add_rows width s m a v) ≡ cond (eqb c 65535) 6 0
unfolding add_rows used store_size addresses cell_size value_size ceiling
rows_at s m v a c z h u e = simp (z.unclosed, eq-eqb (length m) 30720 z.store, lt-ltb a 1024 h, eq-eqb (length v) 28 z.value, ne_eqb _ 1 u, e)

example_5 : Example5 library
unfolding add_of added next with_marks put_entry
example_5 s m v a z h u = (
  (λ e.
      let d = call_done (add_rows width s m a v) s m [] (added width tag s m a v) (rows_at s m v a 65534 z h u e) in
      (ap (λ (r : Outcome). r.seen.number) d, ap (λ (r : Outcome). r.seen.state.clock) d ∙ omega (arith, e))),
  (λ e.
      let f = rows_at s m v a 65535 z h u e in
      ap (λ (r : Outcome). r.seen.number) (call_refused (add_rows width s m a v) s m [] (added width tag s m a v) (λ q. let y : 6 ≡ 0 = sym f ∙ q in absurd (omega arith))) ∙ f),
)

check_first : (s : State) (m : List ℕ) → s.closed ≡ false → length m ≡ 30720 → first (check_rows width s m) ≡ 0
unfolding check_rows store_size cell_size value_size addresses
check_first s m c l = rw (c, eq-eqb (length m) 30720 l)

example_marked : ExampleMarked library
unfolding take_all
example_marked s m c l f =
    (says_stamp width tag s m (check_first s m c l) s.first).1
    (⊎_elim (λ k. (k.0, ⊎_elim (λ q. q.1) (λ q. absurd (true≢false (sym f ∙ q.0))) k.1)) (λ k. absurd (true≢false (sym f ∙ k.1.0))) (taken_each tag (taken width s.marks m) s).fault)

-- a check that names an address leaves the state as it was, but closed
named_left : (s : State) (m : List ℕ) (a : ℕ) → Typed s → first (check_rows width s m) ≡ 0 → (library.store.check s m).verdict ≡ some (Stamp a) → Rejected s m (library.store.check s m)
unfolding outcome_of
named_left s m a y e v =
    ⊎_elim (λ k. let w = sym k.0 ∙ v in let z : ◌≡◌ {A = ℕ} 0 1 = cc in absurd (omega arith)) (λ k. k.2) ((effects width tag).check s m y (check_number width tag s m e))

example_found : ExampleFound library
unfolding take_all taken in_use used_below used addresses entry_at stamp_at cell_size value_size take_entry
example_found m l h =
    let s = marking (4 ∷ replicate 15 0) in
    let e = check_first s m refl l in
    let late = lt-ltb 0 (number (take 2 (drop 88 m))) h in
    let v = (says_stamp width tag s m e 2).1 (rw late, rw late) in
    let r = named_left s m 2 (record { puts = omega arith; takes = omega arith; words = refl }) e v in
    (v, r.fault, r.first, r.closed)

pub examples : Examples tag library
examples = record {
  cell_0 = example_1;
  cell_1023 = example_2;
  message_5 = example_3;
  address_1024 = example_4;
  last_clocks = example_5;
  permit_24 = example_6;
  spare_bit = example_7;
  lengths = example_8;
  past_prefix = example_9;
  member_0 = example_10;
  deny_128 = example_11;
  marks_64 = example_12;
  marks_all = example_13;
  twins = example_14;
  unequal_lengths = example_unequal;
  host = example_host;
  fault_marked = example_marked;
  fault_found = example_found;
  round = example_round;
  half = example_half;
  equal = example_equal;
  other_member = example_other;
}
