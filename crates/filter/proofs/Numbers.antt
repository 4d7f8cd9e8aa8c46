-- Each row tests its condition of the table, and what a refusal gives is written in the calls' definitions. Assumes nothing.
use mathlib.Core.Path.{◌≡◌, refl}
use mathlib.Core.Bool.{not, ◌&&◌, false≢true}
use mathlib.Core.List.{List, ◌∷◌}
use mathlib.Core.Logic.{◌≢◌}
use Prim.Native.Nat.{ℕ, ◌≤◌}
use lib.Dec.{leb}
use lib.ListN.{length}
use borrow.Author.Tests.{le-leb}
use Rattle.refusal.specs.Refusal.{when, first}
use Rattle.refusal.specs.Cases.{given}
use Rattle.refusal.proofs.Cases.{Tests, TestsAll, equal, differ, first_of}
use Rattle.refusal.proofs.Passed.{done_other}
use Rattle.filter.specs.Filter.{top_of, spare_in, filter_in, bytes_of, set_past, filter_rows, pack_rows, unpack_rows, pack_of, unpack_of, zero_filter}
use Rattle.filter.specs.Promises.{Within, Ordered, Clear, unlawful, Numbers}
use Rattle.filter.specs.declared.Family.{Family}
use Rattle.filter.specs.declared.Family.TheVariants.{Ipv4, Ipv6}
use Rattle.filter.specs.declared.FilterRecord.{FilterRecord}
use Rattle.filter.proofs.Past.{past_bits, bits_past}
use Rattle.filter.proofs.Lawful.{both_lengths}
use Rattle.filter.proofs.Trips.{prefix_length, filter_in_fit}

pub within_top : (f : Family) (n : ℕ) → Within f n → n ≤ top_of f
within_top Ipv4 n h = h
within_top Ipv6 n h = h

top_within : (f : Family) (n : ℕ) → n ≤ top_of f → Within f n
top_within Ipv4 n h = h
top_within Ipv6 n h = h

ordered : (r : FilterRecord) → Tests (when 13 (not (leb r.length r.longest && leb r.longest (top_of r.family)))) (given 13 (¬ Ordered r))
ordered r = record {
  number = refl;
  yes = λ e h. false≢true (let z = le-leb _ _ h.0 in let y = le-leb _ _ (within_top r.family r.longest h.1) in rw (z, y) at e);
  no = λ e h. let b = both_lengths r e in h (b.0, top_within r.family r.longest b.1);
}

module _ (r : FilterRecord) (n : length r.prefix ≡ 16) where
  clear : Tests (when 14 (set_past r.prefix r.length)) (given 14 (¬ Clear r))
  clear = record {
    number = refl;
    yes = λ e h. false≢true (rw (bits_past r.prefix r.length n h) at e);
    no = λ e h. h (past_bits r.prefix r.length n e);
  }

  filter_tests : TestsAll (filter_rows r) (unlawful r)
  unfolding filter_rows
  filter_tests = (ordered r, (clear, (equal 15 r.member 0, tt)))

pack_tests : (r : FilterRecord) (out : List ℕ) → length r.prefix ≡ 16 → TestsAll (pack_rows r out) (given 11 (length out ≢ 28) ∷ unlawful r)
unfolding pack_rows
pack_tests r out n = (differ 11 (length out) 28, filter_tests r n)

unpack_tests : (bs : List ℕ) → TestsAll (unpack_rows bs) (given 11 (length bs ≢ 28) ∷ given 12 (spare_in bs ≢ 0) ∷ unlawful (filter_in bs))
unfolding unpack_rows
unpack_tests bs = (differ 11 (length bs) 28, (differ 12 (spare_in bs) 0, filter_tests (filter_in bs) (prefix_length (filter_in_fit bs))))

pub numbers : Numbers pack_of unpack_of
unfolding pack_of unpack_of
numbers = record {
  pack = λ r out k. first_of (pack_rows r out) (given 11 (length out ≢ 28) ∷ unlawful r) (pack_tests r out (prefix_length k));
  pack_unchanged = λ r out h. done_other (first (pack_rows r out)) (bytes_of r) out h;
  unpack = λ bs. first_of (unpack_rows bs) (given 11 (length bs ≢ 28) ∷ given 12 (spare_in bs ≢ 0) ∷ unlawful (filter_in bs)) (unpack_tests bs);
  unpack_zeros = λ bs h. done_other (first (unpack_rows bs)) (filter_in bs) zero_filter h;
}
