-- Closed examples compute; where the buffer, the member or the serial is free, the calls' laws leave what computes. Assumes nothing.
use mathlib.Core.Path.{◌≡◌, refl, sym, ap, ◌∙◌}
use mathlib.Core.List.{[], ◌∷◌, ◌++◌}
use Prim.Native.Nat.{ℕ, ◌^◌, ◌<◌, ◌≤◌}
use native.Mathlib.Omega.{arith}
use lib.ListN.{take, replicate}
use borrow.Author.Tests.{ne_eqb, le-leb}
use Rattle.octets.specs.Layout.{total, join, split, octets, number, bytes}
use Rattle.octets.proofs.Layouts.{fit_test}
use Rattle.refusal.specs.Refusal.{Filled, filled, first}
use Rattle.filter.specs.Filter.{top_of, FieldsFit, parts_in, spare_in, filter_in, bytes_of, set_past, filter_rows, unpack_rows, pack_of, unpack_of}
use Rattle.filter.specs.declared.Family.{Family}
use Rattle.filter.specs.declared.Action.{Action}
use Rattle.promises.specs.Filters.{permit, unequal, ExampleUnequal, ExampleHost, Example6, Example7, Example8, Example9, Example10, deny11, Example11, zeros, ZerosLawful}
use Rattle.filter.proofs.Numbers.{within_top}
use Rattle.filter.proofs.Calls.{pack_refused, pack_done}
use Rattle.filter.proofs.Fields.{head_whole, words, written}

pub example_6 : Example6 pack_of unpack_of
unfolding total join split number bytes parts_in bytes_of filter_in spare_in set_past filter_rows unpack_rows unpack_of
example_6 = ((λ out l. sym (pack_done (permit 0 24 24 64496) out l refl)), refl)

pub example_unequal : ExampleUnequal pack_of unpack_of
unfolding total join split number bytes parts_in bytes_of filter_in spare_in set_past filter_rows unpack_rows unpack_of
example_unequal = ((λ out l. sym (pack_done unequal out l refl)), refl)

pub example_host : ExampleHost pack_of unpack_of
unfolding total join split number bytes parts_in bytes_of filter_in spare_in set_past filter_rows unpack_rows unpack_of
example_host = ((λ out l. sym (pack_done (permit 1 32 32 64496) out l refl)), refl)

pub example_7 : Example7 unpack_of
unfolding total join split number bytes parts_in bytes_of filter_in spare_in set_past filter_rows unpack_rows unpack_of
example_7 = refl

pub example_8 : Example8 pack_of unpack_of
unfolding total join split number bytes parts_in bytes_of filter_in spare_in set_past filter_rows unpack_rows unpack_of
example_8 = (
  ((λ out l. sym (pack_refused (permit 0 33 33 64496) out 13 l refl (λ x. omega arith))), refl),
  ((λ out l. sym (pack_refused (permit 0 25 24 64496) out 13 l refl (λ x. omega arith))), refl),
)

pub example_9 : Example9 pack_of unpack_of
unfolding total join split number bytes parts_in bytes_of filter_in spare_in set_past filter_rows unpack_rows unpack_of
example_9 = ((λ out l. sym (pack_refused (permit 1 24 24 64496) out 14 l refl (λ x. omega arith))), refl)

pub example_10 : Example10 pack_of unpack_of
unfolding total join split number bytes parts_in bytes_of filter_in spare_in set_past filter_rows unpack_rows unpack_of
example_10 = ((λ out l. sym (pack_refused (permit 0 24 24 0) out 15 l refl (λ x. omega arith))), refl)

fits_11 : (a s : ℕ) → a < 2 ^ 32 → s < 2 ^ 32 → FieldsFit (deny11 a s)
fits_11 a s h g = record { length = omega arith; longest = omega arith; member = h; serial = g; prefix = fit_test (octets 16) (replicate 15 0 ++ (1 ∷ [])) tt }

rows_11 : (a s : ℕ) → 0 < a → first (filter_rows (deny11 a s)) ≡ 0
unfolding filter_rows set_past number join total
rows_11 a s h = simp (ne_eqb a 0 (λ e. omega arith))

pub example_11 : Example11 pack_of
example_11 a s p h g out l =
    let e : pack_of (deny11 a s) out ≡ filled 0 (bytes_of (deny11 a s)) = sym (pack_done (deny11 a s) out l (rows_11 a s p)) in
    (ap (λ (x : Filled). x.number) e, ap (λ (x : Filled). take 4 x.out) e ∙ ap (take 4) (sym begins))
  where
    head : ℕ
    head = 0xA0200000

    begins : words head a s ++ (deny11 a s).prefix ≡ bytes_of (deny11 a s)
    begins = written (deny11 a s) (fits_11 a s h g) head (omega arith) (sym (head_whole 1 0 128 128 0))

zeros_rows : (f : Family) (x : Action) (l a : ℕ) → l ≤ top_of f → 0 < a → first (filter_rows (zeros f x l a)) ≡ 0
unfolding filter_rows set_past number join total
zeros_rows f x l a h p = simp (le-leb 0 l (omega arith), le-leb l (top_of f) h, ne_eqb a 0 (λ e. omega arith))

pub zeros_lawful : ZerosLawful pack_of
zeros_lawful f x l a h p out e = sym (ap (λ (x : Filled). x.number) (pack_done (zeros f x l a) out e (zeros_rows f x l a (within_top f l h) p)))
