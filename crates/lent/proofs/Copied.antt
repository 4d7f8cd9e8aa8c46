-- Laws of a copy: what is past the end of a list is nothing. Assumes nothing.
use mathlib.Core.Path.{◌≡◌, refl, sym, ap, ap₂, ◌∙◌}
use mathlib.Core.List.{List, [], ◌∷◌, ◌++◌, append-nil}
use Prim.Native.Nat.{ℕ, zero, suc, ◌+◌, ◌≤◌, ◌<◌}
use native.Mathlib.Omega.{arith}
use native.Mathlib.Numerals.{add-one}
use lib.ListN.{length, get_or, set, take, drop}
use lib.Seq.{take_all, take-length, take-suc, drop-length, drop-cons, length-take-le, set_at, append_snoc}
use Rattle.lent.specs.Lent.{copied}

drop_all : (n : ℕ) (l : List ℕ) → length l ≤ n → drop n l ≡ []
drop_all zero [] h = refl
drop_all zero (x ∷ l) h = absurd (omega arith)
drop_all (suc n) [] h = refl
drop_all (suc n) (x ∷ l) h = drop_all n l (omega arith)

-- one byte more
pub copied_more : (to from l : List ℕ) (i : ℕ) → i < length to → i < length from → l ≡ take i from ++ drop i to
    → set l i (get_or from i 0) ≡ take (i + 1) from ++ drop (i + 1) to
copied_more to from l i h g e =
    ap (λ k. set k i (get_or from i 0)) (e ∙ ap (λ k. take i from ++ k) (drop-cons to i 0 h))
    ∙ set_at (take i from) (get_or to i 0) (drop (suc i) to) (get_or from i 0) i (length-take-le i from (omega arith))
    ∙ sym (append_snoc (take i from) (get_or from i 0) (drop (suc i) to))
    ∙ rw (add-one, take-suc from i 0 g)

-- a copy that has reached the end of `to`, and one that has reached the end of `from`
pub copied_full : (to from : List ℕ) (n : ℕ) → n ≡ length to → length to ≤ length from → take n from ++ drop n to ≡ copied to from
unfolding copied
copied_full to from n e h = rw e (ap (λ l. take (length to) from ++ l) (drop-length to ∙ sym (drop_all (length from) to h)))

pub copied_short : (to from : List ℕ) (n : ℕ) → n ≡ length from → length from ≤ length to → take n from ++ drop n to ≡ copied to from
unfolding copied
copied_short to from n e h = rw e (ap (λ l. l ++ drop (length from) to) (take-length from ∙ sym (take_all (length to) from h)))

-- a copy between slices of one length gives the bytes copied
pub copied_all : (to from : List ℕ) → length to ≡ length from → copied to from ≡ from
unfolding copied
copied_all to from e = ap₂ (λ (k l : List ℕ). k ++ l) (take_all (length to) from (omega arith)) (drop_all (length from) to (omega arith)) ∙ append-nil from
