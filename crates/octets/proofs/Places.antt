-- A table's places are its function's values, and a list filled from the front has the new values before what is left of the old:
-- by induction on the number of places. Assumes nothing.
use mathlib.Core.Path.{◌≡◌, refl, sym, ap, subst, ◌∙◌}
use mathlib.Core.List.{List, [], ◌∷◌, ◌++◌, append-nil}
use mathlib.Core.Logic.{⊎_elim}
use Prim.Native.Nat.{ℕ, zero, suc, ◌+◌, ◌<◌, ◌≤◌}
use native.Mathlib.Nat.{eq-or-lt_of_le, le_of_suc-le-suc, not-suc-le-zero}
use native.Mathlib.Numerals.{add-one}
use native.Mathlib.Omega.{arith}
use lib.Bits.{bit_xor}
use lib.ListN.{length, get_or, set, drop, length-append, drop_of_length-le, get_or-append}
use lib.Seq.{drop-cons, set_at, get_or_at, ext_get_or, append_snoc}
use denote.Param.Members.{Mut}
use Rattle.std.specs.Iterator.{ActsAs}
use Rattle.std.specs.Array.{IsFromFnResult, IsFromFnResultFrom}
use Rattle.octets.specs.Places.{tabulate, xor}

-- a list filled up to n, written at n
pub fill_next : (p d : List ℕ) (n x : ℕ) → length p ≡ n → n < length d → set (p ++ drop n d) n x ≡ p ++ (x ∷ []) ++ drop (n + 1) d
fill_next p d n x e h = rw (drop-cons d n 0, add-one) (set_at p (get_or d n 0) (drop (suc n) d) x n e ∙ sym (append_snoc p x (drop (suc n) d)))

-- a list filled to its end
pub fill_end : (p d : List ℕ) (n : ℕ) → length d ≤ n → p ++ drop n d ≡ p
fill_end p d n h = rw (drop_of_length-le d h) (append-nil p)

pub tabulate_length : (f : ℕ → ℕ) (n : ℕ) → length (tabulate f n) ≡ n
unfolding tabulate
tabulate_length f zero = refl
tabulate_length f (suc n) = rw (length-append, add-one) (ap suc (tabulate_length f n))

pub tabulate_more : (f : ℕ → ℕ) (n : ℕ) → tabulate f (n + 1) ≡ tabulate f n ++ (f n ∷ [])
unfolding tabulate
tabulate_more f n = rw add-one

pub tabulate_get_d : (f : ℕ → ℕ) (n i : ℕ) → i < n → get_or (tabulate f n) i 0 ≡ f i
unfolding tabulate
tabulate_get_d f zero i h = absurd (not-suc-le-zero h)
tabulate_get_d f (suc n) i h =
    ⊎_elim (λ e. rw e (get_or_at (tabulate f n) (f n) [] 0 n (tabulate_length f n)))
    (λ l. get_or-append (tabulate f n) (f n ∷ []) 0 i (rw tabulate_length l) ∙ tabulate_get_d f n i l)
    (eq-or-lt_of_le (le_of_suc-le-suc h))

-- a list of n places is the table that has its places
pub tabulate_is : (f : ℕ → ℕ) (n : ℕ) (xs : List ℕ) → length xs ≡ n → ((i : ℕ) → i < n → f i ≡ get_or xs i 0) → tabulate f n ≡ xs
tabulate_is f n xs e h =
    ext_get_or 0 (tabulate f n) xs (tabulate_length f n ∙ sym e) (λ i l. let k : i < n = rw tabulate_length at l in tabulate_get_d f n i k ∙ h i k)

pub tabulate_own : (xs : List ℕ) (n : ℕ) → length xs ≡ n → tabulate (λ i. get_or xs i 0) n ≡ xs
tabulate_own xs n e = tabulate_is (λ i. get_or xs i 0) n xs e (λ i l. refl)

pub tabulate_ext : (f g : ℕ → ℕ) (n : ℕ) → ((i : ℕ) → i < n → f i ≡ g i) → tabulate f n ≡ tabulate g n
tabulate_ext f g n h = tabulate_is f n (tabulate g n) (tabulate_length g n) (λ i l. h i l ∙ sym (tabulate_get_d g n i l))

-- a turn of a loop that fills d with the table of f
pub fill_step : (f : ℕ → ℕ) (n : ℕ) (d : List ℕ) → n < length d → set (tabulate f n ++ drop n d) n (f n) ≡ tabulate f (n + 1) ++ drop (n + 1) d
fill_step f n d h = rw tabulate_more (fill_next (tabulate f n) d n (f n) (tabulate_length f n) h)

-- an array made place by place by a closure that acts as f is f's table
module _ {F : Type 0} (g : Mut F (ℕ × Unit {0}) ℕ) (f : ℕ → ℕ) (e : F) (acts : ActsAs g e f) (ys : List ℕ) where
  from_fn_place : (n i k : ℕ) → IsFromFnResultFrom g e ys i n → i ≤ k → k < i + n → get_or ys k 0 ≡ f k
  from_fn_place zero i k r l h = absurd (omega arith)
  from_fn_place (suc n) i k r l h =
      let c = acts i r.1 r.0 r.3 in
      ⊎_elim (λ p. subst (λ (j : ℕ). get_or ys j 0 ≡ f j) p (r.2.1 0 ∙ c.1))
      (λ m. from_fn_place n (i + 1) k (subst (λ (q : F). IsFromFnResultFrom g q ys (i + 1) n) c.0 r.4) (omega arith) (omega arith))
      (eq-or-lt_of_le l)

  pub from_fn_table : (n : ℕ) → IsFromFnResult g e ys n → ys ≡ tabulate f n
  from_fn_table n r = sym (tabulate_is f n ys r.long (λ i l. sym (from_fn_place n 0 i r.each (omega arith) (omega arith))))

pub xor_length : (xs ys : List ℕ) → length xs ≡ length ys → length (xor xs ys) ≡ length xs
unfolding xor
xor_length [] ys e = refl
xor_length (x ∷ xs) [] e = sym e
xor_length (x ∷ xs) (y ∷ ys) e = ap suc (xor_length xs ys (omega arith))

pub xor_get_d : (xs ys : List ℕ) (i : ℕ) → length xs ≡ length ys → i < length xs → get_or (xor xs ys) i 0 ≡ bit_xor (get_or xs i 0) (get_or ys i 0)
unfolding xor
xor_get_d [] ys i e h = absurd (not-suc-le-zero h)
xor_get_d (x ∷ xs) [] i e h = absurd (let z : ⊥ = omega arith in z)
xor_get_d (x ∷ xs) (y ∷ ys) zero e h = refl
xor_get_d (x ∷ xs) (y ∷ ys) (suc i) e h = xor_get_d xs ys i (omega arith) (le_of_suc-le-suc h)

-- the table that a loop makes of two lists' exclusive-or
pub tabulate_xor : (xs ys : List ℕ) (n : ℕ) → length xs ≡ n → length ys ≡ n → tabulate (λ i. bit_xor (get_or xs i 0) (get_or ys i 0)) n ≡ xor xs ys
tabulate_xor xs ys n e d =
    tabulate_is (λ i. bit_xor (get_or xs i 0) (get_or ys i 0)) n (xor xs ys) (xor_length xs ys (e ∙ sym d) ∙ e) (λ i l. sym (xor_get_d xs ys i (e ∙ sym d) (rw e l)))
