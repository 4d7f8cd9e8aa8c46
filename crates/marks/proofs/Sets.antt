-- The marks as a set of addresses: the count is how many there are, and the lowest free is the smallest that is not among them. Assumes nothing.
use mathlib.Core.Path.{◌≡◌, refl, sym, ap, ◌∙◌, subst}
use mathlib.Core.Bool.{Bool, true, false, cond, not}
use mathlib.Core.List.{List, [], ◌∷◌, ◌++◌}
use mathlib.Core.Logic.{◌⊎◌, inl, inr, ⊎_elim, ◌↔◌}
use Prim.Native.Nat.{ℕ, zero, suc, ◌+◌, ◌-◌, ◌/◌, ◌^◌, ◌≤◌, ◌<◌}
use native.Mathlib.Nat.{eq-or-lt_of_le}
use native.Mathlib.Omega.{arith}
use lib.ListN.{length, get_or, length-append}
use Rattle.std.specs.Prelude.{Ok, Err}
use Rattle.refusal.specs.declared.Refusal.TheVariants.{NoneFree}
use borrow.Author.Tests.{eq-eqb, ne_eqb, not-true, not-false}
use Rattle.state.specs.Sizes.{addresses}
use Rattle.state.specs.Marks.{used, used_below, count_below, first_from, lowest_free}
use Rattle.state.specs.Access.{lowest_of, free_number}
use Rattle.marks.specs.Next.{next_used}
use Rattle.marks.proofs.Words.{complements, used_complements}

-- ---- the count

pub count_length : (ws : List ℕ) (n : ℕ) → count_below n ws ≡ length (used_below ws n)
unfolding count_below used_below
count_length ws zero = refl
count_length ws (suc n) = step (used ws n) (count_length ws n)
  where
    step : (t : Bool) → count_below n ws ≡ length (used_below ws n) → cond t (count_below n ws + 1) (count_below n ws) ≡ length (used_below ws n ++ cond t (n ∷ []) [])
    step true e = rw (length-append, e)
    step false e = rw (length-append, e) (omega arith)

-- ---- the first address that something holds of

-- r is the smallest of the k numbers from a on that p holds of, or a + k
pub record First (p : ℕ → Bool) (k a r : ℕ) : Type 0 where
  pub from : a ≤ r
  pub to : r ≤ a + k
  pub before : (b : ℕ) → a ≤ b → b < r → p b ≡ false
  pub here : r < a + k → p r ≡ true

pub first_only : (p : ℕ → Bool) (k a r : ℕ) → First p k a r → first_from p k a ≡ r
unfolding first_from
first_only p zero a r s = omega (arith, s.from, s.to)
first_only p (suc k) a r s =
    ⊎_elim at
    (λ h.
    rw (s.before a (omega arith) h)
    (first_only p k (suc a) r (record { from = h; to = omega (arith, s.to); before = λ b g l. s.before b (omega arith) l; here = λ g. s.here (omega arith) })))
    (eq-or-lt_of_le s.from)
  where
    at : a ≡ r → cond (p a) a (first_from p k (suc a)) ≡ r
    at e = rw (ap p e ∙ s.here (omega arith)) e

pub first_is : (p : ℕ → Bool) (k a : ℕ) → First p k a (first_from p k a)
unfolding first_from
first_is p zero a = record { from = omega arith; to = omega arith; before = λ b g l. absurd (omega arith); here = λ l. absurd (omega arith) }
first_is p (suc k) a = step (p a) refl (first_is p k (suc a))
  where
    step : (t : Bool) → p a ≡ t → First p k (suc a) (first_from p k (suc a)) → First p (suc k) a (cond t a (first_from p k (suc a)))
    step true e s = record { from = omega arith; to = omega arith; before = λ b g l. absurd (omega arith); here = λ l. e }
    step false e s =
        record {
          from = omega (arith, s.from);
          to = omega (arith, s.to);
          before = λ b g l. ⊎_elim (λ q. ap p (sym q) ∙ e) (λ m. s.before b m l) (eq-or-lt_of_le g);
          here = λ l. s.here (omega arith);
        }

-- ---- the lowest free address is the smallest that is not in use

abbrev pub free : List ℕ → ℕ → Bool
free ws a = not (used ws a)

pub lowest_is : (ws : List ℕ) → First (free ws) addresses 0 (lowest_free ws)
unfolding lowest_free
lowest_is ws = first_is (free ws) addresses 0

pub lowest_only : (ws : List ℕ) (r : ℕ) → First (free ws) addresses 0 r → lowest_free ws ≡ r
unfolding lowest_free
lowest_only ws r f = first_only (free ws) addresses 0 r f

-- a is the smallest address that is not in use
pub record Lowest (ws : List ℕ) (a : ℕ) : Type 0 where
  pub below : a < addresses
  pub free : used ws a ≡ false
  pub before : (b : ℕ) → b < a → used ws b ≡ true

-- every address is in use
abbrev pub AllUsed : List ℕ → Type 0
AllUsed ws = (a : ℕ) → a < addresses → used ws a ≡ true

-- an address where the search ends below the last, and else none
at_below : (ws : List ℕ) → lowest_free ws < addresses → lowest_of ws ≡ Ok (lowest_free ws)
unfolding lowest_of
at_below ws h = rw (ne_eqb (lowest_free ws) addresses (λ e. omega arith))

full_at : (ws : List ℕ) → lowest_free ws ≡ addresses → lowest_of ws ≡ Err NoneFree
unfolding lowest_of
full_at ws e = rw (eq-eqb (lowest_free ws) addresses e)

pub lowest_told : (ws : List ℕ) → (lowest_of ws ≡ Err NoneFree) ⊎ ((a : ℕ) × (lowest_of ws ≡ Ok a))
unfolding addresses
lowest_told ws = ⊎_elim (λ e. inl (full_at ws e)) (λ h. inr (lowest_free ws, at_below ws h)) (eq-or-lt_of_le (lowest_is ws).to)

pub lowest_at : (ws : List ℕ) (a : ℕ) → (lowest_of ws ≡ Ok a) ↔ Lowest ws a
unfolding free_number addresses
lowest_at ws a = (
  (λ e.
      ⊎_elim (λ q. let y : 9 ≡ 0 = ap free_number (sym (full_at ws q) ∙ e) in absurd (omega arith))
      (λ h.
      let q : lowest_free ws ≡ a = let k = sym (at_below ws h) ∙ e in cc in
      record {
        below = omega arith;
        free = not-true (used ws a) (subst (λ r. free ws r ≡ true) q ((lowest_is ws).here h));
        before = λ b l. not-false (used ws b) ((lowest_is ws).before b (omega arith) (omega arith));
      })
      (eq-or-lt_of_le (lowest_is ws).to)),
  (λ l.
      let q = lowest_only ws a (record {
        from = omega arith;
        to = omega (arith, l.below);
        before = λ b g h. ap not (l.before b h);
        here = λ h. ap not l.free;
      }) in
      at_below ws (omega (arith, l.below)) ∙ ap Ok q),
)

pub lowest_full : (ws : List ℕ) → (lowest_of ws ≡ Err NoneFree) ↔ AllUsed ws
unfolding free_number addresses
lowest_full ws = (
  (λ e a h.
      ⊎_elim (λ q. not-false (used ws a) ((lowest_is ws).before a (omega arith) (omega arith)))
      (λ k. let y : 9 ≡ 0 = ap free_number (sym e ∙ at_below ws k) in absurd (omega arith))
      (eq-or-lt_of_le (lowest_is ws).to)),
  (λ u.
      full_at ws (lowest_only ws addresses (record {
        from = omega arith;
        to = omega arith;
        before = λ b g h. ap not (u b h);
        here = λ h. absurd (omega arith);
      }))),
)

-- ---- the next address in use

pub next_only : (ws : List ℕ) (a r : ℕ) → First (used ws) (addresses - a) a r → next_used ws a ≡ r
unfolding next_used
next_only ws a r f = first_only (used ws) (addresses - a) a r f

pub next_is : (ws : List ℕ) (a : ℕ) → First (used ws) (addresses - a) a (next_used ws a)
unfolding next_used
next_is ws a = first_is (used ws) (addresses - a) a

-- ---- the first free address is the first in use by the complements of the words

pub lowest_next : (ws : List ℕ) → ((q : ℕ) → get_or ws q 0 < 2 ^ 64) → next_used (complements ws) 0 ≡ lowest_free ws
unfolding addresses
lowest_next ws w =
    let n = next_is (complements ws) 0 in
    let e : (a : ℕ) → a < 1024 → used (complements ws) a ≡ free ws a = λ a h. used_complements ws a h (w (a / 64)) in
    sym (lowest_only ws _ (record {
      from = n.from;
      to = n.to;
      before = λ b g h. sym (e b (omega (arith, n.to))) ∙ n.before b g h;
      here = λ h. sym (e _ (omega arith)) ∙ n.here h;
    }))
