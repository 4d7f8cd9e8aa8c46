-- A number below 2^32 read as a signed one: itself below 2^31, and else 2^32 less. Assumes nothing.
use Rattle.std.proofs.Common.{◌≡◌, ℕ, suc, ◌+◌, ◌-◌, ◌^◌, ◌<◌, ◌≤◌, Bool, true, false, cond, ltb, ◌↔◌, ℤ, pos, negsuc, ◌-ℤ◌, nat_abs, ◌<ℤ◌, sym, refl, ap, ◌∙◌, subst, arith, ltb→lt, lt→ltb, ltb-false, ltb-true, le-ltb, lt-ltb, eq-eqb, ne_eqb, Some, None, w32, to_z}
use Rattle.std.proofs.lemmas.Int.{ints}
use lib.Signed.{lt_z_yes}
use Rattle.serials.specs.Distance.{wrapped, signed_of, distance_of}

pub signed_low : (up : ℕ) → up < 2 ^ 31 → signed_of up ≡ pos up
unfolding signed_of
signed_low up l = ap (λ t. cond t (pos up) (pos up -ℤ pos (2 ^ 32))) (lt-ltb up (2 ^ 31) l)

pub signed_high : (up : ℕ) → 2 ^ 31 ≤ up → signed_of up ≡ pos up -ℤ pos (2 ^ 32)
unfolding signed_of
signed_high up l = ap (λ t. cond t (pos up) (pos up -ℤ pos (2 ^ 32))) (le-ltb up (2 ^ 31) l)

pub signed_below : (up n : ℕ) → 2 ^ 31 ≤ up → up + suc n ≡ 2 ^ 32 → signed_of up ≡ negsuc n
signed_below up n l e = signed_high up l ∙ omega (arith, ints, e)

-- as the bits of an `i32` are read
pub signed : (up : ℕ) → up < 2 ^ 32 → to_z w32 up ≡ signed_of up
unfolding signed_of
signed up b = ap (cond (ltb up (2 ^ 31)) (pos up)) (omega (arith, ints, b))

-- ---- u, read as a signed number, is d, and that is no less than 1 - 2^31

abbrev pub Reads : ℕ → ℤ → Type 0
Reads u (pos n) = (n < 2 ^ 31) × (u ≡ n)
Reads u (negsuc n) = (suc n < 2 ^ 31) × (u + suc n ≡ 2 ^ 32)

pub read : (u : ℕ) → u < 2 ^ 32 → (u ≡ 2 ^ 31 → ⊥) → Reads u (signed_of u)
read u b n = go (ltb u (2 ^ 31)) refl
  where
    go : (t : Bool) → ltb u (2 ^ 31) ≡ t → Reads u (signed_of u)
    go true f = subst (Reads u) (sym (signed_low u (ltb-true u (2 ^ 31) f))) (ltb-true u (2 ^ 31) f, refl)
    go false f =
        let l = ltb-false u (2 ^ 31) f in
        subst (Reads u) (sym (signed_below u (4294967295 - u) l (omega arith))) (omega (arith, b, l, n), omega arith)

pub reads_is : (u : ℕ) (d : ℤ) → Reads u d → signed_of u ≡ d
reads_is u (pos n) r = signed_low u (omega (arith, r.0, r.1)) ∙ ap pos r.1
reads_is u (negsuc n) r = signed_below u n (omega (arith, r.0, r.1)) r.1

-- its sign
module _ (u : ℕ) where
  pub reads_off : (d : ℤ) → Reads u d → u ≡ 2 ^ 31 → ⊥
  reads_off (pos n) r e = omega (arith, r.0, r.1)
  reads_off (negsuc n) r e = omega (arith, r.0, r.1)

  pub reads_back : (d : ℤ) → Reads u d → (d <ℤ pos 0) ↔ (2 ^ 31 < u)
  reads_back (pos n) r = ((λ b. omega (arith, ltb→lt n 0 b.lt)), (λ l. absurd (omega (arith, r.0, r.1))))
  reads_back (negsuc n) r = ((λ b. omega (arith, r.0, r.1)), (λ l. lt_z_yes tt))

  pub reads_equal : (d : ℤ) → Reads u d → (d ≡ pos 0) ↔ (u ≡ 0)
  reads_equal (pos n) r = ((λ e. omega (arith, ints, r.1, e)), (λ e. ap pos (sym r.1 ∙ e)))
  reads_equal (negsuc n) r = ((λ e. omega (arith, ap nat_abs e)), (λ e. absurd (omega (arith, r.0, r.1))))

  pub reads_forward : (d : ℤ) → Reads u d → (pos 0 <ℤ d) ↔ ((0 < u) × (u < 2 ^ 31))
  reads_forward (pos n) r = ((λ f. (omega (arith, r.1, ltb→lt 0 n f.lt), omega (arith, r.0, r.1))), (λ l. lt_z_yes (lt→ltb 0 n (omega (arith, r.1, l.0)))))
  reads_forward (negsuc n) r = ((λ f. absurd f.lt), (λ l. absurd (omega (arith, r.0, r.1, l.1))))

-- ---- what the call gives

pub opposite : (held offered : ℕ) → wrapped held offered ≡ 2 ^ 31 → distance_of held offered ≡ None
unfolding distance_of
opposite held offered e = simp (eq-eqb (wrapped held offered) (2 ^ 31) e)

pub measured : (held offered : ℕ) → (wrapped held offered ≡ 2 ^ 31 → ⊥) → distance_of held offered ≡ Some (signed_of (wrapped held offered))
unfolding distance_of
measured held offered n = simp (ne_eqb (wrapped held offered) (2 ^ 31) n)
