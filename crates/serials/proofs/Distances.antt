-- What is claimed of the distance, by the wrapped difference. Assumes nothing.
use Rattle.std.proofs.Common.{◌≡◌, ℕ, zero, suc, ◌+◌, ◌^◌, ◌<◌, Bool, true, false, eqb, ltb, ◌≢◌, ◌↔◌, ℤ, pos, negsuc, ◌-ℤ◌, neg_ℤ, sym, refl, ap, ◌∙◌, subst, arith, ltb-false, ltb-true, eqb-true, Some}
use mathlib.Core.Logic.Iff
use mathlib.Core.Logic.{⊎_swap}
use Rattle.std.proofs.lemmas.Option.{none-some, same_Some}
use Rattle.std.proofs.lemmas.Int.{ints}
use borrow.Author.Tests.{eqb-false}
use Rattle.serials.specs.Order.{Less, Greater}
use Rattle.serials.specs.Distance.{IsDistance, wrapped, signed_of, distance_of}
use Rattle.serials.specs.Claims.{Rfc1982, Measures, Exact}
use Rattle.serials.proofs.Sign.{Reads, read, reads_is, reads_off, reads_back, reads_equal, reads_forward, signed_low, signed_high, opposite, measured}
use Rattle.serials.proofs.Up.{ByUp, by_up}

-- ---- by the wrapped difference u

module _ {held offered u : ℕ} (a : ByUp held offered u) where
  found : (u ≡ 2 ^ 31 → ⊥) → IsDistance held offered (signed_of u)
  found n = (a.distance (signed_of u)).1 (read u a.below n)

  no_order : (held ≢ offered) → (Less held offered → ⊥) → (Less offered held → ⊥) → u ≡ 2 ^ 31
  no_order p q r = go (ltb 0 u) (ltb u (2 ^ 31)) (ltb (2 ^ 31) u) refl refl refl
    where
      go : (x y z : Bool) → ltb 0 u ≡ x → ltb u (2 ^ 31) ≡ y → ltb (2 ^ 31) u ≡ z → u ≡ 2 ^ 31
      go false y z e f g = absurd (p (a.equal.1 (omega (arith, ltb-false 0 u e))))
      go true true z e f g = absurd (q (a.less.1 (ltb-true 0 u e, ltb-true u (2 ^ 31) f)))
      go true false true e f g = absurd (r (a.more.1 (ltb-true (2 ^ 31) u g)))
      go true false false e f g = omega (arith, ltb-false u (2 ^ 31) f, ltb-false (2 ^ 31) u g)

  -- less than 2^31 apart as plain numbers
  difference : held < offered + 2 ^ 31 → offered < held + 2 ^ 31 → signed_of u ≡ pos offered -ℤ pos held
  difference p q =
      a.turn (λ l t. signed_low u (omega arith) ∙ omega (arith, ints, t)) (λ l t. signed_high u (omega arith) ∙ omega (arith, ints, t))

  not_half : held < offered + 2 ^ 31 → offered < held + 2 ^ 31 → u ≡ 2 ^ 31 → ⊥
  not_half p q e = a.turn (λ l t. omega arith) (λ l t. omega arith)

  -- held and offered exchanged: v is 2^32 - u, or both are 0
  module _ {v : ℕ} (b : ByUp offered held v) where
    short : (n : ℕ) → suc n < 2 ^ 31 → (u ≡ suc n) ↔ (v + suc n ≡ 2 ^ 32)
    short n l = (
      (λ e. a.turn (λ j s. b.turn (λ k t. omega arith) (λ k t. omega arith)) (λ j s. b.turn (λ k t. omega arith) (λ k t. omega arith))),
      (λ e. a.turn (λ j s. b.turn (λ k t. omega arith) (λ k t. omega arith)) (λ j s. b.turn (λ k t. omega arith) (λ k t. omega arith))),
    )

reads_exchanged : {held offered u v : ℕ} (a : ByUp held offered u) (b : ByUp offered held v) (d : ℤ) → Reads u d → Reads v (neg_ℤ d)
reads_exchanged a b (pos zero) r = (r.0, b.equal.0 (sym (a.equal.1 r.1)))
reads_exchanged a b (pos (suc n)) r = (r.0, (short a b n r.0).0 r.1)
reads_exchanged a b (negsuc n) r = (r.0, (short b a n r.0).1 r.1)

-- ---- the claims

greater : (held offered : ℕ) → Greater held offered ↔ Less offered held
greater held offered = ((λ g. ((λ e. g.0 (sym e)), ⊎_swap g.1)), (λ l. ((λ e. l.0 (sym e)), ⊎_swap l.1)))

pub rfc1982 : Rfc1982
rfc1982 held offered h o =
    let u = wrapped held offered in
    let a = by_up held offered h o in
    let b = by_up offered held o h in
    record {
      exists = ((λ p q. reads_off u p.0 ((a.distance p.0).0 p.1) (a.apart.0 q)), (λ n. (signed_of u, found a (λ e. n (a.apart.1 e)))));
      one = λ d e i j. sym (reads_is u d ((a.distance d).0 i)) ∙ reads_is u e ((a.distance e).0 j);
      back = λ d i. Iff.trans (reads_back u d ((a.distance d).0 i)) (Iff.symm a.more);
      equal = λ d i. Iff.trans (reads_equal u d ((a.distance d).0 i)) (Iff.symm a.equal);
      forward = λ d i. Iff.trans (reads_forward u d ((a.distance d).0 i)) (Iff.symm a.less);
      greater = greater held offered;
      no_order = (
        (λ p. let e = a.apart.0 p in
            ((λ f. omega (arith, a.equal.0 f, e)), (λ f. omega (arith, (a.less.0 f).1, e)), (λ f. omega (arith, a.more.0 ((greater held offered).0 f), e)))),
        (λ p. a.apart.1 (no_order a p.0 p.1 (λ l. p.2 ((greater held offered).1 l)))),
      );
      exchanged = λ d i. (b.distance (neg_ℤ d)).1 (reads_exchanged a b d ((a.distance d).0 i));
      apart_exchanged = ⊎_swap;
      plain = λ p q. subst (IsDistance held offered) (difference a p q) (found a (not_half a p q));
    }

pub exact : Exact distance_of
exact held offered h o = go (eqb u (2 ^ 31)) refl
  where
    u : ℕ
    u = wrapped held offered

    a : ByUp held offered u
    a = by_up held offered h o

    go : (t : Bool) → eqb u (2 ^ 31) ≡ t → Measures distance_of held offered
    go true f =
        let half = eqb-true u (2 ^ 31) f in
        let e = opposite held offered half in
        record {
          distance = λ d. ((λ g. absurd (none-some d (sym e ∙ g))), (λ i. absurd (reads_off u d ((a.distance d).0 i) half)));
          opposite = ((λ g. a.apart.1 half), (λ p. e));
        }
    go false f =
        let other = eqb-false u (2 ^ 31) f in
        let e = measured held offered other in
        record {
          distance = λ d. (
            (λ g. subst (IsDistance held offered) (same_Some (signed_of u) d (sym e ∙ g)) (found a other)),
            (λ i. e ∙ ap Some (reads_is u d ((a.distance d).0 i))),
          );
          opposite = ((λ g. absurd (none-some (signed_of u) (sym g ∙ e))), (λ p. absurd (other (a.apart.0 p))));
        }
