-- What is claimed of the comparison: each answer given is true, and each that is true is given. Assumes nothing.
use mathlib.Core.Path.{◌≡◌, refl, sym, ap, subst, ◌∙◌}
use mathlib.Core.Bool.{Bool, true, false, not, cond}
use mathlib.Core.Logic.{◌↔◌, ◌⊎◌, inl, inr, ⊎_elim, ⊎_map}
use Rattle.std.specs.Prelude.{Option, Some, None}
use Rattle.std.proofs.lemmas.Int.{ints, by_lt_z}
use Rattle.std.proofs.lemmas.Option.{none-some, same_Some}
use Prim.Native.Nat.{ℕ, ◌+◌, ◌^◌, ◌<◌}
use native.Mathlib.Omega.{arith}
use lib.Dec.{eqb, ltb, T}
use lib.IntN.{ℤ, pos, neg_ℤ, ◌-ℤ◌}
use lib.Signed.{lt_z, ◌<ℤ◌, ◌≤ℤ◌, lt_z_yes, lt_z_no, clash_ℤ}
use borrow.Author.Tests.{eqb-true, eqb-false}
use Rattle.filter.specs.declared.FilterRecord.{FilterRecord}
use Rattle.serials.specs.Order.{Serial, Less, Apart}
use Rattle.serials.specs.Distance.{IsDistance, distance_of}
use Rattle.serials.specs.Claims.{Distances, Measures}
use Rattle.serials.proofs.Distances.{rfc1982, exact}
use Rattle.going.specs.Going.{directed, of_distance, going_of, Says, going_number, going_distance, exchanged, plain_of, Compared, Compares}
use Rattle.going.specs.declared.Going.{Going}
use Rattle.going.specs.declared.Going.TheVariants.{OtherMember, NoOrder, Back, Forward}
use Rattle.going.proofs.Members.{other_member, same_member}

-- ---- the sign of a distance

-- by its test
by_sign : (P : Going → Type 0) (d : ℤ) → ((d <ℤ pos 0) → P (Back d)) → ((pos 0 ≤ℤ d) → P (Forward d)) → P (directed d)
unfolding directed
by_sign P d b f = go (lt_z d (pos 0)) refl
  where
    go : (t : Bool) → lt_z d (pos 0) ≡ t → P (cond t (Back d) (Forward d))
    go true e = b (lt_z_yes (subst T (sym e) tt))
    go false e = f (lt_z_no (subst (λ t. T (not t)) (sym e) tt))

-- 0 or above it
not_negative : (d : ℤ) → (pos 0 ≤ℤ d) ↔ ((d ≡ pos 0) ⊎ (pos 0 <ℤ d))
not_negative d = ((λ l. by_lt_z (pos 0) d inr (λ m. inl (grind (arith, ints)))), ⊎_elim (λ e. grind (arith, ints)) (λ l. grind (arith, ints)))

-- of a difference, the order of the two numbers
sign_of : (a b : ℕ) → lt_z (pos a -ℤ pos b) (pos 0) ≡ ltb a b
sign_of a b = grind (arith, ints)

directed_difference : (a b : ℕ) → let d = pos a -ℤ pos b in directed d ≡ cond (ltb a b) (Back d) (Forward d)
unfolding directed
directed_difference a b = ap (λ (t : Bool). cond t (Back (pos a -ℤ pos b)) (Forward (pos a -ℤ pos b))) (sign_of a b)

module _ (held offered : FilterRecord) (h : Serial held.serial) (o : Serial offered.serial) where
  x : Measures distance_of held.serial offered.serial
  x = exact held.serial offered.serial h o

  -- ---- an answer that is true is given

  measured : held.member ≡ offered.member → (d : ℤ) → IsDistance held.serial offered.serial d → going_of held offered ≡ directed d
  unfolding of_distance
  measured m d i = same_member held offered m ∙ ap of_distance ((x.distance d).1 i)

  given : (g : Going) → Says g held offered → going_of held offered ≡ g
  unfolding of_distance
  given OtherMember s = other_member held offered s
  given NoOrder s = same_member held offered s.0 ∙ ap of_distance (x.opposite.1 s.1)
  given (Back d) s = measured s.0 d s.1 ∙ by_sign (λ g. g ≡ Back d) d (λ b. refl) (λ f. clash_ℤ s.2 f)
  given (Forward d) s = measured s.0 d s.1 ∙ by_sign (λ g. g ≡ Forward d) d (λ b. clash_ℤ b s.2) (λ f. refl)

  -- ---- the answer given is true

  told : held.member ≡ offered.member → (m : Option ℤ) → distance_of held.serial offered.serial ≡ m → Says (of_distance m) held offered
  unfolding of_distance
  told e (Some d) f = by_sign (λ g. Says g held offered) d (λ b. (e, (x.distance d).0 f, b)) (λ b. (e, (x.distance d).0 f, b))
  told e None f = (e, x.opposite.0 f)

  said : Says (going_of held offered) held offered
  said = go (eqb held.member offered.member) refl
    where
      go : (t : Bool) → eqb held.member offered.member ≡ t → Says (going_of held offered) held offered
      go true e =
          let m = eqb-true held.member offered.member e in
          subst (λ g. Says g held offered) (sym (same_member held offered m)) (told m (distance_of held.serial offered.serial) refl)
      go false e =
          let n = eqb-false held.member offered.member e in
          subst (λ g. Says g held offered) (sym (other_member held offered n)) n

  true_of : (g : Going) → going_of held offered ≡ g → Says g held offered
  true_of g e = subst (λ g. Says g held offered) e said

  -- ---- the claims

  r : Distances held.serial offered.serial
  r = rfc1982 held.serial offered.serial h o

  back : (held.member ≡ offered.member) × Less offered.serial held.serial → (d : ℤ) × (going_of held offered ≡ Back d)
  back (m, l) =
      let i = r.exists.1 (λ a. (r.no_order.0 a).2 (r.greater.1 l)) in
      (i.0, given (Back i.0) (m, i.1, (r.back i.0 i.1).1 l))

  forward : (held.member ≡ offered.member) × ((held.serial ≡ offered.serial) ⊎ Less held.serial offered.serial) → (d : ℤ) × (going_of held offered ≡ Forward d)
  forward (m, q) =
      let i = r.exists.1 (λ a. let n = r.no_order.0 a in ⊎_elim n.0 n.1 q) in
      (i.0, given (Forward i.0) (m, i.1, (not_negative i.0).1 (⊎_map (r.equal i.0 i.1).1 (r.forward i.0 i.1).1 q)))

  number : (n : ℕ) (g : Going) → Says g held offered → going_number g ≡ Some n → (n ≡ 16) × (held.member ≡ offered.member) × Apart held.serial offered.serial
  number n OtherMember s e = absurd (none-some n e)
  number n NoOrder s e = (sym (same_Some 16 n e), s.0, s.1)
  number n (Back d) s e = absurd (none-some n e)
  number n (Forward d) s e = absurd (none-some n e)

  distance : (d : ℤ) (g : Going) → Says g held offered → going_distance g ≡ Some d → (held.member ≡ offered.member) × IsDistance held.serial offered.serial d
  distance d OtherMember s e = absurd (none-some d e)
  distance d NoOrder s e = absurd (none-some d e)
  distance d (Back b) s e = (s.0, subst (IsDistance held.serial offered.serial) (same_Some b d e) s.1)
  distance d (Forward f) s e = (s.0, subst (IsDistance held.serial offered.serial) (same_Some f d e) s.1)

  plain : held.serial < offered.serial + 2 ^ 31 → offered.serial < held.serial + 2 ^ 31 → going_of held offered ≡ plain_of held offered
  plain a b = go (eqb held.member offered.member) refl
    where
      go : (t : Bool) → eqb held.member offered.member ≡ t → going_of held offered ≡ plain_of held offered
      go true e = measured (eqb-true held.member offered.member e) _ (r.plain a b) ∙ directed_difference offered.serial held.serial ∙ simp e
      go false e = other_member held offered (eqb-false held.member offered.member e) ∙ simp e

  compared : going_of offered held ≡ exchanged (going_of held offered) → Compared going_of held offered
  compared e = record {
    exactly = λ g. (true_of g, given g);
    back = ((λ p. let s = true_of (Back p.0) p.1 in (s.0, (r.back p.0 s.1).0 s.2)), back);
    forward = (
      (λ p. let s = true_of (Forward p.0) p.1 in (s.0, ⊎_map (r.equal p.0 s.1).0 (r.forward p.0 s.1).0 ((not_negative p.0).0 s.2))),
      forward,
    );
    number = λ n. (number n (going_of held offered) said, (λ p. ap going_number (given NoOrder (p.1, p.2)) ∙ ap Some (sym p.0)));
    distance = λ d. (
      distance d (going_of held offered) said,
      (λ p. ap going_distance (measured p.0 d p.1) ∙ by_sign (λ g. going_distance g ≡ Some d) d (λ b. refl) (λ f. refl)),
    );
    exchange = e;
    plain = plain;
  }

-- with held and offered exchanged
exchange : (held offered : FilterRecord) → Serial held.serial → Serial offered.serial → (g : Going) → Says g held offered → going_of offered held ≡ exchanged g
exchange held offered h o OtherMember s = other_member offered held (λ e. s (sym e))
exchange held offered h o NoOrder s = given offered held o h NoOrder (sym s.0, (r held offered h o).apart_exchanged s.1)
exchange held offered h o (Back d) s = measured offered held o h (sym s.0) (neg_ℤ d) ((r held offered h o).exchanged d s.1)
exchange held offered h o (Forward d) s = measured offered held o h (sym s.0) (neg_ℤ d) ((r held offered h o).exchanged d s.1)

pub compares : Compares going_of
compares held offered h o = compared held offered h o (exchange held offered h o (going_of held offered) (said held offered h o))
