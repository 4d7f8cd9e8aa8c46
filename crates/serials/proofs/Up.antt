-- The wrapped difference u, how far it is up from one serial number to another, decides their order; and it is the distance, or 2^32 more. Assumes nothing.
use Rattle.std.proofs.Common.{◌≡◌, ℕ, ◌+◌, ◌^◌, ◌<◌, ◌≤◌, Bool, true, false, ltb, ◌↔◌, ℤ, pos, negsuc, refl, inl, inr, ⊎_elim, arith, le→leb, leb→le, ltb-false, ltb-true}
use lib.Signed.{le_z_yes}
use Rattle.std.proofs.lemmas.Int.{ints}
use Rattle.serials.specs.Order.{Serial, Less, Apart}
use Rattle.serials.specs.Distance.{IsDistance, wrapped}
use Rattle.serials.proofs.Sign.{Reads}

-- what u tells of the two
pub record ByUp (held offered u : ℕ) : Type 1 where
  pub below : u < 2 ^ 32
  -- up from held, without a turn past 0 or with one
  pub turn : {P : Type 0} → (held ≤ offered → held + u ≡ offered → P) → (offered < held → held + u ≡ offered + 2 ^ 32 → P) → P
  pub equal : (held ≡ offered) ↔ (u ≡ 0)
  pub apart : Apart held offered ↔ (u ≡ 2 ^ 31)
  pub less : Less held offered ↔ ((0 < u) × (u < 2 ^ 31))
  pub more : Less offered held ↔ (2 ^ 31 < u)
  pub distance : (d : ℤ) → IsDistance held offered d ↔ Reads u d

module _ (held offered : ℕ) (h : Serial held) (o : Serial offered) where
  abbrev u : ℕ
  u = wrapped held offered

  pub below : u < 2 ^ 32
  unfolding wrapped
  below = omega arith

  turn : {P : Type 0} → (held ≤ offered → held + u ≡ offered → P) → (offered < held → held + u ≡ offered + 2 ^ 32 → P) → P
  unfolding wrapped
  turn {P} without with-one = go (ltb offered held) refl
    where
      go : (t : Bool) → ltb offered held ≡ t → P
      go true f = with-one (ltb-true offered held f) (omega (arith, ltb-true offered held f))
      go false f = without (ltb-false offered held f) (omega (arith, ltb-false offered held f))

  distance : (d : ℤ) → IsDistance held offered d ↔ Reads u d
  distance (pos n) = (
    (λ i. let m = leb→le n 2147483647 i.most.le in
        let e = i.reaches.1 in
        (omega (arith, m), turn (λ l t. omega (arith, ints, h, o, below, t, m, e)) (λ l t. omega (arith, ints, h, o, below, t, m, e)))),
    (λ r. record {
      least = le_z_yes tt;
      most = le_z_yes (le→leb n 2147483647 (omega (arith, r.0)));
      reaches = turn (λ l t. (pos 0, omega (arith, ints, t, r.1))) (λ l t. (pos 1, omega (arith, ints, t, r.1)));
    }),
  )
  distance (negsuc n) = (
    (λ i. let m = leb→le n 2147483646 i.least.le in
        let e = i.reaches.1 in
        (omega (arith, m), turn (λ l t. omega (arith, ints, h, o, below, t, m, e)) (λ l t. omega (arith, ints, h, o, below, t, m, e)))),
    (λ r. record {
      least = le_z_yes (le→leb n 2147483646 (omega (arith, r.0)));
      most = le_z_yes tt;
      reaches = turn (λ l t. (negsuc 0, omega (arith, ints, t, r.1))) (λ l t. (pos 0, omega (arith, ints, t, r.1)));
    }),
  )

  pub by_up : ByUp held offered u
  by_up = record {
    below = below;
    turn = turn;
    equal = ((λ e. turn (λ l t. omega arith) (λ l t. omega arith)), (λ e. turn (λ l t. omega arith) (λ l t. omega arith)));
    apart = (
      (λ a. turn (λ l t. ⊎_elim (λ e. omega arith) (λ e. omega arith) a) (λ l t. ⊎_elim (λ e. omega arith) (λ e. omega arith) a)),
      (λ e. turn (λ l t. inl (omega arith)) (λ l t. inr (omega arith))),
    );
    less = (
      (λ r. turn (λ l t. ⊎_elim (λ p. (omega (arith, p.0, p.1), omega (arith, p.0, p.1))) (λ p. absurd (omega (arith, p.0))) r.1) (λ l t. ⊎_elim (λ p. absurd (omega (arith, p.0))) (λ p. (omega (arith, p.0, p.1), omega (arith, p.0, p.1))) r.1)),
      (λ p. turn (λ l t. ((λ e. omega (arith, p.0)), inl (omega (arith, p.0), omega (arith, p.1)))) (λ l t. ((λ e. omega (arith, p.0)), inr (l, omega (arith, p.1))))),
    );
    more = (
      (λ r. turn (λ l t. ⊎_elim (λ p. absurd (omega (arith, p.0))) (λ p. omega (arith, p.0, p.1)) r.1) (λ l t. ⊎_elim (λ p. omega (arith, p.0, p.1)) (λ p. absurd (omega (arith, p.0))) r.1)),
      (λ b. turn (λ l t. ((λ e. omega arith), inr (omega arith, omega arith))) (λ l t. ((λ e. omega (arith, below)), inl (l, omega (arith, below))))),
    );
    distance = distance;
  }
