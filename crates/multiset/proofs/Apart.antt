-- Two lists compared by the or of the exclusive-ors of their places: it is 0 exactly where they are equal. Assumes nothing.
use Rattle.std.proofs.Common.{◌≡◌, ℕ, Bool, true, false, eqb, List, [], ◌∷◌, length, sym, refl, ap₂, ◌∙◌, arith, eqb-true}
use borrow.Author.Tests.{eqb-false}
use lib.Bits.{bit_or, bit_xor, and_le_l, and_le_r, or_add_and, xor_add_and, xor_self}
use Rattle.octets.specs.Places.{same}
use Rattle.octets.proofs.Same.{same_refl, same_other}

-- an or is 0 only where both sides are, and an exclusive-or only where its sides are equal
or_none : (a b : ℕ) → bit_or a b ≡ 0 → (a ≡ 0) × (b ≡ 0)
or_none a b e = (omega (arith, or_add_and a b, and_le_r a b), omega (arith, or_add_and a b, and_le_l a b))

xor_none : (a b : ℕ) → bit_xor a b ≡ 0 → a ≡ b
xor_none a b e = omega (arith, xor_add_and a b, and_le_l a b, and_le_r a b)

-- d tells of two lists but for what is left of them, p and q: they are equal where d is 0 and these are equal, and only there
pub record Tells (s t : List ℕ) (d : ℕ) (p q : List ℕ) : Type 0 where
  pub long : length p ≡ length q
  pub equal : d ≡ 0 → p ≡ q → s ≡ t
  pub none : s ≡ t → (d ≡ 0) × (p ≡ q)

pub tells_more : {s t : List ℕ} (d x y : ℕ) (p q : List ℕ) → Tells s t d (x ∷ p) (y ∷ q) → Tells s t (bit_or d (bit_xor x y)) p q
tells_more d x y p q h =
    record {
      long = let l = h.long in omega arith;
      equal = λ e f. let o = or_none d (bit_xor x y) e in h.equal o.0 (ap₂ (λ (a : ℕ) (l : List ℕ). a ∷ l) (xor_none x y o.1) f);
      none = λ e.
          let n = h.none e in
          let f : x ≡ y = cc n.1 in
          (rw (n.0, f, xor_self y), cc n.1);
    }

pub tells_all : (s t p q : List ℕ) (d : ℕ) → Tells s t d p q → length p ≡ 0 → eqb d 0 ≡ same s t
tells_all s t p q d h l = side (eqb d 0) refl
  where
    empty : (p q : List ℕ) → length p ≡ 0 → length q ≡ 0 → p ≡ q
    empty [] [] e f = refl
    empty [] (y ∷ q) e f = absurd (omega arith)
    empty (x ∷ p) q e f = absurd (omega arith)

    side : (b : Bool) → eqb d 0 ≡ b → b ≡ same s t
    side true e = rw (h.equal (eqb-true d 0 e) (empty p q l (sym h.long ∙ l))) (sym (same_refl t))
    side false e = sym (same_other s t (λ q. eqb-false d 0 e (h.none q).0))
