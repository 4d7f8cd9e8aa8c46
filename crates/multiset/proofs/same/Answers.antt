-- `multiset::same` meets its contract: it joins the definition's two comparisons, in the other order. Assumes nothing.
use Rattle.std.proofs.Common.{◌≡◌, Bool, eqb, sym, eq-eqb, ne_eqb}
use mathlib.Core.Bool.{and-true, and-false}
use Rattle.octets.specs.Places.{same}
use Rattle.state.specs.Multiset.{same_hash}
use Rattle.state.specs.declared.Hash.{Hash}
use Rattle.multiset.proofs.same.Goals as goal

-- where the numbers are equal the tags decide, and where they are not the numbers do
by_tags : (p q : Hash) (t : Bool) → p.number ≡ q.number → t ≡ same p.tag q.tag → t ≡ same_hash p q
unfolding same_hash
by_tags p q t n e = rw (eq-eqb p.number q.number n, e) (sym (and-true (same p.tag q.tag)))

by_numbers : (p q : Hash) → (p.number ≡ q.number → ⊥) → eqb p.number q.number ≡ same_hash p q
unfolding same_hash
by_numbers p q n = rw (ne_eqb p.number q.number n) (sym (and-false (same p.tag q.tag)))

pub returns-then-p-q : goal.returns-then-p-q
returns-then-p-q c = by_tags _ _ _ c.if-p-q.true c.same_tag.ensures

pub returns-else-p-q : goal.returns-else-p-q
returns-else-p-q c = by_numbers _ _ c.if-p-q.false
