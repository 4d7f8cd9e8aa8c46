-- `marks::next_used` meets its contract: by the rest of the address's word, and then by the words after it. Assumes nothing.
use borrow.Author.Rules.{rules}
use mathlib.Core.Path.{◌≡◌, sym, ◌∙◌}
use Prim.Native.Nat.{ℕ, ◌+◌, ◌*◌, ◌/◌, ◌%◌, ◌^◌}
use native.Mathlib.Omega.{arith}
use lib.ListN.{get_or}
use mir.Syntax.{w64}
use mir.Val.{Fits}
use Rattle.state.specs.Sizes.{addresses}
use Rattle.marks.proofs.Words.{first_one, onwards, gap, found}
use Rattle.marks.proofs.Sets.{next_only, next_is}
use Rattle.marks.proofs.next_used.Goals as goal

pub returns-then-q-ge-WORDS : goal.returns-then-q-ge-WORDS
unfolding addresses
returns-then-q-ge-WORDS c =
    sym (next_only c.args.marks c.args.a c.args.a (record {
      from = omega arith;
      to = omega arith;
      before = λ b g h. absurd (omega arith);
      here = λ h. absurd (omega arith);
    }))

pub returns-then-t-lt64 : goal.returns-then-t-lt64
unfolding addresses
returns-then-t-lt64 c =
    let ws = c.args.marks in
    let a : ℕ = c.args.a in
    let w : Fits w64 (get_or ws (a / 64) 0) = search rules in
    let e : a / 64 * 64 + a % 64 ≡ a = omega arith in
    let o = first_one 64 (get_or ws (a / 64) 0 / 2 ^ (a % 64)) in
    let f = found ws (a / 64) (a % 64) (omega arith) _ w.fits o c.if-t-lt64.true in
    sym (next_only ws a _ (record {
      from = omega arith;
      to = omega (arith, f.0);
      before = λ b g h. gap ws (a / 64) (a % 64) (omega arith) _ o b (omega arith) (omega arith) (omega (arith, f.0));
      here = λ h. rw e at f.1;
    }))

pub returns : goal.returns
unfolding addresses
returns c =
    let ws = c.args.marks in
    let a : ℕ = c.args.a in
    let n = next_is ws ((a / 64 + 1) * 64) in
    let o = first_one 64 (get_or ws (a / 64) 0 / 2 ^ (a % 64)) in
    c.next_from.ensures
    ∙ sym (next_only ws a _ (record {
      from = omega (arith, n.from);
      to = omega (arith, n.to);
      before = onwards ((a / 64 + 1) * 64) _ (λ b g h. gap ws (a / 64) (a % 64) (omega arith) _ o b (omega arith) (omega arith) (omega arith)) n.before;
      here = λ h. n.here (omega arith);
    }))
