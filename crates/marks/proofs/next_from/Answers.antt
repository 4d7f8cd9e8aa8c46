-- `marks::next_from` meets its contract: no address from word q on below 64 k is in use, until a word has a one. Assumes nothing.
use mathlib.Core.Path.{sym}
use Prim.Native.Nat.{◌*◌}
use native.Mathlib.Omega.{arith}
use lib.Count.{trailing_le}
use lib.ListN.{get_or}
use Rattle.state.specs.Sizes.{addresses}
use Rattle.marks.proofs.Words.{first_one, onwards, word_gap, word_found}
use Rattle.marks.proofs.Sets.{next_only}
use Rattle.marks.proofs.next_from.Goals as goal

pub returns-then-t-lt64 : goal.returns-then-t-lt64
unfolding addresses
returns-then-t-lt64 c =
    let x = c.args in
    let l = c.loop-k in
    let o = first_one 64 (get_or x.marks l.k 0) in
    sym (next_only x.marks (x.q * 64) _ (record {
      from = omega arith;
      to = omega arith;
      before = onwards (l.k * 64) _ l.invariant (word_gap x.marks l.k _ o (omega arith));
      here = λ h. word_found x.marks l.k _ o c.if-t-lt64.true;
    }))

pub loop-k-preserved : goal.loop-k-preserved
loop-k-preserved c =
    let x = c.args in
    let l = c.loop-k in
    let o = first_one 64 (get_or x.marks l.k 0) in
    λ b g h. onwards (l.k * 64) _ l.invariant (word_gap x.marks l.k _ o (trailing_le 64 _)) b g (omega arith)

pub returns : goal.returns
unfolding addresses
returns c =
    let x = c.args in
    let l = c.loop-k in
    sym (next_only x.marks (x.q * 64) 1024 (record {
      from = omega arith;
      to = omega arith;
      before = λ b g h. l.invariant b g (omega arith);
      here = λ h. absurd (omega arith);
    }))
