-- `marks::count` meets its contract: after i words n is the count of the addresses below 64 i. Assumes nothing.
use borrow.Author.Rules.{rules}
use mathlib.Core.Path.{◌≡◌, ap, ◌∙◌}
use Prim.Native.Nat.{ℕ, ◌*◌}
use native.Mathlib.Omega.{arith}
use lib.Count.{ones-le}
use lib.ListN.{get_or}
use mir.Syntax.{w64}
use mir.Val.{Fits}
use Rattle.state.specs.Sizes.{addresses}
use Rattle.state.specs.Marks.{count_below, count_of}
use Rattle.marks.proofs.Words.{count_word}
use Rattle.marks.proofs.count.Goals as goal

pub loop-word-init : goal.loop-word-init
unfolding count_below
loop-word-init c = search rules

pub loop-word-preserved : goal.loop-word-preserved
loop-word-preserved c =
    let ws = c.args.marks in
    let i : ℕ = c.loop-word.word-index in
    let f : Fits w64 (get_or ws i 0) = search rules in
    omega (arith, ones-le 64 (get_or ws i 0) f.fits, count_word ws i f.fits)

pub returns : goal.returns
unfolding count_of addresses
returns c =
    let l = c.loop-word in
    let e : l.word-index ≡ 16 = omega arith in
    l.invariant.1 ∙ ap (λ (i : ℕ). count_below (i * 64) c.args.marks) e
