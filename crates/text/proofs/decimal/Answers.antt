-- `text::decimal` meets its contract: what is read so far is the decimal of the number so far, which only grows. Assumes nothing.
use mathlib.Core.Path.{◌≡◌, sym, ◌∙◌}
use native.Mathlib.Omega.{arith}
use Prim.Native.Nat.{◌+◌, ◌*◌}
use Rattle.text.proofs.Words.{decimal_empty, decimal_led, decimal_stray, decimal_letter, read_none, read_more, read_over, read_whole}
use Rattle.text.proofs.decimal.Goals as goal

pub returns-in_err-first : goal.returns-in_err-first
returns-in_err-first c = c.from_residual.ensures ∙ sym (decimal_empty _ (omega (arith, c.in_err-first.ensures.item)))

pub returns-then-word-gt1 : goal.returns-then-word-gt1
returns-then-word-gt1 c = sym (decimal_led _ (sym (c.in_ok-first.ensures.item.3.1 0) ∙ c.if-first-eq48.true) c.if-word-gt1.true)

pub loop-b-init : goal.loop-b-init
loop-b-init c = (omega arith, read_none _)

pub returns-in_err-d : goal.returns-in_err-d
returns-in_err-d c = c.from_residual-in_err-d.ensures ∙ sym (decimal_stray _ c.loop-b.b-index (omega arith) (sym c.in_err-d.ensures))

pub returns-then-d-gt9 : goal.returns-then-d-gt9
returns-then-d-gt9 c = sym (decimal_letter _ c.loop-b.b-index _ (omega arith) (sym c.in_ok-d.ensures) c.if-d-gt9.true)

pub returns-in_err-checked_mul : goal.returns-in_err-checked_mul
returns-in_err-checked_mul c =
    let l = c.loop-b in
    let more = read_more _ _ _ l.b-index _ (c.in_ok-first.ensures.item.3.1 0) c.else-first-eq48.either (omega arith) l.invariant.1 (sym c.in_ok-d.ensures) c.if-d-gt9.false in
    c.from_residual-in_err-checked_mul.ensures ∙ sym (read_over _ _ l.b-index more (omega arith))

pub returns-in_err-n : goal.returns-in_err-n
returns-in_err-n c =
    let l = c.loop-b in
    let more = read_more _ _ _ l.b-index _ (c.in_ok-first.ensures.item.3.1 0) c.else-first-eq48.either (omega arith) l.invariant.1 (sym c.in_ok-d.ensures) c.if-d-gt9.false in
    c.from_residual-in_err-n.ensures ∙ sym (read_over _ _ l.b-index more (omega arith))

pub loop-b-preserved : goal.loop-b-preserved
loop-b-preserved c =
    let l = c.loop-b in
    let more = read_more _ _ _ l.b-index _ (c.in_ok-first.ensures.item.3.1 0) c.else-first-eq48.either (omega arith) l.invariant.1 (sym c.in_ok-d.ensures) c.if-d-gt9.false in
    let e : c.in_ok-n.n ≡ 10 * l.n + c.in_ok-d.d = omega (arith, c.in_ok-n.ensures, c.in_ok-checked_mul.ensures) in
    (omega (arith, c.in_ok-n.ensures), rw e more)

pub returns : goal.returns
returns c = let l = c.loop-b in sym (read_whole _ _ l.b-index l.invariant.1 (omega (arith, c.in_ok-first.ensures.item)) c.loop-b-test.false (omega arith))
