-- `text::hex` meets its contract: two bytes, and a digit each. Assumes nothing.
use mathlib.Core.Path.{sym, ◌∙◌}
use native.Mathlib.Omega.{arith}
use Rattle.text.proofs.Numerals.{hex_two, hex_sized, hex_high, hex_low, digit_glyph}
use Rattle.text.proofs.hex.Goals as goal

pub returns-in_default : goal.returns-in_default
returns-in_default c = sym (hex_sized _ (λ n. omega arith))

pub returns-in_default-2 : goal.returns-in_default-2
returns-in_default-2 c = sym (hex_sized _ (λ n. omega arith))

pub returns-in_err-digit : goal.returns-in_err-digit
returns-in_err-digit c = c.from_residual.ensures ∙ sym (hex_high _ (sym c.in_err-digit.ensures))

pub overflow_mul-result : goal.overflow_mul-result
overflow_mul-result c = omega (arith, digit_glyph _ _ (sym c.in_ok-digit.ensures))

pub returns-in_err-digit-2 : goal.returns-in_err-digit-2
returns-in_err-digit-2 c = c.from_residual-in_err-digit-2.ensures ∙ sym (hex_low _ (sym c.in_err-digit-2.ensures))

pub overflow_add-result : goal.overflow_add-result
overflow_add-result c = omega (arith, digit_glyph _ _ (sym c.in_ok-digit.ensures), digit_glyph _ _ (sym c.in_ok-digit-2.ensures))

pub returns : goal.returns
returns c = sym (hex_two _ _ _ (omega arith) (sym c.in_ok-digit.ensures) (sym c.in_ok-digit-2.ensures))
