-- `text::digit` meets its contract: each range is tested, lowest first. Assumes nothing.
use mathlib.Core.Path.{sym}
use native.Mathlib.Omega.{arith}
use Prim.Native.Nat.{◌-◌, ◌+◌}
use Rattle.text.proofs.Numerals.{digit_low, digit_high, digit_none}
use Rattle.text.proofs.digit.Goals as goal

pub returns-in-48-to-57 : goal.returns-in-48-to-57
returns-in-48-to-57 c = let b = c.args.b in sym (digit_low b (b - 48) (omega arith) (omega arith))

pub returns-in-97-to-102 : goal.returns-in-97-to-102
returns-in-97-to-102 c = let b = c.args.b in sym (digit_high b (b - 97 + 10) (omega arith) (omega arith) (omega arith))

pub returns-in_default : goal.returns-in_default
returns-in_default c = sym (digit_none c.args.b (λ d h e. omega arith) (λ d g h e. omega arith))

pub returns-in_default-2 : goal.returns-in_default-2
returns-in_default-2 c = sym (digit_none c.args.b (λ d h e. omega arith) (λ d g h e. omega arith))

pub returns-in_default-3 : goal.returns-in_default-3
returns-in_default-3 c = sym (digit_none c.args.b (λ d h e. omega arith) (λ d g h e. omega arith))
