-- `sha256::message_byte` meets its contract: a place in the message, the one after it, and those past both. Assumes nothing.
use borrow.Author.Rules.{rules}
use mathlib.Core.Path.{sym}
use mathlib.Core.List.{[], ◌∷◌}
use native.Mathlib.Omega.{arith}
use lib.ListN.{length-append, get_or-append, get_or-eq_default}
use Rattle.sha256.proofs.Padding.{with_mark}
use Rattle.sha256.proofs.message_byte.Goals as goal

pub returns-then-i-m : goal.returns-then-i-m
returns-then-i-m c = let a = c.args in sym (get_or-append a.m.now (0x80 ∷ []) 0 a.i (search rules))

pub returns : goal.returns
returns c = let a = c.args in sym (get_or-eq_default (with_mark a.m.now) 0 (simp length-append (omega arith)))
