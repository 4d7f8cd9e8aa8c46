-- `octets::xor`: the loop fills the table of the exclusive-or.
use Rattle.std.proofs.Common.{◌≡◌, ◌++◌, get_or, drop}
use lib.Bits.{bit_xor}
use Rattle.octets.specs.Places.{tabulate}
use Rattle.octets.proofs.xor.Given as goal

abbrev pub invariant-loop-i : goal.invariant-loop-i
invariant-loop-i g l = l.x ≡ tabulate (λ k. bit_xor (get_or l.s k 0) (get_or l.t k 0)) l.i ++ drop l.i l.initial.x
