-- `marks::next_from`: no address from word q on below 64 k is in use.
use Rattle.std.proofs.Common.{◌≡◌, ℕ, ◌*◌, ◌≤◌, ◌<◌, false}
use Rattle.state.specs.Marks.{used}
use Rattle.marks.proofs.next_from.Given as goal

abbrev pub invariant-loop-k : goal.invariant-loop-k
invariant-loop-k l = (b : ℕ) → l.q * 64 ≤ b → b < l.k * 64 → used l.marks b ≡ false
