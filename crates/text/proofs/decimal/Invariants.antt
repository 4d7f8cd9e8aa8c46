-- `text::decimal` meets its contract: what is read so far is the decimal of the number so far. Assumes nothing.
use Prim.Native.Nat.{◌<◌}
use Rattle.text.proofs.Words.{Read}
use Rattle.text.proofs.decimal.Given as goal

abbrev pub invariant-loop-b : goal.invariant-loop-b
invariant-loop-b l = (l.n < 65536) × Read l.word l.n l.b-index
