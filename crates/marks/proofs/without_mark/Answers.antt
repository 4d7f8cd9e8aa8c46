-- `marks::without_mark` meets its contract: 1 shifted is the power of the mark's digit. Assumes nothing.
use Rattle.std.proofs.Common.{◌%◌, arith}
use Rattle.state.specs.Marks.{unmarked}
use Rattle.marks.proofs.Words.{one_shifted}
use Rattle.marks.proofs.without_mark.Goals as goal

pub returns : goal.returns
unfolding unmarked
returns c = rw (c.with_word.ensures, c.word_of.ensures, one_shifted (c.args.a % 64) (omega arith))
