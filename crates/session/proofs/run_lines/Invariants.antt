-- `session::run_lines` meets its contract: what is written, and then what the lines that are left print, is what the whole session prints. Assumes nothing.
use Rattle.std.specs.Slice.Iter.{split_inclusive_rest}
use Rattle.lines.specs.Grammar.{lines_in}
use Rattle.session.specs.Session.{output_of}
use Rattle.session.proofs.Turns.{Left}
use Rattle.session.proofs.run_lines.Given as goal

abbrev pub invariant-loop-part : goal.invariant-loop-part
invariant-loop-part l = Left l.page l.initial.page (output_of l.fn.s l.initial.store (lines_in l.input)) l.state l.store (split_inclusive_rest l.part-iterator)
