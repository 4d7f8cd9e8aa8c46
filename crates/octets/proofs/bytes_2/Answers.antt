-- `octets::bytes_2` meets its contract: the library's bytes are those of the layout. Assumes nothing.
use Rattle.std.proofs.Common.{◌∙◌}
use Rattle.octets.proofs.Layouts.{bytes_high}
use Rattle.octets.proofs.bytes_2.Goals as goal

pub returns : goal.returns
returns c = c.to_be_bytes.ensures ∙ bytes_high 2 c.args.n
