-- `state::empty` meets its contract: the struct that it makes is the definition's. Assumes nothing.
use Rattle.state.specs.Start.{fresh}
use Rattle.state.specs.Multiset.{empty_hash}
use mathlib.Core.Path.{refl}
use Rattle.state.proofs.empty.Goals as goal

pub returns : goal.returns
unfolding fresh empty_hash
returns c = refl
