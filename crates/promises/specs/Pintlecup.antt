-- What is proved of the library, whole: the one name to ask the checker for. The calls' contracts, under their C names too, tell what the functions `l` give
-- (the tie), and these keep the three demands and the examples, with one tag throughout; and every public function's contract admits one outcome.
-- Assumes nothing.
use Rattle.std.specs.Prelude.{List, ℕ}
use Rattle.state.specs.Cells.{Entry}
use Rattle.state.specs.declared.Seal.{Seal}
use Rattle.outcomes.specs.Outcomes.{Outcomes}
use Rattle.outcomes.specs.Exports.{Exported}
use Rattle.promises.specs.Library.{Library}
use Rattle.promises.specs.Tied.{Tied}
use Rattle.promises.specs.InC.{InC}
use Rattle.promises.specs.FirstDemand.{FirstDemand}
use Rattle.promises.specs.SecondDemand.{SecondDemand}
use Rattle.promises.specs.ThirdDemand.{ThirdDemand}
use Rattle.promises.specs.Examples.{Examples}

pub record Pintlecup (tag : Seal → Entry → List ℕ) (l : Library) : Type 2 where
  pub tied : Tied l
  pub in_c : InC l
  pub first_demand : FirstDemand l
  pub second_demand : SecondDemand tag l
  pub third_demand : ThirdDemand tag l
  pub examples : Examples tag l
  pub outcomes : Outcomes
  pub exported : Exported
