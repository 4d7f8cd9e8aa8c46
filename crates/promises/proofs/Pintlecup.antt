-- The parts are proved each in its file. Assumes nothing.
use Rattle.entries.specs.Tag.{tag}
use Rattle.outcomes.proofs.Outcomes.{outcomes}
use Rattle.outcomes.proofs.Exports.{exported}
use Rattle.promises.specs.Library.{library}
use Rattle.promises.specs.Pintlecup.{Pintlecup}
use Rattle.promises.proofs.Tied.{tied}
use Rattle.promises.proofs.InC.{in_c}
use Rattle.promises.proofs.FirstDemand.{first_demand}
use Rattle.promises.proofs.SecondDemand.{second_demand}
use Rattle.promises.proofs.ThirdDemand.{third_demand}
use Rattle.promises.proofs.Examples.{examples}

pub pintlecup : Pintlecup tag library
pintlecup = record {
  tied = tied;
  in_c = in_c;
  first_demand = first_demand;
  second_demand = second_demand;
  third_demand = third_demand;
  examples = examples;
  outcomes = outcomes;
  exported = exported;
}
