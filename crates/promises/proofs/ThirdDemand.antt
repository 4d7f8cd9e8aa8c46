-- What a call gives in a run is the call's definition; the demand is proved for every width and every tag, so for these. Assumes nothing.
use mathlib.Core.Path.{refl}
use native.Mathlib.Omega.{arith}
use Rattle.entries.specs.Tag.{tag}
use Rattle.run.specs.Calls.{outcome_of, after}
use Rattle.run.proofs.Demand3.{demand3}
use Rattle.run.proofs.Edges.{last_one, handed_back}
use Rattle.run.proofs.Sense.{honest_no_collision, unused_may_change}
use Rattle.promises.specs.Library.{library}
use Rattle.promises.specs.ThirdDemand.{ThirdDemand}

pub third_demand : ThirdDemand tag library
unfolding outcome_of after
third_demand = record {
  start = λ key. refl;
  add = λ s m a v. refl;
  load = λ s m a o. refl;
  store = λ s m a v. refl;
  remove = λ s m a. refl;
  check = λ s m. refl;
  demand = demand3 2 (omega arith) tag;
  last_one = λ key. last_one 2 tag key;
  honest = honest_no_collision 2 (omega arith) tag;
  unused = unused_may_change 2 (omega arith) tag;
  handed_back = λ key. handed_back 2 tag key;
}
