-- Each contract of a call under a C name is the claim, by computation. Assumes nothing.
use mathlib.Core.Path.{refl, ◌∙◌}
use Rattle.refusal.proofs.Passed.{done_zero, done_other}
use Rattle.state.specs.Sizes.{addresses, value_size, cell_size, store_size, width}
use Rattle.state.proofs.Ready.{look_done}
use Rattle.state.proofs.Table.{look_first, look_other}
use Rattle.held.specs.Held.{state_of}
use Rattle.held.specs.Answers.{look_answer}
use Rattle.held.proofs.Same.{same}
use Rattle.held.proofs.Answered.{answered}
use Rattle.entries.specs.Tag.{tag}
use Rattle.promises.specs.Library.{library}
use Rattle.promises.specs.InC.{InC}

pub in_c : InC library
unfolding state_of look_answer store_size addresses cell_size value_size
in_c = record {
  start = λ M 𝓤 𝓛 m f κs a g r e. refl;
  add = λ M 𝓤 𝓛 m f κs a g r e. refl;
  load = λ M 𝓤 𝓛 m f κs a g r e. refl;
  store = λ M 𝓤 𝓛 m f κs a g r e. refl;
  remove = λ M 𝓤 𝓛 m f κs a g r e. refl;
  check = λ M 𝓤 𝓛 m f κs a g r e. refl;
  look = λ κs a r e h l k. let z = look_first width tag _ _ l k in h ∙ done_zero _ _ _ z ∙ (look_done width _ _ z).1;
  look_refused = λ κs a r e h k. h ∙ done_other _ _ _ (look_other width tag _ _ k);
  count = λ M 𝓤 𝓛 m f κs a g r e. refl;
  lowest_free = λ M 𝓤 𝓛 m f κs a g r e. refl;
  digest = λ κs a r e h. h;
  hmac = λ κs a r e h. h;
  pack = λ M 𝓤 𝓛 m f κs a g r e. refl;
  unpack = λ M 𝓤 𝓛 m f κs a g r e. refl;
  compare = λ M 𝓤 𝓛 m f κs a g r e. refl;
  same = same;
  answered = answered;
}
