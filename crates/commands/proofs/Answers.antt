-- What a refused load answers. Assumes nothing.
use mathlib.Core.Path.{◌≡◌, sym}
use Prim.Native.Nat.{ℕ}
use Rattle.std.specs.Prelude.{Option, Some}
use Rattle.refusal.proofs.Passed.{done_other}
use Rattle.answers.specs.declared.Name.TheVariants.{Load}
use Rattle.answers.specs.declared.Answer.TheVariants.{Numbered}
use Rattle.commands.specs.Commands.{load_answer}

pub load_refused : (n b : ℕ) → (n ≡ 0 → ⊥) → Numbered Load n ≡ load_answer n b
load_refused n b h = sym (done_other n _ _ h)
