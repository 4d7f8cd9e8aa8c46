-- `answers::say` meets its contract: by the answer. Assumes nothing.
use mathlib.Core.Path.{refl, sym, ap, ◌∙◌}
use Rattle.page.specs.Written.{written}
use Rattle.page.proofs.Pages.{written_two}
use Rattle.lines.specs.Grammar.{spaced}
use Rattle.answers.specs.Answers.{said}
use Rattle.answers.specs.declared.Answer.TheVariants.{Numbered, Loaded, Stamp}
use Rattle.answers.proofs.Says.{ended, numbered, loaded}
use Rattle.answers.proofs.say.Goals as goal
use Rattle.answers.proofs.say.Goals.{in-Numbered, in-Loaded, in-Stamp}

pub returns : goal.returns
unfolding spaced
returns c =
    let p = c.args.page.now in
    elim c.match-answer.branch [
      | in-Numbered w ↦
          let named = written_two p _ _ _ _ (w.put.ensures ∙ ap (written p) w.text.ensures) w.put-in-Numbered.ensures in
          ended p _ _ _ (Numbered _ _) _ (w.page-is ∙ written_two p _ _ _ _ named w.put_decimal.ensures) c.put-2.ensures (numbered _ _) w.in-Numbered.is
      | in-Loaded w ↦ ended p _ _ _ (Loaded _) _ (w.page-is ∙ written_two p _ _ _ _ w.put-in-Loaded.ensures w.put_hex.ensures) c.put-2.ensures (loaded _) w.in-Loaded.is
      | in-Stamp w ↦ ended p _ _ _ (Stamp _) _ (w.page-is ∙ written_two p _ _ _ _ w.put-in-Stamp.ensures w.put_decimal-in-Stamp.ensures) c.put-2.ensures refl w.in-Stamp.is
    ]

pub returns-in-Accepted : goal.returns-in-Accepted
unfolding said spaced
returns-in-Accepted c = c.put-in-Accepted.ensures ∙ ap (λ x. written c.args.page.now (said x)) (sym c.in-Accepted.is)

pub returns-in-Tag : goal.returns-in-Tag
unfolding said spaced
returns-in-Tag c = c.put-in-Tag.ensures ∙ ap (λ x. written c.args.page.now (said x)) (sym c.in-Tag.is)

pub returns-in-Bad : goal.returns-in-Bad
unfolding said spaced
returns-in-Bad c = c.put-in-Bad.ensures ∙ ap (λ x. written c.args.page.now (said x)) (sym c.in-Bad.is)
