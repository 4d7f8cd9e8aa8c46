-- `session::run_lines` meets its contract: what is written, and then what the lines that are left print, is what the whole session prints. Assumes nothing.
use Rattle.std.proofs.Common.{rules, ℕ, List, Bor}
use mathlib.Core.Path.{ap, ◌∙◌}
use mathlib.Core.List.{[], ◌∷◌}
use lib.Dec.{eqb}
use Rattle.std.proofs.lemmas.Fn.{always_returns_same}
use Rattle.std.proofs.lemmas.Slice.Eq.{strip_suffix_is}
use Rattle.std.proofs.lemmas.Bool.Decides.{Decides-eqb}
use Rattle.lines.specs.Parse.{parsed}
use Rattle.lines.specs.Grammar.{newline}
use Rattle.page.specs.Written.{written}
use Rattle.page.proofs.Pages.{written_within}
use Rattle.session.specs.Session.{output_of}
use Rattle.session.proofs.Turns.{turn, first_line}
use Rattle.session.proofs.run_lines.Goals as goal

pub loop-part-preserved : goal.loop-part-preserved
loop-part-preserved c =
    let l = c.loop-part in
    let k = c.in-Some.ensures.steps in
    let part = c.in-Some.part in
    let strip = strip_suffix_is Decides-eqb part.now (newline ∷ []) c.strip_suffix.result (search rules) in
    let at = k.1.2 (λ b. eqb b newline) (always_returns_same _ _ _ (λ x b q k. search rules)) in
    record {
      within = written_within _ _ _ c.say.ensures;
      whole = turn _ _ _ _ _ _ _ _ (c.parse.ensures ∙ ap (λ (x : Bor (List ℕ)). parsed x.now) c.unwrap_or-line.ensures) c.run-ran.ensures c.say.ensures
          ∙ ap (λ ls. written l.page (output_of l.state l.store ls)) (first_line _ part _ _ k.1.0 strip k.0 k.1.1 at.1 k.2)
          ∙ l.invariant.whole;
    }
