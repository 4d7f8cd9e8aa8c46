-- `session::run` meets its contract: the input is too long, or its lines are run from the start; either text fits. Assumes nothing.
use mathlib.Core.Path.{refl, sym, ap, ◌∙◌}
use native.Mathlib.Omega.{arith}
use Rattle.page.specs.Page.{write}
use Rattle.page.specs.Written.{shown}
use Rattle.page.proofs.Pages.{write_whole}
use Rattle.state.specs.Sizes.{store_size}
use Rattle.state.specs.Start.{Begun}
use Rattle.session.proofs.Fits.{session_fits}
use Rattle.session.proofs.Turns.{session_long, session_short}
use Rattle.session.proofs.run.Goals as goal

pub returns-then-input-gt-LIMIT : goal.returns-then-input-gt-LIMIT
returns-then-input-gt-LIMIT c =
    let input = c.args.input.now in
    ap shown c.put.ensures ∙ ap (write _) (sym (session_long input (omega arith))) ∙ write_whole _ _ (omega (arith, session_fits input))

pub returns : goal.returns
unfolding store_size
returns c =
    let input = c.args.input.now in
    ap shown c.run_lines.ensures ∙ ap (write _) (sym (session_short input _ _ (omega arith) (ap (λ (x : Begun). x.state) c.start-started.ensures) refl)) ∙ write_whole _ _ (omega (arith, session_fits input))
