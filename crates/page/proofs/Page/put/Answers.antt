-- `page::Page::put` meets its contract: the part of the buffer from the place on is copied to, unless the buffer is full. Assumes nothing.
use mathlib.Core.Path.{◌≡◌, sym, ap, ◌∙◌}
use native.Mathlib.Omega.{arith}
use Rattle.page.specs.Page.{page}
use Rattle.page.proofs.Pages.{shows, write_full, write_part}
use Rattle.page.proofs.Page.put.Goals as goal
use Rattle.page.proofs.Page.put.Goals.{then-self-end, else-self-end}

pub returns : goal.returns
returns c =
    let p = c.args.self.now in
    let o = p.bytes.now in
    let l = c.args.text.now in
    elim c.if-self-end.branch [
      | then-self-end w ↦
          let at : c.if-self-end.self.at ≡ p.at = ap (λ x. x.at) w.self-is in
          shows p _ _ _ _ (ap (λ x. x.bytes) w.self-is) (write_part o l _ p.at _ (omega arith) w.copy.ensures (omega (arith, at, c.well_formed)))
      | else-self-end w ↦
          let at : c.if-self-end.self.at ≡ p.at = ap (λ x. x.at) w.self-is in
          shows p _ o _ _ (ap (λ x. x.bytes) w.self-is) (ap (page o) (omega (arith, at, c.well_formed)) ∙ sym (write_full o l p.at w.if-self-end.false))
    ]
