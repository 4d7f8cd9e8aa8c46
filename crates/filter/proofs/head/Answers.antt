-- `filter::head` meets its contract: its four parts do not meet, so their sum is the word with spare bits that are 0. Assumes nothing.
use mathlib.Core.Path.{◌∙◌}
use native.Mathlib.Omega.{arith}
use borrow.Author.Rules.{rules}
use mir.Val.{Fits}
use mir.Syntax.{w8}
use Rattle.filter.specs.Filter.{family_number, action_number}
use Rattle.filter.specs.declared.FilterRecord.{FilterRecord}
use Rattle.filter.proofs.Fields.{family_below, action_below, head_whole}
use Rattle.filter.proofs.head.Goals as goal

pub returns : goal.returns
returns c =
    let r : FilterRecord = c.args.r in
    let l : Fits w8 r.length = search rules in
    let o : Fits w8 r.longest = search rules in
    omega (
      arith,
      c.from-2.ensures ∙ c.from.ensures,
      family_below r.family,
      c.from-4.ensures ∙ c.from-3.ensures,
      action_below r.action,
      c.from-5.ensures,
      l.fits,
      c.from-6.ensures,
      o.fits,
      head_whole (family_number r.family) (action_number r.action) r.length r.longest 0,
    )
