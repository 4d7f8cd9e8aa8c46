-- `lines::find` meets its contract: where the first `end` stands. Assumes nothing.
use Rattle.std.proofs.Common.{rules}
use lib.Dec.{eqb}
use Rattle.std.proofs.lemmas.Iterator.{YieldsList-from_slice}
use Rattle.std.proofs.lemmas.Iterator.Search.{position_from_yields_List}
use Rattle.lines.proofs.Cuts.{before_found}
use Rattle.lines.proofs.find.Goals as goal

pub returns : goal.returns
returns c =
    let a = c.args in
    let p = c.position in
    let e = position_from_yields_List (λ x. eqb x a.end) _ _ p.result p.ensures.ran (YieldsList-from_slice a.s.now c.iter.ensures.rest) (λ x b q k. search rules) in
    before_found a.end a.s.now p.result c.unwrap_or.result e c.unwrap_or.ensures
