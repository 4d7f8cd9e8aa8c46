-- `multiset::same_tag` meets its contract: after each turn the byte tells of one place more. Assumes nothing.
use Rattle.std.proofs.Common.{◌∙◌, ⊎_elim}
use Rattle.multiset.proofs.Apart.{tells_more, tells_all}
use Rattle.multiset.proofs.same_tag.Goals as goal

pub loop-x-preserved : goal.loop-x-preserved
loop-x-preserved c = let e = c.in-Some.ensures.steps in tells_more _ _ _ _ _ (rw (e.0, e.1) at c.loop-x.invariant)

pub returns : goal.returns
returns c = let h = c.loop-x.invariant in tells_all _ _ _ _ _ h (⊎_elim (λ e. e.1.0) (λ e. h.long ∙ e.1.0) c.in-None.ensures.steps)
