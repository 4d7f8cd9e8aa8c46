-- `sha256::finish` meets its contract: the loop takes in the padded rest, block after block. Assumes nothing.
use Rattle.std.proofs.Common.{refl, sym, ◌∙◌, add-one, arith}
use Rattle.sha256.specs.Sha256.{hashed}
use Rattle.sha256.proofs.Answers.{finish_short}
use Rattle.sha256.proofs.Padding.{hashed_finished}
use Rattle.sha256.proofs.finish.Goals as goal

pub loop-i-init : goal.loop-i-init
unfolding hashed
loop-i-init c = refl

pub loop-i-preserved : goal.loop-i-preserved
unfolding hashed
loop-i-preserved c = simp (add-one, c.compressed-next.ensures, c.padded_block.ensures, c.loop-i.invariant)

pub returns : goal.returns
returns c =
    let l = c.loop-i in
    let a = c.args in
    let m = a.rest.now in
    l.invariant ∙ hashed_finished a.h a.before m l.i (omega arith) (omega arith) ∙ sym (finish_short m _ _ (omega arith))
