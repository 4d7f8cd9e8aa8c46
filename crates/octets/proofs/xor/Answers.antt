-- `octets::xor` meets its contract: the loop fills the table of the exclusive-or. Assumes nothing.
use Rattle.std.proofs.Common.{◌≡◌, ℕ, get_or, replicate, refl, ◌∙◌, arith, rules}
use Rattle.std.proofs.lemmas.List.{length-replicate}
use lib.Bits.{bit_xor}
use Rattle.octets.specs.Places.{tabulate}
use Rattle.octets.proofs.Places.{fill_step, fill_end, tabulate_xor}
use Rattle.octets.proofs.xor.Goals as goal

pub loop-i-init : goal.loop-i-init
unfolding tabulate
loop-i-init g c = refl

pub loop-i-preserved : goal.loop-i-preserved
loop-i-preserved g c =
    let l = c.loop-i in
    rw l.invariant (fill_step (λ k. bit_xor (get_or c.args.s k 0) (get_or c.args.t k 0)) l.i (replicate g.row.N 0) (omega (arith, length-replicate {A = ℕ})))

pub returns : goal.returns
returns g c =
    let e : c.loop-i.i ≡ g.row.N = omega arith in
    rw e at c.loop-i.invariant ∙ fill_end _ (replicate g.row.N 0) g.row.N (omega (arith, length-replicate {A = ℕ})) ∙ tabulate_xor c.args.s c.args.t g.row.N (search rules) (search rules)
