-- `schedule::scheduled` meets its contract: the first t places hold the first t words of the schedule. Assumes nothing.
use Rattle.std.proofs.Common.{◌≡◌, ◌++◌, length, set, replicate, sym, ap, ◌∙◌, arith, rules}
use Rattle.schedule.proofs.Schedule.{schedule_block, schedule_turn}
use Rattle.schedule.proofs.scheduled.Goals as goal

pub loop-t-init : goal.loop-t-init
loop-t-init c =
    let n : length c.args.block ≡ 16 = search rules in
    ap (λ l. l ++ replicate 48 0) (c.copy_from_slice.ensures.after ∙ sym (schedule_block c.args.block n))

pub loop-t-preserved : goal.loop-t-preserved
loop-t-preserved c = let l = c.loop-t in ap (set l.w l.t) c.next_word.ensures ∙ schedule_turn c.args.block (replicate 64 0) l.w l.t (omega arith) (omega arith) l.invariant
