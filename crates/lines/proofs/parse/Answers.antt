-- `lines::parse` meets its contract: the words one after the other. Assumes nothing.
use Rattle.std.proofs.Common.{rules}
use mathlib.Core.Path.{sym, ap, ◌∙◌}
use Rattle.lines.specs.Parse.{with_address, command_of, parsed}
use Rattle.lines.proofs.Yields.{words_yielded, one, two, three, four, more}
use Rattle.lines.proofs.parse.Goals as goal

pub returns-in_default : goal.returns-in_default
unfolding parsed
returns-in_default c =
    let w = c.split-words.ensures in
    let y = words_yielded _ _ c.args.line.now c.next.ensures.steps w.rest w.done (λ x b q k. search rules) in
    let e = one _ _ c.in_ok-name.name y c.in_ok-name.ensures.steps c.in_default.ensures.steps in
    search (rules, ap command_of (sym e))

pub returns-in_default-next : goal.returns-in_default-next
unfolding parsed command_of
returns-in_default-next c =
    let w = c.split-words.ensures in
    let y = words_yielded _ _ c.args.line.now c.next.ensures.steps w.rest w.done (λ x b q k. search rules) in
    let e = two c.next.new.self _ _ c.in_ok-name.name c.in-Some.address y c.in_ok-name.ensures.steps c.in-Some.ensures.steps c.in_default-next.ensures.steps in
    c.with_address.ensures ∙ ap (with_address _) c.decimal.ensures ∙ ap command_of (sym e)

pub returns-in_default-next-2 : goal.returns-in_default-next-2
unfolding parsed command_of
returns-in_default-next-2 c =
    let w = c.split-words.ensures in
    let y = words_yielded _ _ c.args.line.now c.next.ensures.steps w.rest w.done (λ x b q k. search rules) in
    let e = three c.next.new.self c.next-2.new.self _ _ c.in_ok-name.name c.in-Some.address c.in-Some-next.value y c.in_ok-name.ensures.steps c.in-Some.ensures.steps c.in-Some-next.ensures.steps c.in_default-next-2.ensures.steps in
    c.with_value.ensures ∙ rw (c.decimal-in_default-next-2.ensures, c.hex.ensures) (ap command_of (sym e))

pub returns-then-is_some : goal.returns-then-is_some
unfolding parsed command_of
returns-then-is_some c =
    let w = c.split-words.ensures in
    let y = words_yielded _ _ c.args.line.now c.next.ensures.steps w.rest w.done (λ x b q k. search rules) in
    let e = more c.next.new.self c.next-2.new.self c.next-3.new.self c.next-4.new.self c.next-5.new.self c.in_ok-name.name c.in-Some.address c.in-Some-next.value c.in-Some-next-2.stamp c.next-5.result (sym c.is_some.ensures ∙ c.if-is_some.true) y c.in_ok-name.ensures.steps c.in-Some.ensures.steps c.in-Some-next.ensures.steps c.in-Some-next-2.ensures.steps c.next-5.ensures.steps in
    ap command_of (sym e.1.1)

pub returns : goal.returns
unfolding parsed command_of
returns c =
    let w = c.split-words.ensures in
    let y = words_yielded _ _ c.args.line.now c.next.ensures.steps w.rest w.done (λ x b q k. search rules) in
    let e = four c.next.new.self c.next-2.new.self c.next-3.new.self c.next-4.new.self c.next-5.new.self c.in_ok-name.name c.in-Some.address c.in-Some-next.value c.in-Some-next-2.stamp c.next-5.result (sym c.is_some.ensures ∙ c.if-is_some.false) y c.in_ok-name.ensures.steps c.in-Some.ensures.steps c.in-Some-next.ensures.steps c.in-Some-next-2.ensures.steps c.next-5.ensures.steps in
    c.with_stamp.ensures ∙ rw (c.decimal-2.ensures, c.hex-2.ensures, c.decimal-3.ensures) (ap command_of (sym e))
