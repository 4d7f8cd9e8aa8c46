-- `multiset::same_tag`: after each turn the byte tells of one place more.
use Rattle.multiset.proofs.Apart.{Tells}
use Rattle.multiset.proofs.same_tag.Given as goal

abbrev pub invariant-loop-x : goal.invariant-loop-x
invariant-loop-x l = Tells l.fn.s l.fn.t l.apart l.x-iterator.a.rest.now l.x-iterator.b.rest.now
