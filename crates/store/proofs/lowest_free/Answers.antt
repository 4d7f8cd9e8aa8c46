-- `store::lowest_free` meets its contract: row 9 is tested. Assumes nothing.
use borrow.Author.Tests.{eq-eqb, ne_eqb}
use mathlib.Core.Path.{◌≡◌, sym, ◌∙◌}
use Rattle.state.specs.Sizes.{addresses}
use Rattle.state.specs.Marks.{lowest_free}
use Rattle.state.specs.Access.{lowest_of}
use Rattle.store.proofs.lowest_free.Goals as goal

pub returns-then-a-eq-ADDRESSES : goal.returns-then-a-eq-ADDRESSES
unfolding lowest_of addresses
returns-then-a-eq-ADDRESSES c =
    let e : lowest_free c.args.s.marks ≡ 1024 = sym c.lowest-a.ensures ∙ c.if-a-eq-ADDRESSES.true in
    rw (eq-eqb _ 1024 e)

pub returns : goal.returns
unfolding lowest_of addresses
returns c =
    let e : c.lowest-a.result ≡ lowest_free c.args.s.marks = c.lowest-a.ensures in
    rw (e, ne_eqb _ 1024 (λ f. c.if-a-eq-ADDRESSES.false (e ∙ f)))
