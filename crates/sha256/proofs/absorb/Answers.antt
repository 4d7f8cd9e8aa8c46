-- `sha256::absorb` meets its contract: 64 bytes are one block. Assumes nothing.
use borrow.Author.Rules.{rules}
use mathlib.Core.Path.{◌≡◌}
use Prim.Native.Nat.{◌/◌}
use native.Mathlib.Omega.{arith}
use lib.ListN.{length}
use Rattle.sha256.specs.Sha256.{hashed, absorbed}
use Rattle.sha256.proofs.absorb.Goals as goal

pub returns : goal.returns
unfolding absorbed hashed
returns c =
    let b = c.args.b in
    let n : length b ≡ 64 = search rules in
    let e : length b / 64 ≡ 1 = omega arith in
    rw (e, c.compressed.ensures, c.whole_block.ensures)
