-- `filter::spare` meets its contract: the spare bits are the low 14 of bytes 2 and 3. Assumes nothing.
use mathlib.Core.Path.{◌≡◌}
use mathlib.Core.List.{List}
use Prim.Native.Nat.{ℕ}
use native.Mathlib.Omega.{arith}
use borrow.Author.Rules.{rules}
use lib.ListN.{length, get_or}
use mir.Val.{Fits}
use mir.Syntax.{w8}
use Rattle.filter.proofs.Fields.{spare_is}
use Rattle.filter.proofs.spare.Goals as goal

pub returns : goal.returns
returns c =
    let b : List ℕ = c.args.b in
    let n : length b ≡ 28 = search rules in
    let g : (i : ℕ) → Fits w8 (get_or b i 0) = λ i. search rules in
    spare_is b n (λ i. (g i).fits) _ (omega (arith, c.from_be_bytes.ensures))
