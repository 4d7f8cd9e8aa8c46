-- `filter::read` meets its contract: each field is the part of the bytes' number that its width cuts out. Assumes nothing.
use mathlib.Core.Path.{◌≡◌, ap, ◌∙◌}
use mathlib.Core.List.{List}
use Prim.Native.Nat.{ℕ, ◌/◌, ◌%◌}
use lib.ListN.{length, get_or}
use mir.Val.{Fits}
use mir.Syntax.{w8}
use borrow.Author.Rules.{rules}
use Rattle.filter.specs.Filter.{family_of, action_of}
use Rattle.filter.proofs.Fields.{filter_is}
use Rattle.filter.proofs.read.Goals as goal

pub returns : goal.returns
returns c =
    let b : List ℕ = c.args.b in
    let n : length b ≡ 28 = search rules in
    let g : (i : ℕ) → Fits w8 (get_or b i 0) = λ i. search rules in
    let h = c.from_be_bytes-head.ensures in
    filter_is b n (λ i. (g i).fits) _ (c.from.ensures ∙ ap (λ (w : ℕ). family_of (w / 2147483648)) h)
    (c.from-2.ensures ∙ ap (λ (w : ℕ). action_of (w / 1073741824 % 2)) h) (ap (λ (w : ℕ). w / 4194304 % 256) h) (ap (λ (w : ℕ). w / 16384 % 256) h) c.from_be_bytes.ensures c.from_be_bytes-2.ensures c.copy_from_slice.ensures.after
