-- `filter::write` meets its contract: three words and the prefix fill the buffer. Assumes nothing.
use mathlib.Core.Path.{◌≡◌, ◌∙◌}
use Prim.Native.Nat.{ℕ}
use lib.ListN.{length, get_or}
use mir.Val.{Fits}
use mir.Syntax.{w8, w32}
use Rattle.octets.proofs.Layouts.{fit_bytes}
use Rattle.filter.specs.declared.FilterRecord.{FilterRecord}
use Rattle.filter.proofs.Fields.{written, all_put}
use borrow.Author.Rules.{rules}
use Rattle.filter.proofs.write.Goals as goal

pub returns : goal.returns
returns c =
    let r : FilterRecord = c.args.r in
    let n : length r.prefix ≡ 16 = search rules in
    let g : (i : ℕ) → Fits w8 (get_or r.prefix i 0) = λ i. search rules in
    let l : Fits w8 r.length = search rules in
    let o : Fits w8 r.longest = search rules in
    let m : Fits w32 r.member = search rules in
    let s : Fits w32 r.serial = search rules in
    all_put c.head.result r.member r.serial r.prefix c.args.out.now c.requires (c.copy_from_slice.ensures.after ∙ c.to_be_bytes.ensures)
    (c.copy_from_slice-2.ensures.after ∙ c.to_be_bytes-2.ensures) (c.copy_from_slice-3.ensures.after ∙ c.to_be_bytes-3.ensures) c.copy_from_slice-4.ensures.after
    ∙ written r (record { length = l.fits; longest = o.fits; member = m.fits; serial = s.fits; prefix = fit_bytes 16 r.prefix n (λ i. (g i).fits) }) c.head.result c.head.type_inv c.head.ensures
