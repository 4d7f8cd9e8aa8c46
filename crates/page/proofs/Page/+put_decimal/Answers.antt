-- `page::Page::put_decimal` meets its contract: by the digits before the last one. Assumes nothing.
use mathlib.Core.Path.{◌≡◌, sym, ap, ap₂, ◌∙◌}
use mathlib.Core.List.{[], ◌∷◌, ◌++◌}
use native.Mathlib.Omega.{arith}
use Prim.Native.Nat.{ℕ, ◌+◌, ◌/◌, ◌%◌, ◌<◌, ◌≤◌}
use Rattle.text.specs.Text.{decimal}
use Rattle.text.proofs.Numerals.{decimal_small, decimal_more}
use Rattle.page.specs.Written.{written}
use Rattle.page.proofs.Pages.{written_written}
use Rattle.page.proofs.Page.+put_decimal.Goals as goal
use Rattle.page.proofs.Page.+put_decimal.Goals.{then-n-gt9, else-n-gt9}

more : (n : ℕ) → 9 < n → decimal (n / 10) ++ ((48 + n % 10) ∷ []) ≡ decimal n
more n h = sym (decimal_more (n / 10) (n % 10) (omega arith) (omega arith)) ∙ ap decimal (omega arith)

small : (n : ℕ) → n ≤ 9 → (48 + n % 10) ∷ [] ≡ decimal n
small n h = ap (λ d. (48 + d) ∷ []) (omega arith) ∙ sym (decimal_small n (omega arith))

pub returns : goal.returns
returns t c =
    let p = c.args.self.now in
    let n = c.args.n in
    elim c.if-n-gt9.branch [
      | then-n-gt9 w ↦ c.put.ensures ∙ ap (λ q. written q ((48 + n % 10) ∷ [])) (w.self-is ∙ w.put_decimal.ensures) ∙ written_written p (decimal (n / 10)) ((48 + n % 10) ∷ []) ∙ ap (written p) (more n w.if-n-gt9.true)
      | else-n-gt9 w ↦ c.put.ensures ∙ ap₂ written w.self-is (small n w.if-n-gt9.false)
    ]
