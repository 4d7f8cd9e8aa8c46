-- A session goes line by line: what the first line prints, and what the others print after it. Assumes nothing.
use borrow.Author.Tests.{lt-ltb, le-ltb, eqb-true, eq-eqb}
use mathlib.Core.Path.{◌≡◌, sym, ap, ap₂, ◌∙◌}
use mathlib.Core.Bool.{true, false}
use mathlib.Core.Logic.{⊎_elim, ◌≢◌}
use mathlib.Core.List.{List, [], ◌∷◌, ◌++◌}
use native.Mathlib.Omega.{arith}
use Prim.Native.Nat.{ℕ, min, ◌+◌, ◌≤◌, ◌<◌}
use lib.Dec.{eqb}
use lib.ListN.{length, get_or, take, drop, replicate, length-append}
use denote.Bor.{Bor}
use Rattle.std.specs.Prelude.{Option, Some, None, MatchOption, unwrap_or}
use Rattle.std.specs.List.{IsFirstMatchOrLen}
use Rattle.std.proofs.lemmas.Bool.{cases_lt}
use Rattle.std.proofs.lemmas.Grind.{common_steps}
use Rattle.std.proofs.lemmas.List.Sums.{position_or_len_is}
use Rattle.text.specs.Text.{ascii}
use Rattle.page.specs.declared.Page.{Page}
use Rattle.page.specs.Written.{written}
use Rattle.page.proofs.Pages.{written_written, written_none}
use Rattle.lines.specs.Grammar.{newline, lines_in}
use Rattle.lines.specs.Parse.{parsed}
use Rattle.lines.specs.declared.Command.{Command}
use Rattle.lines.proofs.Cuts.{before_position, lines_none, lines_more}
use Rattle.answers.specs.Answers.{said}
use Rattle.commands.specs.Commands.{Ran, ran_line}
use Rattle.state.specs.Sizes.{width, key_size, store_size}
use Rattle.state.specs.Start.{start_of}
use Rattle.state.specs.declared.State.{State}
use Rattle.session.specs.Session.{output_of, session_of}

-- a line and the others
pub turn : (g h : Page) (s : State) (m : List ℕ) (c : Option Command) (line : List ℕ) (ls : List (List ℕ)) (r : Ran)
    → c ≡ parsed line → r ≡ ran_line s m c → h ≡ written g (said r.answer) → written h (output_of r.state r.store ls) ≡ written g (output_of s m (line ∷ ls))
unfolding output_of
turn g h s m c line ls r e q w =
    ap (λ x. written x (output_of r.state r.store ls)) w
    ∙ written_written g (said r.answer) (output_of r.state r.store ls)
    ∙ ap (λ (x : Ran). written g (said x.answer ++ output_of x.state x.store ls)) (q ∙ ap (ran_line s m) e)

-- the first line, and the lines past it, where the first newline stands
line_at : (w : List ℕ) (n : ℕ) → 0 < length w → n ≤ length w → ((k : ℕ) → k < n → eqb (get_or w k 0) newline ≡ false) → (n < length w → eqb (get_or w n 0) newline ≡ true)
    → lines_in w ≡ take n w ∷ lines_in (drop (n + 1) w)
line_at w n some fits others ends = lines_more w n (sym (before_position newline w ∙ position_or_len_is (λ b. eqb b newline) w n 0 fits others ends)) some

-- the first part of an input that is split after each newline is the first line, once a newline at its end is stripped
pub first_line : (o : Option (Bor (List ℕ))) (part : Bor (List ℕ)) (w t : List ℕ) (i : ℕ)
    → MatchOption o ((front : List ℕ) → part.now ≢ front ++ (newline ∷ [])) (λ x. part.now ≡ x.now ++ (newline ∷ []))
    → w ≡ part.now ++ t → length part.now ≡ min (i + 1) (length w) → IsFirstMatchOrLen (λ b. eqb b newline) w i → 0 < length w → (unwrap_or o part).now ∷ lines_in t ≡ lines_in w
first_line None part w t i s e n h some =
    let over : length w ≤ i = ⊎_elim (λ l. absurd (s (take i w) (let a = eqb-true _ newline (h.1 l 0) in grind (arith, common_steps)))) (λ l. l) (cases_lt i (length w)) in
    sym (line_at w (length w) some (omega arith) (λ k l. h.0 k 0 (omega arith) (omega arith)) (λ l. absurd (omega arith))
    ∙ ap₂ (λ l r. l ∷ lines_in r) (grind (arith, common_steps)) (grind (arith, common_steps)))
first_line (Some y) part w t i s e n h some =
    let d = e ∙ ap (λ x. x ++ t) s in
    let long = ap length s ∙ length-append y.now (newline ∷ []) in
    sym (line_at w (length y.now) some (omega arith) (λ k l. h.0 k 0 (omega arith) (omega arith)) (λ l. eq-eqb _ newline (grind (arith, common_steps)))
    ∙ ap₂ (λ l r. l ∷ lines_in r) (grind (arith, common_steps)) (grind (arith, common_steps)))

-- no bytes, no lines
pub no_lines : (s : State) (m l : List ℕ) → length l ≡ 0 → output_of s m (lines_in l) ≡ []
unfolding output_of
no_lines s m [] e = ap (output_of s m) lines_none
no_lines s m (x ∷ xs) e = absurd (omega arith)

-- p with what the lines of `rest` print written after it is g with ls written after it
pub record Left (p g : Page) (ls : List ℕ) (s : State) (m rest : List ℕ) : Type 0 where
  pub within : p.at ≤ length p.bytes.now
  pub whole : written p (output_of s m (lines_in rest)) ≡ written g ls

-- where no line is left, all is written
pub run_out : (p g : Page) (ls : List ℕ) (s : State) (m rest : List ℕ) → Left p g ls s m rest → length rest ≡ 0 → p ≡ written g ls
run_out p g ls s m rest l e = sym (written_none p l.within) ∙ ap (written p) (sym (no_lines s m rest e)) ∙ l.whole

-- a whole session, by its size
pub session_long : (input : List ℕ) → 4096 < length input → session_of input ≡ ascii "too long\n"
unfolding session_of
session_long input h = simp (lt-ltb 4096 (length input) h)

pub session_short : (input : List ℕ) (s : State) (m : List ℕ) → length input ≤ 4096 → s ≡ (start_of (replicate 32 0)).state → m ≡ replicate (store_size width) 0
    → session_of input ≡ output_of s m (lines_in input)
unfolding session_of key_size
session_short input s m h e q = rw (e, q) (simp (le-ltb 4096 (length input) h))
