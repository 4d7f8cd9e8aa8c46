-- What a session prints has at most 102,400 bytes: 25 for each line, and no more lines than bytes. Assumes nothing.
use mathlib.Core.Path.{◌≡◌, refl}
use mathlib.Core.Bool.{Bool, true, false, cond}
use mathlib.Core.List.{List, [], ◌∷◌}
use Prim.Native.Nat.{ℕ, ◌+◌, ◌*◌, ◌≤◌}
use native.Mathlib.Omega.{arith}
use borrow.Author.Tests.{ltb-true, ltb-false}
use lib.Dec.{eqb, ltb}
use lib.ListN.{length, replicate, length-append}
use Rattle.lines.specs.Grammar.{newline, onto, parts, lines_in}
use Rattle.lines.specs.Parse.{parsed}
use Rattle.answers.specs.Answers.{said}
use Rattle.answers.proofs.Says.{said_fits}
use Rattle.commands.specs.Commands.{ran_line}
use Rattle.commands.proofs.Short.{Kept, line_short}
use Rattle.state.specs.Sizes.{width, key_size, store_size}
use Rattle.state.specs.Start.{fresh, start_of}
use Rattle.state.specs.declared.State.{State}
use Rattle.session.specs.Session.{output_of, session_of, room}
use Rattle.session.specs.Fits.{SessionFits}
use Rattle.session.proofs.Turns.{session_long, session_short}

output_fits : (s : State) (m : List ℕ) (ls : List (List ℕ)) → Kept s → length (output_of s m ls) ≤ 25 * length ls
unfolding output_of
output_fits s m [] k = omega arith
output_fits s m (l ∷ ls) k =
    let r = ran_line s m (parsed l) in
    let a = line_short s m (parsed l) k in
    omega (arith, length-append (said r.answer) (output_of r.state r.store ls), said_fits r.answer a.0, output_fits r.state r.store ls a.1)

-- no more lines than bytes
onto_length : (x : ℕ) (ps : List (List ℕ)) → length (onto x ps) ≤ length ps + 1
onto_length x [] = omega arith
onto_length x (p ∷ ps) = omega arith

lines_fit : (input : List ℕ) → length (lines_in input) ≤ length input
unfolding lines_in parts
lines_fit [] = omega arith
lines_fit (x ∷ xs) = go (eqb x newline) (lines_fit xs)
  where
    go : (b : Bool) → length (lines_in xs) ≤ length xs → length (cond b ([] ∷ lines_in xs) (onto x (lines_in xs))) ≤ length (x ∷ xs)
    go true h = omega arith
    go false h = omega (arith, onto_length x (lines_in xs))

pub session_fits : SessionFits
unfolding start_of fresh key_size
session_fits input = go (ltb 4096 (length input)) refl
  where
    go : (b : Bool) → ltb 4096 (length input) ≡ b → length (session_of input) ≤ room
    go true e = rw (session_long input (ltb-true 4096 (length input) e)) (omega arith)
    go false e =
        let s = (start_of (replicate 32 0)).state in
        let m : List ℕ = replicate (store_size width) 0 in
        let h : length input ≤ 4096 = ltb-false 4096 (length input) e in
        rw (session_short input s m h refl refl) (omega (arith, output_fits s m (lines_in input) (omega arith), lines_fit input))
