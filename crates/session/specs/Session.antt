-- 01, "The bench program": what a whole session prints.
-- Assumes nothing.
use Rattle.std.specs.Prelude.{cond, List, [], ◌∷◌, ◌++◌, ℕ, ltb, length, replicate}
use Rattle.text.specs.Text.{ascii}
use Rattle.lines.specs.Grammar.{lines_in}
use Rattle.lines.specs.Parse.{parsed}
use Rattle.answers.specs.Answers.{said}
use Rattle.commands.specs.Commands.{ran_line}
use Rattle.state.specs.Sizes.{width, key_size, store_size}
use Rattle.state.specs.Start.{start_of}
use Rattle.state.specs.declared.State.{State}

-- what lines print, one after the other
unfoldable pub output_of : State → List ℕ → List (List ℕ) → List ℕ
output_of s m [] = []
output_of s m (l ∷ ls) = let r = ran_line s m (parsed l) in said r.answer ++ output_of r.state r.store ls

-- up to 4,096 bytes are read; the key and the store are zero bytes
abbrev pub limit : ℕ
limit = 4096

unfoldable pub session_of : List ℕ → List ℕ
session_of input =
    cond (ltb limit (length input)) (ascii "too long\n")
    (output_of (start_of (replicate key_size 0)).state (replicate (store_size width) 0) (lines_in input))

-- the bytes of the buffer that a session is printed to
abbrev pub room : ℕ
room = 131072
