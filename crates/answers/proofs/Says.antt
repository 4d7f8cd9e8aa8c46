-- The pieces of an answer's line, put together, and how long a line is. Assumes nothing.
use mathlib.Core.Path.{◌≡◌, sym, ap, ◌∙◌}
use mathlib.Core.List.{List, [], ◌∷◌, ◌++◌, append_assoc}
use native.Mathlib.Omega.{arith}
use Prim.Native.Nat.{ℕ, ◌≤◌, ◌<◌}
use lib.ListN.{length, length-append}
use Rattle.text.specs.Text.{ascii, decimal, hex}
use Rattle.text.proofs.Numerals.{decimal_small, decimal_length}
use Rattle.page.specs.declared.Page.{Page}
use Rattle.page.specs.Written.{written}
use Rattle.page.proofs.Pages.{written_two}
use Rattle.lines.specs.Grammar.{blank, newline, spaced}
use Rattle.answers.specs.Answers.{name_of, words_said, said}
use Rattle.answers.specs.declared.Name.{Name}
use Rattle.answers.specs.declared.Name.TheVariants.{Add, Store, Load, Remove, Check, Spoil}
use Rattle.answers.specs.declared.Answer.{Answer}
use Rattle.answers.specs.declared.Answer.TheVariants.{Numbered, Loaded, Accepted, Stamp, Tag, Bad}

-- the line of an answer is its words and a newline
pub ended : (p q r : Page) (t : List ℕ) (a b : Answer) → q ≡ written p t → r ≡ written q (newline ∷ []) → t ≡ spaced (words_said a) → b ≡ a → r ≡ written p (said b)
unfolding said
ended p q r t a b e f g h = written_two p q r t (newline ∷ []) e f ∙ ap (λ x. written p (x ++ (newline ∷ []))) g ∙ ap (λ x. written p (said x)) (sym h)

pub numbered : (c : Name) (n : ℕ) → (name_of c ++ (blank ∷ [])) ++ decimal n ≡ spaced (words_said (Numbered c n))
unfolding spaced
numbered c n = append_assoc (name_of c) (blank ∷ []) (decimal n)

pub loaded : (b : ℕ) → ascii "load 0 " ++ hex b ≡ spaced (words_said (Loaded b))
unfolding spaced
loaded b = rw (decimal_small 0 (omega arith))

-- an answer whose number is one digit, and whose address fits two bytes
abbrev pub Short : Answer → Type 0
Short (Numbered c n) = n < 10
Short (Loaded b) = Unit {0}
Short Accepted = Unit {0}
Short (Stamp a) = a < 65536
Short Tag = Unit {0}
Short Bad = Unit {0}

name_fits : (c : Name) → length (name_of c) ≤ 6
name_fits Add = omega arith
name_fits Store = omega arith
name_fits Load = omega arith
name_fits Remove = omega arith
name_fits Check = omega arith
name_fits Spoil = omega arith

pub said_fits : (a : Answer) → Short a → length (said a) ≤ 25
unfolding said spaced hex
said_fits (Numbered c n) h =
    omega (arith, length-append (name_of c ++ (blank ∷ decimal n)) (newline ∷ []), length-append (name_of c) (blank ∷ decimal n), name_fits c, ap length (decimal_small n h))
said_fits (Loaded b) h = rw (decimal_small 0 (omega arith)) (omega arith)
said_fits Accepted h = omega arith
said_fits (Stamp a) h = omega (arith, length-append (decimal a) (newline ∷ []), decimal_length a 4 (omega arith))
said_fits Tag h = omega arith
said_fits Bad h = omega arith
