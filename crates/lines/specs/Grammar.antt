-- 01, "The bench program": the lines of an input, and which bytes are which command.
-- Assumes nothing.
use Rattle.std.specs.Prelude.{◌≡◌, cond, List, [], ◌∷◌, ◌++◌, ℕ, ◌<◌, eqb, Option, Some, None}
use Rattle.text.specs.Text.{ascii, decimal, hex}
use Rattle.lines.specs.declared.Command.{Command}
use Rattle.lines.specs.declared.Command.TheVariants.{Add, Store, Load, Remove, Check, Spoil}

abbrev pub newline : ℕ
newline = 10

abbrev pub blank : ℕ
blank = 32

-- a byte before the first of some parts
abbrev pub onto : ℕ → List (List ℕ) → List (List ℕ)
onto x [] = (x ∷ []) ∷ []
onto x (p ∷ ps) = (x ∷ p) ∷ ps

-- the parts of a list that is cut at each `end`; of an empty list, `last`
unfoldable pub parts : ℕ → List (List ℕ) → List ℕ → List (List ℕ)
parts end last [] = last
parts end last (x ∷ xs) = cond (eqb x end) ([] ∷ parts end last xs) (onto x (parts end last xs))

-- the lines of an input: what stands before each newline, and what stands after the last, unless that is nothing
unfoldable pub lines_in : List ℕ → List (List ℕ)
lines_in input = parts newline [] input

-- the words of a command
unfoldable pub words_of : Command → List (List ℕ)
words_of (Add a v) = ascii "add" ∷ decimal a ∷ hex v ∷ []
words_of (Store a v) = ascii "store" ∷ decimal a ∷ hex v ∷ []
words_of (Load a) = ascii "load" ∷ decimal a ∷ []
words_of (Remove a) = ascii "remove" ∷ decimal a ∷ []
words_of Check = ascii "check" ∷ []
words_of (Spoil a v t) = ascii "spoil" ∷ decimal a ∷ hex v ∷ decimal t ∷ []

-- one blank between words
unfoldable pub spaced : List (List ℕ) → List ℕ
spaced [] = []
spaced (w ∷ []) = w
spaced (w ∷ x ∷ ws) = w ++ (blank ∷ spaced (x ∷ ws))

-- the line of a command
unfoldable pub line_of : Command → List ℕ
line_of c = spaced (words_of c)

-- the commands that a line can be: addresses and stamps are 0 to 65,535, a value is a byte
unfoldable pub Lawful : Command → Type 0
Lawful (Add a v) = (a < 65536) × (v < 256)
Lawful (Store a v) = (a < 65536) × (v < 256)
Lawful (Load a) = a < 65536
Lawful (Remove a) = a < 65536
Lawful Check = Unit {0}
Lawful (Spoil a v t) = (a < 65536) × (v < 256) × (t < 65536)

-- a line is a command exactly when it is the command's line; every other line is none
pub data Reads : List ℕ → Option Command → Type 0 where
  command : (c : Command) → Lawful c → Reads (line_of c) (Some c)
  other : (l : List ℕ) → ((c : Command) → Lawful c → line_of c ≡ l → ⊥) → Reads l None
