-- The command that a line is, as a function of the line. There is nothing to believe here: Exact.antt states that it is the line's reading by Grammar.antt.
-- Assumes nothing.
use Rattle.std.specs.Prelude.{cond, List, [], ◌∷◌, ℕ, eqb, Option, Some, None}
use Rattle.text.specs.Text.{ascii}
use Rattle.octets.specs.Places.{same}
use Rattle.text.specs.Read.{decimal_in, hex_in}
use Rattle.lines.specs.Grammar.{blank, parts}
use Rattle.lines.specs.declared.Command.{Command}
use Rattle.lines.specs.declared.Command.TheVariants.{Add, Store, Load, Remove, Check, Spoil}

-- what stands before the first `end`
unfoldable pub before : ℕ → List ℕ → List ℕ
before end [] = []
before end (x ∷ xs) = cond (eqb x end) [] (x ∷ before end xs)

-- a name and what stands after it
abbrev pub with_address : List ℕ → Option ℕ → Option Command
with_address n (Some a) = cond (same n (ascii "load")) (Some (Load a)) (cond (same n (ascii "remove")) (Some (Remove a)) None)
with_address n None = None

abbrev pub with_value : List ℕ → Option ℕ → Option ℕ → Option Command
with_value n (Some a) (Some v) = cond (same n (ascii "add")) (Some (Add a v)) (cond (same n (ascii "store")) (Some (Store a v)) None)
with_value n (Some a) None = None
with_value n None v = None

abbrev pub with_stamp : List ℕ → Option ℕ → Option ℕ → Option ℕ → Option Command
with_stamp n (Some a) (Some v) (Some t) = cond (same n (ascii "spoil")) (Some (Spoil a v t)) None
with_stamp n (Some a) (Some v) None = None
with_stamp n (Some a) None t = None
with_stamp n None v t = None

unfoldable pub command_of : List (List ℕ) → Option Command
command_of [] = None
command_of (n ∷ []) = cond (same n (ascii "check")) (Some Check) None
command_of (n ∷ a ∷ []) = with_address n (decimal_in a)
command_of (n ∷ a ∷ v ∷ []) = with_value n (decimal_in a) (hex_in v)
command_of (n ∷ a ∷ v ∷ t ∷ []) = with_stamp n (decimal_in a) (hex_in v) (decimal_in t)
command_of (n ∷ a ∷ v ∷ t ∷ x ∷ ws) = None

-- the words of a line
unfoldable pub words_in : List ℕ → List (List ℕ)
words_in l = parts blank ([] ∷ []) l

unfoldable pub parsed : List ℕ → Option Command
parsed l = command_of (words_in l)
