-- 01, "The bench program": the command that `parsed` gives a line is the one that the line reads as, and there is no other.
-- Proved as `one_reading` in proofs/Exact.antt. Assumes nothing.
use Rattle.std.specs.Prelude.{◌≡◌, List, ◌↔◌, ℕ, Option}
use Rattle.lines.specs.Grammar.{Reads}
use Rattle.lines.specs.Parse.{parsed}
use Rattle.lines.specs.declared.Command.{Command}

abbrev pub OneReading : Type 0
OneReading = (l : List ℕ) (c : Option Command) → (parsed l ≡ c) ↔ Reads l c
