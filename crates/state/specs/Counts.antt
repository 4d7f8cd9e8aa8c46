-- How often an entry is in a multiset, listed in any order: two multisets are one where these counts agree.
-- Assumes nothing.
use Rattle.std.specs.Prelude.{Bool, true, false, ◌&&◌, List, [], ◌∷◌, ℕ, ◌+◌, eqb}
use Rattle.state.specs.Cells.{Entry}
use Rattle.octets.specs.Places.{same}

-- are two entries equal
unfoldable pub same_entry : Entry → Entry → Bool
same_entry d e = eqb d.address e.address && (same d.value e.value && eqb d.stamp e.stamp)

-- how often e is among these
abbrev pub once : Bool → ℕ
once true = 1
once false = 0

unfoldable pub times : Entry → List Entry → ℕ
times e [] = 0
times e (d ∷ ds) = once (same_entry e d) + times e ds
