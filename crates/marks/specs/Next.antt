-- The next address in use, by which a check goes from one to the other.
-- Assumes nothing.
use Rattle.std.specs.Prelude.{List, ℕ, ◌-◌}
use Rattle.state.specs.Sizes.{addresses}
use Rattle.state.specs.Marks.{used, first_from}

-- the smallest address in use from a on, or where the addresses end
unfoldable pub next_used : List ℕ → ℕ → ℕ
next_used ws a = first_from (used ws) (addresses - a) a
