-- 01, "The bench program": nothing that a session prints is cut off, since the buffer that `run` is lent holds it all.
-- Proved as `session_fits` in proofs/Fits.antt. Assumes nothing.
use Rattle.std.specs.Prelude.{List, ℕ, ◌≤◌, length}
use Rattle.session.specs.Session.{session_of, room}

abbrev pub SessionFits : Type 0
SessionFits = (input : List ℕ) → length (session_of input) ≤ room
