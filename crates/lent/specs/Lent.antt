-- What a copy from one lent slice to another leaves, and where the bytes of a lent slice lie.
-- Assumes nothing.
use Rattle.std.specs.Prelude.{List, ◌++◌, ℕ, ◌+◌, length, take, drop}
use Rattle.std.specs.Borrow.{Bor}

-- the bytes of `from` over the first of `to`, as many as both have
unfoldable pub copied : List ℕ → List ℕ → List ℕ
copied to from = take (length to) from ++ drop (length from) to

-- where byte i of a lent slice lies: the slice's block of memory, and how far into it
abbrev pub lies : Bor (List ℕ) → ℕ → ℕ × ℕ
lies s i = (s.ref_ptr.0, i + s.ref_ptr.1)
