-- 01, "Sizes": the cell of address a is the 28 + w bytes from (28 + w) x a: the value, then the stamp, most significant byte first.
-- Assumes nothing.
use Rattle.std.specs.Prelude.{List, ◌++◌, ℕ, ◌+◌, ◌*◌, take, drop}
use Rattle.octets.specs.Layout.{number, bytes}
use Rattle.state.specs.Sizes.{value_size, cell_size}

-- an element of the multisets: an address, a value and a stamp
pub record Entry : Type 0 where
  pub address : ℕ
  pub value : List ℕ
  pub stamp : ℕ

abbrev pub entry : ℕ → List ℕ → ℕ → Entry
entry a v t = record { address = a; value = v; stamp = t }

-- the value and the stamp that a store holds at an address
unfoldable pub value_at : ℕ → List ℕ → ℕ → List ℕ
value_at w m a = take value_size (drop (cell_size w * a) m)

unfoldable pub stamp_at : ℕ → List ℕ → ℕ → ℕ
stamp_at w m a = number (take w (drop (cell_size w * a + value_size) m))

-- the entry that a store holds at an address
unfoldable pub entry_at : ℕ → List ℕ → ℕ → Entry
entry_at w m a = entry a (value_at w m a) (stamp_at w m a)

-- the bytes of a cell with a value and a stamp
abbrev pub cell_of : ℕ → List ℕ → ℕ → List ℕ
cell_of w v t = v ++ bytes w t

-- the store with a value and a stamp written to the cell of an address
unfoldable pub write_cell : ℕ → List ℕ → ℕ → List ℕ → ℕ → List ℕ
write_cell w m a v t = take (cell_size w * a) m ++ (cell_of w v t ++ drop (cell_size w * a + cell_size w) m)

unfoldable pub write_entry : ℕ → List ℕ → Entry → List ℕ
write_entry w m e = write_cell w m e.address e.value e.stamp
