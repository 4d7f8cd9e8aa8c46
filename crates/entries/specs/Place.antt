-- 01, "Sizes": which cells lie in some bytes that are lent as a store.
-- Assumes nothing.
use Rattle.std.specs.Prelude.{Bool, ◌&&◌, List, ℕ, ltb, eqb, length}
use Rattle.state.specs.Sizes.{addresses, store_size}

-- the bytes are as many as a store's, and the address is one
unfoldable pub has_cell : ℕ → List ℕ → ℕ → Bool
has_cell w m a = eqb (length m) (store_size w) && ltb a addresses
