-- 01, "Sizes", over the stamp's width in bytes, w.
-- Assumes nothing.
use Rattle.std.specs.Prelude.{ℕ, ◌+◌, ◌*◌, ◌/◌, ◌-◌, ◌^◌}

-- the stamp's width today: the one place that sets it
abbrev pub width : ℕ
width = 2

unfoldable pub key_size : ℕ
key_size = 32

-- of a tag, and so of a hash's exclusive-or of tags
abbrev pub tag_size : ℕ
tag_size = 32

unfoldable pub addresses : ℕ
addresses = 1024

-- the words that hold the marks, 64 addresses in each
unfoldable pub words : ℕ
unfolding addresses
words = addresses / 64

unfoldable pub value_size : ℕ
value_size = 28

unfoldable pub cell_size : ℕ → ℕ
unfolding value_size
cell_size w = value_size + w

unfoldable pub store_size : ℕ → ℕ
unfolding addresses cell_size
store_size w = cell_size w * addresses

-- the last clock
unfoldable pub ceiling : ℕ → ℕ
ceiling w = 256 ^ w - 1
