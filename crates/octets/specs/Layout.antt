-- Numbers laid side by side, most significant first: a list of widths in bits, and a part for each width.
-- Assumes nothing.
use Rattle.std.specs.Prelude.{List, [], ◌∷◌, ℕ, ◌+◌, ◌*◌, ◌/◌, ◌%◌, ◌^◌, ◌<◌, length, replicate}

-- how many bits the widths have together
unfoldable pub total : List ℕ → ℕ
total [] = 0
total (w ∷ ws) = w + total ws

-- the one number that the parts make
unfoldable pub join : List ℕ → List ℕ → ℕ
join [] vs = 0
join (w ∷ ws) [] = 0
join (w ∷ ws) (v ∷ vs) = v * 2 ^ total ws + join ws vs

-- the parts that a number has
unfoldable pub split : List ℕ → ℕ → List ℕ
split [] n = []
split (w ∷ ws) n = (n / 2 ^ total ws) % 2 ^ w ∷ split ws n

-- a part for each width, and no part too large for its width
pub data Fit : List ℕ → List ℕ → Type 0 where
  none : Fit [] []
  more : {w v : ℕ} {ws vs : List ℕ} → v < 2 ^ w → Fit ws vs → Fit (w ∷ ws) (v ∷ vs)

-- n parts of eight bits
abbrev pub octets : ℕ → List ℕ
octets n = replicate n 8

-- the number that some bytes are, and the w bytes of a number, most significant first
unfoldable pub number : List ℕ → ℕ
number bs = join (octets (length bs)) bs

unfoldable pub bytes : ℕ → ℕ → List ℕ
bytes w n = split (octets w) n
