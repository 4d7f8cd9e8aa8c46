-- FIPS 180-4: SHA-256 of a message of whole bytes, in the standard's order. Its constants and the compression of a block stand in the crates below.
-- Assumes nothing.
use Rattle.std.specs.Prelude.{Bool, not, ◌||◌, List, [], ◌∷◌, ◌++◌, ℕ, zero, suc, ◌+◌, ◌-◌, ◌*◌, ◌/◌, ◌%◌, eqb, ltb, length, take, drop}
use Rattle.octets.specs.Layout.{join, number, bytes}
use Rattle.octets.specs.Places.{tabulate}
use Rattle.refusal.specs.Refusal.{Row, when, Filled, fills}
use Rattle.constants.specs.Constants.{H0}
use Rattle.compress.specs.Compress.{compress}

-- §5.1.1: for a message of l bits, the least k with l + 1 + k ≡ 448 modulo 512
abbrev pub zero_bits : ℕ → ℕ
zero_bits l = (448 + 512 - (l + 1) % 512) % 512

-- §5.1.1: a bit 1, k bits 0, and l in 64 bits, as bytes; the standard has no message of 2 ^ 64 bits or more
unfoldable pub padding : ℕ → List ℕ
padding l = bytes ((1 + zero_bits l + 64) / 8) (join (1 ∷ zero_bits l ∷ 64 ∷ []) (1 ∷ 0 ∷ l ∷ []))

-- the rest of a message of n bytes, and its padding
unfoldable pub padded : ℕ → List ℕ → List ℕ
padded n rest = rest ++ padding (8 * n)

-- §5.2.1: the word of four bytes from byte i, and block i, of sixteen words; places are counted from 0
unfoldable pub word : List ℕ → ℕ → ℕ
word p i = number (take 4 (drop i p))

unfoldable pub block : List ℕ → ℕ → List ℕ
block p i = tabulate (λ j. word p (64 * i + 4 * j)) 16

-- §6.2.2: the hash after the first n blocks of p, from the hash h before them
unfoldable pub hashed : ℕ → List ℕ → List ℕ → List ℕ
hashed zero h p = h
hashed (suc n) h p = compress (hashed n h p) (block p n)

-- and after all blocks of p
unfoldable pub absorbed : List ℕ → List ℕ → List ℕ
absorbed h p = hashed (length p / 64) h p

-- §6.2.2: the words of a hash, one after another, as bytes
unfoldable pub hash_bytes : List ℕ → List ℕ
hash_bytes [] = []
hash_bytes (w ∷ ws) = bytes 4 w ++ hash_bytes ws

-- §6.2: the digest of a message
unfoldable pub sha256 : List ℕ → List ℕ
sha256 m = hash_bytes (absorbed H0 (padded (length m) m))

-- the hash after the rest of a message whose first `before` blocks gave h
unfoldable pub finished : List ℕ → ℕ → List ℕ → List ℕ
finished h before rest = absorbed h (padded (64 * before + length rest) rest)

-- 01, number 10: the message too long, or an output of another size
abbrev pub not32 : List ℕ → Bool
not32 out = not (eqb (length out) 32)

abbrev pub digest_rows : List ℕ → List ℕ → List Row
digest_rows m out = when 10 (ltb 8192 (length m) || not32 out) ∷ []

unfoldable pub digest_of : List ℕ → List ℕ → Filled
digest_of m out = fills (digest_rows m out) (sha256 m) out
