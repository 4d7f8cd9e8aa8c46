-- RFC 2104, section 2, with H = SHA-256.
-- Assumes nothing.
use Rattle.std.specs.Prelude.{cond, ◌||◌, List, [], ◌∷◌, ◌++◌, ℕ, ◌-◌, ltb, leb, length, replicate}
use Rattle.octets.specs.Places.{xor}
use Rattle.refusal.specs.Refusal.{Row, when, Filled, fills}
use Rattle.sha256.specs.Sha256.{sha256, not32}

-- the bytes of a block of H; a digest has 32, the L of the RFC
abbrev pub B : ℕ
B = 64

-- the byte 0x36, and the byte 0x5C, repeated B times
abbrev pub ipad : List ℕ
ipad = replicate B 0x36

abbrev pub opad : List ℕ
opad = replicate B 0x5c

-- a key of more than B bytes is hashed, and its digest is the key
unfoldable pub short_key : List ℕ → List ℕ
short_key key = cond (ltb B (length key)) (sha256 key) key

-- step (1): zeros after the key, to B bytes
unfoldable pub zero_filled : List ℕ → List ℕ
zero_filled k = k ++ replicate (B - length k) 0

unfoldable pub key_block : List ℕ → List ℕ
key_block key = zero_filled (short_key key)

-- steps (2) to (7)
unfoldable pub hmac : List ℕ → List ℕ → List ℕ
hmac key text =
    let step2 = xor (key_block key) ipad in
    let step3 = step2 ++ text in
    let step4 = sha256 step3 in
    let step5 = xor (key_block key) opad in
    let step6 = step5 ++ step4 in
    sha256 step6

-- 01, number 10: key or message too long, or an output of another size
abbrev pub mac_rows : List ℕ → List ℕ → List ℕ → List Row
mac_rows key text out = when 10 (ltb 1024 (length key) || ltb 4096 (length text) || not32 out) ∷ []

unfoldable pub mac_of : List ℕ → List ℕ → List ℕ → Filled
mac_of key text out = fills (mac_rows key text out) (hmac key text) out

-- the tag of a message under a key: its HMAC, and zeros for a message that is too long
unfoldable pub tag_within : List ℕ → List ℕ → List ℕ
tag_within key text = cond (leb (length text) 4096) (hmac key text) (replicate 32 0)
