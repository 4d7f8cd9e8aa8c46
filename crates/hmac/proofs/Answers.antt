-- What `mac` and `tag` give, by the sizes of what they are given. Assumes nothing.
use mathlib.Core.Path.{◌≡◌, ap}
use mathlib.Core.List.{List}
use Prim.Native.Nat.{ℕ, ◌<◌, ◌≤◌}
use lib.ListN.{length, replicate}
use borrow.Author.Tests.{le-ltb, le-leb, lt-leb}
use Rattle.refusal.specs.Refusal.{filled}
use Rattle.sha256.proofs.Answers.{not32_fails}
use Rattle.sha256.proofs.Output.{sha256_length}
use Rattle.hmac.specs.Hmac.{hmac, mac_of, tag_within}

-- an HMAC has 32 bytes
pub hmac_length : (key text : List ℕ) → length (hmac key text) ≡ 32
unfolding hmac
hmac_length key text = sha256_length _

-- a tag is the message's HMAC up to the bound, and zeros above it
module _ (key text : List ℕ) where
  pub tag_short : length text ≤ 4096 → tag_within key text ≡ hmac key text
  unfolding tag_within
  tag_short h = rw (le-leb (length text) 4096 h)

  pub tag_long : 4096 < length text → tag_within key text ≡ replicate 32 0
  unfolding tag_within
  tag_long h = rw (lt-leb (length text) 4096 h)

pub mac_done : (key text out new : List ℕ) → length key ≤ 1024 → length text ≤ 4096 → length out ≡ 32 → new ≡ hmac key text → filled 0 new ≡ mac_of key text out
unfolding mac_of
mac_done key text out new k m o e = rw (le-ltb 1024 (length key) k, le-ltb 4096 (length text) m, not32_fails out o) (ap (filled 0) e)
