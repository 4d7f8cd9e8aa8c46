-- A key's block exclusive-or a pad is one block, so each hash of HMAC is finished from the hash after it. Assumes nothing.
use mathlib.Core.Path.{◌≡◌, sym, ap, ap₂, ◌∙◌}
use mathlib.Core.List.{List, ◌++◌}
use Prim.Native.Nat.{ℕ, ◌+◌, ◌-◌, ◌<◌, ◌≤◌}
use native.Mathlib.Omega.{arith}
use lib.ListN.{length, drop, replicate, length-replicate, replicate-append-replicate}
use lib.Seq.{drop_at}
use borrow.Author.Tests.{lt-ltb, le-ltb}
use Rattle.octets.specs.Places.{xor}
use Rattle.octets.proofs.Places.{xor_length}
use Rattle.constants.specs.Constants.{H0}
use Rattle.sha256.specs.Sha256.{absorbed, hash_bytes, sha256, finished}
use Rattle.sha256.proofs.Blocks.{sha256_append}
use Rattle.hmac.specs.Hmac.{ipad, opad, short_key, zero_filled, key_block, hmac}

-- ---- the key's block
drop_zeros : (n k : ℕ) → n ≤ k → drop {A = ℕ} n (replicate k 0) ≡ replicate (k - n) 0
drop_zeros n k h =
    let e : k ≡ n + (k - n) = omega arith in
    ap (λ (j : ℕ). drop {A = ℕ} n (replicate j 0)) e
    ∙ ap (drop {A = ℕ} n) (sym (replicate-append-replicate n (k - n) 0))
    ∙ drop_at (replicate n 0) (replicate (k - n) 0) n (length-replicate n 0)

pub copied_zeros : (k : List ℕ) → length k ≤ 64 → k ++ drop (length k) (replicate 64 0) ≡ zero_filled k
unfolding zero_filled
copied_zeros k h = ap (λ (z : List ℕ). k ++ z) (drop_zeros (length k) 64 h)

module _ (key : List ℕ) where
  pub key_short : length key ≤ 64 → zero_filled key ≡ key_block key
  unfolding key_block short_key
  key_short h = rw (le-ltb 64 (length key) h)

  pub key_long : (d : List ℕ) → 64 < length key → d ≡ sha256 key → zero_filled d ≡ key_block key
  unfolding key_block short_key
  key_long d h e = rw (lt-ltb 64 (length key) h) (ap zero_filled e)

-- ---- a block, exclusive-or a pad
after_pad : (b text : List ℕ) (v : ℕ) → length b ≡ 64 → hash_bytes (finished (absorbed H0 (xor b (replicate 64 v))) 1 text) ≡ sha256 (xor b (replicate 64 v) ++ text)
after_pad b text v e =
    let l = xor_length b (replicate 64 v) (e ∙ sym (length-replicate 64 v)) in
    sym (sha256_append 1 (xor b (replicate 64 v)) text (omega arith))

pub hmac_finished : (key text b inner outer h : List ℕ) → length b ≡ 64 → b ≡ key_block key → inner ≡ absorbed H0 (xor b ipad) → outer ≡ absorbed H0 (xor b opad)
    → h ≡ finished outer 1 (hash_bytes (finished inner 1 text)) → hash_bytes h ≡ hmac key text
unfolding hmac
hmac_finished key text b inner outer h n e ei eo eh =
    let i : hash_bytes (finished inner 1 text) ≡ sha256 (xor b ipad ++ text) = ap (λ (k : List ℕ). hash_bytes (finished k 1 text)) ei ∙ after_pad b text 0x36 n in
    ap hash_bytes (eh ∙ ap₂ (λ (k d : List ℕ). finished k 1 d) eo i) ∙ after_pad b _ 0x5c n ∙ ap (λ (k : List ℕ). sha256 (xor k opad ++ sha256 (xor k ipad ++ text))) e
