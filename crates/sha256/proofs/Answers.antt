-- What the calls give, by the sizes of what they are given: a call whose one row does not hold is done. Assumes nothing.
use mathlib.Core.Path.{◌≡◌, sym, ap, ◌∙◌}
use mathlib.Core.Bool.{false, cond}
use mathlib.Core.List.{List}
use Prim.Native.Nat.{ℕ, ◌≤◌}
use lib.Dec.{leb}
use lib.ListN.{length}
use borrow.Author.Tests.{le-leb, le-ltb, eq-eqb}
use Rattle.constants.specs.Constants.{H0}
use Rattle.refusal.specs.Refusal.{filled}
use Rattle.sha256.specs.Sha256.{hash_bytes, sha256, finished, not32, digest_of}
use Rattle.sha256.proofs.Blocks.{sha256_finished}

-- ---- a rest, and a message, that are not too long
pub finish_short : (m x y : List ℕ) → length m ≤ 8192 → cond (leb (length m) 8192) x y ≡ x
finish_short m x y l = rw (le-leb (length m) 8192 l)

pub sha256_calls : (m h s d : List ℕ) → length m ≤ 8192 → h ≡ H0 → s ≡ cond (leb (length m) 8192) (finished h 0 m) h → d ≡ hash_bytes s → d ≡ sha256 m
sha256_calls m h s d l eh es ed = ed ∙ ap hash_bytes (es ∙ finish_short m _ _ l ∙ ap (λ (k : List ℕ). finished k 0 m) eh) ∙ sym (sha256_finished m)

-- ---- a call that gives what it made
module _ (out : List ℕ) where
  pub not32_fails : length out ≡ 32 → not32 out ≡ false
  not32_fails e = rw (eq-eqb (length out) 32 e)

pub digest_done : (m out new : List ℕ) → length m ≤ 8192 → length out ≡ 32 → new ≡ sha256 m → filled 0 new ≡ digest_of m out
unfolding digest_of
digest_done m out new l o e = rw (le-ltb 8192 (length m) l, not32_fails out o) (ap (filled 0) e)
