-- A hash's bytes stand in a table, four for each word: by induction on the words. Assumes nothing.
use mathlib.Core.Path.{◌≡◌, refl, sym}
use mathlib.Core.List.{List, [], ◌∷◌}
use Prim.Native.Nat.{ℕ, zero, suc, ◌*◌, ◌/◌, ◌%◌, ◌<◌}
use native.Mathlib.Omega.{arith}
use lib.ListN.{length, get_or, length-append}
use Rattle.std.specs.Int.{w32, to_be_bytes}
use Rattle.octets.specs.Layout.{bytes}
use Rattle.octets.specs.Places.{tabulate}
use Rattle.octets.proofs.Layouts.{bytes_high, bytes_length}
use Rattle.octets.proofs.Places.{tabulate_is, tabulate_length}
use Rattle.constants.specs.Constants.{H0}
use Rattle.compress.specs.Compress.{compress, increased}
use Rattle.sha256.specs.Sha256.{padded, hashed, absorbed, hash_bytes, sha256}

-- the byte i of a hash
abbrev pub hash_byte : List ℕ → ℕ → ℕ
hash_byte h i = get_or (to_be_bytes w32 (get_or h (i / 4) 0)) (i % 4) 0

pub hash_bytes_length : (h : List ℕ) → length (hash_bytes h) ≡ 4 * length h
unfolding hash_bytes
hash_bytes_length [] = refl
hash_bytes_length (w ∷ ws) = omega (arith, length-append (bytes 4 w) (hash_bytes ws), bytes_length 4 w, hash_bytes_length ws)

hash_bytes_get_d : (h : List ℕ) (i : ℕ) → i < 4 * length h → get_or (hash_bytes h) i 0 ≡ hash_byte h i
unfolding hash_bytes
hash_bytes_get_d [] i l = absurd (let z : ⊥ = omega arith in z)
hash_bytes_get_d (w ∷ ws) zero l = rw (sym (bytes_high 4 w)) refl
hash_bytes_get_d (w ∷ ws) (suc zero) l = rw (sym (bytes_high 4 w)) refl
hash_bytes_get_d (w ∷ ws) (suc (suc zero)) l = rw (sym (bytes_high 4 w)) refl
hash_bytes_get_d (w ∷ ws) (suc (suc (suc zero))) l = rw (sym (bytes_high 4 w)) refl
hash_bytes_get_d (w ∷ ws) (suc (suc (suc (suc i)))) l =
    let q : suc (suc (suc (suc i))) / 4 ≡ suc (i / 4) = omega arith in
    let r : suc (suc (suc (suc i))) % 4 ≡ i % 4 = omega arith in
    rw (sym (bytes_high 4 w), q, r) (hash_bytes_get_d ws i (omega arith))

pub hash_bytes_table : (h : List ℕ) → length h ≡ 8 → tabulate (hash_byte h) 32 ≡ hash_bytes h
hash_bytes_table h e = tabulate_is (hash_byte h) 32 (hash_bytes h) (omega (arith, hash_bytes_length h)) (λ i l. sym (hash_bytes_get_d h i (omega arith)))

-- a digest has 32 bytes
hashed_length : (n : ℕ) (h p : List ℕ) → length h ≡ 8 → length (hashed n h p) ≡ 8
unfolding hashed compress increased
hashed_length zero h p e = e
hashed_length (suc n) h p e = tabulate_length _ 8

pub sha256_length : (m : List ℕ) → length (sha256 m) ≡ 32
unfolding sha256 absorbed H0
sha256_length m = let e : length (absorbed H0 (padded (length m) m)) ≡ 8 = hashed_length _ H0 _ refl in omega (arith, hash_bytes_length (absorbed H0 (padded (length m) m)))
