-- 01, "The multiset hash": the MSet-XOR hash of the source (its definition 4.4) with no nonce.
-- Assumes nothing.
use Rattle.std.specs.Prelude.{◌≡◌, Bool, ◌&&◌, List, [], ◌∷◌, ◌++◌, map, ℕ, ◌+◌, ◌%◌, ◌^◌, ◌<◌, eqb, length, replicate}
use Rattle.octets.specs.Layout.{bytes}
use Rattle.octets.specs.Places.{xor, same}
use Rattle.state.specs.Sizes.{tag_size, value_size}
use Rattle.state.specs.Cells.{Entry, cell_of}
use Rattle.state.specs.declared.Hash.{Hash}

-- an entry's message: 01, the address in 2 bytes, and what its cell holds, the value and the stamp in w bytes
unfoldable pub message : ℕ → Entry → List ℕ
message w e = 1 ∷ (bytes 2 e.address ++ cell_of w e.value e.stamp)

-- an entry whose parts fit their places in a message
pub record Fits (w : ℕ) (e : Entry) : Type 0 where
  pub address : e.address < 65536
  pub value : length e.value ≡ value_size
  pub stamp : e.stamp < 256 ^ w

-- the exclusive-or of some tags: zeros for none
unfoldable pub xor_all : List (List ℕ) → List ℕ
xor_all [] = replicate tag_size 0
xor_all (t ∷ ts) = xor (xor_all ts) t

-- the hash of a multiset of entries, listed in any order: of all their tags, each as often as its entry occurs, with the number of elements modulo 2^32
unfoldable pub hash : (Entry → List ℕ) → List Entry → Hash
hash tag es = record { tag = xor_all (map tag es); number = length es % 2 ^ 32 }

unfoldable pub empty_hash : Hash
empty_hash = record { tag = replicate tag_size 0; number = 0 }

-- a hash with one element more, by its tag
unfoldable pub with_tag : Hash → List ℕ → Hash
with_tag h t = record { tag = xor h.tag t; number = (h.number + 1) % 2 ^ 32 }

-- are two hashes equal
unfoldable pub same_hash : Hash → Hash → Bool
same_hash p q = same p.tag q.tag && eqb p.number q.number
