-- Each entry with the whole part of its prime's root before it is the root that the rule asks for: the checker computes this over the whole table.
-- Assumes nothing.
use mathlib.Core.Path.{◌≡◌, refl}
use mathlib.Core.Bool.{true, cond, decide, decide_iff}
use mathlib.Core.List.{List}
use mathlib.Core.Logic.Dec
use Prim.Native.Nat.{ℕ, zero, suc, ◌+◌, ◌*◌, ◌%◌, ◌^◌, ◌<◌, ◌≤◌}
use native.Mathlib.Decide.{dec_le, dec_lt, ℕ_discrete}
use lib.Dec.{leb}
use lib.ListN.{get_or}
use Rattle.constants.specs.Primes.{primes}
use Rattle.constants.specs.Constants.{K, H0, Root, KRule, H0Rule}
use Rattle.constants.proofs.Decide.{below}
use Rattle.constants.proofs.Primes.{primes_first}

-- the largest number up to q whose n-th power is at most p
abbrev whole : ℕ → ℕ → ℕ → ℕ
whole n p zero = 0
whole n p (suc q) = cond (leb (suc q ^ n) p) (suc q) (whole n p q)

-- no prime of the list reaches 18 ^ 2
abbrev root : ℕ → ℕ → ℕ → ℕ
root n p x = whole n p 17 * 2 ^ 32 + x

abbrev Rooted : ℕ → ℕ → ℕ → ℕ → Type 0
Rooted n p x r = (r ^ n ≤ p * 2 ^ (32 * n)) × ((p * 2 ^ (32 * n) < (r + 1) ^ n) × (x ≡ r % 2 ^ 32))

unfoldable rooted? : (n p x r : ℕ) → Dec (Rooted n p x r)
unfolding Dec.and dec_le dec_lt ℕ_discrete
rooted? n p x r = Dec.and (dec_le _ _) (Dec.and (dec_lt _ _) (ℕ_discrete _ _))

abbrev table? : (n m : ℕ) (xs : List ℕ) → Dec ((i : ℕ) → i < m → Rooted n (get_or primes i 0) (get_or xs i 0) (root n (get_or primes i 0) (get_or xs i 0)))
table? n m xs = below (λ i. rooted? n (get_or primes i 0) (get_or xs i 0) (root n (get_or primes i 0) (get_or xs i 0))) m

each_root : (n m : ℕ) (xs : List ℕ) → decide (table? n m xs) ≡ true → (i : ℕ) → i < m → Root n (get_or primes i 0) (get_or xs i 0)
each_root n m xs t i h = let w = (decide_iff (table? n m xs)).0 t i h in record { r = _; low = w.0; high = w.1.0; part = w.1.1 }

pub k_rule : KRule
unfolding decide below rooted? primes K
k_rule = record { first = primes_first; size = refl; each = each_root 3 64 K refl }

pub h0_rule : H0Rule
unfolding decide below rooted? primes H0
h0_rule = record { first = primes_first; size = refl; each = each_root 2 8 H0 refl }
