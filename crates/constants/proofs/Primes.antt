-- The list is that of the first primes: being the next prime is decided by trial division, and the checker computes the decision down the whole list.
-- Assumes nothing.
use mathlib.Core.Path.{refl}
use mathlib.Core.Bool.{decide, decide_iff}
use mathlib.Core.List.{List, [], ◌∷◌}
use mathlib.Core.Logic.Dec
use Prim.Native.Nat.{ℕ, ◌+◌, ◌%◌}
use native.Mathlib.Decide.{dec_le, dec_lt, ℕ_discrete}
use Rattle.constants.specs.Primes.{Prime, NextPrime, PrimesFrom, FirstPrimes, primes}
use Rattle.constants.proofs.Decide.{same, imply, below}

unfoldable prime? : (p : ℕ) → Dec (Prime p)
unfolding Dec.and Dec.not below dec_lt ℕ_discrete
prime? p =
    same (λ w. record { above_one = w.0; undivided = w.1 }) (λ r. (r.above_one, r.undivided))
    (Dec.and (dec_lt 1 p) (below (λ d. imply (dec_lt 1 d) (Dec.not (ℕ_discrete (p % d) 0))) p))

unfoldable next? : (n p : ℕ) → Dec (NextPrime n p)
unfolding Dec.and Dec.not below dec_le prime?
next? n p =
    same (λ w. record { reached = w.0; prime = w.1.0; least = w.1.1 }) (λ r. (r.reached, (r.prime, r.least)))
    (Dec.and (dec_le n p) (Dec.and (prime? p) (below (λ q. imply (dec_le n q) (Dec.not (prime? q))) p)))

unfoldable from? : (n : ℕ) (ps : List ℕ) → Dec (PrimesFrom n ps)
unfolding PrimesFrom Dec.and next?
from? n [] = yes tt
from? n (p ∷ ps) = Dec.and (next? n p) (from? (p + 1) ps)

pub primes_first : FirstPrimes 64 primes
unfolding decide from? primes
primes_first = (refl, (decide_iff (from? 0 primes)).0 refl)
