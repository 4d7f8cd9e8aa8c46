-- 01, Start, and number 8.
-- Assumes nothing.
use Rattle.std.specs.Prelude.{Bool, true, false, not, List, [], ◌∷◌, ℕ, eqb, length, replicate}
use Rattle.refusal.specs.Refusal.{Row, when, first, done}
use Rattle.state.specs.Sizes.{key_size, words}
use Rattle.state.specs.Multiset.{empty_hash}
use Rattle.state.specs.declared.Seal.{Seal}
use Rattle.state.specs.declared.State.{State}

-- what keys the tags of a state that is started under a key
unfoldable pub sealed : List ℕ → Seal
sealed k = record { key = k }

-- nothing put, taken or marked, and the clock at 0
unfoldable pub fresh : Seal → Bool → State
unfolding empty_hash words
fresh x c = record { seal = x; put = empty_hash; take = empty_hash; clock = 0; fault = false; first = 0; closed = c; marks = replicate words 0 }

-- what a refused start gives: closed, and zeros everywhere else
unfoldable pub no_state : State
unfolding fresh key_size
no_state = fresh (record { key = replicate key_size 0 }) true

-- what the caller has after start: its number and the state
pub record Begun : Type 0 where
  pub number : ℕ
  pub state : State

abbrev pub started : ℕ → State → Begun
started n s = record { number = n; state = s }

abbrev pub start_rows : List ℕ → List Row
start_rows k = when 8 (not (eqb (length k) key_size)) ∷ []

unfoldable pub start_of : List ℕ → Begun
start_of k = started (first (start_rows k)) (done (first (start_rows k)) (fresh (sealed k) false) no_state)
