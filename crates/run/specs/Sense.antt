-- What demand 3 says, leaves and asks for. Its first half speaks of the value last set and may be excused by a collision, and its second half asks that
-- cells in use come back. Four claims tell that there is one such value, that the excuse is not always at hand, and that no more is asked for:
--
-- There is one value last set at an address.
--
-- A run whose cells in use come back as they were left has no collision: at each accepted check of it the entries put and the entries taken are one
-- multiset.
--
-- What the cells that are not in use hold is nothing to the second half's condition: where a call that is done is the last of a run that meets it, the call
-- may be lent any other bytes there. As each part of a run that begins with its first call is a run, this speaks of every call.
--
-- A store that hands back to each call what the call before left meets that condition.
-- Assumes nothing.
use Rattle.std.specs.Prelude.{◌≡◌, true, List, [], ◌∷◌, ◌++◌, ℕ}
use Rattle.state.specs.Marks.{used}
use Rattle.state.specs.Cells.{Entry, entry_at}
use Rattle.state.specs.declared.Seal.{Seal}
use Rattle.run.specs.Calls.{Call, Made, made}
use Rattle.run.specs.Demand3.{state_after, result, Done, LastSet, Collision, Unaltered}

abbrev pub LastOne : ℕ → (Seal → Entry → List ℕ) → Type 0
LastOne w tag = (key : List ℕ) (run : List Made) (a : ℕ) (v u : List ℕ) → LastSet w tag key run a v → LastSet w tag key run a u → v ≡ u

abbrev pub HonestNoCollision : ℕ → (Seal → Entry → List ℕ) → Type 0
HonestNoCollision w tag = (key : List ℕ) (run : List Made) → Unaltered w tag key run → Collision w tag key run → ⊥

abbrev pub UnusedMayChange : ℕ → (Seal → Entry → List ℕ) → Type 0
UnusedMayChange w tag =
    (key : List ℕ) (run : List Made) (c : Call) (m n : List ℕ) → Done w tag key run (made c m)
    → ((a : ℕ) → used (state_after w tag key run).marks a ≡ true → entry_at w n a ≡ entry_at w m a)
    → Unaltered w tag key (run ++ (made c m ∷ [])) → Unaltered w tag key (run ++ (made c n ∷ []))

abbrev pub HandedBack : ℕ → (Seal → Entry → List ℕ) → Type 0
HandedBack w tag =
    (key : List ℕ) (run : List Made)
    → ((before later : List Made) (x y : Made) → run ≡ before ++ (x ∷ (y ∷ later)) → y.bytes ≡ (result w tag key before x).seen.store) → Unaltered w tag key run
