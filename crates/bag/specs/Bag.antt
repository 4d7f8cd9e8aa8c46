-- The source, section 5: the log of a bag, which the trusted state's hashes stand for. It is what a list of events leaves written down: what was put and taken
-- since the last accepted check, what stands put at each address, the clock, and where a stamp was first ahead of it. It knows takes, puts and accepted checks,
-- and no call.
-- Assumes nothing.
use Rattle.std.specs.Prelude.{Bool, true, false, cond, ℕ, eqb, ltb}
use mathlib.Core.List.{List, [], ◌∷◌, ◌++◌, foldl}
use Rattle.std.proofs.Math.Option.{Option, none, some}
use Rattle.state.specs.Cells.{Entry}
use Rattle.state.specs.TakePut.{Event, took, put, accepted}

-- `fault` is the address of the first take whose stamp was ahead of the clock, if there was one; `held` has at each address the entry that was put there and
-- not taken since; `owed` has for each take, in order, the entry that was held there
pub record Bag : Type 0 where
  pub clock : ℕ
  pub fault : Option ℕ
  pub puts : List Entry
  pub takes : List Entry
  pub owed : List Entry
  pub held : ℕ → Option Entry

-- nothing put or taken, at the clock c
unfoldable pub empty : ℕ → Bag
empty c = record { clock = c; fault = none; puts = []; takes = []; owed = []; held = λ a. none }

-- a function changed at one address
unfoldable pub upd : (ℕ → Option Entry) → ℕ → Option Entry → (ℕ → Option Entry)
upd f a x b = cond (eqb b a) x (f b)

-- is there one
abbrev pub there : {A : Type 0} → Option A → Bool
there none = false
there (some x) = true

abbrev pub listed : Option Entry → List Entry
listed none = []
listed (some e) = e ∷ []

-- the fault after a take of e at the clock c: one that was found before stays
abbrev pub found : Option ℕ → ℕ → Entry → Option ℕ
found none c e = cond (ltb c e.stamp) (some e.address) none
found (some a) c e = some a

-- the bag after an event, and after some
unfoldable pub noted : Bag → Event → Bag
noted b (took e) =
    record {
      clock = b.clock;
      fault = found b.fault b.clock e;
      puts = b.puts;
      takes = b.takes ++ (e ∷ []);
      owed = b.owed ++ listed (b.held e.address);
      held = upd b.held e.address none;
    }
noted b (put e) =
    record { clock = e.stamp; fault = b.fault; puts = b.puts ++ (e ∷ []); takes = b.takes; owed = b.owed; held = upd b.held e.address (some e) }
noted b accepted = empty 1

abbrev pub follow : Bag → List Event → Bag
follow = foldl noted
