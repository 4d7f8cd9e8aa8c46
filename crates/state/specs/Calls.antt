-- The calls of the store as functions of their arguments: what a caller has after each. The claims speak of such functions; `calls` are those of the definitions.
-- Assumes nothing.
use Rattle.std.specs.Prelude.{List, ℕ, Result}
use Rattle.refusal.specs.declared.Refusal.{Refusal}
use Rattle.state.specs.Marks.{count_of}
use Rattle.state.specs.Cells.{Entry}
use Rattle.state.specs.Start.{Begun, start_of}
use Rattle.state.specs.TakePut.{Seen}
use Rattle.state.specs.Access.{add_of, load_of, store_of, remove_of, look_of, look_from, lowest_of}
use Rattle.state.specs.Check.{check_of}
use Rattle.state.specs.declared.Seal.{Seal}
use Rattle.state.specs.declared.State.{State}

-- of a state, the bytes lent as the store, an address, and the value given or the out buffer lent
pub record Calls : Type 0 where
  pub start : List ℕ → Begun
  pub add : State → List ℕ → ℕ → List ℕ → Seen
  pub load : State → List ℕ → ℕ → List ℕ → Seen
  pub store : State → List ℕ → ℕ → List ℕ → Seen
  pub remove : State → List ℕ → ℕ → Seen
  pub check : State → List ℕ → Seen
  -- the bytes of a look's part, and where in the store it begins
  pub look : List ℕ → ℕ → List ℕ
  pub look_from : List ℕ → ℕ → ℕ
  pub count : State → ℕ
  pub lowest_free : State → Result ℕ Refusal

-- at a stamp's width and a tag
abbrev pub calls : ℕ → (Seal → Entry → List ℕ) → Calls
calls w tag = record {
  start = start_of;
  add = λ s m a v. (add_of w tag s m a v).seen;
  load = λ s m a o. (load_of w tag s m a o).seen;
  store = λ s m a v. (store_of w tag s m a v).seen;
  remove = λ s m a. (remove_of w tag s m a).seen;
  check = λ s m. (check_of w tag s m).seen;
  look = look_of w;
  look_from = look_from w;
  count = λ s. count_of s.marks;
  lowest_free = λ s. lowest_of s.marks;
}
