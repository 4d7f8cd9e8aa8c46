-- 01, "The trusted state and the moves": add, load, store and remove; look; lowest free. Each call's refusals are its rows of the numbers' table, in the table's order.
-- Over the stamp's width w and the tag. Assumes nothing.
use Rattle.std.specs.Prelude.{not, List, [], ◌∷◌, ℕ, ◌*◌, eqb, ltb, length, replicate, Result, Ok, Err}
use Rattle.std.proofs.Math.Option.{Option, none, some}
use Rattle.refusal.specs.Refusal.{Row, when, first, done}
use Rattle.refusal.specs.Told.{told}
use Rattle.refusal.specs.declared.Refusal.{Refusal}
use Rattle.refusal.specs.declared.Refusal.TheVariants.{NoneFree}
use Rattle.state.specs.Sizes.{addresses, value_size, cell_size, store_size, ceiling}
use Rattle.state.specs.Marks.{used, marked, unmarked, lowest_free}
use Rattle.state.specs.Cells.{Entry, value_at, entry_at, write_cell, write_entry}
use Rattle.state.specs.TakePut.{took, put, seen, Outcome, outcome, with_marks, next, take_entry, put_entry}
use Rattle.state.specs.declared.Seal.{Seal}
use Rattle.state.specs.declared.State.{State}

-- the rows
abbrev pub closed_row : State → Row
closed_row s = when 7 s.closed

abbrev pub store_row : ℕ → List ℕ → Row
store_row w m = when 1 (not (eqb (length m) (store_size w)))

abbrev pub address_row : ℕ → Row
address_row a = when 2 (not (ltb a addresses))

abbrev pub buffer_row : List ℕ → Row
buffer_row b = when 3 (not (eqb (length b) value_size))

abbrev pub used_row : State → ℕ → Row
used_row s a = when 4 (used s.marks a)

abbrev pub unused_row : State → ℕ → Row
unused_row s a = when 5 (not (used s.marks a))

abbrev pub clock_row : ℕ → State → Row
clock_row w s = when 6 (eqb s.clock (ceiling w))

-- each call's, in order; b is the value given or the out buffer lent
unfoldable pub add_rows : ℕ → State → List ℕ → ℕ → List ℕ → List Row
add_rows w s m a b = closed_row s ∷ store_row w m ∷ address_row a ∷ buffer_row b ∷ used_row s a ∷ clock_row w s ∷ []

-- load's and store's
unfoldable pub exchange_rows : ℕ → State → List ℕ → ℕ → List ℕ → List Row
exchange_rows w s m a b = closed_row s ∷ store_row w m ∷ address_row a ∷ buffer_row b ∷ unused_row s a ∷ clock_row w s ∷ []

unfoldable pub remove_rows : ℕ → State → List ℕ → ℕ → List Row
remove_rows w s m a = closed_row s ∷ store_row w m ∷ address_row a ∷ unused_row s a ∷ []

unfoldable pub look_rows : ℕ → List ℕ → ℕ → List Row
look_rows w m a = store_row w m ∷ address_row a ∷ []

-- a call of these rows: what it gives where it is done; where it is refused nothing has changed
unfoldable pub call : List Row → State → List ℕ → List ℕ → Outcome → Outcome
call rows s m o x = done (first rows) x (outcome (seen (first rows) none s m o) [])

module _ (w : ℕ) (tag : Seal → Entry → List ℕ) where
  -- Add: a put, and the mark set
  unfoldable pub added : State → List ℕ → ℕ → List ℕ → Outcome
  added s m a v =
      let e = next s a v in
      outcome (seen 0 none (with_marks (put_entry tag s e) (marked s.marks a)) (write_entry w m e) []) (put e ∷ [])

  unfoldable pub add_of : State → List ℕ → ℕ → List ℕ → Outcome
  add_of s m a v = call (add_rows w s m a v) s m [] (added s m a v)

  -- Load: a take, and a put of the value read, which is handed out
  unfoldable pub loaded : State → List ℕ → ℕ → Outcome
  loaded s m a =
      let v = value_at w m a in
      let t = take_entry tag s (entry_at w m a) in
      let e = next t a v in
      outcome (seen 0 none (put_entry tag t e) (write_entry w m e) v) (took (entry_at w m a) ∷ put e ∷ [])

  unfoldable pub load_of : State → List ℕ → ℕ → List ℕ → Outcome
  load_of s m a o = call (exchange_rows w s m a o) s m o (loaded s m a)

  -- Store: a take, and a put of another value
  unfoldable pub stored : State → List ℕ → ℕ → List ℕ → Outcome
  stored s m a v =
      let t = take_entry tag s (entry_at w m a) in
      let e = next t a v in
      outcome (seen 0 none (put_entry tag t e) (write_entry w m e) []) (took (entry_at w m a) ∷ put e ∷ [])

  unfoldable pub store_of : State → List ℕ → ℕ → List ℕ → Outcome
  store_of s m a v = call (exchange_rows w s m a v) s m [] (stored s m a v)

  -- Remove: a take, zeros in the cell, the mark cleared; the clock as it was
  unfoldable pub removed : State → List ℕ → ℕ → Outcome
  removed s m a =
      let t = take_entry tag s (entry_at w m a) in
      outcome (seen 0 none (with_marks t (unmarked s.marks a)) (write_cell w m a (replicate value_size 0) 0) []) (took (entry_at w m a) ∷ [])

  unfoldable pub remove_of : State → List ℕ → ℕ → Outcome
  remove_of s m a = call (remove_rows w s m a) s m [] (removed s m a)

-- Look: the value's bytes in the store, or no bytes
unfoldable pub look_of : ℕ → List ℕ → ℕ → List ℕ
look_of w m a = done (first (look_rows w m a)) (value_at w m a) []

-- where in the store that part begins: at the cell, and a part of no bytes at the store's first byte
unfoldable pub look_from : ℕ → List ℕ → ℕ → ℕ
look_from w m a = done (first (look_rows w m a)) (cell_size w * a) 0

-- Lowest free, and the number and the address of each of its answers
abbrev pub lowest_rows : List ℕ → List Row
lowest_rows ws = when 9 (eqb (lowest_free ws) addresses) ∷ []

unfoldable pub lowest_of : List ℕ → Result ℕ Refusal
lowest_of ws = done (first (lowest_rows ws)) (Ok (lowest_free ws)) (Err NoneFree)

unfoldable pub free_number : Result ℕ Refusal → ℕ
free_number r = told r

unfoldable pub free_address : Result ℕ Refusal → Option ℕ
free_address (Ok a) = some a
free_address (Err r) = none
