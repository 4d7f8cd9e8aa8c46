-- 01, "The bench program": what each command does to the state and the store, and its answer.
-- Assumes nothing.
use Rattle.std.specs.Prelude.{List, [], ◌∷◌, ℕ, get_or, replicate, Option, Some, None}
use Rattle.std.proofs.Math.Option as maybe
use Rattle.refusal.specs.Refusal.{done, Filled, fills}
use Rattle.state.specs.Sizes.{width, value_size}
use Rattle.state.specs.Cells.{write_cell}
use Rattle.state.specs.TakePut.{Seen}
use Rattle.state.specs.Access.{address_row, add_of, load_of, store_of, remove_of}
use Rattle.state.specs.Check.{check_of}
use Rattle.state.specs.declared.State.{State}
use Rattle.state.specs.declared.Verdict.{Verdict}
use Rattle.state.specs.declared.Verdict.TheVariants.{Accept, Stamp, Tag}
use Rattle.entries.specs.Tag.{tag}
use Rattle.lines.specs.declared.Command.{Command}
use Rattle.lines.specs.declared.Command.TheVariants.{Add, Store, Load, Remove, Check, Spoil}
use Rattle.answers.specs.declared.Name.{Name}
use Rattle.answers.specs.declared.Name.TheVariants as name
use Rattle.answers.specs.declared.Answer.{Answer}
use Rattle.answers.specs.declared.Answer.TheVariants as answer

-- a value of one byte, over and over
abbrev pub filled_with : ℕ → List ℕ
filled_with b = replicate value_size b

-- a cell overwritten behind the state's back, closed or not: 0, or 2 for an address past the last
unfoldable pub spoil_of : List ℕ → ℕ → ℕ → ℕ → Filled
spoil_of m a v t = fills (address_row a ∷ []) (write_cell width m a (filled_with v) t) m

-- a load's answer: the value's first byte where it is done
abbrev pub load_answer : ℕ → ℕ → Answer
load_answer n b = done n (answer.Loaded b) (answer.Numbered name.Load n)

-- a check's answer: its verdict, or its number where it has none
abbrev pub check_answer : ℕ → maybe.Option Verdict → Answer
check_answer n (maybe.some Accept) = answer.Accepted
check_answer n (maybe.some (Stamp a)) = answer.Stamp a
check_answer n (maybe.some Tag) = answer.Tag
check_answer n maybe.none = answer.Numbered name.Check n

-- what a command leaves, and its answer
pub record Ran : Type 0 where
  pub state : State
  pub store : List ℕ
  pub answer : Answer

abbrev pub ran : State → List ℕ → Answer → Ran
ran s m x = record { state = s; store = m; answer = x }

-- after a call whose answer is its number
abbrev pub numbered : Name → Seen → Ran
numbered c x = ran x.state x.store (answer.Numbered c x.number)

-- after a load, a check and a spoil
abbrev pub ran_load : Seen → Ran
ran_load x = ran x.state x.store (load_answer x.number (get_or x.out 0 0))

abbrev pub ran_check : Seen → Ran
ran_check x = ran x.state x.store (check_answer x.number x.verdict)

abbrev pub ran_spoil : State → Filled → Ran
ran_spoil s x = ran s x.out (answer.Numbered name.Spoil x.number)

unfoldable pub ran_command : State → List ℕ → Command → Ran
ran_command s m (Add a v) = numbered name.Add (add_of width tag s m a (filled_with v)).seen
ran_command s m (Store a v) = numbered name.Store (store_of width tag s m a (filled_with v)).seen
ran_command s m (Load a) = ran_load (load_of width tag s m a (filled_with 0)).seen
ran_command s m (Remove a) = numbered name.Remove (remove_of width tag s m a).seen
ran_command s m Check = ran_check (check_of width tag s m).seen
ran_command s m (Spoil a v t) = ran_spoil s (spoil_of m a v t)

-- what a line leaves, by the command that it is
abbrev pub ran_line : State → List ℕ → Option Command → Ran
ran_line s m (Some c) = ran_command s m c
ran_line s m None = ran s m answer.Bad
