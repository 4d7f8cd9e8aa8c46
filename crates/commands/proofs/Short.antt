-- Every number that a command answers is one digit, since the rows' numbers are; and an address that it answers, or that the state keeps, fits two bytes, since
-- takes are at addresses. Assumes nothing.
use mathlib.Core.Path.{◌≡◌, refl}
use mathlib.Core.Bool.{Bool, true, false, cond, ◌&&◌}
use mathlib.Core.List.{List, [], ◌∷◌}
use mathlib.Core.Option.{none, some}
use Prim.Native.Nat.{ℕ, zero, suc, ◌<◌}
use native.Mathlib.Omega.{arith}
use borrow.Author.Tests.{ltb-true}
use lib.Dec.{T, ltb}
use Rattle.std.specs.Prelude.{Option, Some, None}
use Rattle.refusal.specs.Refusal.{Row, first}
use Rattle.state.specs.Sizes.{width, addresses}
use Rattle.state.specs.Cells.{entry_at}
use Rattle.state.specs.TakePut.{Seen, seen, Outcome, with_marks, close, take_entry, put_entry}
use Rattle.state.specs.Access.{address_row, add_rows, exchange_rows, remove_rows, call, added, add_of, loaded, load_of, stored, store_of, removed, remove_of}
use Rattle.state.specs.Check.{check_rows, agrees, reason, take_all, acceptance, rejection, check_of}
use Rattle.state.specs.declared.State.{State}
use Rattle.state.specs.declared.Verdict.TheVariants.{Stamp, Tag}
use Rattle.state.proofs.Walks.{by_takes}
use Rattle.state.proofs.Guards.{take_first, opens}
use Rattle.state.proofs.Ready.{by_rows, exchange_ready, remove_ready}
use Rattle.entries.specs.Tag.{tag}
use Rattle.lines.specs.declared.Command.{Command}
use Rattle.lines.specs.declared.Command.TheVariants.{Add, Store, Load, Remove, Check, Spoil}
use Rattle.answers.proofs.Says.{Short}
use Rattle.commands.specs.Commands.{filled_with, spoil_of, load_answer, check_answer, ran_command, ran_line}

small : List Row → Bool
small [] = true
small (r ∷ rs) = ltb r.number 10 && small rs

first_small : (rows : List Row) → T (small rows) → first rows < 10
unfolding small
first_small [] t = omega arith
first_small (r ∷ rs) t = go r.holds (ltb r.number 10) refl (first_small rs)
  where
    go : (b c : Bool) → ltb r.number 10 ≡ c → (T (small rs) → first rs < 10) → cond b r.number (first rs) < 10
    go true true e h = ltb-true r.number 10 e
    go false true e h = h (rw e at t)
    go b false e h = absurd (rw e at t)

-- the address of a state's first fault fits two bytes; and what a call gives is short
abbrev pub Kept : State → Type 0
Kept s = s.first < 65536

record Given (x : Seen) : Type 0 where
  number : x.number < 10
  short : Short (check_answer x.number x.verdict)
  kept : Kept x.state

given_done : (s : State) (m o : List ℕ) → Kept s → Given (seen 0 none s m o)
given_done s m o k = record { number = omega arith; short = omega arith; kept = k }

given_call : (rows : List Row) (s : State) (m o : List ℕ) (x : Outcome) → T (small rows) → Kept s → (first rows ≡ 0 → Given x.seen) → Given (call rows s m o x).seen
given_call rows s m o x t k g =
    by_rows s m (λ (r : Outcome). Given r.seen) rows o x g (λ n q. let h = rw q at (first_small rows t) in record { number = h; short = h; kept = k })

-- a take at an address leaves the first fault's there, or where it was
take_kept : (s : State) (m : List ℕ) (a : ℕ) → a < addresses → Kept s → Kept (take_entry tag s (entry_at width m a))
unfolding entry_at addresses
take_kept s m a h k = take_first tag s (λ n. n < 65536) (entry_at width m a) k (omega arith)

reason_short : (s : State) → Kept s → Short (check_answer 0 (some (reason s)))
unfolding reason
reason_short s k = go s.fault
  where
    go : (b : Bool) → Short (check_answer 0 (some (cond b (Stamp s.first) Tag)))
    go true = k
    go false = tt

given_check : (s : State) (m : List ℕ) → Kept s → Given (check_of width tag s m).seen
unfolding small check_of check_rows acceptance rejection close
given_check s m k = given_call (check_rows width s m) s m [] _ tt k (λ e. go (agrees t))
  where
    t : State
    t = take_all width tag s m

    go : (b : Bool) → Given (cond b (acceptance width tag s m) (rejection width tag s m)).seen
    go true = record { number = omega arith; short = tt; kept = rw (opens width tag s m).first k }
    go false = record { number = omega arith; short = reason_short t (by_takes width tag Kept m (λ r a. take_kept r m a) s k); kept = k }

load_short : (n b : ℕ) → n < 10 → Short (load_answer n b)
load_short zero b h = tt
load_short (suc n) b h = h

answer_short : (s : State) (m : List ℕ) (c : Command) → Kept s → Short (ran_command s m c).answer × Kept (ran_command s m c).state
unfolding ran_command small add_of added add_rows exchange_rows store_of stored load_of loaded remove_rows remove_of removed spoil_of with_marks put_entry
answer_short s m (Add a v) k =
    let v = filled_with v in
    let g = given_call (add_rows width s m a v) s m [] (added width tag s m a v) tt k (λ e. given_done _ _ _ k) in
    (g.number, g.kept)
answer_short s m (Store a v) k =
    let v = filled_with v in
    let g = given_call (exchange_rows width s m a v) s m [] (stored width tag s m a v) tt k (λ e. given_done _ _ _ (take_kept s m a (exchange_ready width s m a v e).0.below k)) in
    (g.number, g.kept)
answer_short s m (Load a) k =
    let o = filled_with 0 in
    let g = given_call (exchange_rows width s m a o) s m o (loaded width tag s m a) tt k (λ e. given_done _ _ _ (take_kept s m a (exchange_ready width s m a o e).0.below k)) in
    (load_short _ _ g.number, g.kept)
answer_short s m (Remove a) k =
    let g = given_call (remove_rows width s m a) s m [] (removed width tag s m a) tt k (λ e. given_done _ _ _ (take_kept s m a (remove_ready width s m a e).below k)) in
    (g.number, g.kept)
answer_short s m Check k = let g = given_check s m k in (g.short, g.kept)
answer_short s m (Spoil a v t) k = (first_small (address_row a ∷ []) tt, k)

pub line_short : (s : State) (m : List ℕ) (o : Option Command) → Kept s → Short (ran_line s m o).answer × Kept (ran_line s m o).state
line_short s m (Some c) k = answer_short s m c k
line_short s m None k = (tt, k)
