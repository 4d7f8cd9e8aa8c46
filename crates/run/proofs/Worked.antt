-- Four runs worked out, with a tag that is easy to compute: each reply by computation. Assumes nothing.
use mathlib.Core.Path.{◌≡◌, refl}
use mathlib.Core.List.{List, [], ◌∷◌}
use mathlib.Core.Option.{Option, none, some}
use Prim.Native.Nat.{ℕ, ◌+◌}
use lib.ListN.{take, replicate, get_or}
use Rattle.octets.specs.Layout.{total, join, split, number, bytes}
use Rattle.octets.specs.Places.{xor, same}
use Rattle.state.specs.Sizes.{width, key_size, addresses, value_size, cell_size, store_size, ceiling}
use Rattle.state.specs.Marks.{used, marked, used_below, in_use}
use Rattle.state.specs.Cells.{Entry, value_at, stamp_at, entry_at, write_cell, write_entry}
use Rattle.state.specs.Multiset.{empty_hash, with_tag, same_hash}
use Rattle.state.specs.Start.{fresh, start_of}
use Rattle.state.specs.TakePut.{with_marks, close, next, take_entry, put_entry}
use Rattle.state.specs.Access.{add_rows, exchange_rows, call, added, add_of, loaded, load_of, stored, store_of}
use Rattle.state.specs.Check.{check_rows, taken, opening, reput, opened, agrees, reason, takes, puts, write_all, take_all, put_all, acceptance, rejection, check_of}
use Rattle.state.specs.declared.Seal.{Seal}
use Rattle.state.specs.declared.State.{State}
use Rattle.state.specs.declared.Verdict.{Verdict}
use Rattle.state.specs.declared.Verdict.TheVariants.{Accept, Stamp, Tag}
use Rattle.run.specs.Calls.{Call, add, load, store, check, Made, made, outcome_of}

toy : Seal → Entry → List ℕ
toy k e = (e.address + e.stamp + get_or e.value 0 0) ∷ e.stamp ∷ replicate 30 1

-- a value of equal bytes, as the bench has them
value : ℕ → List ℕ
value b = replicate value_size b

-- a call, and what is done to the store before it; and the run in which each call is lent what the call before left, so spoilt
record Line : Type 0 where
  spoil : List ℕ → List ℕ
  call : Call

abbrev line : Call → Line
line c = record { spoil = λ m. m; call = c }

spoilt : ℕ → ℕ → ℕ → Call → Line
spoilt a b t c = record { spoil = λ m. write_cell width m a (value b) t; call = c }

lend : State → List ℕ → List Line → List Made
lend s m [] = []
lend s m (x ∷ xs) = let r = (outcome_of width toy s (x.spoil m) x.call).seen in made x.call (x.spoil m) ∷ lend r.state r.store xs

-- what a run replies: the number, the verdict, and the first byte of the out buffer
record Reply : Type 0 where
  number : ℕ
  verdict : Option Verdict
  out : List ℕ

abbrev reply : ℕ → Option Verdict → List ℕ → Reply
reply n v o = record { number = n; verdict = v; out = o }

replies : State → List Made → List Reply
replies s [] = []
replies s (x ∷ xs) =
    let r = (outcome_of width toy s x.bytes x.call).seen in
    reply r.number r.verdict (take 1 r.out) ∷ replies r.state xs

begin : State
begin = (start_of (replicate key_size 0)).state

session : List Line → List Reply
session xs = replies begin (lend begin (replicate (store_size width) 0) xs)

-- all is honest: each load gives the value last added or stored, and each check accepts
honest : List Line
honest =
    line (add 5 (value 0x41)) ∷ line (store 5 (value 0x42)) ∷ line (load 5 (value 0)) ∷ line check ∷ line (load 5 (value 0)) ∷ line check ∷ []

-- the store hands back the cell that the add had left, with its stamp: the load gives the old value, the check rejects, and the next load is refused
lied : List Line
lied =
    line (add 5 (value 0x41)) ∷ line (store 5 (value 0x42)) ∷ line (load 5 (value 0)) ∷ spoilt 5 0x41 1 (load 5 (value 0)) ∷ line check ∷ line (load 5 (value 7)) ∷ []

-- two loads find a stamp ahead of the clock: the check names the first of them, though the address of the second is lower
ahead : List Line
ahead = line (add 9 (value 0x41)) ∷ line (add 2 (value 0x42)) ∷ spoilt 9 0x41 7 (load 9 (value 0)) ∷ spoilt 2 0x42 8 (load 2 (value 0)) ∷ line check ∷ []

-- the check itself finds one
found : List Line
found = line (add 9 (value 0x41)) ∷ line (add 2 (value 0x42)) ∷ spoilt 2 0x42 3 check ∷ []

worked : (session honest ≡ reply 0 none [] ∷ reply 0 none [] ∷ reply 0 none (0x42 ∷ []) ∷ reply 0 (some Accept) [] ∷ reply 0 none (0x42 ∷ []) ∷ reply 0 (some Accept) [] ∷ [])
    × (session lied ≡ reply 0 none [] ∷ reply 0 none [] ∷ reply 0 none (0x42 ∷ []) ∷ reply 0 none (0x41 ∷ []) ∷ reply 0 (some Tag) [] ∷ reply 7 none (7 ∷ []) ∷ [])
    × (session ahead ≡ reply 0 none [] ∷ reply 0 none [] ∷ reply 0 none (0x41 ∷ []) ∷ reply 0 none (0x42 ∷ []) ∷ reply 0 (some (Stamp 9)) [] ∷ [])
    × (session found ≡ reply 0 none [] ∷ reply 0 none [] ∷ reply 0 (some (Stamp 2)) [] ∷ [])
unfolding honest lied ahead found spoilt session begin lend replies value toy outcome_of total join split number bytes xor key_size addresses value_size cell_size store_size ceiling used marked value_at stamp_at entry_at write_cell write_entry empty_hash with_tag same same_hash fresh start_of with_marks close next take_entry put_entry add_rows exchange_rows call added add_of loaded load_of stored store_of check_rows used_below in_use taken opening reput opened agrees reason takes puts write_all take_all put_all acceptance rejection check_of
worked = (refl, refl, refl, refl)
