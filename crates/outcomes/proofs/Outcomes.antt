-- A contract says what is seen of an outcome, and from what is seen the outcome is made again. Assumes nothing.
use mathlib.Core.Path.{◌≡◌, refl, sym, ap, ◌∙◌}
use Prim.Native.Nat.{ℕ}
use native.Mathlib.Omega.{arith}
use contract.BorrowLft.{⊑_static}
use mathlib.Core.List.{List}
use mathlib.Core.Option.{Option, none, some}
use Rattle.std.specs.Prelude.{Result, Ok, Err}
use Rattle.refusal.specs.Refusal.{Filled}
use Rattle.refusal.specs.Told.{told}
use Rattle.refusal.specs.declared.Refusal.{Refusal}
use Rattle.refusal.proofs.Again.{answer_of, told_again}
use Rattle.filter.specs.Filter.{unpacked, Unpacked as Given}
use Rattle.filter.specs.declared.Unpacked.{Unpacked}
use Rattle.state.specs.Start.{Begun, started}
use Rattle.state.specs.TakePut.{Seen, checked}
use Rattle.state.specs.declared.Checked.{Checked}
use Rattle.state.specs.declared.Started.{Started}
use Rattle.state.specs.declared.State.{State}
use Rattle.state.specs.declared.Verdict.{Verdict}
use Rattle.state.specs.declared.Verdict.TheVariants.{Tag}
use Rattle.page.specs.Page.{Page}
use Rattle.commands.specs.Commands.{Ran as Left}
use Rattle.commands.specs.declared.Ran.{Ran}
use Rattle.outcomes.specs.Outcomes.{Outcomes}

-- from y, which is seen, the result and what the parameters hold at the end
pub again : {Y R L : Type 0} (result : Y → R) (lasts : Y → L) {y x x' : Y} → x ≡ y → x' ≡ y → (result x ≡ result x') × (lasts x ≡ lasts x')
again result lasts p q = (ap result (p ∙ sym q), ap lasts (p ∙ sym q))

-- a function that writes nothing
pub plain : {R L : Type 0} {y r r' : R} {l : L} → r ≡ y → r' ≡ y → (r ≡ r') × (l ≡ l)
plain p q = (p ∙ sym q, refl)

-- where what is seen is made of the result, and the result of it
pub seen_again : {Y R L : Type 0} (result : Y → R) (lasts : Y → L) {x x' y : Y} {r r' : R} → result x ≡ r → result x' ≡ r' → x ≡ y → x' ≡ y → (r ≡ r') × (lasts x ≡ lasts x')
seen_again result lasts f g p q = let k = again result lasts p q in (sym f ∙ k.0 ∙ g, k.1)

-- an answer that gives nothing, by its number
abbrev answered : ℕ → Result Unit Refusal
answered n = answer_of n tt

by_number : {L : Type 0} {r r' : Result Unit Refusal} {l : L} {n : ℕ} → told r ≡ n → told r' ≡ n → (r ≡ r') × (l ≡ l)
by_number {r = r} {r' = r'} p q = (sym (told_again r tt) ∙ ap answered (p ∙ sym q) ∙ told_again r' tt, refl)

abbrev begun : Begun → Started
begun y = record { answer = answered y.number; state = y.state }

begun_again : (r : Started) → begun (started (told r.answer) r.state) ≡ r
begun_again r = ap (λ (x : Result Unit Refusal). record { answer = x; state = r.state }) (told_again r.answer tt)

abbrev moved : Seen → Result State Refusal
moved y = answer_of y.number y.state

verdict_or : Option Verdict → Verdict
verdict_or (some v) = v
verdict_or none = Tag

abbrev checks : Seen → Result Checked Refusal
checks y = answer_of y.number (record { verdict = verdict_or y.verdict; state = y.state })

checks_again : (r : Result Checked Refusal) (s : State) (m : List ℕ) → checks (checked r s m) ≡ r
unfolding verdict_or
checks_again (Ok c) s m = refl
checks_again (Err e) s m = told_again (Err e) _

abbrev pub number : Filled → ℕ
number y = y.number

abbrev filling : Filled → Result Unit Refusal
filling y = answered (number y)

abbrev given : Given → Unpacked
given y = record { answer = answered y.number; filter = y.filter }

given_again : (r : Unpacked) → given (unpacked (told r.answer) r.filter) ≡ r
given_again r = ap (λ (x : Result Unit Refusal). record { answer = x; filter = r.filter }) (told_again r.answer tt)

abbrev place : Page → ℕ
place y = y.at

abbrev after : Left → Ran
after y = record { state = y.state; answer = y.answer }

pub outcomes : Outcomes
outcomes = record {
  start = record { any = λ κs a. tt; one = λ κs a r r' l l'. seen_again begun (λ y. (tt, tt)) (begun_again r) (begun_again r') };
  add = record { any = λ κs a. tt; one = λ κs a r r' l l'. seen_again moved (λ y. (tt, (y.store, (tt, (tt, tt))))) (told_again r a.0) (told_again r' a.0) };
  load = record { any = λ κs a. tt; one = λ κs a r r' l l'. seen_again moved (λ y. (tt, (y.store, (tt, (y.out, tt))))) (told_again r a.0) (told_again r' a.0) };
  store = record { any = λ κs a. tt; one = λ κs a r r' l l'. seen_again moved (λ y. (tt, (y.store, (tt, (tt, tt))))) (told_again r a.0) (told_again r' a.0) };
  remove = record { any = λ κs a. tt; one = λ κs a r r' l l'. seen_again moved (λ y. (tt, (y.store, (tt, tt)))) (told_again r a.0) (told_again r' a.0) };
  check = record { any = λ κs a. tt; one = λ κs a r r' l l'. seen_again checks (λ y. (tt, (y.store, tt))) (checks_again r a.0 l.1.0) (checks_again r' a.0 l'.1.0) };
  count = record { any = λ κs a. tt; one = λ κs a r r' l l'. plain };
  lowest_free = record { any = λ κs a. tt; one = λ κs a r r' l l'. plain };
  digest = record { any = λ κs a. tt; one = λ κs a r r' l l'. seen_again filling (λ y. (tt, (y.out, tt))) (told_again r tt) (told_again r' tt) };
  mac = record { any = λ κs a. tt; one = λ κs a r r' l l'. seen_again filling (λ y. (tt, (tt, (y.out, tt)))) (told_again r tt) (told_again r' tt) };
  pack = record { any = λ κs a. tt; one = λ κs a r r' l l'. seen_again filling (λ y. (tt, (y.out, tt))) (told_again r tt) (told_again r' tt) };
  unpack = record { any = λ κs a. tt; one = λ κs a r r' l l'. seen_again given (λ y. (tt, tt)) (given_again r) (given_again r') };
  compare = record { any = λ κs a. tt; one = λ κs a r r' l l'. plain };
  refusal_number = record { any = λ κs a. tt; one = λ κs a r r' l l'. plain };
  refusal_when = record { any = λ κs a. tt; one = λ κs a r r' l l'. plain };
  told = record { any = λ κs a. tt; one = λ κs a r r' l l'. plain };
  number_of_family = record { any = λ κs a. tt; one = λ κs a r r' l l'. plain };
  number_of_action = record { any = λ κs a. tt; one = λ κs a r r' l l'. plain };
  family_of_number = record { any = λ κs a. tt; one = λ κs a r r' l l'. plain };
  action_of_number = record { any = λ κs a. tt; one = λ κs a r r' l l'. plain };
  distance = record { any = λ κs a. tt; one = λ κs a r r' l l'. plain };
  copy = record { any = λ κs a. tt; one = λ κs a r r' l l'. again (λ y. tt) (λ y. (y, (tt, tt))) };
  round_constants = record { any = λ κs a. tt; one = λ κs a r r' l l'. plain };
  initial_hash = record { any = λ κs a. tt; one = λ κs a r r' l l'. plain };
  scheduled = record { any = λ κs a. tt; one = λ κs a r r' l l'. plain };
  one_round = record { any = λ κs a. tt; one = λ κs a r r' l l'. plain };
  compressed = record { any = λ κs a. tt; one = λ κs a r r' l l'. plain };
  absorb = record { any = λ κs a. tt; one = λ κs a r r' l l'. plain };
  finish = record { any = λ κs a. tt; one = λ κs a r r' l l'. plain };
  hash_bytes = record { any = λ κs a. tt; one = λ κs a r r' l l'. plain };
  hmac_tag = record { any = λ κs a. tt; one = λ κs a r r' l l'. plain };
  used = record { any = λ κs a. tt; one = λ κs a r r' l l'. plain };
  with_mark = record { any = λ κs a. tt; one = λ κs a r r' l l'. plain };
  without_mark = record { any = λ κs a. tt; one = λ κs a r r' l l'. plain };
  marks_count = record { any = λ κs a. tt; one = λ κs a r r' l l'. plain };
  lowest = record { any = λ κs a. tt; one = λ κs a r r' l l'. plain };
  next_used = record { any = λ κs a. tt; one = λ κs a r r' l l'. plain };
  number_of_add = record { any = λ κs a. tt; one = λ κs a r r' l l'. by_number };
  number_of_exchange = record { any = λ κs a. tt; one = λ κs a r r' l l'. by_number };
  number_of_remove = record { any = λ κs a. tt; one = λ κs a r r' l l'. by_number };
  number_of_check = record { any = λ κs a. tt; one = λ κs a r r' l l'. by_number };
  number_of_look = record { any = λ κs a. tt; one = λ κs a r r' l l'. by_number };
  bytes_2 = record { any = λ κs a. tt; one = λ κs a r r' l l'. plain };
  number_2 = record { any = λ κs a. tt; one = λ κs a r r' l l'. plain };
  xor = λ N f h. record { any = λ κs a. (⊑_static κs.0, omega arith); one = λ κs a r r' l l'. plain };
  cell = record { any = λ κs a. tt; one = λ κs a r r' l l'. plain };
  stamp_at = record { any = λ κs a. tt; one = λ κs a r r' l l'. plain };
  write = record { any = λ κs a. tt; one = λ κs a r r' l l'. again (λ y. tt) (λ y. (y, (tt, (tt, (tt, tt))))) };
  message = record { any = λ κs a. tt; one = λ κs a r r' l l'. plain };
  tag = record { any = λ κs a. tt; one = λ κs a r r' l l'. plain };
  with_tag = record { any = λ κs a. tt; one = λ κs a r r' l l'. plain };
  same = record { any = λ κs a. tt; one = λ κs a r r' l l'. plain };
  agrees = record { any = λ κs a. tt; one = λ κs a r r' l l'. plain };
  opened = record { any = λ κs a. tt; one = λ κs a r r' l l'. plain };
  close = record { any = λ κs a. tt; one = λ κs a r r' l l'. plain };
  reason = record { any = λ κs a. tt; one = λ κs a r r' l l'. plain };
  decimal = record { any = λ κs a. tt; one = λ κs a r r' l l'. plain };
  hex = record { any = λ κs a. tt; one = λ κs a r r' l l'. plain };
  put = record { any = λ κs a. tt; one = λ κs a r r' l l'. again (λ y. tt) (λ y. (y, (tt, tt))) };
  put_decimal = record { any = λ κs a. tt; one = λ κs a r r' l l'. again (λ y. tt) (λ y. (y, (tt, tt))) };
  put_hex = record { any = λ κs a. tt; one = λ κs a r r' l l'. again (λ y. tt) (λ y. (y, (tt, tt))) };
  find = record { any = λ κs a. tt; one = λ κs a r r' l l' p q. plain p.0 q.0 };
  parse = record { any = λ κs a. tt; one = λ κs a r r' l l'. plain };
  say = record { any = λ κs a. tt; one = λ κs a r r' l l'. again (λ y. tt) (λ y. (y, (tt, tt))) };
  command = record { any = λ κs a. tt; one = λ κs a r r' l l'. again after (λ y. (tt, (y.store, (tt, tt)))) };
  run = record { any = λ κs a. tt; one = λ κs a r r' l l'. again place (λ y. (tt, (y.bytes, tt))) };
  look_any = λ κs a. tt;
  look = λ κs a r r' e e' p q. (p.0 ∙ sym q.0, p.1 ∙ sym q.1);
  value_part_any = λ κs a. tt;
  value_part = λ κs a r r' e e' p q. (p.0 ∙ sym q.0, p.1 ∙ sym q.1);
}
