-- The calls in place are the calls: a state that is written is read back, and by the table of numbers a refused call gives back the state that it was given.
-- Assumes nothing.
use mathlib.Core.Path.{◌≡◌, refl, sym, ap, ◌∙◌, subst}
use mathlib.Core.Bool.{Bool, true, false}
use mathlib.Core.List.{List}
use mathlib.Core.Logic.{◌⊎◌, ⊎_elim, ◌↔◌, ◌≢◌}
use mathlib.Core.Option.{Option, none, some}
use Prim.Native.Nat.{ℕ, zero, suc, ◌<◌}
use native.Mathlib.Omega.{arith}
use Rattle.refusal.specs.Refusal.{done}
use Rattle.refusal.specs.Cases.{Case}
use Rattle.state.specs.Sizes.{width}
use Rattle.state.specs.TakePut.{Seen}
use Rattle.state.specs.Calls.{calls}
use Rattle.state.specs.Table.{Answers}
use Rattle.state.specs.declared.State.{State}
use Rattle.state.specs.declared.Verdict.{Verdict}
use Rattle.state.specs.declared.Verdict.TheVariants.{Accept, Stamp, Tag}
use Rattle.state.proofs.Table.{table}
use Rattle.entries.specs.Tag.{tag}
use Rattle.filter.specs.declared.FilterRecord.{FilterRecord}
use Rattle.filter.proofs.Trips.{family_back, action_back}
use Rattle.held.specs.Held.{is_set, byte_of, state_of, held_of}
use Rattle.held.specs.Fields.{record_of, fields_of}
use Rattle.held.specs.Answers.{answer, stamp_or, in_place}
use Rattle.held.specs.Same.{InPlace, Same}
use Rattle.held.specs.declared.Held.{Held}

mark_back : (b : Bool) → is_set (byte_of b) ≡ b
mark_back true = refl
mark_back false = refl

state_back : (s : State) → state_of (held_of s) ≡ s
unfolding state_of held_of
state_back s = simp (mark_back)

record_back : (r : FilterRecord) → record_of (fields_of r) ≡ r
unfolding record_of fields_of
record_back r = simp (family_back, action_back)

-- a call by its line of the table
is_in_place : (h : Held) {cases : List Case} {y : Seen} {m o : List ℕ} → Answers cases y (state_of h) m o → InPlace h y
unfolding in_place
is_in_place h {y = y} line = go y.number refl
  where
    go : (n : ℕ) → y.number ≡ n → state_of (done n (held_of y.state) h) ≡ y.state
    go zero e = state_back y.state
    go (suc n) e = sym (line.unchanged (λ z. let q : suc n ≡ 0 = sym e ∙ z in omega arith)).0

-- a check's number beside its verdict: 0 beside an accept, and a refusal's beside none
abbrev Fits : ℕ → Option Verdict → Type 0
Fits n (some Accept) = n ≡ 0
Fits n (some (Stamp a)) = Unit {0}
Fits n (some Tag) = Unit {0}
Fits n none = (0 < n) × (n < 254)

check_fits : (s : State) (m : List ℕ) → Fits ((calls width tag).check s m).number ((calls width tag).check s m).verdict
check_fits s m =
    ⊎_elim (λ p. refused (omega (arith, p.1)) (omega (arith, p.1)))
    (λ p. ⊎_elim (λ q. refused (omega (arith, q.1)) (omega (arith, q.1))) (λ q. said q.1 ((table width tag).check_says s m q.1)) p.1)
    ((table width tag).check s m).number
  where
    y : Seen
    y = (calls width tag).check s m

    is : {v : Option Verdict} → y.verdict ≡ v → Fits y.number v → Fits y.number y.verdict
    is e = subst (Fits y.number) (sym e)

    refused : 0 < y.number → y.number < 254 → Fits y.number y.verdict
    refused l u = is (((table width tag).check s m).unchanged (λ z. omega (arith, l, z))).3 (l, u)

    said : y.number ≡ 0 → (y.verdict ≡ some Accept) ⊎ ((y.verdict ≡ some Tag) ⊎ ((a : ℕ) × (y.verdict ≡ some (Stamp a)))) → Fits y.number y.verdict
    said n = ⊎_elim (λ e. is e n) (⊎_elim (λ e. is e tt) (λ e. is e.1 tt))

rank : Option Verdict → ℕ
rank (some Accept) = 0
rank (some (Stamp a)) = 1
rank (some Tag) = 2
rank none = 3

neither : {A B : Type 0} → ¬ A → ¬ B → A ↔ B
neither f g = ((λ a. absurd (f a)), (λ b. absurd (g b)))

-- what an answer tells
module _ (n : ℕ) where
  accept_told : (v : Option Verdict) → Fits n v → (answer n v ≡ 0) ↔ (v ≡ some Accept)
  unfolding rank
  accept_told (some Accept) h = ((λ z. refl), (λ z. h))
  accept_told (some (Stamp a)) h = neither (λ z. omega (arith, z)) (λ z. omega (arith, ap rank z))
  accept_told (some Tag) h = neither (λ z. omega (arith, z)) (λ z. omega (arith, ap rank z))
  accept_told none h = neither (λ z. omega (arith, z, h.0)) (λ z. omega (arith, ap rank z))

  stamp_told : (v : Option Verdict) → Fits n v → (answer n v ≡ 254) ↔ ((a : ℕ) × (v ≡ some (Stamp a)))
  unfolding rank
  stamp_told (some Accept) h = neither (λ z. omega (arith, z, h)) (λ z. omega (arith, ap rank z.1))
  stamp_told (some (Stamp a)) h = ((λ z. (a, refl)), (λ z. refl))
  stamp_told (some Tag) h = neither (λ z. omega (arith, z)) (λ z. omega (arith, ap rank z.1))
  stamp_told none h = neither (λ z. omega (arith, z, h.1)) (λ z. omega (arith, ap rank z.1))

  tag_told : (v : Option Verdict) → Fits n v → (answer n v ≡ 255) ↔ (v ≡ some Tag)
  unfolding rank
  tag_told (some Accept) h = neither (λ z. omega (arith, z, h)) (λ z. omega (arith, ap rank z))
  tag_told (some (Stamp a)) h = neither (λ z. omega (arith, z)) (λ z. omega (arith, ap rank z))
  tag_told (some Tag) h = ((λ z. refl), (λ z. refl))
  tag_told none h = neither (λ z. omega (arith, z, h.1)) (λ z. omega (arith, ap rank z))

  left_else : (v : Option Verdict) (a : ℕ) → answer n v ≢ 254 → stamp_or a v ≡ a
  left_else (some Accept) a h = refl
  left_else (some (Stamp b)) a h = absurd (h refl)
  left_else (some Tag) a h = refl
  left_else none a h = refl

pub same : Same (calls width tag)
unfolding in_place held_of
same =
    let t = table width tag in
    let check = (calls width tag).check in
    record {
      add = λ h m a v. is_in_place h (t.add (state_of h) m a v);
      load = λ h m a o. is_in_place h (t.load (state_of h) m a o);
      store = λ h m a v. is_in_place h (t.store (state_of h) m a v);
      remove = λ h m a. is_in_place h (t.remove (state_of h) m a);
      check = λ h m. is_in_place h (t.check (state_of h) m);
      state = state_back;
      filter = record_back;
      first = λ s. refl;
      accepts = λ h m. accept_told _ (check (state_of h) m).verdict (check_fits (state_of h) m);
      rejects_stamp = λ h m. stamp_told _ (check (state_of h) m).verdict (check_fits (state_of h) m);
      rejects_tag = λ h m. tag_told _ (check (state_of h) m).verdict (check_fits (state_of h) m);
      address = λ n a. refl;
      address_left = λ h m n. left_else _ (check (state_of h) m).verdict n;
    }
