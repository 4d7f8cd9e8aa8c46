-- Demand 2 of whole runs. A state that is not closed follows the bag of all that was done; that has the period's puts and takes, and its fault is at the first
-- take that was ahead. A check looks at just that, after its takes. Assumes nothing.
use mathlib.Core.Path.{◌≡◌, refl, sym, ap, ◌∙◌, subst}
use mathlib.Core.Bool.{true, false, true≢false, false≢true}
use mathlib.Core.List.{List, [], ◌∷◌, ◌++◌, foldl, foldl-append, head-eq_of_cons-eq}
use mathlib.Core.Logic.{◌⊎◌, inl, inr, ⊎_elim, ◌↔◌, ◌≢◌}
use mathlib.Core.Option.{none, some}
use Prim.Native.Nat.{ℕ}
use native.Mathlib.Omega.{arith}
use Rattle.refusal.specs.Refusal.{first}
use Rattle.state.specs.Cells.{Entry}
use Rattle.state.specs.Multiset.{hash}
use Rattle.state.specs.Start.{sealed}
use Rattle.state.specs.TakePut.{Event, took, put, accepted, Outcome}
use Rattle.state.specs.Check.{check_rows, agrees, takes, take_all, acceptance, rejection, check_of}
use Rattle.state.specs.declared.Seal.{Seal}
use Rattle.state.specs.declared.State.{State}
use Rattle.state.specs.declared.Verdict.TheVariants.{Stamp, Tag}
use Rattle.state.proofs.Ready.{call_done, done_rows, check_ready}
use Rattle.state.proofs.Guards.{accepts_tells, equal_accepts, says_stamp, says_tag}
use Rattle.bag.specs.Bag.{Bag, empty, there, noted, follow}
use Rattle.bag.specs.Law.{Along, Bare, May, Lawful}
use Rattle.bag.specs.Following.{fault_address, Follows}
use Rattle.bag.proofs.Lists.{place_in}
use Rattle.bag.proofs.Along.{along_append, along_split}
use Rattle.bag.proofs.Cases.{by_cond}
use Rattle.bag.proofs.Orderly.{empty_orderly, stays_orderly}
use Rattle.bag.proofs.Faults.{OnTime, FirstNotOnTime, faults}
use Rattle.run.specs.Calls.{check, outcome_of, Made, made}
use Rattle.run.specs.Demand3.{NoTwoAlike, put_in, taken_in, Since, state_after, result, events_of, up_to, Done, Accepts}
use Rattle.run.specs.Exact.{tick, clock_after, NoneAhead, AheadFirstAt, OnePeriod, Told, StateExact, CheckExact, ReasonExact}
use Rattle.run.proofs.Checks.{taken_lawful, taken_bare, taken_follows}
use Rattle.run.proofs.Does.{Fit}
use Rattle.run.proofs.FromStart.{bag_of, invariant}
use Rattle.run.proofs.Periods.{begun, since_puts, since_takes, since_now, since_one}

-- the clock told by what was done is the bag's
clock_told : (b : Bag) (es : List Event) → foldl tick b.clock es ≡ (follow b es).clock
unfolding tick noted empty
clock_told b [] = refl
clock_told b (took e ∷ es) = clock_told (noted b (took e)) es
clock_told b (put e ∷ es) = clock_told (noted b (put e)) es
clock_told b (accepted ∷ es) = clock_told (empty 1) es

-- there is one first take that was ahead
one_first : (past es : List Event) (a b : ℕ) → AheadFirstAt past es a → AheadFirstAt past es b → a ≡ b
one_first past es a b x y =
    elim (place_in x.before (took x.entry ∷ x.later) y.before (took y.entry) y.later (sym x.place ∙ y.place)) [
      | inl (z, p, q) ↦ absurd (x.none_before y.before z y.entry p y.ahead)
      | inr (z, p, q) ↦ here z p q
    ]
  where
    here : (z : List Event) → y.before ≡ x.before ++ z → took x.entry ∷ x.later ≡ z ++ (took y.entry ∷ y.later) → a ≡ b
    here [] p q = let e : took x.entry ≡ took y.entry = head-eq_of_cons-eq q in let d : x.entry ≡ y.entry = cc in sym x.address ∙ ap (λ (e : Entry). e.address) d ∙ y.address
    here (w ∷ z) p q =
        absurd (y.none_before x.before z x.entry (p ∙ ap (λ (v : Event). x.before ++ (v ∷ z)) (sym (head-eq_of_cons-eq q))) x.ahead)

module _ (all period : List Event) (since : Since all period) where
  abbrev start : Bag
  start = follow (empty 0) since.past

  whole : follow (empty 0) all ≡ follow start period
  whole = ap (follow (empty 0)) since.place ∙ foldl-append noted (empty 0) since.past period

  clock_then : (p : List Event) → clock_after (since.past ++ p) ≡ (follow start p).clock
  unfolding empty
  clock_then p = clock_told (empty 0) (since.past ++ p) ∙ ap (λ (b : Bag). b.clock) (foldl-append noted (empty 0) since.past p)

  -- takes that are on time, and the first that is not, by the clock that is told
  on_time_none : (es : List Event) → Along OnTime start es → NoneAhead since.past es
  on_time_none es h p q e k a = omega (arith, (along_split OnTime start p (took e ∷ q) (subst (Along OnTime start) k h)).1.0, clock_then p)

  first_ahead : (a : ℕ) → FirstNotOnTime start period a → AheadFirstAt since.past period a
  first_ahead a k = record {
    before = k.before;
    entry = k.entry;
    later = k.later;
    place = k.place;
    address = k.address;
    ahead = omega (arith, k.ahead, clock_then k.before);
    none_before = on_time_none k.before k.on_time;
  }

  -- no take was ahead and no fault is found, or the fault is at the first that was
  abbrev Found : Type 0
  Found = (((follow (empty 0) all).fault ≡ none) × NoneAhead since.past period) ⊎ ((a : ℕ) × ((follow (empty 0) all).fault ≡ some a) × AheadFirstAt since.past period a)

  found_told : Found
  unfolding empty
  found_told =
      let same = ap (λ (b : Bag). b.fault) whole in
      ⊎_elim (λ k. inl (same ∙ k.0, on_time_none period k.1)) (λ k. inr (k.0, same ∙ k.1, first_ahead k.0 k.2))
      (faults start period since.unbroken (ap (λ (b : Bag). b.fault) (begun all period since).1))

  -- what a state tells
  pub follows_told : (tag : Seal → Entry → List ℕ) (seal : Seal) (s : State) → Follows tag seal s (follow (empty 0) all) → Told tag seal s all period since
  unfolding empty
  follows_told tag seal s f =
      record {
        seal = f.seal;
        put = f.put ∙ ap (hash (tag seal)) (since_puts all period since);
        take = f.take ∙ ap (hash (tag seal)) (since_takes all period since);
        clock = f.clock ∙ sym (clock_told (empty 0) all);
        fault = ((λ h. calm found_told h), λ n. none_told found_told n);
        first = λ a. ((λ h. at found_told a h), λ x. first_told found_told a x);
      }
    where
      calm : Found → s.fault ≡ false → NoneAhead since.past period
      calm (inl (e, n)) h = n
      calm (inr (a, e, x)) h = absurd (false≢true (sym h ∙ f.fault ∙ ap there e))

      none_told : Found → NoneAhead since.past period → s.fault ≡ false
      none_told (inl (e, n)) h = f.fault ∙ ap there e
      none_told (inr (a, e, x)) h = absurd (h x.before x.later x.entry x.place x.ahead)

      at : Found → (a : ℕ) → (s.fault ≡ true) × (s.first ≡ a) → AheadFirstAt since.past period a
      at (inl (e, n)) a h = absurd (true≢false (sym h.0 ∙ f.fault ∙ ap there e))
      at (inr (b, e, x)) a h = subst (AheadFirstAt since.past period) (sym (f.first ∙ ap fault_address e) ∙ h.1) x

      first_told : Found → (a : ℕ) → AheadFirstAt since.past period a → (s.fault ≡ true) × (s.first ≡ a)
      first_told (inl (e, n)) a x = absurd (n x.before x.later x.entry x.place x.ahead)
      first_told (inr (b, e, y)) a x = (f.fault ∙ ap there e, f.first ∙ ap fault_address e ∙ one_first since.past period b a y x)

-- ---- runs

pub one_period : OnePeriod
one_period all = let now = since_now all in (now.0, now.1, λ other t. since_one all now.0 other now.1 t)

pub check_done : (w : ℕ) (tag : Seal → Entry → List ℕ) (s : State) (m : List ℕ) → (outcome_of w tag s m check).seen.number ≡ 0 → first (check_rows w s m) ≡ 0
unfolding outcome_of check_of
check_done w tag s m = done_rows s m (check_rows w s m) [] _

pub check_number : (w : ℕ) (tag : Seal → Entry → List ℕ) (s : State) (m : List ℕ) → first (check_rows w s m) ≡ 0 → (outcome_of w tag s m check).seen.number ≡ 0
unfolding outcome_of check_of acceptance rejection
check_number w tag s m e =
    ap (λ (r : Outcome). r.seen.number) (call_done (check_rows w s m) s m [] _ e) ∙ by_cond (λ (r : Outcome). r.seen.number ≡ 0) (agrees (take_all w tag s m)) (λ k. refl) (λ k. refl)

pub state_exact : (w : ℕ) (tag : Seal → Entry → List ℕ) → StateExact w tag
state_exact w tag key run o period since = follows_told (events_of w tag key run) period since tag (sealed key) (state_after w tag key run) ((invariant w tag key run).follows o).0

-- the takes of a check are lawful, the state follows them, and nothing is held after them
module _ (w : ℕ) (tag : Seal → Entry → List ℕ) (key : List ℕ) (run : List Made) (m : List ℕ) (unclosed : (state_after w tag key run).closed ≡ false) where
  abbrev entry_state : State
  entry_state = state_after w tag key run

  abbrev fit : Follows tag (sealed key) entry_state (bag_of w tag key run) × Fit entry_state (bag_of w tag key run)
  fit = (invariant w tag key run).follows unclosed

  parted : follow (empty 0) (up_to w tag key run m) ≡ follow (bag_of w tag key run) (takes w entry_state m)
  parted = foldl-append noted (empty 0) (events_of w tag key run) (takes w entry_state m)

  pub check_lawful : Lawful (tag (sealed key)) (empty 0) (up_to w tag key run m)
  check_lawful =
      along_append (May (tag (sealed key))) (empty 0) (events_of w tag key run) (takes w entry_state m) (invariant w tag key run).lawful
      (taken_lawful w tag (sealed key) entry_state m (bag_of w tag key run) fit.0 fit.1)

  pub check_follows : Follows tag (sealed key) (take_all w tag entry_state m) (follow (empty 0) (up_to w tag key run m))
  check_follows =
      subst (Follows tag (sealed key) (take_all w tag entry_state m)) (sym parted) (taken_follows w tag (sealed key) entry_state m (bag_of w tag key run) fit.0 fit.1)

  pub check_bare : Bare (follow (empty 0) (up_to w tag key run m))
  check_bare = subst Bare (sym parted) (taken_bare w tag (sealed key) entry_state m (bag_of w tag key run) fit.0 fit.1)

-- a check that is not refused, after its takes
module _ (w : ℕ) (tag : Seal → Entry → List ℕ) (key : List ℕ) (run : List Made) (m : List ℕ) (d : Done w tag key run (made check m)) (period : List Event)
    (since : Since (up_to w tag key run m) period) where
  abbrev s : State
  s = state_after w tag key run

  rows : first (check_rows w s m) ≡ 0
  rows = check_done w tag s m d

  told : Told tag (sealed key) (take_all w tag s m) (up_to w tag key run m) period since
  told = follows_told (up_to w tag key run m) period since tag (sealed key) (take_all w tag s m) (check_follows w tag key run m (check_ready w s m rows).0)

  check_told : Accepts w tag key run m ↔ ((hash (tag (sealed key)) (put_in period) ≡ hash (tag (sealed key)) (taken_in period)) × NoneAhead since.past period)
  unfolding outcome_of
  check_told = (
    (λ a. let k = accepts_tells w tag s m rows a in (sym told.put ∙ k.0 ∙ told.take, told.fault.0 k.1)),
    λ k. equal_accepts w tag s m rows (told.put ∙ k.0 ∙ sym told.take) (told.fault.1 k.1),
  )

  stamp_told : (a : ℕ) → ((result w tag key run (made check m)).seen.verdict ≡ some (Stamp a)) ↔ AheadFirstAt since.past period a
  unfolding outcome_of
  stamp_told a = let k = says_stamp w tag s m rows a in ((λ v. (told.first a).0 (k.0 v)), λ x. k.1 ((told.first a).1 x))

  tag_told : ((result w tag key run (made check m)).seen.verdict ≡ some Tag)
      ↔ (NoneAhead since.past period × (hash (tag (sealed key)) (put_in period) ≢ hash (tag (sealed key)) (taken_in period)))
  unfolding outcome_of
  tag_told =
      let k = says_tag w tag s m rows in (
        (λ v. let r = k.0 v in (told.fault.0 r.0, λ h. r.1 (told.put ∙ h ∙ sym told.take))),
        λ r. k.1 (told.fault.1 r.0, λ h. r.1 (sym told.put ∙ h ∙ told.take)),
      )

pub check_exact : (w : ℕ) (tag : Seal → Entry → List ℕ) → CheckExact w tag
check_exact w tag key run m d period since = check_told w tag key run m d period since

pub reason_exact : (w : ℕ) (tag : Seal → Entry → List ℕ) → ReasonExact w tag
reason_exact w tag key run m d period since = (stamp_told w tag key run m d period since, tag_told w tag key run m d period since)

-- of the entries put in a period no two are alike
pub alike_now : (w : ℕ) (tag : Seal → Entry → List ℕ) (key : List ℕ) (run : List Made) (period : List Event) → Since (events_of w tag key run) period → NoTwoAlike (put_in period)
alike_now w tag key run period p =
    let all = events_of w tag key run in
    subst NoTwoAlike (since_puts all period p) (stays_orderly (tag (sealed key)) (empty 0) all (empty_orderly 0) (invariant w tag key run).lawful).alike
