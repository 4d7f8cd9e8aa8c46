-- The accepted events of a run are its checks that accept, with their takes before them: each call shows it of its own. Assumes nothing.
use mathlib.Core.Path.{◌≡◌, refl, sym, ap, ◌∙◌}
use mathlib.Core.List.{List, [], ◌∷◌, ◌++◌, append_assoc}
use mathlib.Core.Option.{some, some-injective, none-ne-some}
use Prim.Native.Nat.{ℕ}
use Rattle.state.specs.Cells.{Entry}
use Rattle.state.specs.Start.{start_of}
use Rattle.state.specs.TakePut.{Event, accepted, Outcome}
use Rattle.state.specs.Check.{check_rows, agrees, takes, puts, take_all, acceptance, rejection, check_of}
use Rattle.state.specs.declared.Seal.{Seal}
use Rattle.state.specs.declared.State.{State}
use Rattle.state.specs.declared.Verdict.TheVariants.{Accept}
use Rattle.state.proofs.Guards.{reason_rejects}
use Rattle.state.proofs.Ready.{by_rows}
use Rattle.bag.proofs.Lists.{no_place}
use Rattle.bag.proofs.Cases.{by_cond}
use Rattle.run.specs.Calls.{Call, check, Made, made, outcome_of, events}
use Rattle.run.specs.Demand3.{state_after, result, events_of, up_to, Accepts}
use Rattle.run.proofs.Does.{still, does}
use Rattle.run.proofs.Runs.{CallOf, call_of}
use Rattle.run.proofs.FromStart.{events_append, done_by, events_none, events_last, run_did}

-- what a check that accepts gives
pub accepts_gives : (w : ℕ) (tag : Seal → Entry → List ℕ) (s : State) (m : List ℕ) → (outcome_of w tag s m check).seen.verdict ≡ some Accept → outcome_of w tag s m check ≡ acceptance w tag s m
unfolding outcome_of check_of acceptance rejection
accepts_gives w tag s m =
    by_rows s m (λ (r : Outcome). r.seen.verdict ≡ some Accept → r ≡ acceptance w tag s m) (check_rows w s m) [] _
    (λ e. by_cond (λ (r : Outcome). r.seen.verdict ≡ some Accept → r ≡ acceptance w tag s m) (agrees (take_all w tag s m)) (λ k v. refl) (λ k v. reason_rejects (take_all w tag s m) (some-injective _ _ v)))
    (λ n q v. absurd (none-ne-some Accept v))

module _ (w : ℕ) (tag : Seal → Entry → List ℕ) (key : List ℕ) where
  -- a check of the run that accepts, what was done up to its verdict being `past`
  pub record AcceptedCheck (run : List Made) (past : List Event) : Type 0 where
    pub before : List Made
    pub later : List Made
    pub bytes : List ℕ
    pub place : run ≡ before ++ (made check bytes ∷ later)
    pub accepts : Accepts w tag key before bytes
    pub up_to : past ≡ up_to w tag key before bytes

  pub accepted_check : (run : List Made) (past rest : List Event) → events_of w tag key run ≡ past ++ (accepted ∷ rest) → AcceptedCheck run past
  accepted_check run past rest e =
      elim (run_did w tag key k.before k.call) [
        | still n ↦ absurd (no_place k.first accepted k.rest (sym n.events ∙ k.within))
        | does o y d ↦
            let h = d.accepts k.first k.rest k.within in
            record {
              before = k.before;
              later = k.later;
              bytes = k.call.bytes;
              place = k.place ∙ ap (λ (c : Call). k.before ++ (made c k.call.bytes ∷ k.later)) h.0;
              accepts = ap (λ (c : Call). (result w tag key k.before (made c k.call.bytes)).seen.verdict) (sym h.0) ∙ h.1;
              up_to = k.up_to ∙ ap (λ (es : List Event). events_of w tag key k.before ++ es) h.2;
            }
      ]
    where
      k : CallOf (done_by w tag key) (events_of w tag key) (events_none w tag key) (events_last w tag key) run past accepted
      k = call_of (done_by w tag key) (events_of w tag key) (events_none w tag key) (events_last w tag key) accepted run past rest e

  pub check_accepted : (run : List Made) (past : List Event) → AcceptedCheck run past → (rest : List Event) × (events_of w tag key run ≡ past ++ (accepted ∷ rest))
  unfolding events acceptance
  check_accepted run past c = (
    puts w s m ++ rest,
    ap (events_of w tag key) c.place ∙ events_append w tag (start_of key).state c.before (made check m ∷ c.later)
        ∙ ap (λ (es : List Event). events_of w tag key c.before ++ (es ++ rest)) (ap (λ (r : Outcome). r.events) (accepts_gives w tag s m c.accepts))
        ∙ regroup (events_of w tag key c.before) (takes w s m) (puts w s m) rest ∙ ap (λ (es : List Event). es ++ (accepted ∷ (puts w s m ++ rest))) (sym c.up_to),
  )
    where
      s : State
      s = state_after w tag key c.before

      m : List ℕ
      m = c.bytes

      rest : List Event
      rest = events w tag (result w tag key c.before (made check m)).seen.state c.later

      regroup : (a t p r : List Event) → a ++ ((t ++ (accepted ∷ p)) ++ r) ≡ (a ++ t) ++ (accepted ∷ (p ++ r))
      regroup a t p r = simp append_assoc
