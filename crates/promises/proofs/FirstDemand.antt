-- The table is proved where the calls are defined; count and lowest free by the marks as a set. Assumes nothing.
use mathlib.Core.Path.{◌≡◌, refl, sym, ap, ◌∙◌, subst}
use mathlib.Core.Bool.{false≢true}
use mathlib.Core.List.{List, [], ◌∷◌}
use mathlib.Core.Logic.{◌⊎◌, inl, inr, ⊎_elim, ◌↔◌, ◌≢◌}
use mathlib.Core.Option.{Option, none, some}
use Prim.Native.Nat.{ℕ, zero, suc, ◌<◌}
use native.Mathlib.Omega.{arith}
use lib.ListN.{length}
use Rattle.std.specs.Prelude.{Result, Ok, Err}
use Rattle.refusal.specs.Refusal.{first}
use Rattle.refusal.specs.declared.Refusal.{Refusal}
use Rattle.refusal.specs.Cases.{given, FirstOf}
use Rattle.refusal.proofs.Cases.{TestsAll, above, differ, either, first_of}
use Rattle.refusal.proofs.Passed.{done_other}
use Rattle.sha256.specs.Sha256.{sha256, digest_rows, digest_of}
use Rattle.hmac.specs.Hmac.{hmac, mac_rows, mac_of}
use Rattle.state.specs.Sizes.{addresses}
use Rattle.state.specs.Marks.{used, in_use, count_of}
use Rattle.state.specs.TakePut.{Seen}
use Rattle.state.specs.Access.{lowest_of, free_number, free_address}
use Rattle.state.specs.Check.{verdict_number, verdict_accepts, verdict_address}
use Rattle.state.specs.declared.State.{State}
use Rattle.state.specs.declared.Verdict.{Verdict}
use Rattle.state.specs.declared.Verdict.TheVariants.{Accept, Stamp, Tag}
use Rattle.state.proofs.Table.{table}
use Rattle.state.proofs.Marked.{marked_used, used_marks, unset}
use Rattle.marks.proofs.Sets.{count_length, lowest_told, lowest_at, lowest_full}
use Rattle.entries.specs.Tag.{tag}
use Rattle.filter.proofs.Numbers.{numbers}
use Rattle.promises.specs.Library.{library}
use Rattle.promises.specs.FirstDemand.{Asks, AllInUse, Lowest, FirstDemand}

asks : Asks
asks = record {
  start = λ κs a. tt;
  add = λ κs a. tt;
  load = λ κs a. tt;
  store = λ κs a. tt;
  remove = λ κs a. tt;
  check = λ κs a. tt;
  look = λ κs a. tt;
  count = λ κs a. tt;
  lowest_free = λ κs a. tt;
  digest = λ κs a. tt;
  mac = λ κs a. tt;
  pack = λ κs a. tt;
  unpack = λ κs a. tt;
  compare = λ κs a. tt;
  bench = λ κs a. tt;
}

-- ---- a check's verdict

module _ (s : State) (m : List ℕ) where
  abbrev x : Seen
  x = library.store.check s m

  quiet : x.number ≢ 0 → x.verdict ≡ none
  quiet h = (((table 2 tag).check s m).unchanged h).3

  said : (p : Option Verdict → Type 0) → p (some Accept) → p (some Tag) → ((a : ℕ) → p (some (Stamp a))) → x.number ≡ 0 → p x.verdict
  said p a t f e = ⊎_elim (λ v. subst p (sym v) a) (⊎_elim (λ v. subst p (sym v) t) (λ v. subst p (sym v.1) (f v.0))) ((table 2 tag).check_says s m e)

  check_number : (x.number ≡ 0) ↔ (verdict_number x.verdict ≡ some 0)
  check_number = (said (λ (v : Option Verdict). verdict_number v ≡ some 0) refl refl (λ a. refl), λ e. go x.number refl e)
    where
      go : (n : ℕ) → x.number ≡ n → verdict_number x.verdict ≡ some 0 → x.number ≡ 0
      go zero q e = q
      go (suc n) q e =
          let v = quiet (λ z. let y : suc n ≡ 0 = sym q ∙ z in absurd (omega arith)) in
          let w = sym (ap verdict_number v) ∙ e in
          let y : ◌≡◌ {A = ℕ} 0 1 = cc in
          absurd (omega arith)

  check_verdict : (x.number ≢ 0) ↔ (verdict_accepts x.verdict ≡ none)
  check_verdict = (
    (λ h. ap verdict_accepts (quiet h)),
    λ e z.
        said (λ (v : Option Verdict). verdict_accepts v ≡ none → ⊥)
        (λ w. let y : ◌≡◌ {A = ℕ} 0 1 = cc in absurd (omega arith))
        (λ w. let y : ◌≡◌ {A = ℕ} 0 1 = cc in absurd (omega arith))
        (λ a w. let y : ◌≡◌ {A = ℕ} 0 1 = cc in absurd (omega arith)) z e,
  )

check_address : (v : Option Verdict) (a : ℕ) → (verdict_address v ≡ some a) ↔ (v ≡ some (Stamp a))
check_address v a = (go v, ap verdict_address)
  where
    go : (v : Option Verdict) → verdict_address v ≡ some a → v ≡ some (Stamp a)
    go (some (Stamp b)) e = cc
    go (some Accept) e = let y : ◌≡◌ {A = ℕ} 0 1 = cc in absurd (omega arith)
    go (some Tag) e = let y : ◌≡◌ {A = ℕ} 0 1 = cc in absurd (omega arith)
    go none e = let y : ◌≡◌ {A = ℕ} 0 1 = cc in absurd (omega arith)

-- ---- count and lowest free

count : (s : State) → count_of s.marks ≡ length (in_use s.marks)
unfolding count_of in_use
count s = count_length s.marks addresses

lowest_number : (s : State) → FirstOf (given 9 (AllInUse s) ∷ []) (free_number (lowest_of s.marks))
unfolding free_number addresses
lowest_number s =
    ⊎_elim (λ e. inl ((λ a h. used_marks s a ((lowest_full s.marks).0 e a h)), ap free_number e))
    (λ k.
    inr (
      (λ f.
          let w = sym k.1 ∙ (lowest_full s.marks).1 (λ a h. marked_used s a (f a h)) in
          let y : ◌≡◌ {A = ℕ} 0 9 = ap free_number w in
          absurd (omega arith)),
      ap free_number k.1,
    ))
    (lowest_told s.marks)

lowest_address : (s : State) (a : ℕ) → (free_address (lowest_of s.marks) ≡ some a) ↔ Lowest s a
unfolding free_address addresses
lowest_address s a = (
  (λ e.
      let l = (lowest_at s.marks a).0 (at_address (lowest_of s.marks) e) in
      record {
        below = l.below;
        free = λ k. false≢true (sym l.free ∙ marked_used s a k);
        before = λ b h. used_marks s b (l.before b h);
      }),
  (λ l.
      ap free_address
      ((lowest_at s.marks a).1 (record {
        below = l.below;
        free = unset (used s.marks a) (λ u. l.free (used_marks s a u));
        before = λ b h. marked_used s b (l.before b h);
      }))),
)
  where
    at_address : (f : Result ℕ Refusal) → free_address f ≡ some a → f ≡ Ok a
    at_address (Ok b) e = cc
    at_address (Err r) e = let y : ◌≡◌ {A = ℕ} 0 1 = cc in absurd (omega arith)

-- ---- digest and HMAC

digest_tests : (m out : List ℕ) → TestsAll (digest_rows m out) (given 10 ((8192 < length m) ⊎ (length out ≢ 32)) ∷ [])
digest_tests m out = (either 10 (above 10 8192 (length m)) (differ 10 (length out) 32), tt)

mac_tests : (k m out : List ℕ) → TestsAll (mac_rows k m out) (given 10 (((1024 < length k) ⊎ (4096 < length m)) ⊎ (length out ≢ 32)) ∷ [])
mac_tests k m out = (either 10 (either 10 (above 10 1024 (length k)) (above 10 4096 (length m))) (differ 10 (length out) 32), tt)

pub first_demand : FirstDemand library
unfolding digest_of mac_of
first_demand = record {
  asks = asks;
  table = table 2 tag;
  check_number = check_number;
  check_verdict = check_verdict;
  check_address = check_address;
  count = count;
  lowest_number = lowest_number;
  lowest_address = lowest_address;
  digest = λ m out. first_of (digest_rows m out) (given 10 ((8192 < length m) ⊎ (length out ≢ 32)) ∷ []) (digest_tests m out);
  digest_unchanged = λ m out h. done_other (first (digest_rows m out)) (sha256 m) out h;
  mac = λ k m out. first_of (mac_rows k m out) (given 10 (((1024 < length k) ⊎ (4096 < length m)) ⊎ (length out ≢ 32)) ∷ []) (mac_tests k m out);
  mac_unchanged = λ k m out h. done_other (first (mac_rows k m out)) (hmac k m) out h;
  filters = numbers;
}
