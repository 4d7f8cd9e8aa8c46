-- The number that a search finds: by induction on its bound. Assumes nothing.
use mathlib.Core.Path.{◌≡◌, refl, ap}
use mathlib.Core.Bool.{Bool, true, false}
use native.Mathlib.Omega.{arith}
use Prim.Native.Nat.{ℕ, zero, suc, ◌<◌}
use Rattle.std.specs.Prelude.{Some, None}
use Rattle.text.specs.Read.{seek}

module _ (test : ℕ → Bool) where
  pub seek_is : (k n : ℕ) → n < k → test n ≡ true → ((m : ℕ) → m < k → test m ≡ true → m ≡ n) → seek test k ≡ Some n
  unfolding seek
  seek_is zero n h t u = absurd (omega arith)
  seek_is (suc k) n h t u = go (test k) refl (seek_is k n)
    where
      go : (b : Bool) → test k ≡ b → (n < k → test n ≡ true → ((m : ℕ) → m < k → test m ≡ true → m ≡ n) → seek test k ≡ Some n) → seek test (suc k) ≡ Some n
      go true e r = rw e (ap Some (u k (omega arith) e))
      go false e r = let ne : n ≡ k → ⊥ = λ q. let z : ◌≡◌ {A = ℕ} 0 1 = cc in omega arith in rw e (r (omega arith) t (λ m q. u m (omega arith)))

  pub seek_none : (k : ℕ) → ((m : ℕ) → m < k → test m ≡ true → ⊥) → seek test k ≡ None
  unfolding seek
  seek_none zero u = refl
  seek_none (suc k) u = go (test k) refl (seek_none k (λ m h. u m (omega arith)))
    where
      go : (b : Bool) → test k ≡ b → seek test k ≡ None → seek test (suc k) ≡ None
      go true e r = absurd (u k (omega arith) e)
      go false e r = rw e r

  -- a number that is found is below the bound and passes
  pub seek_found : (k n : ℕ) → seek test k ≡ Some n → (n < k) × (test n ≡ true)
  unfolding seek
  seek_found zero n e = let z : ◌≡◌ {A = ℕ} 0 1 = cc in absurd (omega arith)
  seek_found (suc k) n e = go (test k) refl (seek_found k n)
    where
      go : (b : Bool) → test k ≡ b → (seek test k ≡ Some n → (n < k) × (test n ≡ true)) → (n < suc k) × (test n ≡ true)
      go true q r = let s : k ≡ n = let p : Some k ≡ Some n = rw q at e in cc in (omega arith, rw s at q)
      go false q r = let p = r (rw q at e) in (omega (arith, p.0), p.1)
