-- An answer is known by the number that it tells, and by what it gives where the call is done. Assumes nothing.
use mathlib.Core.Path.{sym, ap, ◌∙◌}
use mathlib.Core.Bool.{true≢false}
use Rattle.std.specs.Prelude.{◌≡◌, refl, List, [], ◌∷◌, ℕ, zero, suc, Result, Ok, Err, is_err, slice_index_or}
use Rattle.std.specs.Result.{result_unwrap_or}
use Rattle.refusal.specs.declared.Refusal.{Refusal}
use Rattle.refusal.specs.declared.Refusal.TheVariants.{StoreSize, Address, BufferSize, InUse, NotInUse, Ceiling, Closed, KeySize, NoneFree, Bound, RecordSize, SpareBit, Lengths, PastLength, NoMember}
use Rattle.refusal.specs.Told.{number_of, told}

-- the refusals in the order of their numbers, from 1 on
abbrev pub table : List Refusal
table = StoreSize ∷ Address ∷ BufferSize ∷ InUse ∷ NotInUse ∷ Ceiling ∷ Closed ∷ KeySize ∷ NoneFree ∷ Bound ∷ RecordSize ∷ SpareBit ∷ Lengths ∷ PastLength ∷ NoMember ∷ []

-- the answer of a number, with what is given where the call is done
abbrev pub answer_of : {A : Type 0} → ℕ → A → Result A Refusal
answer_of zero x = Ok x
answer_of (suc n) x = Err (slice_index_or table n NoMember)

pub told_again : {A : Type 0} (r : Result A Refusal) (x : A) → answer_of (told r) (result_unwrap_or r x) ≡ r
told_again (Ok y) x = refl
told_again (Err StoreSize) x = refl
told_again (Err Address) x = refl
told_again (Err BufferSize) x = refl
told_again (Err InUse) x = refl
told_again (Err NotInUse) x = refl
told_again (Err Ceiling) x = refl
told_again (Err Closed) x = refl
told_again (Err KeySize) x = refl
told_again (Err NoneFree) x = refl
told_again (Err Bound) x = refl
told_again (Err RecordSize) x = refl
told_again (Err SpareBit) x = refl
told_again (Err Lengths) x = refl
told_again (Err PastLength) x = refl
told_again (Err NoMember) x = refl

-- so no refusal has the number of a call that is done
pub some_number : (e : Refusal) → number_of e ≡ 0 → ⊥
some_number e z = true≢false (ap is_err (sym (told_again {A = ℕ} (Err e) 0) ∙ ap (λ (n : ℕ). answer_of {A = ℕ} n 0) z))
