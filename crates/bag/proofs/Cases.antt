-- Tests by their two cases. Assumes nothing.
use mathlib.Core.Path.{◌≡◌, refl, sym}
use mathlib.Core.Bool.{Bool, true, false, cond, true≢false}
use mathlib.Core.Option.{Option, none, some}
use Rattle.bag.specs.Bag.{there}

pub by_cond : {A : Type 0} (P : A → Type 0) (b : Bool) {x y : A} → (b ≡ true → P x) → (b ≡ false → P y) → P (cond b x y)
by_cond P true p q = p refl
by_cond P false p q = q refl

-- something is there exactly where there is one
pub there_some : {A : Type 0} (o : Option A) → there o ≡ true → (d : A) × (o ≡ some d)
there_some none h = absurd (true≢false (sym h))
there_some (some d) h = (d, refl)

pub there_none : {A : Type 0} (o : Option A) → there o ≡ false → o ≡ none
there_none none h = refl
there_none (some d) h = absurd (true≢false h)
