-- A list of events without an accepted check: by a test that computes where the events are known. Assumes nothing.
use mathlib.Core.Path.{◌≡◌, refl, sym, ap, ◌∙◌}
use mathlib.Core.Bool.{Bool, true, false, true≢false}
use mathlib.Core.List.{List, [], ◌∷◌, ◌++◌, map}
use Rattle.state.specs.Cells.{Entry}
use Rattle.state.specs.TakePut.{Event, took, put, accepted}

abbrev pub Unbroken : List Event → Type 0
Unbroken es = (p q : List Event) → es ≡ p ++ (accepted ∷ q) → ⊥

pub rest_unbroken : (e : Event) (es : List Event) → Unbroken (e ∷ es) → Unbroken es
rest_unbroken e es u p q k = u (e ∷ p) q (ap (λ (l : List Event). e ∷ l) k)

abbrev pub plain : List Event → Bool
plain [] = true
plain (took e ∷ es) = plain es
plain (put e ∷ es) = plain es
plain (accepted ∷ es) = false

broken : (p q : List Event) → plain (p ++ (accepted ∷ q)) ≡ false
broken [] q = refl
broken (took e ∷ p) q = broken p q
broken (put e ∷ p) q = broken p q
broken (accepted ∷ p) q = refl

pub unbroken : (es : List Event) → plain es ≡ true → Unbroken es
unbroken es h p q e = true≢false (sym h ∙ ap plain e ∙ broken p q)

pub takes_plain : (es : List Entry) → plain (map took es) ≡ true
takes_plain [] = refl
takes_plain (e ∷ es) = takes_plain es

pub puts_plain : (es : List Entry) → plain (map put es) ≡ true
puts_plain [] = refl
puts_plain (e ∷ es) = puts_plain es
