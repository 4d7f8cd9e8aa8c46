-- The examples of key serials compute, once the serials are put in. Assumes nothing.
use mathlib.Core.Path.{◌≡◌, refl, ap, ap₂, ◌∙◌}
use mathlib.Core.Bool.{cond}
use Prim.Native.Nat.{ℕ, ◌^◌}
use lib.Dec.{eqb}
use Rattle.serials.specs.Distance.{wrapped, signed_of, distance_of}
use Rattle.std.specs.Prelude.{Some, None}
use Rattle.serials.proofs.Up.{by_up}
use Rattle.going.specs.Going.{directed, of_distance, going_of}
use Rattle.going.specs.declared.Going.{Going}
use Rattle.going.proofs.Members.{other_member, same_member}
use Rattle.promises.specs.Serials.{Gives, ExampleRound, ExampleHalf, ExampleEqual, ExampleOther}

gives : (h o : ℕ) (g : Going) → of_distance (distance_of h o) ≡ g → Gives going_of h o g
gives h o g e held offered m p q = same_member held offered m ∙ ap₂ (λ (x y : ℕ). of_distance (distance_of x y)) p q ∙ e

pub example_round : ExampleRound going_of
unfolding directed of_distance distance_of signed_of wrapped
example_round = (gives _ _ _ refl, gives _ _ _ refl)

pub example_half : ExampleHalf going_of
unfolding directed of_distance distance_of signed_of wrapped
example_half = (gives _ _ _ refl, refl, gives _ _ _ refl, gives _ _ _ refl)

pub example_equal : ExampleEqual going_of
unfolding directed of_distance distance_of signed_of
example_equal s l = gives s s _ (ap (λ (u : ℕ). of_distance (cond (eqb u (2 ^ 31)) None (Some (signed_of u)))) ((by_up s s l l).equal.0 refl))

pub example_other : ExampleOther going_of
example_other = other_member
