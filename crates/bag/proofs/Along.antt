-- What holds along two lists holds along the two joined, and so in parts: by induction on the first. Assumes nothing.
use mathlib.Core.List.{List, [], ◌∷◌, ◌++◌, map}
use Rattle.state.specs.TakePut.{Event}
use Rattle.bag.specs.Bag.{Bag, noted, follow}
use Rattle.bag.specs.Law.{Along}

module _ (P : Bag → Event → Type 0) where
  pub along_append : (b : Bag) (p q : List Event) → Along P b p → Along P (follow b p) q → Along P b (p ++ q)
  along_append b [] q h k = k
  along_append b (e ∷ p) q h k = (h.0, along_append (noted b e) p q h.1 k)

  pub along_split : (b : Bag) (p q : List Event) → Along P b (p ++ q) → Along P b p × Along P (follow b p) q
  along_split b [] q h = (tt, h)
  along_split b (e ∷ p) q h = let r = along_split (noted b e) p q h.1 in ((h.0, r.0), r.1)

  -- what holds of each event, whatever the bag
  pub along_map : {A : Type 0} (x : A → Event) → ((b : Bag) (a : A) → P b (x a)) → (b : Bag) (as' : List A) → Along P b (map x as')
  along_map x h b [] = tt
  along_map x h b (a ∷ as') = (h b a, along_map x h (noted b (x a)) as')
