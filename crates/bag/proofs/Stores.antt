-- A store holds what is held still after a take, after a put that is written to its cell, and after anything is written to a cell where nothing is held: cells
-- do not meet. Assumes nothing.
use mathlib.Core.Path.{◌≡◌, refl, ap, ◌∙◌}
use mathlib.Core.Bool.{Bool, true, false}
use mathlib.Core.List.{List, [], ◌∷◌, map, foldl}
use mathlib.Core.Option.{none, some}
use mathlib.Core.Logic.{inl, inr}
use Prim.Native.Nat.{ℕ, ◌<◌}
use lib.Dec.{eqb}
use lib.ListN.{length}
use borrow.Author.Tests.{eqb-true, eqb-false}
use Rattle.state.specs.Sizes.{addresses, value_size, store_size}
use Rattle.state.specs.Cells.{Entry, entry_at, write_cell, write_entry}
use Rattle.state.specs.TakePut.{took, put}
use Rattle.state.proofs.Cells.{write_length, entry_other, entry_written}
use Rattle.bag.specs.Bag.{Bag, noted, follow}
use Rattle.bag.specs.Law.{Along}
use Rattle.bag.specs.Following.{Holds, InCell, PutFits}
use Rattle.bag.proofs.Sizes.{below_bound}
use Rattle.bag.proofs.Orderly.{none_some, upd_tells}

module _ (w : ℕ) (b : Bag) (m : List ℕ) (h : Holds w b m) where
  pub take_holds : (e : Entry) → Holds w (noted b (took e)) m
  unfolding noted
  take_holds e a d k = elim (upd_tells b.held e.address none a k) [ inl (q, z) ↦ none_some refl z | inr (q, z) ↦ h a d z ]

  module _ (size : length m ≡ store_size w) where
    pub put_holds : (e : Entry) → InCell w e → Holds w (noted b (put e)) (write_entry w m e)
    unfolding noted write_entry
    put_holds e i a d k =
        let f = write_cell w m e.address e.value e.stamp in
        elim (upd_tells b.held e.address (some e) a k) [
          | inl (q, z) ↦
              let y : e ≡ d = cc in
              ap (entry_at w f) q ∙ entry_written w m e.address e.value e.stamp i.address size i.value (below_bound w e.stamp i.stamp) ∙ y
          | inr (q, z) ↦ entry_other w m e.address e.value e.stamp i.address size i.value a q ∙ h a d z
        ]

    pub free_holds : (a : ℕ) → b.held a ≡ none → a < addresses → (v : List ℕ) (t : ℕ) → length v ≡ value_size → Holds w b (write_cell w m a v t)
    free_holds a free k v t l c d q = go (eqb c a) refl
      where
        go : (x : Bool) → eqb c a ≡ x → entry_at w (write_cell w m a v t) c ≡ d
        go true e = none_some (ap b.held (eqb-true c a e) ∙ free) q
        go false e = entry_other w m a v t k size l c (eqb-false c a e) ∙ h c d q

-- some takes, and some puts one after the other
pub takes_hold : (w : ℕ) (b : Bag) (m : List ℕ) (es : List Entry) → Holds w b m → Holds w (follow b (map took es)) m
takes_hold w b m [] h = h
takes_hold w b m (e ∷ es) h = takes_hold w (noted b (took e)) m es (take_holds w b m h e)

pub puts_hold : (w : ℕ) (b : Bag) (m : List ℕ) (es : List Entry) → Along (PutFits w) b (map put es) → length m ≡ store_size w → Holds w b m → Holds w (follow b (map put es)) (foldl (write_entry w) m es)
unfolding write_entry
puts_hold w b m [] i l h = h
puts_hold w b m (e ∷ es) (i, is) l h =
    puts_hold w (noted b (put e)) (write_entry w m e) es is (write_length w m e.address e.value e.stamp i.address l i.value) (put_holds w b m h l e i)
