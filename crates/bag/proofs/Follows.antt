-- A take and a put of the trusted state, and its opening of a period, do to its hashes, clock and fault what the events do to the bag. Assumes nothing.
use mathlib.Core.Path.{◌≡◌, refl, sym, ap, ap₂, ◌∙◌}
use mathlib.Core.Bool.{Bool, true, false, cond, ◌||◌}
use mathlib.Core.List.{List, [], ◌∷◌, ◌++◌, map, foldl}
use mathlib.Core.Option.{Option, none, some}
use Prim.Native.Nat.{ℕ}
use lib.Dec.{ltb}
use Rattle.state.specs.Cells.{Entry}
use Rattle.state.specs.Multiset.{hash, with_tag}
use Rattle.state.specs.TakePut.{took, put, first_fault, take_entry, put_entry}
use Rattle.state.specs.Check.{opened, agrees}
use Rattle.state.specs.declared.Hash.{Hash}
use Rattle.state.specs.declared.Seal.{Seal}
use Rattle.state.specs.declared.State.{State}
use Rattle.state.proofs.Multiset.{equal_same_hash, hash_none, hash_last}
use Rattle.state.proofs.Guards.{agrees_tells}
use Rattle.bag.specs.Bag.{Bag, empty, there, found, noted, follow}
use Rattle.bag.specs.Following.{fault_address, Follows, AgreesExactly}
use Rattle.bag.proofs.Cases.{there_none}

-- the fault after a take, in the state and in the bag
found_mark : (o : Option ℕ) (c : ℕ) (e : Entry) → (there o || ltb c e.stamp) ≡ there (found o c e)
found_mark none c e = go (ltb c e.stamp)
  where
    go : (b : Bool) → b ≡ there (cond b (some e.address) none)
    go true = refl
    go false = refl
found_mark (some a) c e = refl

found_address : (o : Option ℕ) (c : ℕ) (e : Entry) → first_fault (there o) (fault_address o) c e ≡ fault_address (found o c e)
found_address none c e = go (ltb c e.stamp)
  where
    go : (b : Bool) → cond b e.address 0 ≡ fault_address (cond b (some e.address) none)
    go true = refl
    go false = refl
found_address (some a) c e = refl

module _ (tag : Seal → Entry → List ℕ) (seal : Seal) where
  -- a hash with one element more
  more : (s : State) (h : Hash) (l : List Entry) (e : Entry) → s.seal ≡ seal → h ≡ hash (tag seal) l → with_tag h (tag s.seal e) ≡ hash (tag seal) (l ++ (e ∷ []))
  more s h l e k q = ap₂ with_tag q (ap (λ (x : Seal). tag x e) k) ∙ sym (hash_last (tag seal) l e)

  pub take_follows : (s : State) (b : Bag) (e : Entry) → Follows tag seal s b → Follows tag seal (take_entry tag s e) (noted b (took e))
  unfolding noted take_entry
  take_follows s b e f =
      record {
        seal = f.seal;
        put = f.put;
        take = more s s.take b.takes e f.seal f.take;
        clock = f.clock;
        fault = rw (f.fault, f.clock) (found_mark b.fault b.clock e);
        first = rw (f.fault, f.first, f.clock) (found_address b.fault b.clock e);
      }

  pub put_follows : (s : State) (b : Bag) (e : Entry) → Follows tag seal s b → Follows tag seal (put_entry tag s e) (noted b (put e))
  unfolding noted put_entry
  put_follows s b e f = record { seal = f.seal; put = more s s.put b.puts e f.seal f.put; take = f.take; clock = refl; fault = f.fault; first = f.first }

  pub opened_follows : (s : State) → s.seal ≡ seal → s.fault ≡ false → s.first ≡ 0 → Follows tag seal (opened s) (empty 1)
  unfolding opened empty
  opened_follows s k f g = record { seal = k; put = sym (hash_none (tag seal)); take = sym (hash_none (tag seal)); clock = refl; fault = f; first = g }

  pub takes_follow : (s : State) (b : Bag) (es : List Entry) → Follows tag seal s b → Follows tag seal (foldl (take_entry tag) s es) (follow b (map took es))
  takes_follow s b [] f = f
  takes_follow s b (e ∷ es) f = takes_follow (take_entry tag s e) (noted b (took e)) es (take_follows s b e f)

  pub puts_follow : (s : State) (b : Bag) (es : List Entry) → Follows tag seal s b → Follows tag seal (foldl (put_entry tag) s es) (follow b (map put es))
  puts_follow s b [] f = f
  puts_follow s b (e ∷ es) f = puts_follow (put_entry tag s e) (noted b (put e)) es (put_follows s b e f)

  pub verdict : AgreesExactly tag seal
  unfolding agrees
  verdict s b f = (
    (λ h. let k = agrees_tells s h in (sym f.put ∙ k.0 ∙ f.take, there_none b.fault (sym f.fault ∙ k.1))),
    λ h. rw (equal_same_hash s.put s.take (f.put ∙ h.0 ∙ sym f.take), f.fault ∙ ap there h.1),
  )
