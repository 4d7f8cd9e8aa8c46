-- What is taken one after the other joins the take hash, and what is put joins the put hash: by induction on the entries. Assumes nothing.
use mathlib.Core.Path.{◌≡◌, refl, sym, ap, ◌∙◌}
use mathlib.Core.Bool.{Bool, true, false, true≢false, false≢true}
use mathlib.Core.List.Memᴰ
use mathlib.Core.List.{List, [], ◌∷◌, ◌++◌, map, foldl, append-nil}
use mathlib.Core.Logic.{inl, inr, ⊎_elim}
use Prim.Native.Nat.{ℕ, suc, ◌+◌, ◌%◌, ◌^◌, ◌≤◌, ◌<◌}
use native.Mathlib.Nat.{zero-add}
use native.Mathlib.Omega.{arith}
use lib.Dec.{ltb}
use lib.ListN.{length, replicate, length-map}
use borrow.Author.Tests.{ltb-true, ltb-false}
use lib.Seq.{append_snoc}
use Rattle.octets.specs.Places.{xor}
use Rattle.state.specs.Cells.{Entry}
use Rattle.state.specs.Multiset.{hash, empty_hash, with_tag}
use Rattle.state.specs.TakePut.{take_entry, put_entry}
use Rattle.state.specs.Table.{zero_hash}
use Rattle.state.specs.Effects.{SomeAhead, Faulted}
use Rattle.state.specs.declared.Hash.{Hash}
use Rattle.state.specs.declared.Seal.{Seal}
use Rattle.state.specs.declared.State.{State}
use Rattle.state.proofs.Multiset.{hash_none, hash_last}
use Rattle.state.proofs.Guards.{take_faulted, take_found, take_calm}

-- ---- a hash that tags join

pub tags_join : (h : Hash) (ts : List (List ℕ)) → h.number < 2 ^ 32 → foldl with_tag h ts ≡ record { tag = foldl xor h.tag ts; number = (h.number + length ts) % 2 ^ 32 }
unfolding with_tag
tags_join h [] l = let n : h.number ≡ (h.number + 0) % 2 ^ 32 = omega arith in λ i. record { tag = h.tag; number = n i }
tags_join h (t ∷ ts) l =
    let n : ((h.number + 1) % 2 ^ 32 + length ts) % 2 ^ 32 ≡ (h.number + suc (length ts)) % 2 ^ 32 = omega arith in
    tags_join (with_tag h t) ts (omega arith) ∙ (λ i. record { tag = foldl xor (xor h.tag t) ts; number = n i })

-- the hash of a multiset is the hash of nothing that all its tags have joined
hash_folds : (tag : Entry → List ℕ) (p es : List Entry) → foldl with_tag (hash tag p) (map tag es) ≡ hash tag (p ++ es)
hash_folds tag p [] = ap (hash tag) (sym (append-nil p))
hash_folds tag p (e ∷ es) =
    ap (λ (h : Hash). foldl with_tag h (map tag es)) (sym (hash_last tag p e)) ∙ hash_folds tag (p ++ (e ∷ [])) es ∙ ap (hash tag) (append_snoc p e es)

pub hash_joined : (tag : Entry → List ℕ) (es : List Entry) → hash tag es ≡ record { tag = foldl xor (replicate 32 0) (map tag es); number = length es % 2 ^ 32 }
unfolding empty_hash
hash_joined tag es =
    sym (hash_folds tag [] es) ∙ ap (λ (h : Hash). foldl with_tag h (map tag es)) (hash_none tag) ∙ tags_join zero_hash (map tag es) (omega arith)
    ∙ ap (λ (n : ℕ). record { tag = foldl xor (replicate 32 0) (map tag es); number = n % 2 ^ 32 }) (zero-add (length (map tag es)) ∙ length-map es tag)

module _ (tag : Seal → Entry → List ℕ) where
  -- ---- entries taken, and entries put, one after the other

  pub record Taken (s t : State) (es : List Entry) : Type 0 where
    pub seal : t.seal ≡ s.seal
    pub put : t.put ≡ s.put
    pub take : t.take ≡ foldl with_tag s.take (map (tag s.seal) es)
    pub clock : t.clock ≡ s.clock
    pub fault : Faulted s t es
    pub closed : t.closed ≡ s.closed

  -- none is ahead among these and e, where e is not
  still_none : (c : ℕ) (e : Entry) (es : List Entry) → e.stamp ≤ c → ¬ SomeAhead c es → ¬ SomeAhead c (e ∷ es)
  still_none c e es h n (d, m, l) = ⊎_elim (λ q. let z : d.stamp ≡ e.stamp = ap (λ (x : Entry). x.stamp) q in absurd (omega arith)) (λ k. n (d, k, l)) (Memᴰ.cases_cons m)

  -- the first entry taken, and the others after it
  faulted_more : (s t : State) (e : Entry) (es : List Entry) → Faulted (take_entry tag s e) t es → Faulted s t (e ∷ es)
  unfolding take_entry
  faulted_more s t e es r = go s.fault refl (ltb s.clock e.stamp) refl r
    where
      go : (b : Bool) → s.fault ≡ b → (c : Bool) → ltb s.clock e.stamp ≡ c → Faulted (take_entry tag s e) t es → Faulted s t (e ∷ es)
      go true f c l (inl (tf, inl (u, q))) = inl (tf, inl (f, q ∙ (take_faulted tag s e f).1))
      go true f c l (inl (tf, inr (u, q))) = absurd (true≢false (sym (take_faulted tag s e f).0 ∙ u))
      go true f c l (inr (tf, (u, n), q)) = absurd (true≢false (sym (take_faulted tag s e f).0 ∙ u))
      go false f true l (inl (tf, inl (u, q))) =
          let h = ltb-true s.clock e.stamp l in
          inl (tf, inr (f, record { before = []; entry = e; later = es; place = refl; address = sym (q ∙ (take_found tag s e f h).1); ahead = h; none_before = λ k. Memᴰ.not-nil k.1 }))
      go false f true l (inl (tf, inr (u, q))) = absurd (true≢false (sym (take_found tag s e f (ltb-true _ _ l)).0 ∙ u))
      go false f true l (inr (tf, (u, n), q)) = absurd (true≢false (sym (take_found tag s e f (ltb-true _ _ l)).0 ∙ u))
      go false f false l (inl (tf, inl (u, q))) = absurd (false≢true (sym (take_calm tag s e f (ltb-false _ _ l)).0 ∙ u))
      go false f false l (inl (tf, inr (u, q))) =
          inl (
            tf,
            inr (
              f,
              record {
                before = e ∷ q.before;
                entry = q.entry;
                later = q.later;
                place = ap (λ (x : List Entry). e ∷ x) q.place;
                address = q.address;
                ahead = q.ahead;
                none_before = still_none s.clock e q.before (ltb-false _ _ l) q.none_before;
              },
            ),
          )
      go false f false l (inr (tf, (u, n), q)) = inr (tf, (f, still_none s.clock e es (ltb-false _ _ l) n), q ∙ (take_calm tag s e f (ltb-false _ _ l)).1)

  pub taken_each : (es : List Entry) (s : State) → Taken s (foldl (take_entry tag) s es) es
  unfolding take_entry
  taken_each [] s = record { seal = refl; put = refl; take = refl; clock = refl; fault = go s.fault refl; closed = refl }
    where
      go : (b : Bool) → s.fault ≡ b → Faulted s s []
      go true f = inl (f, inl (f, refl))
      go false f = inr (f, (f, λ k. Memᴰ.not-nil k.1), refl)
  taken_each (e ∷ es) s =
      let r = taken_each es (take_entry tag s e) in
      record { seal = r.seal; put = r.put; take = r.take; clock = r.clock; fault = faulted_more s (foldl (take_entry tag) s (e ∷ es)) e es r.fault; closed = r.closed }

  pub put_of_each : (es : List Entry) (s : State) → (foldl (put_entry tag) s es).put ≡ foldl with_tag s.put (map (tag s.seal) es)
  unfolding put_entry
  put_of_each [] s = refl
  put_of_each (e ∷ es) s = put_of_each es (put_entry tag s e)

  pub put_seal : (es : List Entry) (s : State) → (foldl (put_entry tag) s es).seal ≡ s.seal
  unfolding put_entry
  put_seal [] s = refl
  put_seal (e ∷ es) s = put_seal es (put_entry tag s e)
