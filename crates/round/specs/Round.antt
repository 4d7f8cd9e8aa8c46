-- SHA-256's round, as FIPS 180-4 has it, over the operations on words. Lists hold words in the standard's order.
-- Assumes nothing.
use Rattle.std.specs.Prelude.{ℕ, List, [], ◌∷◌, slice_index_or}
use Rattle.schedule.specs.Words.{◌&◌, ◌⊕◌, complement, ◌⊞◌, rotr}

-- FIPS 180-4 (4.2)
abbrev pub ch : ℕ → ℕ → ℕ → ℕ
ch x y z = (x & y) ⊕ (complement x & z)

-- FIPS 180-4 (4.3)
abbrev pub maj : ℕ → ℕ → ℕ → ℕ
maj x y z = (x & y) ⊕ (x & z) ⊕ (y & z)

-- FIPS 180-4 (4.4)
abbrev pub Σ0 : ℕ → ℕ
Σ0 x = rotr 2 x ⊕ rotr 13 x ⊕ rotr 22 x

-- FIPS 180-4 (4.5)
abbrev pub Σ1 : ℕ → ℕ
Σ1 x = rotr 6 x ⊕ rotr 11 x ⊕ rotr 25 x

-- FIPS 180-4 §6.2.2, step 3: a round on the words a .. h, at the constant k and the schedule's word w
unfoldable pub round : ℕ → ℕ → List ℕ → List ℕ
round k w s =
    let a = slice_index_or s 0 0 in
    let b = slice_index_or s 1 0 in
    let c = slice_index_or s 2 0 in
    let d = slice_index_or s 3 0 in
    let e = slice_index_or s 4 0 in
    let f = slice_index_or s 5 0 in
    let g = slice_index_or s 6 0 in
    let h = slice_index_or s 7 0 in
    let T1 = h ⊞ Σ1 e ⊞ ch e f g ⊞ k ⊞ w in
    let T2 = Σ0 a ⊞ maj a b c in
    (T1 ⊞ T2) ∷ a ∷ b ∷ c ∷ (d ⊞ T1) ∷ e ∷ f ∷ g ∷ []
