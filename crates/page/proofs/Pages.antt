-- Writes to a page one after the other are one write of all their bytes. Assumes nothing.
use borrow.Author.Tests.{leb-true, leb-false}
use mathlib.Core.Path.{◌≡◌, refl, sym, ap, ap₂, ◌∙◌}
use mathlib.Core.Bool.{Bool, true, false}
use mathlib.Core.List.{List, [], ◌∷◌, ◌++◌, append-nil, append_assoc}
use native.Mathlib.Omega.{arith}
use Prim.Native.Nat.{ℕ, suc, ◌+◌, ◌-◌, ◌≤◌, min}
use lib.Dec.{leb}
use lib.ListN.{length, take, drop, length-append, length-take, length-drop, take-append-drop, drop_of_length-le}
use lib.Seq.{length-take-le, take_all, take-nil, drop-nil, take-append-add, drop-append-add}
use Rattle.lent.specs.Lent.{copied}
use denote.MutBor.{MutBor}
use Rattle.page.specs.declared.Page as code
use Rattle.page.specs.Written.{shown, showing, written}
use Rattle.page.specs.Page.{Page, page, write, whole}

copied_none : (o : List ℕ) → copied o [] ≡ o
unfolding copied
copied_none o = rw take-nil

copied_short : (l : List ℕ) → copied [] l ≡ []
unfolding copied
copied_short l = drop-nil (length l)

copied_cons : (x : ℕ) (o : List ℕ) (y : ℕ) (l : List ℕ) → copied (x ∷ o) (y ∷ l) ≡ y ∷ copied o l
unfolding copied
copied_cons x o y l = refl

-- a copy of two lists is one after the other
copied_append : (o p q : List ℕ) (n : ℕ) → n ≡ min (length o) (length p) → take n (copied o p) ++ copied (drop n (copied o p)) q ≡ copied o (p ++ q)
copied_append [] p q n e = rw (copied_short p, take-nil, drop-nil, copied_short q) (sym (copied_short (p ++ q)))
copied_append (x ∷ o) [] q n e = let z : n ≡ 0 = omega arith in rw (z, copied_none (x ∷ o))
copied_append (x ∷ o) (y ∷ p) q n e =
    let z : n ≡ suc (min (length o) (length p)) = omega arith in
    rw (z, copied_cons x o y p, copied_cons x o y (p ++ q)) (ap (λ l. y ∷ l) (copied_append o p q (min (length o) (length p)) refl))

length_copied : (o l : List ℕ) → length (copied o l) ≡ length o
unfolding copied
length_copied o l = simp (length-append, length-take, length-drop) (omega arith)

-- a page that is full
pub write_full : (o l : List ℕ) (n : ℕ) → length o ≤ n → write (page o n) l ≡ page o (length o)
unfolding write
write_full o l n h = ap₂ page (ap₂ ◌++◌ (take_all n o h) (ap (λ d. copied d l) (drop_of_length-le o {i = n} h) ∙ copied_short l) ∙ append-nil o) (omega arith)

-- two writes
write_within : (o p q : List ℕ) (a : ℕ) → a ≤ length o → write (write (page o a) p) q ≡ write (page o a) (p ++ q)
unfolding write
write_within o p q a h =
    let d = drop a o in
    let k = min (length o) (a + length p) in
    let j = min (length d) (length p) in
    let t : length (take a o) ≡ a = length-take-le a o h in
    let e : k ≡ length (take a o) + j = omega (arith, length-drop a o) in
    let n : length (take a o ++ copied d p) ≡ length o = omega (arith, length-append (take a o) (copied d p), length_copied d p, length-drop a o) in
    ap₂ page
    (ap (λ m. take m (take a o ++ copied d p) ++ copied (drop m (take a o ++ copied d p)) q) e
    ∙ rw (take-append-add (take a o) (copied d p) j, drop-append-add (take a o) (copied d p) j) (append_assoc (take a o) (take j (copied d p)) (copied (drop j (copied d p)) q))
    ∙ ap (λ l. take a o ++ l) (copied_append d p q j refl))
    (omega (arith, n, length-append p q))

pub write_write : (g : Page) (p q : List ℕ) → write (write g p) q ≡ write g (p ++ q)
write_write g p q = go (leb g.at (length g.bytes)) refl
  where
    go : (b : Bool) → leb g.at (length g.bytes) ≡ b → write (write g p) q ≡ write g (p ++ q)
    go true e = write_within g.bytes p q g.at (leb-true g.at (length g.bytes) e)
    go false e =
        let h : length g.bytes ≤ g.at = omega (arith, leb-false g.at (length g.bytes) e) in
        ap (λ x. write x q) (write_full g.bytes p g.at h) ∙ write_full g.bytes q (length g.bytes) (omega arith) ∙ sym (write_full g.bytes (p ++ q) g.at h)

-- a page of the code that shows what is written
pub shows : (p : code.Page) (b : MutBor (List ℕ)) (o : List ℕ) (m : ℕ) (w : Page) → b ≡ record p.bytes { now = o } → page o m ≡ w → ◌≡◌ {A = code.Page} (record { bytes = b; at = m }) (showing p w)
shows p b o m w e f = ap (λ x. let q : code.Page = record { bytes = x; at = m } in q) e ∙ ap (showing p) f

pub written_written : (p : code.Page) (k l : List ℕ) → written (written p k) l ≡ written p (k ++ l)
written_written p k l = ap (showing p) (write_write (shown p) k l)

pub written_two : (p q r : code.Page) (k l : List ℕ) → q ≡ written p k → r ≡ written q l → r ≡ written p (k ++ l)
written_two p q r k l e f = f ∙ ap (λ x. written x l) e ∙ written_written p k l

pub write_none : (o : List ℕ) (a : ℕ) → a ≤ length o → write (page o a) [] ≡ page o a
unfolding write
write_none o a h = ap₂ page (ap (λ l. take a o ++ l) (copied_none (drop a o)) ∙ take-append-drop a o) (omega arith)

-- a page written by a copy to the part of it from a place on
pub write_part : (o l k : List ℕ) (n m : ℕ) → n ≤ length o → k ≡ copied (take (length o - n) (drop n o)) l → m ≡ min (length o) (n + length l)
    → page (take n o ++ (k ++ drop (length o - n) (drop n o))) m ≡ write (page o n) l
unfolding write
write_part o l k n m h e f =
    let d : length (drop n o) ≤ length o - n = omega (arith, length-drop n o) in
    let whole : k ≡ copied (drop n o) l = e ∙ ap (λ x. copied x l) (take_all (length o - n) (drop n o) d) in
    ap₂ page (ap (λ x. take n o ++ x) (ap₂ ◌++◌ whole (drop_of_length-le (drop n o) {i = length o - n} d) ∙ append-nil (copied (drop n o) l))) f

-- the place after a write lies on the page
pub written_within : (p q : code.Page) (l : List ℕ) → q ≡ written p l → q.at ≤ length q.bytes.now
unfolding write
written_within p q l e =
    let o = p.bytes.now in
    let n : length (take p.at o ++ copied (drop p.at o) l) ≡ length o = omega (arith, length-append (take p.at o) (copied (drop p.at o) l), length_copied (drop p.at o) l, length-take p.at o, length-drop p.at o) in
    rw e (omega (arith, n))

pub written_none : (p : code.Page) → p.at ≤ length p.bytes.now → written p [] ≡ p
written_none p h = ap (showing p) (write_none p.bytes.now p.at h)

-- a text that fits is written whole
pub write_whole : (o l : List ℕ) → length l ≤ length o → write (page o 0) l ≡ whole o l
unfolding write whole copied
write_whole o l h = ap₂ page (ap (λ k. k ++ drop (length l) o) (take_all (length o) l h)) (omega arith)

-- and lies in the buffer
pub whole_within : (o l k : List ℕ) (n : ℕ) → page k n ≡ whole o l → n ≤ length k
unfolding whole
whole_within o l k n e = omega (arith, ap (λ (p : Page). p.at) e, simp length-append at (ap (λ (p : Page). length p.bytes) e))
