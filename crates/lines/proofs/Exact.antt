-- `parsed` gives each line the one command that it reads as: words with one blank between them are the words of their line, a line's words make the line
-- again, and each word is what its number or its name writes. Assumes nothing.
use borrow.Author.Tests.{eqb-true, eqb-false}
use mathlib.Core.Path.{◌≡◌, refl, sym, ap, ap₂, subst, ◌∙◌}
use mathlib.Core.Bool.{Bool, true, false, cond, not, ◌&&◌}
use mathlib.Core.List.{List, [], ◌∷◌}
use native.Mathlib.Omega.{arith}
use Prim.Native.Nat.{ℕ, ◌≤◌, ◌<◌}
use lib.Dec.{T, eqb}
use Rattle.std.specs.Prelude.{Option, Some, None}
use Rattle.text.specs.Text.{ascii, decimal, hex}
use Rattle.octets.specs.Places.{same}
use Rattle.text.specs.Read.{decimal_in, hex_in}
use Rattle.text.proofs.Each.{Each, Lacks, each_more}
use Rattle.octets.proofs.Same.{same_eq}
use Rattle.text.proofs.Numerals.{Digit, decimal_digits, hex_digits}
use Rattle.text.proofs.Exact.{one_number, one_byte}
use Rattle.lines.specs.Grammar.{blank, onto, parts, words_of, spaced, line_of, Lawful, Reads, command, other}
use Rattle.lines.specs.Parse.{with_address, with_value, with_stamp, command_of, words_in, parsed}
use Rattle.lines.specs.Exact.{OneReading}
use Rattle.lines.specs.declared.Command.{Command}
use Rattle.lines.specs.declared.Command.TheVariants.{Add, Store, Load, Remove, Check, Spoil}
use Rattle.lines.proofs.Cuts.{parts_cut, words_single, words_some, First}

-- a line's words make the line again
spaced_onto : (x : ℕ) (p : List ℕ) (ps : List (List ℕ)) → spaced (onto x (p ∷ ps)) ≡ x ∷ spaced (p ∷ ps)
unfolding spaced
spaced_onto x p [] = refl
spaced_onto x p (q ∷ qs) = refl

spaced_words : (l : List ℕ) → spaced (words_in l) ≡ l
unfolding spaced words_in parts
spaced_words [] = refl
spaced_words (x ∷ xs) = go (eqb x blank) refl (words_some xs) (spaced_words xs)
  where
    go : (b : Bool) → eqb x blank ≡ b → First (words_in xs) → spaced (words_in xs) ≡ xs → spaced (words_in (x ∷ xs)) ≡ x ∷ xs
    go true e w r = rw (e, w.is) (ap₂ ◌∷◌ (sym (eqb-true x blank e)) (rw w.is at r))
    go false e w r = rw (e, w.is) (spaced_onto x w.first w.rest ∙ ap (λ l. x ∷ l) (rw w.is at r))

-- words without blanks are the words of their line
EachLacks : List (List ℕ) → Type 0
EachLacks [] = Unit {0}
EachLacks (w ∷ ws) = Lacks blank w × EachLacks ws

words_spaced : (w : List ℕ) (ws : List (List ℕ)) → EachLacks (w ∷ ws) → words_in (spaced (w ∷ ws)) ≡ w ∷ ws
unfolding spaced EachLacks words_in
words_spaced w [] h = words_single w h.0
words_spaced w (x ∷ ws) h = parts_cut blank ([] ∷ []) w (spaced (x ∷ ws)) h.0 ∙ ap (λ l. w ∷ l) (words_spaced x ws h.1)

lacks_test : List ℕ → Bool
lacks_test [] = true
lacks_test (x ∷ xs) = not (eqb x blank) && lacks_test xs

name_lacks : (l : List ℕ) → T (lacks_test l) → Lacks blank l
unfolding Each lacks_test
name_lacks [] t = tt
name_lacks (x ∷ xs) t = go (eqb x blank) refl (name_lacks xs)
  where
    go : (b : Bool) → eqb x blank ≡ b → (T (lacks_test xs) → Lacks blank xs) → Lacks blank (x ∷ xs)
    go true e r = absurd (rw e at t)
    go false e r = (eqb-false x blank e, r (rw e at t))

decimal_lacks : (n : ℕ) → Lacks blank (decimal n)
decimal_lacks n = each_more Digit (λ x. x ≡ blank → ⊥) (decimal n) (λ x h e. omega arith) (decimal_digits n)

hex_lacks : (b : ℕ) → Lacks blank (hex b)
hex_lacks b = each_more (λ x. 48 ≤ x) (λ x. x ≡ blank → ⊥) (hex b) (λ x h e. omega arith) (hex_digits b)

-- a command's line is read as the command
words_line : (c : Command) → Lawful c → words_in (line_of c) ≡ words_of c
unfolding line_of words_of Lawful EachLacks lacks_test
words_line (Add a v) h = words_spaced (ascii "add") (decimal a ∷ hex v ∷ []) (name_lacks (ascii "add") tt, (decimal_lacks a, (hex_lacks v, tt)))
words_line (Store a v) h = words_spaced (ascii "store") (decimal a ∷ hex v ∷ []) (name_lacks (ascii "store") tt, (decimal_lacks a, (hex_lacks v, tt)))
words_line (Load a) h = words_spaced (ascii "load") (decimal a ∷ []) (name_lacks (ascii "load") tt, (decimal_lacks a, tt))
words_line (Remove a) h = words_spaced (ascii "remove") (decimal a ∷ []) (name_lacks (ascii "remove") tt, (decimal_lacks a, tt))
words_line Check h = words_spaced (ascii "check") [] (name_lacks (ascii "check") tt, tt)
words_line (Spoil a v t) h = words_spaced (ascii "spoil") (decimal a ∷ hex v ∷ decimal t ∷ []) (name_lacks (ascii "spoil") tt, (decimal_lacks a, (hex_lacks v, (decimal_lacks t, tt))))

command_words : (c : Command) → Lawful c → command_of (words_of c) ≡ Some c
unfolding command_of words_of Lawful same
command_words (Add a v) h = rw ((one_number (decimal a) a).1 (h.0, refl), (one_byte (hex v) v).1 (h.1, refl))
command_words (Store a v) h = rw ((one_number (decimal a) a).1 (h.0, refl), (one_byte (hex v) v).1 (h.1, refl))
command_words (Load a) h = rw ((one_number (decimal a) a).1 (h, refl))
command_words (Remove a) h = rw ((one_number (decimal a) a).1 (h, refl))
command_words Check h = refl
command_words (Spoil a v t) h = rw ((one_number (decimal a) a).1 (h.0, refl), (one_byte (hex v) v).1 (h.1, refl), (one_number (decimal t) t).1 (h.2, refl))

parsed_line : (c : Command) → Lawful c → parsed (line_of c) ≡ Some c
unfolding parsed
parsed_line c h = ap command_of (words_line c h) ∙ command_words c h

-- some words are none, or those of the command that they make
abbrev Exact : List (List ℕ) → Option Command → Type 0
Exact ws None = Unit {0}
Exact ws (Some c) = Lawful c × (words_of c ≡ ws)

either : (ws : List (List ℕ)) (b : Bool) (x y : Option Command) → (b ≡ true → Exact ws x) → (b ≡ false → Exact ws y) → Exact ws (cond b x y)
either ws true x y f g = f refl
either ws false x y f g = g refl

-- what a word is read as
abbrev NumberIs : List ℕ → Option ℕ → Type 0
NumberIs w (Some n) = (n < 65536) × (decimal n ≡ w)
NumberIs w None = Unit {0}

number_is : (w : List ℕ) (x : Option ℕ) → decimal_in w ≡ x → NumberIs w x
number_is w (Some n) e = (one_number w n).0 e
number_is w None e = tt

abbrev ByteIs : List ℕ → Option ℕ → Type 0
ByteIs w (Some b) = (b < 256) × (hex b ≡ w)
ByteIs w None = Unit {0}

byte_is : (w : List ℕ) (x : Option ℕ) → hex_in w ≡ x → ByteIs w x
byte_is w (Some b) e = (one_byte w b).0 e
byte_is w None e = tt

address_exact : (n a : List ℕ) (x : Option ℕ) → NumberIs a x → Exact (n ∷ a ∷ []) (with_address n x)
unfolding Lawful words_of
address_exact n a (Some x) h =
    either _ (same n (ascii "load")) _ _
    (λ e. (h.0, ap₂ (λ k l. k ∷ l ∷ []) (sym (same_eq n (ascii "load") e)) h.1))
    (λ _. either _ (same n (ascii "remove")) _ _ (λ e. (h.0, ap₂ (λ k l. k ∷ l ∷ []) (sym (same_eq n (ascii "remove") e)) h.1)) (λ _. tt))
address_exact n a None h = tt

value_exact : (n a v : List ℕ) (x : Option ℕ) (y : Option ℕ) → NumberIs a x → ByteIs v y → Exact (n ∷ a ∷ v ∷ []) (with_value n x y)
unfolding Lawful words_of
value_exact n a v (Some x) (Some y) h g =
    either _ (same n (ascii "add")) _ _
    (λ e. ((h.0, g.0), rw (same_eq n (ascii "add") e, h.1, g.1)))
    (λ _. either _ (same n (ascii "store")) _ _ (λ e. ((h.0, g.0), rw (same_eq n (ascii "store") e, h.1, g.1))) (λ _. tt))
value_exact n a v (Some x) None h g = tt
value_exact n a v None y h g = tt

stamp_exact : (n a v t : List ℕ) (x : Option ℕ) (y : Option ℕ) (z : Option ℕ) → NumberIs a x → ByteIs v y → NumberIs t z → Exact (n ∷ a ∷ v ∷ t ∷ []) (with_stamp n x y z)
unfolding Lawful words_of
stamp_exact n a v t (Some x) (Some y) (Some z) h g f =
    either _ (same n (ascii "spoil")) _ _ (λ e. ((h.0, g.0, f.0), rw (same_eq n (ascii "spoil") e, h.1, g.1, f.1))) (λ _. tt)
stamp_exact n a v t (Some x) (Some y) None h g f = tt
stamp_exact n a v t (Some x) None z h g f = tt
stamp_exact n a v t None y z h g f = tt

command_exact : (ws : List (List ℕ)) → Exact ws (command_of ws)
unfolding command_of Lawful words_of
command_exact [] = tt
command_exact (n ∷ []) = either _ (same n (ascii "check")) _ _ (λ e. (tt, rw (same_eq n (ascii "check") e))) (λ _. tt)
command_exact (n ∷ a ∷ []) = address_exact n a (decimal_in a) (number_is a _ refl)
command_exact (n ∷ a ∷ v ∷ []) = value_exact n a v (decimal_in a) (hex_in v) (number_is a _ refl) (byte_is v _ refl)
command_exact (n ∷ a ∷ v ∷ t ∷ []) = stamp_exact n a v t (decimal_in a) (hex_in v) (decimal_in t) (number_is a _ refl) (byte_is v _ refl) (number_is t _ refl)
command_exact (n ∷ a ∷ v ∷ t ∷ x ∷ ws) = tt

-- a line is none, or the line of its command
abbrev LineIs : List ℕ → Option Command → Type 0
LineIs l None = Unit {0}
LineIs l (Some c) = Lawful c × (line_of c ≡ l)

line_is : (l : List ℕ) (o : Option Command) → parsed l ≡ o → LineIs l o
unfolding parsed line_of
line_is l None e = tt
line_is l (Some c) e = let h = rw e at (command_exact (words_in l)) in (h.0, ap spaced h.1 ∙ spaced_words l)

-- a line reads as what `parsed` gives, and as nothing else
parsed_reads : (l : List ℕ) (o : Option Command) → parsed l ≡ o → Reads l o
parsed_reads l None e = other l (λ c h q. let p = sym (parsed_line c h) ∙ ap parsed q ∙ e in let z : ◌≡◌ {A = ℕ} 0 1 = cc in omega arith)
parsed_reads l (Some c) e = let x = line_is l (Some c) e in subst (λ k. Reads k (Some c)) x.1 (command c x.0)

reads_parsed : (l : List ℕ) (o : Option Command) → Reads l o → parsed l ≡ o
reads_parsed l o (command c h) = parsed_line c h
reads_parsed l o (other k u) = go (parsed l) refl
  where
    go : (x : Option Command) → parsed l ≡ x → parsed l ≡ None
    go None e = e
    go (Some c) e = let x = line_is l (Some c) e in absurd (u c x.0 x.1)

pub one_reading : OneReading
one_reading l o = (parsed_reads l o, reads_parsed l o)
