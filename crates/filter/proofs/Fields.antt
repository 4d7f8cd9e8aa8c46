-- The bytes that the code reads and writes meet the layout, since parts and bytes make one number: the first twelve bytes and the parts
-- before the prefix do, by 32 bits at a time, and the prefix stands after both. Assumes nothing.
use mathlib.Core.Path.{◌≡◌, refl, sym, ap, ap₂, ◌∙◌}
use mathlib.Core.List.{List, [], ◌∷◌, ◌++◌, append-nil}
use Prim.Native.Nat.{ℕ, zero, suc, ◌+◌, ◌*◌, ◌/◌, ◌%◌, ◌^◌, ◌≤◌, ◌<◌}
use native.Mathlib.Omega.{arith}
use lib.ListN.{length, get_or, drop, take, length-drop, take-append-drop, drop_of_length-le}
use mir.Syntax.{w32, w128}
use borrow.Rule.Slice.PartMut.{put_mid}
use Rattle.std.specs.Int.{to_be_bytes, from_be_bytes}
use lib.Seq.{get_or-drop, take_all, drop-cons}
use Rattle.octets.specs.Layout.{total, join, split, Fit, none, more, octets, number, bytes}
use Rattle.octets.proofs.Layouts.{join_append, number_append, number_join, number_below, bytes_number, split_join, meet, fit_each, fit_append, fit_bytes, fit_length}
use Rattle.filter.specs.Filter.{widths, parts_in, parts_of, filter_of, family_number, action_number, family_of, action_of, bytes_of, filter_in, spare_in, FieldsFit}
use Rattle.filter.specs.declared.FilterRecord.{FilterRecord}
use Rattle.filter.specs.declared.Family.{Family}
use Rattle.filter.specs.declared.Family.TheVariants.{Ipv4, Ipv6}
use Rattle.filter.specs.declared.Action.{Action}
use Rattle.filter.specs.declared.Action.TheVariants.{Deny, Permit}

-- a filter record is its fields
pub same_fields : (r s : FilterRecord) → r.family ≡ s.family → r.action ≡ s.action → r.length ≡ s.length → r.longest ≡ s.longest
    → r.member ≡ s.member → r.serial ≡ s.serial → r.prefix ≡ s.prefix → r ≡ s
same_fields r s f a l m M S p = of f a l m M S p
  where
    of : {f f' : Family} {a a' : Action} {l l' m m' M M' S S' : ℕ} {p p' : List ℕ} → f ≡ f' → a ≡ a' → l ≡ l' → m ≡ m' → M ≡ M' → S ≡ S' → p ≡ p'
        → ◌≡◌ {A = FilterRecord} (record { family = f; action = a; length = l; longest = m; member = M; serial = S; prefix = p })
        (record { family = f'; action = a'; length = l'; longest = m'; member = M'; serial = S'; prefix = p' })
    of f a l m M S p = cc

pub family_below : (f : Family) → family_number f < 2
family_below Ipv4 = omega arith
family_below Ipv6 = omega arith

pub action_below : (a : Action) → action_number a < 2
action_below Deny = omega arith
action_below Permit = omega arith

-- the widths before the prefix
abbrev pub front : List ℕ
front = take 7 widths

-- four bytes as a number
abbrev pub word : ℕ → ℕ → ℕ → ℕ → ℕ
word a b c d = a * 16777216 + b * 65536 + c * 256 + d

-- the parts in the first word
pub head_whole : (f a l m s : ℕ) → join (take 5 widths) (f ∷ a ∷ l ∷ m ∷ s ∷ []) ≡ f * 2147483648 + a * 1073741824 + l * 4194304 + m * 16384 + s
unfolding join total
head_whole f a l m s = omega arith

pub front_number : (f a l m s M S b0 b1 b2 b3 b4 b5 b6 b7 b8 b9 b10 b11 : ℕ)
    → word b0 b1 b2 b3 ≡ f * 2147483648 + a * 1073741824 + l * 4194304 + m * 16384 + s → word b4 b5 b6 b7 ≡ M → word b8 b9 b10 b11 ≡ S
    → number (b0 ∷ b1 ∷ b2 ∷ b3 ∷ b4 ∷ b5 ∷ b6 ∷ b7 ∷ b8 ∷ b9 ∷ b10 ∷ b11 ∷ []) ≡ join front (f ∷ a ∷ l ∷ m ∷ s ∷ M ∷ S ∷ [])
unfolding number join total
front_number f a l m s M S b0 b1 b2 b3 b4 b5 b6 b7 b8 b9 b10 b11 h e g = omega arith

one_total : total (128 ∷ []) ≡ 128
unfolding total
one_total = refl

one : (n : ℕ) → join (128 ∷ []) (n ∷ []) ≡ n
unfolding join total
one n = omega arith

whole_number : (vs hs p : List ℕ) → length vs ≡ 7 → length p ≡ 16 → number hs ≡ join front vs → number (hs ++ p) ≡ join widths (vs ++ (number p ∷ []))
whole_number vs hs p k n e =
    number_append hs p ∙ ap (λ (x : ℕ). x * 2 ^ (8 * length p) + number p) e
    ∙ sym (join_append front vs (128 ∷ []) (number p ∷ []) (sym k) ∙ ap₂ (λ (x y : ℕ). join front vs * 2 ^ x + y) (one_total ∙ rw n) (one (number p)))

-- ---- what pack writes

word_of : (n : ℕ) → n < 2 ^ 32 → word (n / 16777216 % 256) (n / 65536 % 256) (n / 256 % 256) (n % 256) ≡ n
word_of n h = omega arith

four_fit : (n : ℕ) → Fit (octets 4) (to_be_bytes w32 n)
four_fit n = fit_each (octets 4) (to_be_bytes w32 n) (omega arith, (omega arith, (omega arith, (omega arith, tt))))

-- three words, and the prefix
abbrev pub words : ℕ → ℕ → ℕ → List ℕ
words h m s = to_be_bytes w32 h ++ (to_be_bytes w32 m ++ to_be_bytes w32 s)

pub written : (r : FilterRecord) → FieldsFit r → (h : ℕ) → h < 2 ^ 32 → h ≡ join (take 5 widths) (take 5 (parts_of r)) → words h r.member r.serial ++ r.prefix ≡ bytes_of r
unfolding bytes_of bytes
written r k h b e =
    let hs : List ℕ = words h r.member r.serial in
    let all : Fit (octets 28) (hs ++ r.prefix) = fit_append (fit_append (four_fit h) (fit_append (four_fit r.member) (four_fit r.serial))) k.prefix in
    let n : number hs ≡ join front (take 7 (parts_of r)) =
    front_number (family_number r.family) (action_number r.action) r.length r.longest 0 r.member r.serial _ _ _ _ _ _ _ _ _ _ _ _
    (word_of h b ∙ e ∙ head_whole (family_number r.family) (action_number r.action) r.length r.longest 0) (word_of r.member k.member) (word_of r.serial k.serial) in
    sym (meet widths (parts_of r) all (sym (whole_number (take 7 (parts_of r)) hs r.prefix refl (fit_length k.prefix) n) ∙ number_join 28 _ (fit_length all)))

-- put one after the other
pub all_put : (h m s : ℕ) (p out : List ℕ) {x y z w : List ℕ} → length out ≡ 28 → x ≡ to_be_bytes w32 h → y ≡ to_be_bytes w32 m → z ≡ to_be_bytes w32 s → w ≡ p
    → put_mid 12 16 (put_mid 8 4 (put_mid 4 4 (x ++ drop 4 out) y) z) w ≡ words h m s ++ p
all_put h m s p out l e f g i =
    let d : drop 16 (drop 4 (drop 4 (drop 4 out))) ≡ [] = drop_of_length-le (drop 4 (drop 4 (drop 4 out))) {i = 16} (simp length-drop (omega arith)) in
    rw (e, f, g, i) (ap (λ (t : List ℕ). words h m s ++ (p ++ t)) d ∙ ap (λ (t : List ℕ). words h m s ++ t) (append-nil p))

-- ---- what unpack reads

-- n elements from i on, one by one
abbrev spelled : ℕ → ℕ → List ℕ → List ℕ
spelled zero i b = []
spelled (suc n) i b = get_or b i 0 ∷ spelled n (suc i) b

spell : (n i : ℕ) (b : List ℕ) → i + n ≤ length b → take n (drop i b) ≡ spelled n i b
spell zero i b h = refl
spell (suc n) i b h = ap (take (suc n)) (drop-cons b i 0 (omega arith)) ∙ ap (λ (l : List ℕ). get_or b i 0 ∷ l) (spell n (suc i) b (omega arith))

-- the parts of the first word
head_parts : (w : ℕ) → w ≡ w / 2147483648 * 2147483648 + w / 1073741824 % 2 * 1073741824 + w / 4194304 % 256 * 4194304 + w / 16384 % 256 * 16384 + w % 16384
head_parts w = omega arith

word_below : (a b c d : ℕ) → a < 256 → b < 256 → c < 256 → d < 256 → word a b c d < 2 ^ 32
word_below a b c d x y z t = omega arith

sixteen : (a b c d e f g h i j k l m o q r : ℕ)
    → from_be_bytes w128 (a ∷ b ∷ c ∷ d ∷ e ∷ f ∷ g ∷ h ∷ i ∷ j ∷ k ∷ l ∷ m ∷ o ∷ q ∷ r ∷ [])
    ≡ number (a ∷ b ∷ c ∷ d ∷ e ∷ f ∷ g ∷ h ∷ i ∷ j ∷ k ∷ l ∷ m ∷ o ∷ q ∷ r ∷ [])
unfolding number join total
sixteen a b c d e f g h i j k l m o q r = omega arith

-- the sixteen bytes of a prefix as one number
pub number_16 : (p : List ℕ) → length p ≡ 16 → from_be_bytes w128 p ≡ number p
number_16 p n = sixteen (get_or p 0 0) _ _ _ _ _ _ _ _ _ _ _ _ _ _ _ ∙ ap number (sym (spell 16 0 p (omega arith)) ∙ take_all 16 p (omega arith))

module _ (b : List ℕ) (l : length b ≡ 28) (g : (i : ℕ) → get_or b i 0 < 2 ^ 8) where
  -- the first word, and the parts before the prefix
  abbrev head : ℕ
  head = word (get_or b 0 0) (get_or b 1 0) (get_or b 2 0) (get_or b 3 0)

  abbrev fronts : List ℕ
  fronts =
      (head / 2147483648) ∷ (head / 1073741824 % 2) ∷ (head / 4194304 % 256) ∷ (head / 16384 % 256) ∷ (head % 16384)
      ∷ word (get_or b 4 0) (get_or b 5 0) (get_or b 6 0) (get_or b 7 0) ∷ word (get_or b 8 0) (get_or b 9 0) (get_or b 10 0) (get_or b 11 0) ∷ []

  fronts_fit : Fit front fronts
  fronts_fit =
      let h = word_below _ _ _ _ (g 0) (g 1) (g 2) (g 3) in
      fit_each front fronts (
        omega (arith, h),
        (omega arith, (omega arith, (omega arith, (omega arith, (word_below _ _ _ _ (g 4) (g 5) (g 6) (g 7), (word_below _ _ _ _ (g 8) (g 9) (g 10) (g 11), tt)))))),
      )

  prefix_fits : Fit (octets 16) (drop 12 b)
  prefix_fits = fit_bytes 16 (drop 12 b) (length-drop 12 b ∙ omega arith) (λ i. rw (get_or-drop 12 b i 0) (g (12 + i)))

  pub read_is : parts_in b ≡ fronts ++ (number (drop 12 b) ∷ [])
  unfolding parts_in
  read_is =
      let e : number b ≡ join widths (fronts ++ (number (drop 12 b) ∷ [])) =
      ap number (sym (take-append-drop 12 b)) ∙ ap (λ (h : List ℕ). number (h ++ drop 12 b)) (spell 12 0 b (omega arith))
      ∙ whole_number fronts (spelled 12 0 b) (drop 12 b) refl (fit_length prefix_fits) (front_number _ _ _ _ _ _ _ _ _ _ _ _ _ _ _ _ _ _ _ (head_parts head) refl refl) in
      ap (split widths) e ∙ split_join (fit_append fronts_fit (more (number_below 16 prefix_fits) none))

  pub spare_is : (s : ℕ) → s ≡ (get_or b 2 0 * 256 + get_or b 3 0) % 16384 → s ≡ spare_in b
  unfolding spare_in
  spare_is s e =
      let m : (get_or b 2 0 * 256 + get_or b 3 0) % 16384 ≡ head % 16384 = omega arith in
      e ∙ m ∙ ap (λ (v : List ℕ). get_or v 4 0) (sym read_is)

  pub filter_is : (r : FilterRecord) → r.family ≡ family_of (head / 2147483648) → r.action ≡ action_of (head / 1073741824 % 2)
      → r.length ≡ head / 4194304 % 256
      → r.longest ≡ head / 16384 % 256
      → r.member ≡ word (get_or b 4 0) (get_or b 5 0) (get_or b 6 0) (get_or b 7 0)
      → r.serial ≡ word (get_or b 8 0) (get_or b 9 0) (get_or b 10 0) (get_or b 11 0)
      → r.prefix ≡ take 16 (drop 12 b)
      → r ≡ filter_in b
  unfolding filter_in
  filter_is r ef ea el em eM eS ep =
      let t : take 16 (drop 12 b) ≡ drop 12 b = take_all 16 (drop 12 b) (simp length-drop (omega arith)) in
      let q : bytes 16 (number (drop 12 b)) ≡ drop 12 b = bytes_number 16 prefix_fits in
      rw read_is (same_fields r (filter_of (fronts ++ (number (drop 12 b) ∷ []))) ef ea el em eM eS (ep ∙ t ∙ sym q))
