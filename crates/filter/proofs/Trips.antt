-- Parts that fit are those of their filter record, and a filter record is that of its parts; bytes and parts make one number. So pack and
-- unpack undo each other. Assumes nothing.
use mathlib.Core.Path.{◌≡◌, refl, sym, ap, ◌∙◌}
use mathlib.Core.List.{List, [], ◌∷◌}
use mathlib.Core.Logic.{◌↔◌}
use Prim.Native.Nat.{ℕ, zero, suc, ◌*◌, ◌^◌, ◌<◌}
use native.Mathlib.Omega.{arith}
use lib.ListN.{length, get_or, replicate}
use borrow.Author.Tests.{eq-eqb, eqb-true, not-false}
use Rattle.octets.specs.Layout.{total, join, split, Fit, none, more, octets, number, bytes}
use Rattle.octets.proofs.Layouts.{join_below, split_fits, split_join, join_split, fit_each, fit_length, number_bytes, number_below, bytes_number, bytes_length}
use Rattle.refusal.specs.Refusal.{Filled, filled}
use Rattle.filter.specs.Filter.{widths, parts_in, parts_of, filter_of, family_number, action_number, family_of, action_of, bytes_of, filter_in, spare_in, FieldsFit, BytesFit, Lawful, LawfulBytes, pack_rows, unpack_rows, pack_of, Unpacked, unpacked, unpack_of}
use Rattle.filter.specs.Promises.{OneToOne}
use Rattle.filter.specs.declared.FilterRecord.{FilterRecord}
use Rattle.filter.specs.declared.Family.{Family}
use Rattle.filter.specs.declared.Family.TheVariants.{Ipv4, Ipv6}
use Rattle.filter.specs.declared.Action.{Action}
use Rattle.filter.specs.declared.Action.TheVariants.{Deny, Permit}
use Rattle.filter.proofs.Fields.{same_fields, family_below, action_below}
use Rattle.filter.proofs.Calls.{pack_done}
use Rattle.filter.proofs.Lawful.{lawful_none, none_lawful, passed}

-- ---- families and actions have one value each

pub family_back : (f : Family) → family_of (family_number f) ≡ f
family_back Ipv4 = refl
family_back Ipv6 = refl

pub action_back : (a : Action) → action_of (action_number a) ≡ a
action_back Deny = refl
action_back Permit = refl

family_there : (n : ℕ) → n < 2 → family_number (family_of n) ≡ n
family_there zero h = refl
family_there (suc zero) h = refl
family_there (suc (suc n)) h = absurd (omega arith)

action_there : (n : ℕ) → n < 2 → action_number (action_of n) ≡ n
action_there zero h = refl
action_there (suc zero) h = refl
action_there (suc (suc n)) h = absurd (omega arith)

all_bits : {vs : List ℕ} → Fit widths vs → join widths vs < 2 ^ (8 * 28)
unfolding total
all_bits f = join_below f

-- ---- from a filter record to bytes and back

module _ (r : FilterRecord) (k : FieldsFit r) where
  parts_fit : Fit widths (parts_of r)
  parts_fit =
      fit_each widths (parts_of r)
      (family_below r.family, (action_below r.action, (k.length, (k.longest, (omega arith, (k.member, (k.serial, (number_below 16 k.prefix, tt))))))))

  parts_back : filter_of (parts_of r) ≡ r
  parts_back = same_fields (filter_of (parts_of r)) r (family_back r.family) (action_back r.action) refl refl refl refl (bytes_number 16 k.prefix)

  parts_held : parts_in (bytes_of r) ≡ parts_of r
  unfolding parts_in bytes_of
  parts_held = ap (split widths) (number_bytes 28 (join widths (parts_of r)) (all_bits parts_fit)) ∙ split_join parts_fit

  pub filter_held : filter_in (bytes_of r) ≡ r
  unfolding filter_in
  filter_held = ap filter_of parts_held ∙ parts_back

  pub spare_held : spare_in (bytes_of r) ≡ 0
  unfolding spare_in
  spare_held = ap (λ (v : List ℕ). get_or v 4 0) parts_held

pub bytes_of_length : (r : FilterRecord) → length (bytes_of r) ≡ 28
unfolding bytes_of
bytes_of_length r = bytes_length 28 (join widths (parts_of r))

bytes_of_fit : (r : FilterRecord) → BytesFit (bytes_of r)
unfolding bytes_of bytes
bytes_of_fit r = rw (bytes_of_length r) (split_fits (octets 28) (join widths (parts_of r)))

-- ---- from bytes to a filter record and back

parts_there : {v : List ℕ} → Fit widths v → get_or v 4 0 ≡ 0 → parts_of (filter_of v) ≡ v
parts_there (more {v = f} hf (more {v = a} ha (more {v = l} hl (more {v = m} hm (more {v = s} hs (more {v = M} hM (more {v = S} hS (more {v = p} hp none)))))))) z =
    of (family_there f hf) (action_there a ha) (sym z) (number_bytes 16 p hp)
  where
    of : {f' a' s' p' : ℕ} → f' ≡ f → a' ≡ a → s' ≡ s → p' ≡ p
        → f' ∷ a' ∷ l ∷ m ∷ s' ∷ M ∷ S ∷ p' ∷ [] ≡ f ∷ a ∷ l ∷ m ∷ s ∷ M ∷ S ∷ p ∷ []
    of e g h k = cc

fields_fit : {v : List ℕ} → Fit widths v → FieldsFit (filter_of v)
unfolding bytes
fields_fit (more hf (more ha (more {v = l} hl (more {v = m} hm (more hs (more {v = M} hM (more {v = S} hS (more {v = p} hp none)))))))) =
    record { length = hl; longest = hm; member = hM; serial = hS; prefix = split_fits (octets 16) p }

pub filter_in_fit : (bs : List ℕ) → FieldsFit (filter_in bs)
unfolding filter_in parts_in
filter_in_fit bs = fields_fit (split_fits widths (number bs))

module _ (bs : List ℕ) (f : Fit (octets 28) bs) where
  number_held : join widths (parts_in bs) ≡ number bs
  unfolding parts_in total
  number_held = join_split widths (number bs) (number_below 28 f)

  pub bytes_held : spare_in bs ≡ 0 → bytes_of (filter_in bs) ≡ bs
  unfolding bytes_of filter_in spare_in parts_in
  bytes_held z =
      ap (λ (v : List ℕ). bytes 28 (join widths v)) (parts_there (split_fits widths (number bs)) z) ∙ ap (bytes 28) number_held ∙ bytes_number 28 f

-- ---- the calls

pub prefix_length : {r : FilterRecord} → FieldsFit r → length r.prefix ≡ 16
prefix_length k = fit_length k.prefix

-- what pack gives for a lawful filter record, and unpack for lawful bytes
pub packs : (r : FilterRecord) (out : List ℕ) → FieldsFit r → Lawful r → length out ≡ 28 → pack_of r out ≡ filled 0 (bytes_of r)
packs r out k l n = sym (pack_done r out n (lawful_none r (prefix_length k) l))

pub unpacks : (bs : List ℕ) → LawfulBytes bs → unpack_of bs ≡ unpacked 0 (filter_in bs)
unfolding unpack_of unpack_rows
unpacks bs l = simp (eq-eqb _ _ l.size, eq-eqb _ _ l.spare, lawful_none (filter_in bs) (prefix_length (filter_in_fit bs)) l.filter)

bytes_lawful : (r : FilterRecord) → FieldsFit r → Lawful r → LawfulBytes (bytes_of r)
bytes_lawful r k l = record { size = bytes_of_length r; spare = spare_held r k; filter = rw (filter_held r k) l }

-- a lawful filter record comes back from its bytes
pub unpack_pack : (r : FilterRecord) (out : List ℕ) → FieldsFit r → Lawful r → length out ≡ 28 → unpack_of (pack_of r out).out ≡ unpacked 0 r
unpack_pack r out k l n =
    ap (λ (x : Filled). unpack_of x.out) (packs r out k l n) ∙ unpacks (bytes_of r) (bytes_lawful r k l) ∙ ap (unpacked 0) (filter_held r k)

-- lawful bytes come back from their filter record
pub pack_unpack : (bs out : List ℕ) → BytesFit bs → LawfulBytes bs → length out ≡ 28 → pack_of (unpack_of bs).filter out ≡ filled 0 bs
pack_unpack bs out f l n =
    let g : Fit (octets 28) bs = rw l.size at f in
    ap (λ (x : Unpacked). pack_of x.filter out) (unpacks bs l) ∙ packs (filter_in bs) out (filter_in_fit bs) l.filter n ∙ ap (filled 0) (bytes_held bs g l.spare)

pub pack_accepts : (r : FilterRecord) (out : List ℕ) → FieldsFit r → ((pack_of r out).number ≡ 0) ↔ ((length out ≡ 28) × Lawful r)
unfolding pack_of pack_rows
pack_accepts r out k = (
  (λ e. let s = passed _ 10 e in (eqb-true _ _ (not-false _ s.0), none_lawful r (prefix_length k) s.1)),
  (λ h. simp (eq-eqb _ _ h.0, lawful_none r (prefix_length k) h.1)),
)

pub unpack_accepts : (bs : List ℕ) → ((unpack_of bs).number ≡ 0) ↔ LawfulBytes bs
unfolding unpack_of unpack_rows
unpack_accepts bs = (
  (λ e. let s = passed _ 10 e in
      let t = passed _ 11 s.1 in
      record { size = eqb-true _ _ (not-false _ s.0); spare = eqb-true _ _ (not-false _ t.0); filter = none_lawful (filter_in bs) (prefix_length (filter_in_fit bs)) t.1 }),
  (λ l. ap (λ (x : Unpacked). x.number) (unpacks bs l)),
)

pub one_to_one : OneToOne pack_of unpack_of
one_to_one = record {
  unpack_pack = unpack_pack;
  pack_unpack = pack_unpack;
  pack_accepts = pack_accepts;
  unpack_accepts = unpack_accepts;
  packed_lawful = λ r out k l n. rw (packs r out k l n) (bytes_of_fit r, bytes_lawful r k l);
  unpacked_lawful = λ bs l. rw (unpacks bs l) (filter_in_fit bs, l.filter);
  one_form = λ bs cs f g l m e. one_form bs cs f g l m e;
  one_filter = one_filter;
}
  where
    zeros : List ℕ
    zeros = replicate 28 0

    one_form : (bs cs : List ℕ) → BytesFit bs → BytesFit cs → LawfulBytes bs → LawfulBytes cs → (unpack_of bs).filter ≡ (unpack_of cs).filter → bs ≡ cs
    one_form bs cs f g l m e = ap (λ (x : Filled). x.out) (sym (pack_unpack bs zeros f l refl) ∙ ap (λ (r : FilterRecord). pack_of r zeros) e ∙ pack_unpack cs zeros g m refl)

    one_filter : (r s : FilterRecord) (out : List ℕ) → FieldsFit r → FieldsFit s → Lawful r → Lawful s → length out ≡ 28 → (pack_of r out).out ≡ (pack_of s out).out → r ≡ s
    one_filter r s out k j l m n e = ap (λ (x : Unpacked). x.filter) (sym (unpack_pack r out k l n) ∙ ap unpack_of e ∙ unpack_pack s out j m n)
