-- Each contract of a call under a C name determines its outcome. Assumes nothing.
use mathlib.Core.Path.{◌≡◌, refl, sym, ap₂, ◌∙◌}
use mathlib.Core.List.{[]}
use Prim.Native.Nat.{ℕ}
use lib.IntN.{ℤ}
use Rattle.refusal.specs.Refusal.{filled}
use Rattle.state.specs.Sizes.{width}
use Rattle.state.specs.Start.{start_of}
use Rattle.state.specs.Marks.{count_of}
use Rattle.state.specs.Access.{add_of, load_of, store_of, remove_of, lowest_of, free_number}
use Rattle.state.specs.Check.{check_of}
use Rattle.entries.specs.Tag.{tag}
use Rattle.filter.specs.Filter.{pack_of, unpack_of}
use Rattle.going.specs.Going.{going_of}
use Rattle.held.specs.Held.{state_of, held_of}
use Rattle.held.specs.Fields.{record_of, fields_of}
use Rattle.held.specs.Answers.{Left, left, in_place, stamp_or, free_or, going_answer, distance_or}
use Rattle.held.specs.declared.Held.{Held}
use Rattle.held.specs.declared.Kept.{Kept}
use Rattle.held.specs.declared.Judged.{Judged}
use Rattle.held.specs.declared.Lowest.{Lowest}
use Rattle.held.specs.declared.Fields.{Fields}
use Rattle.held.specs.declared.Read.{Read}
use Rattle.held.specs.declared.Weighed.{Weighed}
use Rattle.outcomes.specs.Exports.{Exported}
use Rattle.outcomes.proofs.Outcomes.{again, plain, number}

-- from two that are seen, the result and what the parameters hold at the end
both : {Y Z R L : Type 0} (result : Y → Z → R) (lasts : Y → Z → L) {y x x' : Y} {z w w' : Z} → (x ≡ y) × (w ≡ z) → (x' ≡ y) × (w' ≡ z)
    → (result x w ≡ result x' w') × (lasts x w ≡ lasts x' w')
both result lasts p q = let e = p.0 ∙ sym q.0 in let f = p.1 ∙ sym q.1 in (ap₂ result e f, ap₂ lasts e f)

abbrev answer : Left → ℕ
answer y = y.answer

abbrev kept : Left → Kept
kept y = record { answer = y.answer; state = y.state }

abbrev started : ℕ → Held → Kept
started n h = record { answer = n; state = h }

abbrev judged : Left → ℕ → Judged
judged y a = record { answer = y.answer; state = y.state; address = a }

abbrev lowest : ℕ → ℕ → Lowest
lowest n a = record { number = n; address = a }

abbrev read : ℕ → Fields → Read
read n f = record { number = n; fields = f }

abbrev weighed : ℕ → ℤ → Weighed
weighed n d = record { answer = n; distance = d }

abbrev first : {A : Type 0} → ℕ → A → ℕ
first n a = n

pub exported : Exported
exported = record {
  held_start = record { any = λ κs a. tt; one = λ κs a r r' l l'. both started (λ n h. (tt, tt)) };
  held_add = record { any = λ κs a. tt; one = λ κs a r r' l l'. again kept (λ y. (tt, (y.store, (tt, (tt, tt))))) };
  held_load = record { any = λ κs a. tt; one = λ κs a r r' l l'. again kept (λ y. (tt, (y.store, (tt, (y.out, tt))))) };
  held_store = record { any = λ κs a. tt; one = λ κs a r r' l l'. again kept (λ y. (tt, (y.store, (tt, (tt, tt))))) };
  held_remove = record { any = λ κs a. tt; one = λ κs a r r' l l'. again kept (λ y. (tt, (y.store, (tt, tt)))) };
  held_check = record { any = λ κs a. tt; one = λ κs a r r' l l'. both judged (λ y n. (tt, (y.store, (tt, tt)))) };
  held_count = record { any = λ κs a. tt; one = λ κs a r r' l l'. plain };
  held_lowest_free = record { any = λ κs a. tt; one = λ κs a r r' l l'. both lowest (λ n a. (tt, (tt, tt))) };
  held_state = record { any = λ κs a. tt; one = λ κs a r r' l l'. plain };
  held_held = record { any = λ κs a. tt; one = λ κs a r r' l l'. plain };
  held_record = record { any = λ κs a. tt; one = λ κs a r r' l l'. plain };
  held_fields = record { any = λ κs a. tt; one = λ κs a r r' l l'. plain };
  held_pack = record { any = λ κs a. tt; one = λ κs a r r' l l'. again number (λ y. (tt, (y.out, tt))) };
  held_unpack = record { any = λ κs a. tt; one = λ κs a r r' l l'. both read (λ n f. (tt, tt)) };
  held_compare = record { any = λ κs a. tt; one = λ κs a r r' l l'. both weighed (λ n d. (tt, (tt, (tt, tt)))) };
  start = record {
    Learnt = λ κs a r e. (r ≡ (start_of a.1.0.now).number) × (e.0.now ≡ held_of (start_of a.1.0.now).state);
    asks = λ M 𝓤 𝓛 m f κs a g. refl;
    tells = λ M 𝓤 𝓛 m f κs a g r e. refl;
    one = λ κs a r r' l l'. both first (λ n h. (h, (tt, tt)));
  };
  add = record {
    Learnt = λ κs a r e. left r e.0.now e.1.0.now [] ≡ in_place a.0.now (add_of width tag (state_of a.0.now) a.1.0.now a.1.1.0 a.1.1.1.0.now).seen;
    asks = λ M 𝓤 𝓛 m f κs a g. refl;
    tells = λ M 𝓤 𝓛 m f κs a g r e. refl;
    one = λ κs a r r' l l'. again answer (λ y. (y.state, (y.store, (tt, (tt, tt)))));
  };
  load = record {
    Learnt = λ κs a r e. left r e.0.now e.1.0.now e.1.1.1.0.now ≡ in_place a.0.now (load_of width tag (state_of a.0.now) a.1.0.now a.1.1.0 a.1.1.1.0.now).seen;
    asks = λ M 𝓤 𝓛 m f κs a g. refl;
    tells = λ M 𝓤 𝓛 m f κs a g r e. refl;
    one = λ κs a r r' l l'. again answer (λ y. (y.state, (y.store, (tt, (y.out, tt)))));
  };
  store = record {
    Learnt = λ κs a r e. left r e.0.now e.1.0.now [] ≡ in_place a.0.now (store_of width tag (state_of a.0.now) a.1.0.now a.1.1.0 a.1.1.1.0.now).seen;
    asks = λ M 𝓤 𝓛 m f κs a g. refl;
    tells = λ M 𝓤 𝓛 m f κs a g r e. refl;
    one = λ κs a r r' l l'. again answer (λ y. (y.state, (y.store, (tt, (tt, tt)))));
  };
  remove = record {
    Learnt = λ κs a r e. left r e.0.now e.1.0.now [] ≡ in_place a.0.now (remove_of width tag (state_of a.0.now) a.1.0.now a.1.1.0).seen;
    asks = λ M 𝓤 𝓛 m f κs a g. refl;
    tells = λ M 𝓤 𝓛 m f κs a g r e. refl;
    one = λ κs a r r' l l'. again answer (λ y. (y.state, (y.store, (tt, tt))));
  };
  check = record {
    Learnt = λ κs a r e. (left r e.0.now e.1.0.now [] ≡ in_place a.0.now (check_of width tag (state_of a.0.now) a.1.0.now).seen)
        × (e.1.1.0.now ≡ stamp_or a.1.1.0.now (check_of width tag (state_of a.0.now) a.1.0.now).seen.verdict);
    asks = λ M 𝓤 𝓛 m f κs a g. refl;
    tells = λ M 𝓤 𝓛 m f κs a g r e. refl;
    one = λ κs a r r' l l'. both (λ y n. answer y) (λ y n. (y.state, (y.store, (n, tt))));
  };
  look = record { any = λ κs a. tt; one = λ κs a r r' l l'. plain };
  count = record {
    Learnt = λ κs a r e. r ≡ count_of a.0.now.marks;
    asks = λ M 𝓤 𝓛 m f κs a g. refl;
    tells = λ M 𝓤 𝓛 m f κs a g r e. refl;
    one = λ κs a r r' l l'. plain;
  };
  lowest_free = record {
    Learnt = λ κs a r e. (r ≡ free_number (lowest_of a.0.now.marks)) × (e.1.0.now ≡ free_or a.1.0.now (lowest_of a.0.now.marks));
    asks = λ M 𝓤 𝓛 m f κs a g. refl;
    tells = λ M 𝓤 𝓛 m f κs a g r e. refl;
    one = λ κs a r r' l l'. both first (λ n a. (tt, (a, tt)));
  };
  digest = record { any = λ κs a. tt; one = λ κs a r r' l l'. again number (λ y. (tt, (y.out, tt))) };
  hmac = record { any = λ κs a. tt; one = λ κs a r r' l l'. again number (λ y. (tt, (tt, (y.out, tt)))) };
  pack = record {
    Learnt = λ κs a r e. filled r e.1.0.now ≡ pack_of (record_of a.0.now) a.1.0.now;
    asks = λ M 𝓤 𝓛 m f κs a g. refl;
    tells = λ M 𝓤 𝓛 m f κs a g r e. refl;
    one = λ κs a r r' l l'. again number (λ y. (tt, (y.out, tt)));
  };
  unpack = record {
    Learnt = λ κs a r e. (r ≡ (unpack_of a.0.now).number) × (e.1.0.now ≡ fields_of (unpack_of a.0.now).filter);
    asks = λ M 𝓤 𝓛 m f κs a g. refl;
    tells = λ M 𝓤 𝓛 m f κs a g r e. refl;
    one = λ κs a r r' l l'. both first (λ n f. (tt, (f, tt)));
  };
  compare = record {
    Learnt = λ κs a r e. (r ≡ going_answer (going_of (record_of a.0.now) (record_of a.1.0.now)))
        × (e.1.1.0.now ≡ distance_or a.1.1.0.now (going_of (record_of a.0.now) (record_of a.1.0.now)));
    asks = λ M 𝓤 𝓛 m f κs a g. refl;
    tells = λ M 𝓤 𝓛 m f κs a g r e. refl;
    one = λ κs a r r' l l'. both first (λ n d. (tt, (tt, (d, tt))));
  };
}
