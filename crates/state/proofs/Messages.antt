-- The message of an entry is one to one: each part has its own length, and bytes tell a number below their bound. Assumes nothing.
use mathlib.Core.Path.{◌≡◌, sym, ap, ◌∙◌}
use mathlib.Core.List.{List, ◌++◌, tail-eq_of_cons-eq}
use Prim.Native.Nat.{ℕ, ◌^◌, ◌<◌}
use lib.ListN.{length, take, drop}
use lib.Seq.{take_at, drop_at}
use Rattle.octets.specs.Layout.{bytes}
use Rattle.octets.proofs.Layouts.{bytes_length, bytes_injective, pow_bytes}
use Rattle.state.specs.Sizes.{value_size}
use Rattle.state.specs.Cells.{Entry}
use Rattle.state.specs.Multiset.{message, Fits}

-- two lists joined, the first ones of one length
apart : (a b x y : List ℕ) (n : ℕ) → length a ≡ n → length b ≡ n → a ++ x ≡ b ++ y → (a ≡ b) × (x ≡ y)
apart a b x y n h k e = (sym (take_at a x n h) ∙ ap (take n) e ∙ take_at b y n k, sym (drop_at a x n h) ∙ ap (drop n) e ∙ drop_at b y n k)

bytes_apart : (w m n : ℕ) → m < 256 ^ w → n < 256 ^ w → bytes w m ≡ bytes w n → m ≡ n
bytes_apart w m n h k = bytes_injective w (rw (pow_bytes w) h) (rw (pow_bytes w) k)

pub message_injective : (w : ℕ) (d e : Entry) → Fits w d → Fits w e → message w d ≡ message w e → d ≡ e
unfolding message
message_injective w d e h k q =
    let p =
    apart (bytes 2 d.address) (bytes 2 e.address) (d.value ++ bytes w d.stamp) (e.value ++ bytes w e.stamp) 2 (bytes_length 2 d.address) (bytes_length 2 e.address)
    (tail-eq_of_cons-eq q) in
    let r = apart d.value e.value (bytes w d.stamp) (bytes w e.stamp) value_size h.value k.value p.1 in
    let a = bytes_apart 2 d.address e.address h.address k.address p.0 in
    let v = r.0 in
    let t = bytes_apart w d.stamp e.stamp h.stamp k.stamp r.1 in
    λ i. record { address = a i; value = v i; stamp = t i }
