-- A word is the number or the byte that the search finds, since no two numbers below the bound have one text. Assumes nothing.
use Rattle.text.specs.Text.{decimal, hex}
use Rattle.octets.specs.Places.{same}
use Rattle.text.specs.Read.{decimal_in, hex_in}
use Rattle.text.specs.Exact.{OneNumber, OneByte}
use Rattle.octets.proofs.Same.{same_eq}
use Rattle.text.proofs.Seeks.{seek_found}
use Rattle.text.proofs.Numerals.{decimal_is, hex_is}

pub one_number : OneNumber
unfolding decimal_in
one_number w n = (
  (λ e. let f = seek_found (λ m. same (decimal m) w) 65536 n e in (f.0, same_eq (decimal n) w f.1)),
  λ h. decimal_is w n h.0 h.1,
)

pub one_byte : OneByte
unfolding hex_in
one_byte w b = (
  (λ e. let f = seek_found (λ m. same (hex m) w) 256 b e in (f.0, same_eq (hex b) w f.1)),
  λ h. hex_is w b h.0 h.1,
)
