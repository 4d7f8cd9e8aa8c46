-- `sha256::padded_word` meets its contract: the word lies in the message, or is the count's last, or has zeros only, or has the mark. Assumes nothing.
use Rattle.std.proofs.Common.{◌+◌, ◌*◌, length, get_or, sym, ◌∙◌, arith}
use Rattle.octets.proofs.Layouts.{number_4}
use Rattle.sha256.specs.Sha256.{padded}
use Rattle.sha256.proofs.Blocks.{word_first, word_get_d}
use Rattle.sha256.proofs.Padding.{word_count, word_zero, word_marked}
use Rattle.sha256.proofs.padded_word.Goals as goal

pub returns-then-i-len : goal.returns-then-i-len
unfolding padded
returns-then-i-len c =
    let a = c.args in
    let r = a.rest.now in
    c.from_be_bytes.ensures
    ∙ number_4 (get_or r a.i 0) (get_or r (a.i + 1) 0) (get_or r (a.i + 2) 0) (get_or r (a.i + 3) 0)
    ∙ sym (word_get_d r a.i (omega arith))
    ∙ sym (word_first r _ a.i (omega arith))

pub returns-then-i-len-2 : goal.returns-then-i-len-2
returns-then-i-len-2 c = let a = c.args in sym (word_count (64 * a.before + length a.rest.now) a.rest.now (omega arith) (omega arith) a.i (omega arith))

pub returns-then-i-len-3 : goal.returns-then-i-len-3
returns-then-i-len-3 c = let a = c.args in sym (word_zero (64 * a.before + length a.rest.now) a.rest.now (omega arith) (omega arith) a.i (omega arith) (omega arith))

pub returns : goal.returns
returns c =
    let a = c.args in
    let e = number_4 c.message_byte.result c.message_byte-2.result c.message_byte-3.result c.message_byte-4.result in
    cc (word_marked (64 * a.before + length a.rest.now) a.rest.now (omega arith) (omega arith) a.i (omega arith))
