-- Eight bytes that were read are the first word, and of fewer the list ends.
use Rattle.std.proofs.Common.{◌<◌, arith, length}
use Rattle.vectors.proofs.Words.{word_read, word_cut}
use Rattle.vectors.proofs.next_word.Goals as goal

pub returns-then-read-lt8 : goal.returns-then-read-lt8
returns-then-read-lt8 g c =
    let told = c.in_ok-read.ensures in
    let short : c.in_ok-read.read < 8 = omega arith in
    let less : c.in_ok-read.read < length c.fill.new.bytes = omega (arith, short, c.fill.auto.bytes) in
    word_cut _ _ c.fill.new.bytes c.in_ok-read.read told.within short told.bytes (told.end less)

pub returns : goal.returns
returns g c = λ known.
    let first = word_read _ _ c.fill.new.bytes c.in_ok-read.read c.fill.auto.bytes (omega arith) c.in_ok-read.ensures.bytes known in
    (first.0, rw c.word_at.ensures first.1)
