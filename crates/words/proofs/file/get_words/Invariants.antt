-- The words so far are those of the file.
use Rattle.std.proofs.Common.{◌≡◌, take}
use Rattle.words.specs.File.{words_at}
use Rattle.words.proofs.file.get_words.Given as goal

abbrev pub invariant-loop-i : goal.invariant-loop-i
invariant-loop-i l = take l.i l.words ≡ words_at l.file l.at l.i
