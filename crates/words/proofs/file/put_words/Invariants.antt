-- The bytes of the words so far stand in the file from the place on, and all else is as it was.
use Rattle.std.proofs.Common.{◌≡◌, ◌*◌, take}
use Rattle.words.specs.Lists.{patch}
use Rattle.words.specs.File.{word_bytes}
use Rattle.words.proofs.file.put_words.Given as goal

abbrev pub invariant-loop-i : goal.invariant-loop-i
invariant-loop-i l = l.file ≡ patch (8 * l.at) (word_bytes (take l.i l.words)) l.initial.file
