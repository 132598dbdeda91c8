-- No length passed is too long.
use Rattle.std.proofs.Common.{◌≡◌, false, take}
use Rattle.replay.specs.Head.{too_long}
use Rattle.replay.proofs.too_long.Given as goal

abbrev pub invariant-loop-length : goal.invariant-loop-length
invariant-loop-length l = too_long (take l.length-index l.lengths) ≡ false
