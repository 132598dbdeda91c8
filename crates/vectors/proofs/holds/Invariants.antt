-- The buffer is the used words at every place passed, 0 behind their end.
use Rattle.std.proofs.Common.{◌≡◌, ◌<◌, get_or, ℕ}
use Rattle.vectors.proofs.holds.Given as goal

abbrev pub invariant-loop-at : goal.invariant-loop-at
invariant-loop-at l = (k : ℕ) → k < l.at → get_or l.buffer k 0 ≡ get_or l.used k 0
