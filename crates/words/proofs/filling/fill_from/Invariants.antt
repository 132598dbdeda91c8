-- The entries in front of the next one are as they were up to the place, and the value from there on.
use Rattle.std.proofs.Common.{◌≡◌, ◌++◌, ◌-◌, length, take, replicate}
use Rattle.words.proofs.filling.fill_from.Given as goal

abbrev pub invariant-loop-i : goal.invariant-loop-i
invariant-loop-i g l = (length l.entries ≡ length l.initial.entries) × (take l.i l.entries ≡ take l.from l.initial.entries ++ replicate (l.i - l.from) l.value)
