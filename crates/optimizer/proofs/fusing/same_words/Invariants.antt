use Rattle.std.proofs.Common.{◌≡◌, drop}
use Rattle.optimizer_spec.specs.Passes.{same_words}
use Rattle.optimizer.proofs.fusing.same_words.Given as goal

-- the words that are left decide
abbrev pub invariant-loop-i : goal.invariant-loop-i
invariant-loop-i l = same_words l.fn.a l.fn.b ≡ same_words (drop l.i l.fn.a) (drop l.i l.fn.b)
