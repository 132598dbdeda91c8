use Rattle.std.proofs.Common.{◌≡◌, drop}
use Rattle.std.specs.Prelude.{ltb}
use Rattle.std.specs.List.{list_any}
use Rattle.optimizer.proofs.checks.has_prefix_beyond.Given as goal

-- what is left decides
abbrev pub invariant-loop-i : goal.invariant-loop-i
invariant-loop-i l = list_any (ltb l.fn.n) l.fn.prefixes ≡ list_any (ltb l.fn.n) (drop l.i l.fn.prefixes)
