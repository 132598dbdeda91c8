use Rattle.std.proofs.Common.{◌≡◌, drop}
use Rattle.std.specs.List.{list_any}
use Rattle.pending.specs.Operation.{operations_of, is_expectation}
use Rattle.optimizer.proofs.checks.has_expectation.Given as goal

-- what is left decides
abbrev pub invariant-loop-i : goal.invariant-loop-i
invariant-loop-i l = list_any is_expectation (operations_of l.fn.words) ≡ list_any is_expectation (drop l.i (operations_of l.fn.words))
