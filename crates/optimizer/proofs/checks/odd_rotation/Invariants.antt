use Rattle.std.proofs.Common.{◌≡◌, drop}
use Rattle.std.specs.List.{position_from}
use Rattle.pending.specs.Operation.{operations_of}
use Rattle.optimizer_spec.specs.Optimizing.{is_odd_rotation}
use Rattle.optimizer.proofs.checks.odd_rotation.Given as goal

-- what is left decides
abbrev pub invariant-loop-i : goal.invariant-loop-i
invariant-loop-i l = position_from is_odd_rotation 0 (operations_of l.fn.words) ≡ position_from is_odd_rotation l.i (drop l.i (operations_of l.fn.words))
