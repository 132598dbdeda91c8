use Rattle.std.proofs.Common.{◌≡◌, [], get_or}
use Rattle.pending.specs.Operation.{operations_of}
use Rattle.optimizer_spec.specs.Passes.{reach}
use Rattle.optimizer.specs.Working.{before}
use Rattle.optimizer.proofs.Reaching.{found}
use Rattle.optimizer.proofs.moving.reach.Given as goal

-- the operations that are left decide
abbrev pub invariant-loop-n : goal.invariant-loop-n
invariant-loop-n l =
    let os = operations_of l.fn.segment in
    let m = get_or os l.fn.i [] in
    reach l.fn.slack m (before l.fn.i os) ≡ found l.fn.slack m os l.fn.i l.n
