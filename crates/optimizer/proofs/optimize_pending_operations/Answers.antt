-- `optimizer::optimize_pending_operations` meets its contract: what it does is what its verdict says.
use Rattle.pending.specs.Operation.{operations_of}
use Rattle.optimizer.proofs.Holding.{fits_unmarked}
use Rattle.optimizer.proofs.optimize_pending_operations.Goals as goal

pub optimize_in_segments-requires-clause-unmarked : goal.optimize_in_segments-requires-clause-unmarked
optimize_in_segments-requires-clause-unmarked c =
    fits_unmarked c.args.width (operations_of c.args.operations.now) c.in-Ok-InSegments.ensures.sound.fit
