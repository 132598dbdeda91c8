-- `optimizer::checks::odd_rotation` meets its contract: behind the last operation none is left.
use Rattle.std.proofs.Common.{sym, arith}
use mathlib.Core.Path.{◌∙◌}
use Rattle.pending.specs.Operation.{operations_of}
use Rattle.pending.proofs.Chunks.{count}
use Rattle.optimizer_spec.specs.Optimizing.{is_odd_rotation}
use Rattle.optimizer.proofs.Laws.{nowhere}
use Rattle.optimizer.proofs.checks.odd_rotation.Goals as goal

pub returns : goal.returns
returns c =
    let end = c.loop-i-test.false in
    sym (c.loop-i.invariant ∙ nowhere is_odd_rotation c.loop-i.i c.loop-i.i (operations_of c.args.words.now) (omega (arith, count c.args.words.now)))
