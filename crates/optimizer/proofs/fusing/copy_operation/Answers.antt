-- `optimizer::fusing::copy_operation` meets its contract: the words copied are an operation's, and go where one stands.
use Rattle.std.proofs.Common.{◌+◌, ◌-◌, ◌*◌, ap, arith}
use mathlib.Core.Path.{◌∙◌}
use Rattle.pending.specs.Operation.{operations_of}
use Rattle.pending.proofs.Chunks.{copied}
use Rattle.optimizer.proofs.fusing.copy_operation.Goals as goal

pub returns-then-from-to-clause-copied : goal.returns-then-from-to-clause-copied
returns-then-from-to-clause-copied c =
    ap operations_of c.copy_within.ensures.after
    ∙ copied c.args.segment.now c.args.from c.args.to (32 * c.args.from + 32 - 32 * c.args.from) c.requires.from c.requires.to (omega arith)
