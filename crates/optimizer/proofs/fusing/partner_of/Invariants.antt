use Rattle.std.proofs.Common.{◌≡◌, [], drop, get_or, suc}
use Rattle.pending.specs.Operation.{operations_of}
use Rattle.optimizer.specs.Working.{partner_from}
use Rattle.optimizer.proofs.fusing.partner_of.Given as goal

-- the operations that are left decide
abbrev pub invariant-loop-j : goal.invariant-loop-j
invariant-loop-j l =
    partner_from (get_or (operations_of l.fn.segment) l.fn.i []) (suc l.fn.i) (drop (suc l.fn.i) (operations_of l.fn.segment))
    ≡ partner_from (get_or (operations_of l.fn.segment) l.fn.i []) l.j (drop l.j (operations_of l.fn.segment))
