use Rattle.std.proofs.Common.{◌≡◌, drop}
use Rattle.std.specs.List.{list_all}
use Rattle.pending.specs.Operation.{operations_of}
use Rattle.pending.specs.Form.{operation_fits}
use Rattle.pending.proofs.form.list_fits.Given as goal

-- the operations that are left decide
abbrev pub invariant-loop-i : goal.invariant-loop-i
invariant-loop-i l = list_all (operation_fits l.fn.width) (operations_of l.fn.words) ≡ list_all (operation_fits l.fn.width) (drop l.i (operations_of l.fn.words))
