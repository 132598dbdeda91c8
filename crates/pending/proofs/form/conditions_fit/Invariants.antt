use Rattle.std.proofs.Common.{◌≡◌, drop}
use Rattle.pending.specs.Form.{conditions_fit}
use Rattle.pending.proofs.form.conditions_fit.Given as goal

-- what is left decides
abbrev pub invariant-loop-i : goal.invariant-loop-i
invariant-loop-i l = conditions_fit l.fn.used 0 l.fn.conditions ≡ conditions_fit l.left l.last (drop l.i l.fn.conditions)
