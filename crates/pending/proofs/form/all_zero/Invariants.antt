use Rattle.std.proofs.Common.{◌≡◌, ◌&&◌, drop}
use Rattle.std.specs.Prelude.{eqb}
use Rattle.pending.specs.Form.{all_zero}
use Rattle.pending.proofs.form.all_zero.Given as goal

-- what was seen and the words that are left decide
abbrev pub invariant-loop-i : goal.invariant-loop-i
invariant-loop-i l = all_zero l.fn.words ≡ (eqb l.seen 0 && all_zero (drop l.i l.fn.words))
