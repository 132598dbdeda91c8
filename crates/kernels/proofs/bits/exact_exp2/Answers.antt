-- `bits::exact_exp2` meets its contract: the pattern with the exponent's field k + 1023 and no digits is 2 ^ k, and it is no NaN's.
use mathlib.Core.Path.{sym, ap, ◌∙◌}
use mathlib.Core.Bool.{Bool, false, cond}
use native.Mathlib.Omega.{arith}
use lib.IntN.{pos}
use lib.Ieee.{fin, inf, of_bits}
use borrow.Author.Tests.{le-leb, lt-leb}
use Rattle.kernels.proofs.Laws.{exp2_of_bits, no_nan_below}
use Rattle.kernels.proofs.bits.exact_exp2.Goals as goal

pub returns-then-k-gt1023 : goal.returns-then-k-gt1023
unfolding of_bits
returns-then-k-gt1023 c = sym (ap (λ (b : Bool). cond b (fin false 1 (pos c.args.k)) (inf false)) (lt-leb c.args.k 1023 c.if-k-gt1023.true))

pub float_from_bits-result : goal.float_from_bits-result
float_from_bits-result c = no_nan_below _ (omega arith)

pub returns : goal.returns
returns c =
    exp2_of_bits c.args.k c.if-k-gt1023.false
    ∙ sym (ap (λ (b : Bool). cond b (fin false 1 (pos c.args.k)) (inf false)) (le-leb c.args.k 1023 c.if-k-gt1023.false))
