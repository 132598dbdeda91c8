-- `optimizer::fusing::direction` meets its contract: its two constants are 1 and -1 by their bits.
use Rattle.std.proofs.Common.{rules}
use lib.Ieee.{of_bits, neg}
use Rattle.optimizer_spec.specs.Passes.{direction}
use Rattle.optimizer.proofs.fusing.direction.Goals as goal

pub returns-then-whole_sign : goal.returns-then-whole_sign
unfolding neg of_bits direction
returns-then-whole_sign c = search rules

pub returns-else-whole_sign : goal.returns-else-whole_sign
unfolding neg of_bits direction
returns-else-whole_sign c = search rules
