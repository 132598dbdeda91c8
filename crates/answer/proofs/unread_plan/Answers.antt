-- `unread_plan` meets its contract: each field is the one that the contract says, and the literal 0.0 is the float 0.
use Rattle.std.proofs.Common.{rules}
use lib.Ieee.{of_bits}
use Rattle.answer.proofs.unread_plan.Goals as goal

pub returns : goal.returns
unfolding of_bits
returns c = search rules
