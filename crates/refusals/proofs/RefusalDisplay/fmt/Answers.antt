-- A refusal is told as the contract says: the number that is written is the reason's.
use Rattle.std.proofs.Common.{rules, sym}
use Rattle.refusals.proofs.RefusalDisplay.fmt.Goals as goal

pub returns-clause-writes : goal.returns-clause-writes
returns-clause-writes g c = rw (sym c.number-number.ensures) (search rules)
