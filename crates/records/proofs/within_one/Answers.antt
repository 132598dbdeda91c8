-- `records::within_one` meets its contract: its two constants are -1 and 1 by their bits.
use lib.Ieee.{of_bits, neg}
use Rattle.records.specs.Pass.{within_one}
use Rattle.records.proofs.within_one.Goals as goal

pub returns : goal.returns
unfolding neg of_bits within_one
returns c = c.within.ensures
