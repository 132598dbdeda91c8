-- `records::sums_to_one` meets its contract: the two constants are `least_sum` and `most_sum` by their bits.
use mathlib.Core.Path.{ap, ◌∙◌}
use lib.Ieee.{of_bits}
use Rattle.records.specs.Pass.{within, least_sum, most_sum, sums_to_one}
use Rattle.records.proofs.sums_to_one.Goals as goal

pub returns : goal.returns
unfolding of_bits sums_to_one
returns c = c.within.ensures ∙ ap (within least_sum most_sum) c.square_sum.ensures
