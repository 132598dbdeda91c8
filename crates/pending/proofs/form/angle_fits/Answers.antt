-- `pending::form::angle_fits` meets its contract: the two constants are -2^20 and 2^20 by their bits.
use mathlib.Core.Path.{ap, ◌∙◌}
use lib.Ieee.{of_bits, neg}
use Rattle.records.specs.Pass.{within}
use Rattle.pending.specs.Form.{least_angle, most_angle}
use Rattle.pending.proofs.form.angle_fits.Goals as goal

pub returns : goal.returns
unfolding neg of_bits
returns c = c.within.ensures ∙ ap (within least_angle most_angle) c.float_of.ensures
