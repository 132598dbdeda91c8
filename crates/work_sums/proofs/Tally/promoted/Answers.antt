-- `work_sums::Tally::promoted` meets its contract: each field is the definition's, by what `exact_exp2` and `double_low` ensure.
use lib.Ieee.{of_bits}
use Rattle.work_sums.specs.Tally.{promoted_tally}
use native.Mathlib.Nat.{add-mod-mod}
use Rattle.work_sums.proofs.Tally.promoted.Goals as goal

pub returns : goal.returns
unfolding of_bits promoted_tally
returns c = simp (c.max-2.ensures, c.max.ensures, c.double_low.ensures, add-mod-mod, c.exact_exp2.ensures)
