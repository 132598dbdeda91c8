-- `work_sums::Tally::measured` meets its contract: each field is the definition's, by what the callees ensure.
use native.Mathlib.Nat.{add-mod-mod, mod-add-mod}
use lib.Ieee.{of_bits}
use Rattle.work_sums.specs.Tally.{joined_tally, measured_tally}
use Rattle.work_sums.proofs.Tally.measured.Goals as goal

pub returns : goal.returns
unfolding joined_tally measured_tally of_bits
returns c =
    simp (
      c.joined-next.ensures,
      c.exact_exp2.ensures,
      c.exact_exp2-2.ensures,
      c.double_low.ensures,
      c.double_low-removal.ensures,
      add-mod-mod,
      mod-add-mod,
      c.power.ensures,
      c.power_left.ensures,
    )
