-- `work_sums::Tally::rotated` meets its contract: each field is the definition's, by what `joined`, `exact_exp2` and the powers ensure.
use lib.Ieee.{of_bits}
use Rattle.work_sums.specs.Tally.{joined_tally, rotated_tally}
use native.Mathlib.Nat.{add-mod-mod}
use Rattle.work_sums.proofs.Tally.rotated.Goals as goal

pub returns : goal.returns
unfolding joined_tally of_bits rotated_tally
returns c =
    simp (
      c.joined-next.ensures,
      c.exact_exp2.ensures,
      c.exact_exp2-2.ensures,
      c.power_low.ensures,
      add-mod-mod,
      c.power.ensures,
    )
