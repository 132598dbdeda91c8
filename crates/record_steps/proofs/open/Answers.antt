-- `record_steps::open` meets its contract. Refusal 11 is given by hand so that a wrong number is named.
use mathlib.Core.Path.{◌≡◌}
use borrow.Author.Tests.{ne_eqb}
use Rattle.words.proofs.Patches.{patch_none}
use Rattle.record_steps.specs.RecordSteps.{number_before, sources_before}
use Rattle.record_steps.proofs.open.Goals as goal

pub returns-then-w-width : goal.returns-then-w-width
unfolding number_before sources_before
returns-then-w-width c =
    let other = ne_eqb _ _ c.if-w-width.true in
    let told : 11 ≡ number_before c.args.width c.args.instruction = simp (c.in-Rotation.is, other) in record {
      number = told;
      join = simp (c.in-Rotation.is, other);
      written = simp (c.in-Rotation.is, other, patch_none);
    }
