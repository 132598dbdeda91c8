-- What a rotation of no coordinates asks and makes before its join: neither a refusal nor a source.
use mathlib.Core.Path.{◌≡◌, ap, ◌∙◌}
use mathlib.Core.List.{List, []}
use mathlib.Core.Bool.{cond}
use Prim.Native.Nat.{ℕ}
use lib.Dec.{eqb}
use lib.Ieee.{Float}
use borrow.Author.Tests.{eq-eqb}
use Rattle.records.specs.declared.Instruction.{Instruction}
use Rattle.records.specs.declared.Instruction.TheVariants.{Rotation}
use Rattle.plan_spec.proofs.Steps.{cond_yes}
use Rattle.record_steps.specs.RecordSteps.{number_before, sources_before}

pub rotation_empty : (width : ℕ) (sources : ℕ → ℕ → List ℕ) {i : Instruction} {w x z phase : ℕ} {angle sine cosine : Float} → i ≡ Rotation w x z phase angle sine cosine → w ≡ width → width ≡ 0
    → (number_before width i ≡ 0) × (sources_before width sources i ≡ [])
unfolding number_before sources_before
rotation_empty width sources {i} {w} {x} {z} {phase} {angle} {sine} {cosine} e h n = (
  ap (λ (j : Instruction). number_before width j) e ∙ cond_yes (eqb w width) 0 11 (eq-eqb w width h),
  ap (λ (j : Instruction). sources_before width sources j) e ∙ cond_yes (eqb w width) (cond (eqb width 0) [] (sources x z)) [] (eq-eqb w width h) ∙ cond_yes (eqb width 0) [] (sources x z) (eq-eqb width 0 n),
)
