-- What the functions that write a file say: the scalar words of an answer, and a file's words and
-- trailer by its counts alone. The form itself is `Stored` of the crate `stored_plan`, and the
-- proofs show these to be its words.
use Rattle.std.specs.Prelude.{ℕ, ◌+◌, ◌*◌, List, [], ◌∷◌}
use Rattle.words.specs.Words.{flag_word, bits_word}
use Rattle.plan_buffers.specs.declared.WordCounts.{WordCounts}
use Rattle.plan_buffers.specs.SixOutputs.{Outputs}
use Rattle.stored_plan.specs.Stored.{Kept}
use Rattle.plan_file.specs.declared.Sections.{Sections}
use Rattle.answer.specs.declared.ActiveComponentPlan.{ActiveComponentPlan}

-- the eight scalar words of the planner's answer
abbrev pub scalars_in : ActiveComponentPlan → List ℕ
scalars_in p =
    flag_word p.selected ∷ p.initial_components ∷ p.component_count
    ∷ bits_word p.estimated_dense_work ∷ bits_word p.estimated_component_work
    ∷ p.dense_peak_dimension ∷ p.component_peak_live_dimension
    ∷ p.component_allocated_dimension ∷ []

-- the words that stand in the sections
abbrev pub words_in : Sections → Outputs
words_in s = record {
  steps = s.steps.now;
  merges = s.merges.now;
  sizes = s.sizes.now;
  rotations = s.rotations.now;
  promotions = s.promotions.now;
  measurements = s.measurements.now;
}

-- the sections with the answer's scalar words are what a file keeps
abbrev pub kept_in : ActiveComponentPlan → Outputs → Kept
kept_in p o = record {
  steps = o.steps;
  merges = o.merges;
  sizes = o.sizes;
  rotations = o.rotations;
  promotions = o.promotions;
  measurements = o.measurements;
  scalars = scalars_in p;
}

-- the words of a file whose sections have these counts
abbrev pub words_for : WordCounts → ℕ
words_for used =
    used.steps + used.merges + used.sizes + used.rotations + used.promotions + used.measurements
    + 24

-- starts and counts of the seven sections, the file's length in bytes, and the version
abbrev pub trailer_for : WordCounts → List ℕ
trailer_for used =
    let merges = used.steps in
    let sizes = merges + used.merges in
    let rotations = sizes + used.sizes in
    let promotions = rotations + used.rotations in
    let measurements = promotions + used.promotions in
    let scalars = measurements + used.measurements in
    0 ∷ used.steps ∷ merges ∷ used.merges ∷ sizes ∷ used.sizes ∷ rotations ∷ used.rotations
    ∷ promotions ∷ used.promotions ∷ measurements ∷ used.measurements
    ∷ scalars ∷ 8 ∷ 8 * (scalars + 24) ∷ 1 ∷ []
