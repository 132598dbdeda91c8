-- What an answer says, the code's and the definition's: the values of a plan's fields, or the
-- refusal.
use Rattle.std.specs.Prelude.{ℕ, ◌*◌, ◌^◌, ◌<◌, length, Bool, Float, Result as Answered, Ok, Err}
use Rattle.refusals.specs.Answer.{completed, refused_at, Outcome}
use Rattle.plan_spec.specs.Rows.{measurement_words, rotation_words}
use Rattle.plan_spec.specs.WholeWorks.{WholeWorks, whole_works_of}
use Rattle.plan_spec.specs.Plan.{Plan, Result, chosen}
use Rattle.work_sums.specs.Tally.{works_of, whole_sums_of}
use Rattle.plan_buffers.specs.declared.WordCounts.{WordCounts}
use Rattle.walk.specs.declared.Summary.{Summary}
use Rattle.refusals.specs.Numbers.{number_of}
use Rattle.refusals.specs.declared.Refusal.{Refusal}
use Rattle.answer.specs.declared.ActiveComponentPlan.{ActiveComponentPlan}

-- "The result's eight scalar fields, in order", 02's whole works (CR 1) and how many words of the
-- first six outputs are used (CR 2), or "its number and record index"
pub record Fields : Type 0 where
  pub selected : Bool
  pub initial_components : ℕ
  pub component_count : ℕ
  pub dense_work : Float
  pub component_work : Float
  pub dense_peak : ℕ
  pub peak : ℕ
  pub allocated : ℕ
  pub whole_works : WholeWorks
  pub used : WordCounts

abbrev pub accepted : (selected : Bool) (initial_components component_count : ℕ)
    (dense_work component_work : Float) (dense_peak peak allocated : ℕ)
    (whole_works : WholeWorks) (used : WordCounts) → Outcome Fields
accepted selected initial count dense component dense_peak peak allocated whole used =
    completed (record {
      selected = selected;
      initial_components = initial;
      component_count = count;
      dense_work = dense;
      component_work = component;
      dense_peak = dense_peak;
      peak = peak;
      allocated = allocated;
      whole_works = whole;
      used = used;
    })

-- of the code's answer
abbrev pub outcome_of : Answered ActiveComponentPlan Refusal → Outcome Fields
outcome_of (Ok p) =
    accepted p.selected p.initial_components p.component_count
    p.estimated_dense_work p.estimated_component_work
    p.dense_peak_dimension p.component_peak_live_dimension p.component_allocated_dimension
    (works_of p.whole_works) p.used
outcome_of (Err refusal) = refused_at (number_of refusal.reason) refusal.index

-- how many words of the first six outputs a plan uses
abbrev pub used_in : Plan → WordCounts
used_in p = record {
  steps = length p.steps;
  merges = length p.merges;
  sizes = length p.sizes;
  rotations = length p.rotations;
  promotions = length p.promotions;
  measurements = length p.measurements;
}

-- of the definition's result
abbrev pub outcome_in : Result → Outcome Fields
outcome_in (completed p) =
    accepted p.selected p.initial_components p.component_count
    p.dense_work p.component_work p.dense_peak p.peak p.allocated p.whole_works (used_in p)
outcome_in (refused_at number index) = refused_at number index

-- ---- from a finished walk over n records

-- how many words it uses of the first six outputs
abbrev pub used_by : Summary → ℕ → WordCounts
used_by done n = record {
  steps = 2 * n;
  merges = done.tally.merges;
  sizes = done.count;
  rotations = rotation_words * done.tally.rotations;
  promotions = done.tally.promotions;
  measurements = measurement_words * done.tally.measurements;
}

-- those that are multiplied fit a word
pub record UsedFit (done : Summary) (n : ℕ) : Type 0 where
  pub steps : 2 * n < 2 ^ 64
  pub rotations : rotation_words * done.tally.rotations < 2 ^ 64
  pub measurements : measurement_words * done.tally.measurements < 2 ^ 64

-- what its answer says, where its sizes allocate so much
abbrev pub finished_outcome : (initial dense_peak : ℕ) → Summary → (n allocated : ℕ) → Outcome Fields
finished_outcome initial dense_peak done n allocated =
    let t = done.tally in
    accepted (chosen t.quantum t.dense t.work allocated dense_peak)
    initial done.count t.dense t.work dense_peak t.peak allocated
    (whole_works_of (whole_sums_of t)) (used_by done n)

-- ---- with no record read

-- no words
abbrev pub no_counts : WordCounts
no_counts = record {
  steps = 0;
  merges = 0;
  sizes = 0;
  rotations = 0;
  promotions = 0;
  measurements = 0;
}
