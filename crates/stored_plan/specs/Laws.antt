-- What the laws of stored plans say: 02, CR 2, "One plan has one file, and reading a written plan restores these fields and every row".
use Rattle.std.specs.Prelude.{◌≤◌, ◌≡◌, length}
use Rattle.plan_spec.specs.Plan.{Plan}
use Rattle.plan_buffers.specs.declared.WordCounts.{WordCounts}

-- outputs of these lengths have room for a plan's first six outputs
pub record IsLongEnough (p : Plan) (lent : WordCounts) : Type 0 where
  pub steps : length p.steps ≤ lent.steps
  pub merges : length p.merges ≤ lent.merges
  pub sizes : length p.sizes ≤ lent.sizes
  pub rotations : length p.rotations ≤ lent.rotations
  pub promotions : length p.promotions ≤ lent.promotions
  pub measurements : length p.measurements ≤ lent.measurements

-- two plans have "these fields and every row" in common: the eight scalar fields, works as floats, and the first six outputs
pub record IsSamePlan (p q : Plan) : Type 0 where
  pub selected : p.selected ≡ q.selected
  pub initial_components : p.initial_components ≡ q.initial_components
  pub component_count : p.component_count ≡ q.component_count
  pub dense_work : p.dense_work ≡ q.dense_work
  pub component_work : p.component_work ≡ q.component_work
  pub dense_peak : p.dense_peak ≡ q.dense_peak
  pub peak : p.peak ≡ q.peak
  pub allocated : p.allocated ≡ q.allocated
  pub steps : p.steps ≡ q.steps
  pub merges : p.merges ≡ q.merges
  pub sizes : p.sizes ≡ q.sizes
  pub rotations : p.rotations ≡ q.rotations
  pub promotions : p.promotions ≡ q.promotions
  pub measurements : p.measurements ≡ q.measurements
