-- The plan that a call hands back, read off what it leaves: the fields of its answer, and the
-- words that stand in the lent buffers.
use Rattle.plan_spec.specs.Plan.{Plan}
use Rattle.work_sums.specs.Tally.{works_of}
use Rattle.plan_buffers.specs.SevenBuffers.{Buffers}
use Rattle.answer.specs.declared.ActiveComponentPlan.{ActiveComponentPlan}

-- the answer's eight scalar fields and whole works, and every word of the seven buffers, the
-- zeros behind the used ones too
abbrev pub plan_in : ActiveComponentPlan → Buffers → Plan
plan_in r b = record {
  selected = r.selected;
  initial_components = r.initial_components;
  component_count = r.component_count;
  dense_work = r.estimated_dense_work;
  component_work = r.estimated_component_work;
  dense_peak = r.dense_peak_dimension;
  peak = r.component_peak_live_dimension;
  allocated = r.component_allocated_dimension;
  whole_works = works_of r.whole_works;
  steps = b.steps;
  merges = b.merges;
  sizes = b.sizes;
  rotations = b.rotations;
  promotions = b.promotions;
  measurements = b.measurements;
  groups = b.groups;
}
