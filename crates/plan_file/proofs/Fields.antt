-- The fields of an answer are those of the definition's plan: an answer and a result that say the same have the same fields, so the scalar words are the plan's.
use Rattle.std.specs.Prelude.{Ok}
use mathlib.Core.Path.{◌≡◌, refl, ap}
use Prim.Native.Nat.{ℕ}
use native.Mathlib.Omega.{arith}
use Rattle.refusals.specs.Answer.{completed, refused_at}
use Rattle.plan_spec.specs.Plan.{Plan, Result}
use Rattle.answer.specs.declared.ActiveComponentPlan.{ActiveComponentPlan}
use Rattle.answer.specs.Outcome.{Fields, outcome_of, used_in, outcome_in}
use Rattle.answer.proofs.Told.{fields_same}
use Rattle.stored_plan.specs.Stored.{scalars_of}
use Rattle.plan_file.specs.Writing.{scalars_in}

-- the definition's plan, with its scalar words and its counts
pub found : (result : Result) (r : ActiveComponentPlan) → outcome_of (Ok r) ≡ outcome_in result
    → (p : Plan) × (result ≡ completed p) × (scalars_in r ≡ scalars_of p) × (r.used ≡ used_in p)
found (completed p) r e =
    let same = fields_same e in
    let selected : r.selected ≡ p.selected = ap (λ (f : Fields). f.selected) same in
    let initial : r.initial_components ≡ p.initial_components = ap (λ (f : Fields). f.initial_components) same in
    let count : r.component_count ≡ p.component_count = ap (λ (f : Fields). f.component_count) same in
    let dense : r.estimated_dense_work ≡ p.dense_work = ap (λ (f : Fields). f.dense_work) same in
    let component : r.estimated_component_work ≡ p.component_work = ap (λ (f : Fields). f.component_work) same in
    let dense_peak_is : r.dense_peak_dimension ≡ p.dense_peak = ap (λ (f : Fields). f.dense_peak) same in
    let peak : r.component_peak_live_dimension ≡ p.peak = ap (λ (f : Fields). f.peak) same in
    let allocated : r.component_allocated_dimension ≡ p.allocated = ap (λ (f : Fields). f.allocated) same in
    let used : r.used ≡ used_in p = ap (λ (f : Fields). f.used) same in
    (p, refl, rw (selected, initial, count, dense, component, dense_peak_is, peak, allocated), used)
found (refused_at number index) r e = let z : ◌≡◌ {A = ℕ} 0 1 = cc in absurd (omega arith)
