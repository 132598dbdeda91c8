-- What the words of a plan give back for one record, by the state in which the definition's walk comes to it: the step, the row with the definition's kernel, and the
-- row's part of the merge list. Written from 01, section 4.
use Rattle.std.specs.Prelude.{ℕ, ◌<◌, ◌≡◌, [], length, get_or, Option, Some, ◌==◌}
use Rattle.words.specs.Lists.{part_of}
use Rattle.refusals.specs.Answer.{Answer, given}
use Rattle.kernels.specs.Active.{rotation, measurement}
use Rattle.kernels.specs.declared.active.PrecomputedActivePauliRotationKernel.{PrecomputedActivePauliRotationKernel}
use Rattle.kernels.specs.declared.active.PrecomputedActivePauliMeasurementKernel.{PrecomputedActivePauliMeasurementKernel}
use Rattle.records.specs.declared.Instruction.{Instruction}
use Rattle.records.specs.declared.Instruction.TheVariants.{Rotation, Promotion, RecordMeasurement, RecordDetector, Measurement, Expectation, DormantBranch}
use Rattle.plan_spec.specs.Lists.{place_of, remove_at}
use Rattle.plan_spec.specs.Walk.{Walk, Join, join_of, local_action}
use Rattle.plan_buffers.specs.SevenBuffers.{Buffers}
use Rattle.plan_rows.specs.declared.RowHead.{RowHead}
use Rattle.plan_rows.specs.declared.RotationRow.{RotationRow}
use Rattle.plan_rows.specs.declared.MeasurementRow.{MeasurementRow}
use Rattle.plan_rows.specs.Reading.{step_at, rotation_at, measurement_at}

-- step i has this kind and payload
abbrev pub StepIs : Buffers → ℕ → ℕ → ℕ → Type 0
StepIs b i kind payload = step_at b.steps i ≡ Some (record { kind = kind; payload = payload })

-- what a row says of this join
abbrev pub head_of : Walk → Join → RowHead
head_of w j = record { component = j.component; merge_offset = length w.written.merges; merge_count = length j.sources }

-- the rows of a rotation and of a measurement with this join and kernel; "An emptied component is deactivated"
abbrev pub rotation_of : Walk → Join → PrecomputedActivePauliRotationKernel → RotationRow
rotation_of w j k = record { head = head_of w j; kernel = k }

abbrev pub measurement_of : Walk → Join → PrecomputedActivePauliMeasurementKernel → MeasurementRow
measurement_of w j k = record { head = head_of w j; kernel = k; deactivated = ((length (remove_at k.pivot j.members)) == 0) }

-- a record that joins: its step has the kind and the row's number, the row read at that number is that of the definition's kernel, and the row's part of the merge list is
-- the join's sources
pub record JoinBack {K R : Type 0} (b : Buffers) (i kind number : ℕ) (w : Walk) (j : Join) (answer : Answer K) (row_of : Walk → Join → K → R) (row : Option R) : Type 0 where
  pub kernel : K
  pub made : answer ≡ given kernel
  pub step : StepIs b i kind number
  pub row_is : row ≡ Some (row_of w j kernel)
  pub sources : part_of b.merges (length w.written.merges) (length j.sources) ≡ j.sources

-- a rotation, where coordinates are active
abbrev pub RotationBack : Buffers → ℕ → Walk → Join → Answer PrecomputedActivePauliRotationKernel → Type 0
RotationBack b i w j answer = let number = length w.written.rotations in JoinBack b i 2 number w j answer rotation_of (rotation_at b.rotations number)

-- a measurement
abbrev pub MeasurementBack : Buffers → ℕ → Walk → Join → Answer PrecomputedActivePauliMeasurementKernel → Type 0
MeasurementBack b i w j answer =
    let number = length w.written.measurements in JoinBack b i 4 number w j answer measurement_of (measurement_at b.measurements number)

-- what the buffers give back for record i, an instruction that the walk comes to in state w
abbrev pub GivenBack : ℕ → Walk → Instruction → ℕ → Buffers → Type 0
GivenBack limit w (Rotation width x z phase angle sine cosine) i b =
    let j = join_of x z w in
    (w.order ≡ [] → StepIs b i 1 0)
    × (0 < length w.order → RotationBack b i w j (rotation limit (local_action x z phase w j) phase angle sine cosine))
GivenBack limit w (Measurement width x z phase pivot) i b =
    let j = join_of x z w in
    MeasurementBack b i w j (measurement limit (local_action x z phase w j) phase (place_of (get_or w.order pivot 0) j.members))
GivenBack limit w Promotion i b =
    let number = length w.written.promotions in StepIs b i 3 number × (get_or b.promotions number 0 ≡ length w.components)
GivenBack limit w RecordMeasurement i b = StepIs b i 0 0
GivenBack limit w RecordDetector i b = StepIs b i 0 0
GivenBack limit w Expectation i b = StepIs b i 0 0
GivenBack limit w DormantBranch i b = StepIs b i 0 0
