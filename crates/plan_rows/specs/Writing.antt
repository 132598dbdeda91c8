-- The words that a step, a rotation's row and a measurement's row are written as.
use Rattle.std.specs.Prelude.{ℕ, List}
use Rattle.kernels.specs.declared.active.ActivePauliAction.{ActivePauliAction}
use Rattle.plan_spec.specs.Rows.{step_row}
use Rattle.plan_spec.specs.Walk.{row_head, rotation_row, measurement_row}
use Rattle.plan_rows.specs.declared.RowHead.{RowHead}
use Rattle.plan_rows.specs.declared.RotationRow.{RotationRow}
use Rattle.plan_rows.specs.declared.MeasurementRow.{MeasurementRow}
use Rattle.plan_rows.specs.declared.Step.{Step}

abbrev pub step_written : Step → List ℕ
step_written step = step_row step.kind step.payload

-- the eleven words that a rotation's and a measurement's row begin with
abbrev pub head_written : RowHead → ActivePauliAction → List ℕ
head_written head action = row_head head.component head.merge_offset head.merge_count action

abbrev pub rotation_written : RotationRow → List ℕ
rotation_written row =
    rotation_row row.head.component row.head.merge_offset row.head.merge_count row.kernel

abbrev pub measurement_written : MeasurementRow → List ℕ
measurement_written row =
    measurement_row
    row.head.component row.head.merge_offset row.head.merge_count row.kernel row.deactivated
