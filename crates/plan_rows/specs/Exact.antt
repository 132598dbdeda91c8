-- The rows whose floats binary64 holds: what is read of the words of such a row is that row.
use Rattle.std.specs.Prelude.{◌≡◌, Float}
use lib.Dec.{T}
use lib.Ieee.{binary64, fits}
use Rattle.kernels.specs.declared.active.Complex64.{Complex64}
use Rattle.kernels.specs.declared.active.ActivePauliAction.{ActivePauliAction}
use Rattle.kernels.specs.declared.active.PrecomputedActivePauliRotationKernel.{PrecomputedActivePauliRotationKernel}
use Rattle.kernels.specs.declared.active.PrecomputedActivePauliMeasurementKernel.{PrecomputedActivePauliMeasurementKernel}
use Rattle.plan_rows.specs.Writing.{step_written, rotation_written, measurement_written}
use Rattle.plan_rows.specs.Reading.{step_in, rotation_in, measurement_in}
use Rattle.plan_rows.specs.declared.RotationRow.{RotationRow}
use Rattle.plan_rows.specs.declared.MeasurementRow.{MeasurementRow}
use Rattle.plan_rows.specs.declared.Step.{Step}

-- binary64 holds the float
abbrev pub IsExact : Float → Type 0
IsExact x = T (fits binary64 x)

pub record ComplexIsExact (c : Complex64) : Type 0 where
  pub re : IsExact c.re
  pub im : IsExact c.im

pub record ActionIsExact (a : ActivePauliAction) : Type 0 where
  pub even : ComplexIsExact a.even_phase
  pub odd : ComplexIsExact a.odd_phase

pub record RotationIsExact (k : PrecomputedActivePauliRotationKernel) : Type 0 where
  pub action : ActionIsExact k.action
  pub angle : IsExact k.kernel_angle
  pub cosine : IsExact k.cos_kernel_angle
  pub sine : IsExact k.sin_kernel_angle
  pub coefficient : ComplexIsExact k.minus_even_coefficient

pub record MeasurementIsExact (k : PrecomputedActivePauliMeasurementKernel) : Type 0 where
  pub action : ActionIsExact k.action
  pub coefficient : ComplexIsExact k.nondiagonal_coefficient1_even

-- a step has no float
abbrev pub StepRowIsExact : Step → Type 0
StepRowIsExact step = Unit

abbrev pub RotationRowIsExact : RotationRow → Type 0
RotationRowIsExact row = RotationIsExact row.kernel

abbrev pub MeasurementRowIsExact : MeasurementRow → Type 0
MeasurementRowIsExact row = MeasurementIsExact row.kernel

-- ---- what is read of the words of such a row is that row

abbrev pub StepsComeBack : Type 0
StepsComeBack = (step : Step) → step_in (step_written step) ≡ step

abbrev pub RotationsComeBack : Type 0
RotationsComeBack =
    (row : RotationRow) → RotationRowIsExact row → rotation_in (rotation_written row) ≡ row

abbrev pub MeasurementsComeBack : Type 0
MeasurementsComeBack =
    (row : MeasurementRow) → MeasurementRowIsExact row
    → measurement_in (measurement_written row) ≡ row
