-- What is read of a plan's words: a part of the merge list, and steps and rows by their number.
use Rattle.std.specs.Prelude.{ℕ, ◌+◌, ◌*◌, List, [], map, Option, Some, None, length, take, drop, if◌then◌else◌, nat_le, Float}
use Rattle.std.specs.Option.{option_map, unwrap_or}
use Rattle.std.specs.Float.{binary64}
use Rattle.std.specs.Float.Ieee.{of_bits}
use Rattle.words.specs.Lists.{numbers_from}
use Rattle.words.specs.Words.{flag_in}
use Rattle.kernels.specs.Active.{complex}
use Rattle.kernels.specs.declared.active.Complex64.{Complex64}
use Rattle.kernels.specs.declared.active.ActivePauliAction.{ActivePauliAction}
use Rattle.kernels.specs.declared.active.PrecomputedActivePauliRotationKernel.{PrecomputedActivePauliRotationKernel}
use Rattle.kernels.specs.declared.active.PrecomputedActivePauliMeasurementKernel.{PrecomputedActivePauliMeasurementKernel}
use Rattle.plan_spec.specs.Rows.{step_words, measurement_words, rotation_words, step_kind, step_payload, row_component, row_merge_offset, row_merge_count, row_width, row_x, row_z, row_even_re, row_even_im, row_odd_re, row_odd_im, row_overlap}
use Rattle.plan_spec.specs.Rows.{rotation_diagonal, rotation_uniform, rotation_flip, rotation_pair_bit, rotation_pair_count, rotation_angle, rotation_cosine, rotation_sine, rotation_coefficient_re, rotation_coefficient_im}
use Rattle.plan_spec.specs.Rows.{measurement_pivot, measurement_diagonal, measurement_phase_bit, measurement_without_pivot, measurement_out_dimension, measurement_coefficient_re, measurement_coefficient_im, measurement_deactivated}
use Rattle.plan_rows.specs.declared.RowHead.{RowHead}
use Rattle.plan_rows.specs.declared.RotationRow.{RotationRow}
use Rattle.plan_rows.specs.declared.MeasurementRow.{MeasurementRow}
use Rattle.plan_rows.specs.declared.Step.{Step}

-- the n words of the row with this number, where the whole row is there
abbrev pub row_at : ℕ → List ℕ → ℕ → Option (List ℕ)
row_at n ws i = if nat_le (n * i + n) (length ws) then Some (take n (drop (n * i) ws)) else None

-- ---- values of words

-- a float stands as its bits, and a NaN pattern is the one NaN
abbrev pub float_in : ℕ → Float
float_in w = of_bits binary64 w

abbrev pub complex_in : ℕ → ℕ → Complex64
complex_in re im = complex (float_in re) (float_in im)

-- any number can stand for a step's kind
abbrev pub step_in : List ℕ → Step
step_in row = record { kind = step_kind row; payload = step_payload row }

abbrev pub head_in : List ℕ → RowHead
head_in row = record {
  component = row_component row;
  merge_offset = row_merge_offset row;
  merge_count = row_merge_count row;
}

abbrev pub action_in : List ℕ → ActivePauliAction
action_in row = record {
  nqubits = row_width row;
  xmask = row_x row;
  zmask = row_z row;
  even_phase = complex_in (row_even_re row) (row_even_im row);
  odd_phase = complex_in (row_odd_re row) (row_odd_im row);
  xz_overlap_odd = flag_in (row_overlap row);
}

-- the row of no words is all zero
unfoldable pub rotation_in : List ℕ → RotationRow
unfolding of_bits
rotation_in row =
    let coefficient = complex_in (rotation_coefficient_re row) (rotation_coefficient_im row) in
    let kernel : PrecomputedActivePauliRotationKernel = record {
      action = action_in row;
      is_diagonal = flag_in (rotation_diagonal row);
      uniform_imag_pairs = flag_in (rotation_uniform row);
      real_pair_flip = flag_in (rotation_flip row);
      pair_bit = rotation_pair_bit row;
      pair_count = rotation_pair_count row;
      kernel_angle = float_in (rotation_angle row);
      cos_kernel_angle = float_in (rotation_cosine row);
      sin_kernel_angle = float_in (rotation_sine row);
      minus_even_coefficient = coefficient;
    } in
    record { head = head_in row; kernel = kernel }

unfoldable pub measurement_in : List ℕ → MeasurementRow
unfolding of_bits
measurement_in row =
    let coefficient =
    complex_in (measurement_coefficient_re row) (measurement_coefficient_im row) in
    let kernel : PrecomputedActivePauliMeasurementKernel = record {
      action = action_in row;
      pivot = measurement_pivot row;
      is_diagonal = flag_in (measurement_diagonal row);
      diagonal_phase_bit = measurement_phase_bit row;
      z_without_pivot = measurement_without_pivot row;
      out_dim = measurement_out_dimension row;
      nondiagonal_coefficient1_even = coefficient;
    } in
    record {
      head = head_in row;
      kernel = kernel;
      deactivated = flag_in (measurement_deactivated row);
    }

-- ---- by number: the step or the row, and none past the end

-- the value of the row with this number, by what n words say
abbrev pub row_read : {R : Type 0} → ℕ → (List ℕ → R) → List ℕ → ℕ → Option R
row_read n value ws i = option_map value (row_at n ws i)

abbrev pub step_at : List ℕ → ℕ → Option Step
step_at ws i = row_read step_words step_in ws i

abbrev pub rotation_at : List ℕ → ℕ → Option RotationRow
rotation_at ws i = row_read rotation_words rotation_in ws i

abbrev pub measurement_at : List ℕ → ℕ → Option MeasurementRow
measurement_at ws i = row_read measurement_words measurement_in ws i

-- ---- rotation rows as structs

-- a struct past the last row is all zero
abbrev pub rotation_or_zero : List ℕ → ℕ → RotationRow
rotation_or_zero ws i = unwrap_or (rotation_at ws i) (rotation_in [])

abbrev pub filled_rows : ℕ → List ℕ → List RotationRow
filled_rows n ws = map (rotation_or_zero ws) (numbers_from 0 n)
