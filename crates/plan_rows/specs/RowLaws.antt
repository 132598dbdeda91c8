-- The proofs of the laws of `Row`, which its implementations name; nothing here is to be believed.
-- A row has its type's number of words. And a row that was written is read back as it was: word for
-- word the reader takes what the writer put, a flag's word is set where the flag is, and the bits of
-- a float that binary64 holds are read as that float.
use mathlib.Core.Path.{◌≡◌, refl}
use mathlib.Core.List.{List, ◌++◌}
use Prim.Native.Nat.{ℕ}
use lib.ListN.{length, drop}
use lib.Ieee.{Float, binary64}
use lib.Ieee.Bits.{of_bits-to_bits}
use Rattle.words.specs.Words.{bits_word}
use Rattle.words.proofs.Words.{flag_back}
use Rattle.kernels.specs.declared.active.Complex64.{Complex64}
use Rattle.kernels.specs.declared.active.ActivePauliAction.{ActivePauliAction}
use Rattle.plan_spec.specs.Rows.{step_words, rotation_words, measurement_words}
use Rattle.plan_spec.specs.Walk.{row_head, rotation_row, measurement_row}
use Rattle.plan_spec.proofs.Growth.{rotation_row_length, measurement_row_length}
use Rattle.plan_rows.specs.Writing.{step_written, head_written, rotation_written, measurement_written}
use Rattle.plan_rows.specs.Reading.{float_in, complex_in, action_in, step_in, rotation_in, measurement_in}
use Rattle.plan_rows.specs.Exact.{IsExact, ComplexIsExact, ActionIsExact, StepRowIsExact, RotationRowIsExact, MeasurementRowIsExact}
use Rattle.plan_rows.specs.declared.RowHead.{RowHead}
use Rattle.plan_rows.specs.declared.Step.{Step}
use Rattle.plan_rows.specs.declared.RotationRow.{RotationRow}
use Rattle.plan_rows.specs.declared.MeasurementRow.{MeasurementRow}

-- ---- how many words a row has

pub step_counted : (step : Step) → length (step_written step) ≡ step_words
step_counted step = refl

pub rotation_counted : (row : RotationRow) → length (rotation_written row) ≡ rotation_words
rotation_counted row =
    rotation_row_length row.head.component row.head.merge_offset row.head.merge_count row.kernel

pub measurement_counted : (row : MeasurementRow)
    → length (measurement_written row) ≡ measurement_words
measurement_counted row =
    measurement_row_length
    row.head.component row.head.merge_offset row.head.merge_count row.kernel row.deactivated

-- ---- what is read of them

float_back : {v : Float} → IsExact v → float_in (bits_word v) ≡ v
float_back {v} h = of_bits-to_bits binary64 v h

complex_back : {c : Complex64} → ComplexIsExact c → complex_in (bits_word c.re) (bits_word c.im) ≡ c
complex_back h d = record { re = float_back h.re d; im = float_back h.im d }

-- the first eleven words, whatever follows them
action_back : (head : RowHead) (a : ActivePauliAction) (rest : List ℕ) → ActionIsExact a
    → action_in (head_written head a ++ rest) ≡ a
unfolding row_head
action_back head a rest h d = record {
  nqubits = a.nqubits;
  xmask = a.xmask;
  zmask = a.zmask;
  even_phase = complex_back h.even d;
  odd_phase = complex_back h.odd d;
  xz_overlap_odd = flag_back a.xz_overlap_odd d;
}

pub step_back : (step : Step) → StepRowIsExact step → step_in (step_written step) ≡ step
step_back step h = refl

pub rotation_back : (row : RotationRow) → RotationRowIsExact row
    → rotation_in (rotation_written row) ≡ row
unfolding rotation_in rotation_row
rotation_back row h d =
    let k = row.kernel in record {
      head = row.head;
      kernel = record {
        action = action_back row.head k.action (drop 11 (rotation_written row)) h.action d;
        is_diagonal = flag_back k.is_diagonal d;
        uniform_imag_pairs = flag_back k.uniform_imag_pairs d;
        real_pair_flip = flag_back k.real_pair_flip d;
        pair_bit = k.pair_bit;
        pair_count = k.pair_count;
        kernel_angle = float_back h.angle d;
        cos_kernel_angle = float_back h.cosine d;
        sin_kernel_angle = float_back h.sine d;
        minus_even_coefficient = complex_back h.coefficient d;
      };
    }

pub measurement_back : (row : MeasurementRow) → MeasurementRowIsExact row
    → measurement_in (measurement_written row) ≡ row
unfolding measurement_in measurement_row
measurement_back row h d =
    let k = row.kernel in record {
      head = row.head;
      kernel = record {
        action = action_back row.head k.action (drop 11 (measurement_written row)) h.action d;
        pivot = k.pivot;
        is_diagonal = flag_back k.is_diagonal d;
        diagonal_phase_bit = k.diagonal_phase_bit;
        z_without_pivot = k.z_without_pivot;
        out_dim = k.out_dim;
        nondiagonal_coefficient1_even = complex_back h.coefficient d;
      };
      deactivated = flag_back row.deactivated d;
    }
