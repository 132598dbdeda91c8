-- What the contracts of the module `active` say: phases, actions and the two kernels. Written from 01, section 3.
use Rattle.std.specs.Prelude.{ℕ, zero, suc, ◌/◌, ◌%◌, Bool, true, false, Option, Some, None, not, ◌&&◌, pos, Float, if◌then◌else◌, ◌==◌}
use Rattle.std.specs.Int.Bits.{bit_and}
use Rattle.std.specs.Float.{fin, binary64}
use Rattle.std.specs.Float.Ieee.{add, sub, mul, neg, of_bits}
use Rattle.refusals.specs.Answer.{Answer, given, refused}
use Rattle.kernels.specs.Bits.{odd_ones, highest_bit, bit_at, without_bit, dimension}
use Rattle.kernels.specs.declared.active.Complex64.{Complex64}
use Rattle.kernels.specs.declared.active.ActivePauliAction.{ActivePauliAction}
use Rattle.kernels.specs.declared.active.PrecomputedActivePauliRotationKernel.{PrecomputedActivePauliRotationKernel}
use Rattle.kernels.specs.declared.active.PrecomputedActivePauliMeasurementKernel.{PrecomputedActivePauliMeasurementKernel}

-- the floats 0 and 1
abbrev pub float_zero : Float
float_zero = fin false 0 (pos 0)

abbrev pub float_one : Float
float_one = fin false 1 (pos 0)

abbrev pub complex : Float → Float → Complex64
complex a b = record { re = a; im = b }

-- 01, section 3: exponents 0, 1, 2, 3 give (1,0), (0,1), (-1,0), (0,-1)
abbrev pub unit_power : ℕ → Complex64
unit_power zero = complex float_one float_zero
unit_power (suc zero) = complex float_zero float_one
unit_power (suc (suc zero)) = complex (neg float_one) float_zero
unit_power (suc (suc (suc p))) = complex float_zero (neg float_one)

-- the even phase. An exponent above 3 counts modulo 4
abbrev pub phase_factor : ℕ → Complex64
phase_factor p = unit_power (p % 4)

-- 01, section 3: the odd phase negates both parts
abbrev pub odd_phase : Complex64 → Complex64
odd_phase c = complex (neg c.re) (neg c.im)

-- 01, section 3: width, masks, phases, and whether x and z overlap in an odd number of places
abbrev pub action : (width x z phase : ℕ) → ActivePauliAction
action w x z p = record {
  nqubits = w;
  xmask = x;
  zmask = z;
  even_phase = phase_factor p;
  odd_phase = odd_phase (phase_factor p);
  xz_overlap_odd = odd_ones (bit_and x z);
}

-- 01, section 3: an exponent of 1 or 3, modulo 4
abbrev pub imaginary : ℕ → Bool
imaginary p = p % 2 == 1

-- 01, section 3: with even phase (a, b) and sine s the coefficient is (0·a - (-s)·b, 0·b + (-s)·a), each operation rounded
abbrev pub rotation_coefficient : Complex64 → Float → Complex64
rotation_coefficient e s =
    complex
    (sub binary64 (mul binary64 float_zero e.re) (mul binary64 (neg s) e.im))
    (add binary64 (mul binary64 float_zero e.im) (mul binary64 (neg s) e.re))

-- 01, section 3: z not 0, overlap of x and z odd, exponent 1 or 3
abbrev pub pair_flip : ActivePauliAction → ℕ → Bool
pair_flip a p = not (a.zmask == 0) && (a.xz_overlap_odd && imaginary p)

-- 01, section 3: the rotation kernel of an action whose dimension is n
abbrev pub rotation_kernel :
    (dimension : ℕ) → ActivePauliAction → (phase : ℕ) (angle sine cosine : Float) → PrecomputedActivePauliRotationKernel
rotation_kernel n a p angle sine cosine =
    let diagonal = a.xmask == 0 in record {
      action = a;
      is_diagonal = diagonal;
      uniform_imag_pairs = not diagonal && a.zmask == 0;
      real_pair_flip = not diagonal && pair_flip a p;
      pair_bit = if diagonal then 0 else highest_bit a.xmask;
      pair_count = if diagonal then 0 else n / 2;
      kernel_angle = angle;
      cos_kernel_angle = cosine;
      sin_kernel_angle = sine;
      minus_even_coefficient = rotation_coefficient a.even_phase sine;
    }

-- 14 where the dimension is too large, and else what `f` makes of it
abbrev pub of_dimension : {A : Type 0} → Option ℕ → (ℕ → Answer A) → Answer A
of_dimension None f = refused 14
of_dimension (Some n) f = f n

-- the rotation kernel, or 14
abbrev pub rotation :
    (limit : ℕ) → ActivePauliAction → (phase : ℕ) (angle sine cosine : Float) → Answer PrecomputedActivePauliRotationKernel
rotation limit a p angle sine cosine =
    of_dimension (dimension limit a.nqubits) (λ n. given (rotation_kernel n a p angle sine cosine))

-- 01, section 3: h has the bits 3FE6A09E667F3BCD, and the coefficient is (a·h, (-b)·h)
abbrev pub inv_sqrt2 : Float
inv_sqrt2 = of_bits binary64 0x3FE6A09E667F3BCD

abbrev pub measurement_coefficient : Complex64 → Complex64
measurement_coefficient e = complex (mul binary64 e.re inv_sqrt2) (mul binary64 (neg e.im) inv_sqrt2)

-- 01, section 3: the measurement kernel of an action whose dimension is n, with its phase bit and its z mask without the pivot
abbrev pub measurement_kernel :
    (dimension : ℕ) → ActivePauliAction → (pivot : ℕ) (diagonal : Bool) (phase_bit z_without_pivot : ℕ)
    → PrecomputedActivePauliMeasurementKernel
measurement_kernel n a pivot diagonal bit rest = record {
  action = a;
  pivot = pivot;
  is_diagonal = diagonal;
  diagonal_phase_bit = bit;
  z_without_pivot = rest;
  out_dim = n / 2;
  nondiagonal_coefficient1_even = measurement_coefficient a.even_phase;
}

-- 01, section 3 and refusal 17: x is not 0
abbrev pub nondiagonal : (dimension : ℕ) → ActivePauliAction → (pivot : ℕ) → Answer PrecomputedActivePauliMeasurementKernel
nondiagonal n a pivot =
    if bit_at a.xmask pivot == 0 then refused 17
    else given (measurement_kernel n a pivot false 0 0)

-- 01, section 3 and refusals 18, 19: x is 0, z is not. The phase bit is 1 for exponent 2
abbrev pub diagonal : (dimension : ℕ) → ActivePauliAction → (phase pivot : ℕ) → Answer PrecomputedActivePauliMeasurementKernel
diagonal n a p pivot =
    if bit_at a.zmask pivot == 0 then refused 18
    else if imaginary p then refused 19
    else given (measurement_kernel n a pivot true (p % 4 / 2) (without_bit a.zmask pivot))

-- the measurement kernel, or 14, or the first of 17 to 20
abbrev pub measurement : (limit : ℕ) → ActivePauliAction → (phase pivot : ℕ) → Answer PrecomputedActivePauliMeasurementKernel
measurement limit a p pivot =
    of_dimension (dimension limit a.nqubits) λ n.
    if not (a.xmask == 0) then nondiagonal n a pivot
    else if not (a.zmask == 0) then diagonal n a p pivot
    else refused 20
