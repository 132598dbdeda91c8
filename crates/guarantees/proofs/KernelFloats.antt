-- Binary64 holds every float of a kernel: a constant, a rounded sum or product, or a number of the record.
use mathlib.Core.Path.{◌≡◌, subst}
use mathlib.Core.Bool.{Bool, true, false, cond, not}
use Rattle.std.specs.Prelude.{Option, Some, None}
use Prim.Native.Nat.{ℕ, zero, suc, ◌%◌}
use native.Mathlib.Omega.{arith}
use lib.Dec.{eqb}
use lib.Ieee.{Float, binary64, fits, neg}
use lib.Ieee.Fits.{neg-fits, add-fits, sub-fits, mul-fits}
use Rattle.kernels.specs.Bits.{dimension, bit_at}
use Rattle.refusals.specs.Answer.{Answer, given, refused}
use Rattle.kernels.specs.Active.{unit_power, action, imaginary, of_dimension, rotation_kernel, rotation, measurement_kernel, measurement}
use Rattle.kernels.specs.declared.active.PrecomputedActivePauliRotationKernel.{PrecomputedActivePauliRotationKernel}
use Rattle.kernels.specs.declared.active.PrecomputedActivePauliMeasurementKernel.{PrecomputedActivePauliMeasurementKernel}
use Rattle.plan_spec.proofs.Steps.{given_same}
use Rattle.plan_rows.specs.Exact.{IsExact, ComplexIsExact, ActionIsExact, RotationIsExact, MeasurementIsExact}

unit_exact : (n : ℕ) → ComplexIsExact (unit_power n)
unfolding fits neg
unit_exact zero = record { re = tt; im = tt }
unit_exact (suc zero) = record { re = tt; im = tt }
unit_exact (suc (suc zero)) = record { re = tt; im = tt }
unit_exact (suc (suc (suc n))) = record { re = tt; im = tt }

action_exact : (w x z p : ℕ) → ActionIsExact (action w x z p)
action_exact w x z p =
    let unit = unit_exact (p % 4) in
    record { even = unit; odd = record { re = neg-fits binary64 _ unit.re; im = neg-fits binary64 _ unit.im } }

-- a value is given by one of the two answers
either_given : {A P : Type 0} (t : Bool) (x y : Answer A) (k : A) → (x ≡ given k → P) → (y ≡ given k → P) → cond t x y ≡ given k → P
either_given true x y k f g e = f e
either_given false x y k f g e = g e

-- a refusal gives none
none_given : {A P : Type 0} {n : ℕ} {k : A} → refused n ≡ given k → P
none_given e = let z : ◌≡◌ {A = ℕ} 0 1 = cc in absurd (omega arith)

of_dimension_lem : {A P : Type 0} (o : Option ℕ) (f : ℕ → Answer A) (k : A) → ((n : ℕ) → f n ≡ given k → P) → of_dimension o f ≡ given k → P
of_dimension_lem None f k g e = none_given e
of_dimension_lem (Some n) f k g e = g n e

pub rotation_exact : (limit w x z p : ℕ) (angle sine cosine : Float) (k : PrecomputedActivePauliRotationKernel) → IsExact angle → IsExact sine → IsExact cosine
    → rotation limit (action w x z p) p angle sine cosine ≡ given k → RotationIsExact k
rotation_exact limit w x z p angle sine cosine k a s c =
    of_dimension_lem (dimension limit w) (λ n. given (rotation_kernel n (action w x z p) p angle sine cosine)) k λ n e.
    subst RotationIsExact (given_same e) (record {
      action = action_exact w x z p;
      angle = a;
      cosine = c;
      sine = s;
      coefficient = record { re = sub-fits binary64 _ _; im = add-fits binary64 _ _ };
    })

pub measurement_exact : (limit w x z p pivot : ℕ) (k : PrecomputedActivePauliMeasurementKernel) → measurement limit (action w x z p) p pivot ≡ given k → MeasurementIsExact k
measurement_exact limit w x z p pivot k =
    of_dimension_lem (dimension limit w) _ k λ n.
    either_given (not (eqb x 0)) _ _ k
    (either_given (eqb (bit_at x pivot) 0) _ _ k none_given (made n false _ _))
    (either_given (not (eqb z 0)) _ _ k
    (either_given (eqb (bit_at z pivot) 0) _ _ k none_given (either_given (imaginary p) _ _ k none_given (made n true _ _)))
    none_given)
  where
    made : (n : ℕ) (diagonal : Bool) (bit rest : ℕ) → given (measurement_kernel n (action w x z p) pivot diagonal bit rest) ≡ given k → MeasurementIsExact k
    made n diagonal bit rest e =
        subst MeasurementIsExact (given_same e) (record { action = action_exact w x z p; coefficient = record { re = mul-fits binary64 _ _; im = mul-fits binary64 _ _ } })
