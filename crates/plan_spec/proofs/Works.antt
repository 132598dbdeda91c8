-- Works are never NaN and never negative: they begin at +0, and are only added to, by sums of powers of two. `round` keeps the sign that it is given, a sum
-- of two that are not negative is rounded with the sign +, and an infinity meets no other sign and no factor 0.
use mathlib.Core.Path.{◌≡◌, refl}
use mathlib.Core.Bool.{Bool, true, false, cond}
use mathlib.Core.List.{List, [], ◌∷◌}
use Prim.Native.Nat.{ℕ, zero, suc, ◌+◌, ◌-◌, ◌*◌, ◌/◌, ◌%◌, ◌^◌, compare}
use lib.Dec.{leb, ltb}
use lib.ListN.{length}
use lib.IntN.{pos}
use lib.Ieee.{Float, fin, Format, binary64, prec, emax, low, size, nearest, round, units, odd, sum, add, mul, is_nan}
use Rattle.kernels.specs.Bits.{exp2}
use Rattle.records.specs.declared.Instruction.{Instruction}
use Rattle.plan_spec.specs.Components.{size_of, float_two, cost_from, joining_cost}
use Rattle.plan_spec.specs.Walk.{Walk, start, join_of, no_step, ignored_step, promotion_step, rotation_step, measurement_step}
use Rattle.plan_spec.specs.Laws.{IsNonNegative, infinite, number, NonNegativeWorks}
use Rattle.plan_spec.proofs.Steps.{Stepped, ignored, rotated, promoted, measured, recorded, detected, expected, branched, Run, done, more}

-- ---- the operations

-- no NaN
pub nonneg_number : {x : Float} → IsNonNegative x → is_nan x ≡ false
unfolding is_nan
nonneg_number infinite = refl
nonneg_number (number m e) = refl

-- `odd` keeps the sign
odd_nonneg : (d q k l : ℕ) → IsNonNegative (odd d false q k l)
unfolding odd
odd_nonneg d zero k l = number 0 (pos 0)
odd_nonneg d (suc q) k l = number _ _

-- either of two
cond_nonneg : (t : Bool) (x y : Float) → IsNonNegative x → IsNonNegative y → IsNonNegative (cond t x y)
cond_nonneg true x y p q = p
cond_nonneg false x y p q = q

-- so does `units`, also where it gives an infinity
units_nonneg : (f : Format) (q k : ℕ) → IsNonNegative (units f false q k)
unfolding units
units_nonneg f q k = cond_nonneg (ltb (q * 2 ^ k) (2 ^ (low f + suc (emax f)))) _ _ (odd_nonneg (suc (prec f)) q k (low f)) infinite

-- so does `round`
pub round_nonneg : (f : Format) (a b : ℕ) → IsNonNegative (round f false a b)
unfolding round
round_nonneg f a b =
    let n = a * 2 ^ low f in
    let k = size (n / b) - prec f in
    let u = b * 2 ^ k in units_nonneg f (nearest (n / u) (compare (n % u * 2) u)) k

-- a sum of two that are not negative
pub add_nonneg : (f : Format) {x y : Float} → IsNonNegative x → IsNonNegative y → IsNonNegative (add f x y)
unfolding add sum
add_nonneg f infinite infinite = infinite
add_nonneg f infinite (number n d) = infinite
add_nonneg f (number m e) infinite = infinite
add_nonneg f (number m e) (number n d) = round_nonneg f _ _

-- a power of two
pub exp2_nonneg : (k : ℕ) → IsNonNegative (exp2 k)
exp2_nonneg k = cond_nonneg (leb k 1023) _ _ (number 1 (pos k)) infinite

-- twice such a value: the factor 2 is not 0, so an infinity stays one
pub double_nonneg : (f : Format) {x : Float} → IsNonNegative x → IsNonNegative (mul f float_two x)
unfolding mul
double_nonneg f infinite = infinite
double_nonneg f (number m e) = round_nonneg f _ _

-- ---- the works of a state

-- the sum of a joining cost, from any sum so far
cost_nonneg : (cs : List (List ℕ)) (size : ℕ) (sum : Float) (ss : List ℕ) → IsNonNegative sum → IsNonNegative (cost_from cs size sum ss)
cost_nonneg cs size sum [] p = p
cost_nonneg cs size sum (s ∷ ss) p =
    cost_nonneg cs (size + size_of cs s) _ ss (add_nonneg binary64 p (double_nonneg binary64 (exp2_nonneg (size + size_of cs s))))

-- a joining cost
pub joining_nonneg : (cs : List (List ℕ)) (ss : List ℕ) → IsNonNegative (joining_cost cs ss)
unfolding joining_cost
joining_nonneg cs [] = number 0 (pos 0)
joining_nonneg cs (t ∷ others) = cost_nonneg cs (size_of cs t) (fin false 0 (pos 0)) others (number 0 (pos 0))

-- both works begin at +0
pub start_nonneg : (k : ℕ) → NonNegativeWorks (start k)
unfolding start
start_nonneg k = record { dense = number 0 (pos 0); component = number 0 (pos 0) }

-- the component work after a joining cost
pub join_nonneg : (x z : ℕ) (w : Walk) → NonNegativeWorks w → IsNonNegative (join_of x z w).work
unfolding join_of
join_nonneg x z w p = add_nonneg binary64 p.component (joining_nonneg w.components (join_of x z w).sources)

-- an accepted step adds such values
pub step_nonneg : {limit : ℕ} {w v : Walk} {i : Instruction} → Stepped limit w i v → NonNegativeWorks w → NonNegativeWorks v
unfolding no_step ignored_step promotion_step rotation_step measurement_step
step_nonneg (ignored x z phase angle sine cosine e) p = record { dense = add_nonneg binary64 p.dense (exp2_nonneg 0); component = p.component }
step_nonneg {w = w} (rotated width x z phase angle sine cosine k e a b c d) p = record {
  dense = add_nonneg binary64 p.dense (exp2_nonneg (length w.order));
  component = add_nonneg binary64 (join_nonneg x z w p) (add_nonneg binary64 (exp2_nonneg (length (join_of x z w).members)) (number 1 (pos 5)));
}
step_nonneg {w = w} promoted p = record {
  dense = add_nonneg binary64 p.dense (double_nonneg binary64 (exp2_nonneg (length w.order)));
  component = add_nonneg binary64 p.component (number 17 (pos 1));
}
step_nonneg {w = w} (measured width x z phase pivot k e a b c d f g) p = record {
  dense = add_nonneg binary64 p.dense (double_nonneg binary64 (exp2_nonneg (length w.order)));
  component =
      add_nonneg binary64 (join_nonneg x z w p)
      (add_nonneg binary64 (double_nonneg binary64 (exp2_nonneg (length (join_of x z w).members))) (number 1 (pos 5)));
}
step_nonneg recorded p = record { dense = p.dense; component = p.component }
step_nonneg detected p = record { dense = p.dense; component = p.component }
step_nonneg expected p = record { dense = p.dense; component = p.component }
step_nonneg branched p = record { dense = p.dense; component = p.component }

-- and so does a run
pub run_nonneg : {limit : ℕ} {w u : Walk} {is : List Instruction} → Run limit w is u → NonNegativeWorks w → NonNegativeWorks u
run_nonneg (done w) p = p
run_nonneg (more s r) p = run_nonneg r (step_nonneg s p)

-- so in every state that the walk reaches
pub reached_nonneg : {limit : ℕ} {u : Walk} {is : List Instruction} (k : ℕ) → Run limit (start k) is u → NonNegativeWorks u
reached_nonneg k r = run_nonneg r (start_nonneg k)
