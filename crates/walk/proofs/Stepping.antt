-- The definition's step, by what the code found: a refusal of the width, the answer of the kernel over the joined component, or no test at all.
use Rattle.std.specs.Prelude.{Option, Some, None}
use mathlib.Core.Path.{◌≡◌, refl, sym, ap, ◌∙◌}
use mathlib.Core.Logic.{◌⊎◌, inl, inr, ⊎_elim}
use mathlib.Core.Bool.{Bool, true, false, cond, not}
use Prim.Native.Nat.{ℕ, ◌^◌, ◌<◌, min}
use native.Mathlib.Omega.{arith}
use lib.Dec.{eqb, leb, ltb}
use lib.Ieee.{Float}
use lib.ListN.{length, get_or}
use borrow.Author.Tests.{eq-eqb, ne_eqb, lt-ltb, le-ltb, leb-true, leb-false, eqb-true, eqb-false}
use Rattle.kernels.specs.Bits.{dimension}
use Rattle.refusals.specs.Answer.{Answer, given, refused}
use Rattle.kernels.specs.Active.{of_dimension, rotation_kernel, rotation, measurement}
use Rattle.kernels.specs.declared.active.PrecomputedActivePauliMeasurementKernel.{PrecomputedActivePauliMeasurementKernel}
use Rattle.records.specs.declared.Instruction.{Instruction}
use Rattle.records.specs.declared.Instruction.TheVariants.{Rotation, Promotion, RecordMeasurement, RecordDetector, Measurement, Expectation, DormantBranch}
use Rattle.plan_spec.specs.Lists.{is_in, place_of}
use Rattle.plan_spec.specs.Walk.{Walk, Join, join_of, local_action, refuse, when_given, is_none, ignored_step, rotation_step, measurement_step, rotate, measure, step}
use Rattle.plan_spec.proofs.Steps.{cond_yes, cond_no}
use Rattle.record_steps.specs.RecordSteps.{number_before}

-- ---- tests

either : (t : Bool) → (t ≡ true) ⊎ (t ≡ false)
either true = inl refl
either false = inr refl

refuse_no : (t : Bool) (n : ℕ) (rest : Answer Walk) → t ≡ false → refuse t n rest ≡ rest
refuse_no t n rest e = ap (λ (b : Bool). refuse b n rest) e

refuse_same : (t u : Bool) (n : ℕ) (rest : Answer Walk) → t ≡ u → refuse t n rest ≡ refuse u n rest
refuse_same t u n rest e = ap (λ (b : Bool). refuse b n rest) e

refuse_yes : (t : Bool) (n : ℕ) (rest : Answer Walk) → t ≡ true → refuse t n rest ≡ refused n
refuse_yes t n rest e = ap (λ (b : Bool). refuse b n rest) e

-- the kernel's own answer says the same of a dimension that is too large
refuse_large : {K : Type 0} (d : Option ℕ) (f : ℕ → Answer K) (g : K → Answer Walk) → refuse (is_none d) 14 (when_given (of_dimension d f) g) ≡ when_given (of_dimension d f) g
refuse_large None f g = refl
refuse_large (Some n) f g = refl

-- below 64 a size has a dimension exactly below the limit
pub large_is : (limit size : ℕ) → size < 64 → is_none (dimension limit size) ≡ leb limit size
unfolding dimension
large_is limit size small = go (leb limit size) refl
  where
    go : (t : Bool) → leb limit size ≡ t → is_none (cond (ltb size (min limit 64)) (Some (2 ^ size)) None) ≡ t
    go true e = let l = leb-true limit size e in ap (λ (b : Bool). is_none (cond b (Some (2 ^ size)) None)) (le-ltb size (min limit 64) (omega arith))
    go false e = let l = leb-false limit size e in ap (λ (b : Bool). is_none (cond b (Some (2 ^ size)) None)) (lt-ltb size (min limit 64) (omega arith))

-- ---- the width

module _ (limit : ℕ) (w : Walk) where
  -- refusals 11 to 13
  pub refused_before : (x : Instruction) → (number_before (length w.order) x ≡ 0 → ⊥) → step limit w x ≡ refused (number_before (length w.order) x)
  unfolding step rotate measure number_before
  refused_before (Rotation width x z phase angle sine cosine) n =
      ⊎_elim
      (λ e. absurd (n (cond_yes (eqb width (length w.order)) 0 11 e)))
      (λ e. refuse_yes (not (eqb width (length w.order))) 11 _ (ap not e) ∙ sym (ap refused (cond_no (eqb width (length w.order)) 0 11 e)))
      (either (eqb width (length w.order)))
  refused_before (Measurement width x z phase pivot) n =
      ⊎_elim
      (λ e. ⊎_elim
      (λ f. refuse_no (not (eqb width (length w.order))) 12 _ (ap not e) ∙ refuse_yes (eqb (length w.order) 0) 13 _ f
      ∙ sym (ap refused (cond_yes (eqb width (length w.order)) (cond (eqb (length w.order) 0) 13 0) 12 e ∙ cond_yes (eqb (length w.order) 0) 13 0 f)))
      (λ f. absurd (n (cond_yes (eqb width (length w.order)) (cond (eqb (length w.order) 0) 13 0) 12 e ∙ cond_no (eqb (length w.order) 0) 13 0 f)))
      (either (eqb (length w.order) 0)))
      (λ e. refuse_yes (not (eqb width (length w.order))) 12 _ (ap not e) ∙ sym (ap refused (cond_no (eqb width (length w.order)) _ 12 e)))
      (either (eqb width (length w.order)))
  refused_before Promotion n = absurd (n refl)
  refused_before RecordMeasurement n = absurd (n refl)
  refused_before RecordDetector n = absurd (n refl)
  refused_before Expectation n = absurd (n refl)
  refused_before DormantBranch n = absurd (n refl)

  -- a rotation that was let through has the active width
  pub rotation_width : (width x z phase : ℕ) (angle sine cosine : Float) → number_before (length w.order) (Rotation width x z phase angle sine cosine) ≡ 0 → width ≡ length w.order
  unfolding number_before
  rotation_width width x z phase angle sine cosine e = go (eqb width (length w.order)) refl e
    where
      go : (t : Bool) → eqb width (length w.order) ≡ t → cond {A = ℕ} t 0 11 ≡ 0 → width ≡ length w.order
      go true t f = eqb-true width (length w.order) t
      go false t f = absurd (omega arith)

  -- and so has a measurement, and something is active
  pub measurement_width : (width x z phase pivot : ℕ) → number_before (length w.order) (Measurement width x z phase pivot) ≡ 0 → (width ≡ length w.order) × (0 < length w.order)
  unfolding number_before
  measurement_width width x z phase pivot e = go (eqb width (length w.order)) (eqb (length w.order) 0) refl refl e
    where
      go : (t u : Bool) → eqb width (length w.order) ≡ t → eqb (length w.order) 0 ≡ u → cond {A = ℕ} t (cond u 13 0) 12 ≡ 0 → (width ≡ length w.order) × (0 < length w.order)
      go true true t u f = absurd (omega arith)
      go true false t u f = (eqb-true width (length w.order) t, let n = eqb-false (length w.order) 0 u in omega (arith, n))
      go false u t v f = absurd (omega arith)

  -- ---- rotations

  pub ignores : (width x z phase : ℕ) (angle sine cosine : Float) → width ≡ length w.order → length w.order ≡ 0
      → step limit w (Rotation width x z phase angle sine cosine) ≡ given (ignored_step w)
  unfolding step rotate
  ignores width x z phase angle sine cosine e f =
      refuse_no (not (eqb width (length w.order))) 11 _ (ap not (eq-eqb width (length w.order) e))
      ∙ cond_yes (eqb (length w.order) 0) _ _ (eq-eqb (length w.order) 0 f)

  pub rotates : (width x z phase : ℕ) (angle sine cosine : Float) → width ≡ length w.order → 0 < length w.order
      → step limit w (Rotation width x z phase angle sine cosine)
      ≡ when_given (rotation limit (local_action x z phase w (join_of x z w)) phase angle sine cosine) (λ k. given (rotation_step w (join_of x z w) k))
  unfolding step rotate
  rotates width x z phase angle sine cosine e active =
      let j = join_of x z w in
      let a = local_action x z phase w j in
      refuse_no (not (eqb width (length w.order))) 11 _ (ap not (eq-eqb width (length w.order) e))
      ∙ cond_no (eqb (length w.order) 0) _ _ (ne_eqb (length w.order) 0 (λ f. omega arith))
      ∙ refuse_large (dimension limit (length j.members)) (λ n. given (rotation_kernel n a phase angle sine cosine)) (λ k. given (rotation_step w j k))

  -- ---- measurements

  pub measures : (width x z phase pivot size c place : ℕ) → width ≡ length w.order → 0 < length w.order
      → size ≡ length (join_of x z w).members → size < 64
      → (pivot < length w.order → is_in (get_or w.order pivot 0) (join_of x z w).members ≡ eqb c (join_of x z w).component)
      → (pivot < length w.order → c ≡ (join_of x z w).component → place_of (get_or w.order pivot 0) (join_of x z w).members ≡ place)
      → step limit w (Measurement width x z phase pivot)
      ≡ when_given
      (cond (leb limit size) (refused 14)
      (cond (leb (length w.order) pivot) (refused 15)
      (cond (eqb c (join_of x z w).component) (measurement limit (local_action x z phase w (join_of x z w)) phase place) (refused 16))))
      (λ k. given (measurement_step w (join_of x z w) pivot k))
  unfolding step measure
  measures width x z phase pivot size c place e active same small inside at =
      refuse_no (not (eqb width (length w.order))) 12 _ (ap not (eq-eqb width (length w.order) e))
      ∙ refuse_no (eqb (length w.order) 0) 13 _ (ne_eqb (length w.order) 0 (λ f. omega arith))
      ∙ refuse_same (is_none (dimension limit (length (join_of x z w).members))) (leb limit size) 14 _ (ap (λ (n : ℕ). is_none (dimension limit n)) (sym same) ∙ large_is limit size small)
      ∙ by_size (leb limit size)
    where
      j : Join
      j = join_of x z w

      goes : PrecomputedActivePauliMeasurementKernel → Answer Walk
      goes k = given (measurement_step w (join_of x z w) pivot k)

      kernel : ℕ → Answer PrecomputedActivePauliMeasurementKernel
      kernel p = measurement limit (local_action x z phase w (join_of x z w)) phase p

      by_member : (t : Bool) → eqb c (join_of x z w).component ≡ t → pivot < length w.order
          → refuse (not (is_in (get_or w.order pivot 0) (join_of x z w).members)) 16 (when_given (kernel (place_of (get_or w.order pivot 0) (join_of x z w).members)) goes)
          ≡ when_given (cond t (kernel place) (refused 16)) goes
      by_member true f h =
          refuse_no (not (is_in (get_or w.order pivot 0) (join_of x z w).members)) 16 _ (ap not (inside h ∙ f))
          ∙ ap (λ (p : ℕ). when_given (kernel p) goes) (at h (eqb-true c (join_of x z w).component f))
      by_member false f h = refuse_yes (not (is_in (get_or w.order pivot 0) (join_of x z w).members)) 16 _ (ap not (inside h ∙ f))

      by_pivot : (t : Bool) → leb (length w.order) pivot ≡ t
          → refuse (not (ltb pivot (length w.order))) 15
          (refuse (not (is_in (get_or w.order pivot 0) (join_of x z w).members)) 16 (when_given (kernel (place_of (get_or w.order pivot 0) (join_of x z w).members)) goes))
          ≡ when_given (cond t (refused 15) (cond (eqb c (join_of x z w).component) (kernel place) (refused 16))) goes
      by_pivot true f = let l = leb-true (length w.order) pivot f in refuse_yes (not (ltb pivot (length w.order))) 15 _ (ap not (le-ltb pivot (length w.order) l))
      by_pivot false f =
          let l = leb-false (length w.order) pivot f in
          refuse_no (not (ltb pivot (length w.order))) 15 _ (ap not (lt-ltb pivot (length w.order) l))
          ∙ by_member (eqb c (join_of x z w).component) refl l

      by_size : (t : Bool)
          → refuse t 14
          (refuse (not (ltb pivot (length w.order))) 15
          (refuse (not (is_in (get_or w.order pivot 0) (join_of x z w).members)) 16 (when_given (kernel (place_of (get_or w.order pivot 0) (join_of x z w).members)) goes)))
          ≡ when_given (cond t (refused 14) (cond (leb (length w.order) pivot) (refused 15) (cond (eqb c (join_of x z w).component) (kernel place) (refused 16)))) goes
      by_size true = refl
      by_size false = by_pivot (leb (length w.order) pivot) refl
