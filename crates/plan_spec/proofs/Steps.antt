-- What an accepted step was: each test of `rotate` and `measure` that was passed, by taking the tests apart one after the other. And the run of accepted
-- steps that a finished walk is.
use Rattle.std.specs.Prelude.{Some, None}
use mathlib.Core.Path.{◌≡◌, refl, sym, ap, ◌∙◌, subst}
use mathlib.Core.Bool.{Bool, true, false, cond}
use mathlib.Core.List.{List, [], ◌∷◌}
use Prim.Native.Nat.{ℕ, zero, suc, ◌<◌, ◌^◌, min}
use native.Mathlib.Omega.{arith}
use lib.Dec.{eqb, ltb}
use lib.ListN.{length, get_or, take, drop}
use lib.Ieee.{Float}
use borrow.Author.Tests.{eqb-true, eqb-false, ltb-true, not-false}
use Rattle.kernels.specs.Bits.{dimension}
use Rattle.refusals.specs.Answer.{Answer, given, refused, completed}
use Rattle.kernels.specs.Active.{rotation, measurement}
use Rattle.kernels.specs.declared.active.PrecomputedActivePauliRotationKernel.{PrecomputedActivePauliRotationKernel}
use Rattle.kernels.specs.declared.active.PrecomputedActivePauliMeasurementKernel.{PrecomputedActivePauliMeasurementKernel}
use Rattle.records.specs.declared.Instruction.{Instruction}
use Rattle.records.specs.declared.Instruction.TheVariants.{Rotation, Promotion, RecordMeasurement, RecordDetector, Measurement, Expectation, DormantBranch}
use Rattle.plan_spec.specs.Lists.{place_of}
use Rattle.plan_spec.specs.Walk.{Walk, join_of, local_action, refuse, when_given, is_none, too_large, no_step, ignored_step, promotion_step, rotation_step, measurement_step, rotate, measure, step, Walked, onward, walk_from}
use Rattle.plan_spec.specs.Connectivity.{Member}
use Rattle.plan_spec.proofs.Counting.{is_in_member}

-- ---- tests that were passed

refuse_given : (t : Bool) (n : ℕ) (rest : Answer Walk) (v : Walk) → refuse t n rest ≡ given v → (t ≡ false) × (rest ≡ given v)
refuse_given true n rest v e = let z : ◌≡◌ {A = ℕ} 0 1 = cc in absurd (omega arith)
refuse_given false n rest v e = (refl, e)

when_given_lem : {A : Type 0} (x : Answer A) (f : A → Answer Walk) (v : Walk) → when_given x f ≡ given v → (a : A) × (x ≡ given a) × (f a ≡ given v)
when_given_lem (given a) f v e = (a, refl, e)
when_given_lem (refused n) f v e = let z : ◌≡◌ {A = ℕ} 0 1 = cc in absurd (omega arith)

pub cond_yes : {A : Type 0} (t : Bool) (x y : A) → t ≡ true → cond t x y ≡ x
cond_yes t x y e = ap (λ (b : Bool). cond b x y) e

pub cond_no : {A : Type 0} (t : Bool) (x y : A) → t ≡ false → cond t x y ≡ y
cond_no t x y e = ap (λ (b : Bool). cond b x y) e

pub given_same : {A : Type 0} {x y : A} → ◌≡◌ {A = Answer A} (given x) (given y) → x ≡ y
given_same e = cc

-- a dimension was given: the size is below the limit
pub dimension_below : (limit size : ℕ) → is_none (dimension limit size) ≡ false → (size < limit) × (size < 64)
unfolding dimension
dimension_below limit size h = go (ltb size (min limit 64)) refl
  where
    go : (t : Bool) → ltb size (min limit 64) ≡ t → (size < limit) × (size < 64)
    go true e = let l = ltb-true size (min limit 64) e in (omega arith, omega arith)
    go false e =
        let n : is_none (cond (ltb size (min limit 64)) (Some (2 ^ size)) None) ≡ true = ap (λ (t : Bool). is_none (cond t (Some (2 ^ size)) None)) e in
        let z : ◌≡◌ {A = Bool} false true = sym h ∙ n in
        let y : ◌≡◌ {A = ℕ} 0 1 = cc in absurd (omega arith)

-- ---- what an accepted step was

pub data Stepped (limit : ℕ) (w : Walk) : Instruction → Walk → Type 0 where
  ignored : (x z phase : ℕ) (angle sine cosine : Float) → w.order ≡ [] → Stepped limit w (Rotation 0 x z phase angle sine cosine) (ignored_step w)
  rotated : (width x z phase : ℕ) (angle sine cosine : Float) (k : PrecomputedActivePauliRotationKernel)
      → width ≡ length w.order → 0 < length w.order
      → length (join_of x z w).members < limit → length (join_of x z w).members < 64
      → rotation limit (local_action x z phase w (join_of x z w)) phase angle sine cosine ≡ given k
      → Stepped limit w (Rotation width x z phase angle sine cosine) (rotation_step w (join_of x z w) k)
  promoted : Stepped limit w Promotion (promotion_step w)
  measured : (width x z phase pivot : ℕ) (k : PrecomputedActivePauliMeasurementKernel)
      → width ≡ length w.order → 0 < length w.order
      → length (join_of x z w).members < limit → length (join_of x z w).members < 64
      → pivot < length w.order → Member (get_or w.order pivot 0) (join_of x z w).members
      → measurement limit (local_action x z phase w (join_of x z w)) phase (place_of (get_or w.order pivot 0) (join_of x z w).members) ≡ given k
      → Stepped limit w (Measurement width x z phase pivot) (measurement_step w (join_of x z w) pivot k)
  recorded : Stepped limit w RecordMeasurement (no_step w)
  detected : Stepped limit w RecordDetector (no_step w)
  expected : Stepped limit w Expectation (no_step w)
  branched : Stepped limit w DormantBranch (no_step w)

empty_order : {A : Type 0} (xs : List A) → length xs ≡ 0 → xs ≡ []
empty_order [] e = refl
empty_order (x ∷ xs) e = absurd (omega arith)

rotate_stepped : (limit : ℕ) (w v : Walk) (width x z phase : ℕ) (angle sine cosine : Float)
    → rotate limit w width x z phase angle sine cosine ≡ given v → Stepped limit w (Rotation width x z phase angle sine cosine) v
unfolding rotate
rotate_stepped limit w v width x z phase angle sine cosine e =
    let first = refuse_given _ 11 _ v e in
    let wide : width ≡ length w.order = eqb-true width (length w.order) (not-false _ first.0) in
    go (eqb (length w.order) 0) refl wide first.1
  where
    go : (t : Bool) → eqb (length w.order) 0 ≡ t → width ≡ length w.order
        → cond (eqb (length w.order) 0) (given (ignored_step w))
        (refuse (too_large limit (join_of x z w)) 14
        (when_given (rotation limit (local_action x z phase w (join_of x z w)) phase angle sine cosine) λ k. given (rotation_step w (join_of x z w) k)))
        ≡ given v
        → Stepped limit w (Rotation width x z phase angle sine cosine) v
    go true t wide g =
        let none_active : length w.order ≡ 0 = eqb-true (length w.order) 0 t in
        let same : given (ignored_step w) ≡ given v = sym (cond_yes (eqb (length w.order) 0) (given (ignored_step w)) _ t) ∙ g in
        subst (λ (u : Walk). Stepped limit w (Rotation width x z phase angle sine cosine) u) (given_same same)
        (subst (λ (k : ℕ). Stepped limit w (Rotation k x z phase angle sine cosine) (ignored_step w)) (sym (wide ∙ none_active))
        (ignored x z phase angle sine cosine (empty_order w.order none_active)))
    go false t wide g =
        let rest = sym (cond_no (eqb (length w.order) 0) (given (ignored_step w)) _ t) ∙ g in
        let second = refuse_given (too_large limit (join_of x z w)) 14 _ v rest in
        let small = dimension_below limit (length (join_of x z w).members) second.0 in
        let made = when_given_lem (rotation limit (local_action x z phase w (join_of x z w)) phase angle sine cosine) _ v second.1 in
        let some_active = eqb-false (length w.order) 0 t in
        subst (λ (u : Walk). Stepped limit w (Rotation width x z phase angle sine cosine) u) (given_same made.2)
        (rotated width x z phase angle sine cosine made.0 wide (omega (arith, some_active)) small.0 small.1 made.1)

measure_stepped : (limit : ℕ) (w v : Walk) (width x z phase pivot : ℕ)
    → measure limit w width x z phase pivot ≡ given v → Stepped limit w (Measurement width x z phase pivot) v
unfolding measure
measure_stepped limit w v width x z phase pivot e =
    let first = refuse_given _ 12 _ v e in
    let second = refuse_given _ 13 _ v first.1 in
    let third = refuse_given (too_large limit (join_of x z w)) 14 _ v second.1 in
    let fourth = refuse_given _ 15 _ v third.1 in
    let fifth = refuse_given _ 16 _ v fourth.1 in
    let wide : width ≡ length w.order = eqb-true width (length w.order) (not-false _ first.0) in
    let some_active = eqb-false (length w.order) 0 second.0 in
    let small = dimension_below limit (length (join_of x z w).members) third.0 in
    let active = ltb-true pivot (length w.order) (not-false _ fourth.0) in
    let inside = is_in_member (get_or w.order pivot 0) (join_of x z w).members (not-false _ fifth.0) in
    let made = when_given_lem (measurement limit (local_action x z phase w (join_of x z w)) phase (place_of (get_or w.order pivot 0) (join_of x z w).members)) _ v fifth.1 in
    subst (λ (u : Walk). Stepped limit w (Measurement width x z phase pivot) u) (given_same made.2)
    (measured width x z phase pivot made.0 wide (omega (arith, some_active)) small.0 small.1 active inside made.1)

pub stepped : (limit : ℕ) (w v : Walk) (i : Instruction) → step limit w i ≡ given v → Stepped limit w i v
unfolding step
stepped limit w v (Rotation width x z phase angle sine cosine) e = rotate_stepped limit w v width x z phase angle sine cosine e
stepped limit w v Promotion e = subst (λ (u : Walk). Stepped limit w Promotion u) (given_same e) promoted
stepped limit w v (Measurement width x z phase pivot) e = measure_stepped limit w v width x z phase pivot e
stepped limit w v RecordMeasurement e = subst (λ (u : Walk). Stepped limit w RecordMeasurement u) (given_same e) recorded
stepped limit w v RecordDetector e = subst (λ (u : Walk). Stepped limit w RecordDetector u) (given_same e) detected
stepped limit w v Expectation e = subst (λ (u : Walk). Stepped limit w Expectation u) (given_same e) expected
stepped limit w v DormantBranch e = subst (λ (u : Walk). Stepped limit w DormantBranch u) (given_same e) branched

-- ---- a run of accepted steps

pub data Run (limit : ℕ) : Walk → List Instruction → Walk → Type 0 where
  done : (w : Walk) → Run limit w [] w
  more : {w v u : Walk} {i : Instruction} {is : List Instruction} → Stepped limit w i v → Run limit v is u → Run limit w (i ∷ is) u

pub onward_finished : (x : Answer Walk) (index : ℕ) (f : Walk → Walked) (u : Walk) → onward x index f ≡ completed u → (v : Walk) × (x ≡ given v) × (f v ≡ completed u)
onward_finished (given v) index f u e = (v, refl, e)
onward_finished (refused n) index f u e = let z : ◌≡◌ {A = ℕ} 0 1 = cc in absurd (omega arith)

pub run_of_walk : (limit index : ℕ) (w u : Walk) (is : List Instruction) → walk_from limit index w is ≡ completed u → Run limit w is u
unfolding walk_from
run_of_walk limit index w u [] e =
    let same : w ≡ u = cc in subst (λ (v : Walk). Run limit w [] v) same (done w)
run_of_walk limit index w u (i ∷ is) e =
    let first = onward_finished (step limit w i) index (λ v. walk_from limit (suc index) v is) u e in
    more (stepped limit w first.0 i first.1) (run_of_walk limit (suc index) first.0 u is first.2)

-- a run's first m steps and the rest of them
pub run_split : {limit : ℕ} {w u : Walk} {is : List Instruction} (m : ℕ) → Run limit w is u → (v : Walk) × Run limit w (take m is) v × Run limit v (drop m is) u
run_split {w = w} zero r = (w, done w, r)
run_split (suc m) (done w) = (w, done w, done w)
run_split (suc m) (more s r) = let rest = run_split m r in (rest.0, more s rest.1, rest.2)
