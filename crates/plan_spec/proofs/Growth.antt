-- Outputs only grow: every accepted step appends two words of steps and at most one row, and its row names a part of the merge list that the same step
-- appends. So each law of a run is the law of one step, repeated.
use Rattle.std.specs.Prelude.{Option, Some, None}
use mathlib.Core.Path.{◌≡◌, refl, sym, ap, ◌∙◌}
use mathlib.Core.Logic.{◌⊎◌, inl, inr}
use mathlib.Core.Bool.{Bool, true, false, cond, not}
use mathlib.Core.List.{List, [], ◌∷◌, ◌++◌, append-nil, append_assoc}
use Prim.Native.Nat.{ℕ, zero, suc, ◌+◌, ◌*◌, ◌/◌, ◌≤◌, ◌<◌}
use native.Mathlib.Nat.{mul-suc, mul-zero}
use native.Mathlib.Omega.{arith}
use lib.Dec.{eqb, ltb}
use lib.ListN.{length, get_or, take, drop, length-append}
use lib.Seq.{take_at, drop_at, drop-drop}
use lib.Ieee.{Float}
use Rattle.words.specs.Lists.{Begins}
use Rattle.words.proofs.Patches.{begins_refl, begins_trans}
use Rattle.kernels.specs.Bits.{bit_at, dimension}
use Rattle.refusals.specs.Answer.{Answer, given, refused, completed, refused_at}
use Rattle.kernels.specs.Active.{of_dimension, rotation, measurement, imaginary}
use Rattle.kernels.specs.declared.active.ActivePauliAction.{ActivePauliAction}
use Rattle.kernels.specs.declared.active.PrecomputedActivePauliRotationKernel.{PrecomputedActivePauliRotationKernel}
use Rattle.kernels.specs.declared.active.PrecomputedActivePauliMeasurementKernel.{PrecomputedActivePauliMeasurementKernel}
use Rattle.records.specs.Record.{instructions_of}
use Rattle.records.specs.Pass.{Checked, record_pass}
use Rattle.records.specs.declared.Head.{Head}
use Rattle.records.specs.declared.Instruction.{Instruction}
use Rattle.records.specs.declared.Instruction.TheVariants.{Rotation, Promotion, RecordMeasurement, RecordDetector, Measurement, Expectation, DormantBranch}
use Rattle.records.proofs.Laws.{refused_in, instructions_length}
use Rattle.plan_spec.specs.Lists.{concat, is_in, place_of, remove_at}
use Rattle.plan_spec.specs.Rows.{row_merge_offset, row_merge_count, step_row}
use Rattle.plan_spec.specs.Walk.{Written, Walk, join_of, local_action, rotation_row, measurement_row, with_step, refuse, when_given, is_none, no_step, ignored_step, promotion_step, rotation_step, measurement_step, rotate, measure, step, Walked, onward, start, walk_from}
use Rattle.plan_spec.specs.Plan.{Lengths, Plan, Result, unread, words_refused, buffers_refused, after_walk, after_pass, refuse_all, plan_read, max_dimension, for_dense_peak, ceiling_refused, plan_of}
use Rattle.plan_spec.proofs.Steps.{Stepped, ignored, rotated, promoted, measured, recorded, detected, expected, branched, Run, done, more}

-- ---- lists that go on

-- every output is the earlier one with a tail
pub record Grown (o u : Written) : Type 0 where
  pub steps : Begins o.steps u.steps
  pub merges : Begins o.merges u.merges
  pub rotations : Begins o.rotations u.rotations
  pub promotions : Begins o.promotions u.promotions
  pub measurements : Begins o.measurements u.measurements

-- nothing appended
pub grown_refl : (o : Written) → Grown o o
grown_refl o = record {
  steps = begins_refl o.steps;
  merges = begins_refl o.merges;
  rotations = begins_refl o.rotations;
  promotions = begins_refl o.promotions;
  measurements = begins_refl o.measurements;
}

-- appended twice
pub grown_trans : {o u t : Written} → Grown o u → Grown u t → Grown o t
grown_trans {o} {u} {t} g h = record {
  steps = begins_trans o.steps u.steps t.steps g.steps h.steps;
  merges = begins_trans o.merges u.merges t.merges g.merges h.merges;
  rotations = begins_trans o.rotations u.rotations t.rotations g.rotations h.rotations;
  promotions = begins_trans o.promotions u.promotions t.promotions g.promotions h.promotions;
  measurements = begins_trans o.measurements u.measurements t.measurements g.measurements h.measurements;
}

-- ---- rows

-- a law of every row
abbrev pub EachRow : (List ℕ → Type 0) → List (List ℕ) → Type 0
EachRow P rows = (i : ℕ) → i < length rows → P (get_or rows i [])

-- every row has n words
abbrev pub AllOf : ℕ → List (List ℕ) → Type 0
AllOf n rows = EachRow (λ row. length row ≡ n) rows

-- every row's merge offset and count lie inside the first n words of the merge list
abbrev pub AllInside : ℕ → List (List ℕ) → Type 0
AllInside n rows = EachRow (λ row. row_merge_offset row + row_merge_count row ≤ n) rows

-- those of both kinds of rows, in the merge list written so far
abbrev pub Inside : Written → Type 0
Inside o = AllInside (length o.merges) o.rotations × AllInside (length o.merges) o.measurements

-- a law of every row holds with one more row of which it holds
pub each_more : (P : List ℕ → Type 0) (rows : List (List ℕ)) (row : List ℕ) → EachRow P rows → P row → EachRow P (rows ++ (row ∷ []))
each_more P [] row all p zero h = p
each_more P [] row all p (suc i) h = absurd (omega arith)
each_more P (r ∷ rows) row all p zero h = all zero (omega arith)
each_more P (r ∷ rows) row all p (suc i) h = each_more P rows row (λ j g. all (suc j) (omega arith)) p i (omega arith)

-- a longer merge list still holds them
pub inside_wider : (m n : ℕ) (rows : List (List ℕ)) → m ≤ n → AllInside m rows → AllInside n rows
inside_wider m n rows h all i g = let a = all i g in omega arith

-- "Rotation rows, 21 words"
pub rotation_row_length : (component offset count : ℕ) (k : PrecomputedActivePauliRotationKernel) → length (rotation_row component offset count k) ≡ 21
unfolding rotation_row
rotation_row_length component offset count k = refl

-- "Measurement rows, 19"
pub measurement_row_length : (component offset count : ℕ) (k : PrecomputedActivePauliMeasurementKernel) (t : Bool)
    → length (measurement_row component offset count k t) ≡ 19
unfolding measurement_row
measurement_row_length component offset count k t = refl

-- rows of n words one after the other: the words in number
pub length_concat : (n : ℕ) (rows : List (List ℕ)) → AllOf n rows → length (concat rows) ≡ n * length rows
length_concat n [] all = sym (mul-zero n)
length_concat n (r ∷ rows) all =
    let here = all zero (omega arith) in
    let rest = length_concat n rows (λ i h. all (suc i) (omega arith)) in
    length-append r (concat rows) ∙ let m = mul-suc n (length rows) in omega arith

-- rows behind rows
pub concat-append : (xs ys : List (List ℕ)) → concat (xs ++ ys) ≡ concat xs ++ concat ys
concat-append [] ys = refl
concat-append (x ∷ xs) ys = ap (λ (l : List ℕ). x ++ l) (concat-append xs ys) ∙ sym (append_assoc x (concat xs) (concat ys))

-- one row behind them
pub concat_more : (rows : List (List ℕ)) (row : List ℕ) → concat (rows ++ (row ∷ [])) ≡ concat rows ++ row
concat_more rows row = concat-append rows (row ∷ []) ∙ ap (λ (l : List ℕ). concat rows ++ l) (append-nil row)

-- and row i again, from n * i on
pub row-at : (n : ℕ) (rows : List (List ℕ)) (i : ℕ) → AllOf n rows → i < length rows → take n (drop (n * i) (concat rows)) ≡ get_or rows i []
row-at n [] i all h = absurd (omega arith)
row-at n (r ∷ rows) zero all h = ap (λ (k : ℕ). take n (drop k (r ++ concat rows))) (mul-zero n) ∙ take_at r (concat rows) n (all zero h)
row-at n (r ∷ rows) (suc i) all h =
    let rest = row-at n rows i (λ j g. all (suc j) (omega arith)) (omega arith) in
    let next : n * suc i ≡ n + n * i = let m = mul-suc n i in omega arith in
    ap (λ (k : ℕ). take n (drop k (r ++ concat rows))) next
    ∙ ap (take n) (sym (drop-drop (n * i) n (r ++ concat rows)))
    ∙ ap (λ (l : List ℕ). take n (drop (n * i) l)) (drop_at r (concat rows) n (all zero (omega arith)))
    ∙ rest

-- ---- what n steps append

-- all rows
abbrev pub row_count : Written → ℕ
row_count o = length o.rotations + length o.promotions + length o.measurements

-- n steps append two words of steps each, a row each at most, and keep every law of the rows
pub record Appended (n : ℕ) (o u : Written) : Type 0 where
  pub grown : Grown o u
  pub steps_more : length u.steps ≡ length o.steps + 2 * n
  pub rows_more : row_count u ≤ row_count o + n
  pub rotations_wide : AllOf 21 o.rotations → AllOf 21 u.rotations
  pub measurements_wide : AllOf 19 o.measurements → AllOf 19 u.measurements
  pub rows_inside : Inside o → Inside u

-- no steps
appended_refl : (o : Written) → Appended 0 o o
appended_refl o =
    record { grown = grown_refl o; steps_more = omega arith; rows_more = omega arith; rotations_wide = λ h. h; measurements_wide = λ h. h; rows_inside = λ h. h }

-- one step, then n steps
appended_then : {n : ℕ} {o u t : Written} → Appended 1 o u → Appended n u t → Appended (suc n) o t
appended_then a b = record {
  grown = grown_trans a.grown b.grown;
  steps_more = let e = a.steps_more in let f = b.steps_more in omega arith;
  rows_more = let e = a.rows_more in let f = b.rows_more in omega arith;
  rotations_wide = λ h. b.rotations_wide (a.rotations_wide h);
  measurements_wide = λ h. b.measurements_wide (a.measurements_wide h);
  rows_inside = λ h. b.rows_inside (a.rows_inside h);
}

-- a step that writes no row
appended_none : (kind payload : ℕ) (o : Written) → Appended 1 o (with_step kind payload o)
appended_none kind payload o = record {
  grown = record {
    steps = (step_row kind payload, refl);
    merges = begins_refl o.merges;
    rotations = begins_refl o.rotations;
    promotions = begins_refl o.promotions;
    measurements = begins_refl o.measurements;
  };
  steps_more = length-append o.steps (step_row kind payload);
  rows_more = omega arith;
  rotations_wide = λ h. h;
  measurements_wide = λ h. h;
  rows_inside = λ h. h;
}

-- what one accepted step writes
pub step_appended : {limit : ℕ} {w v : Walk} {i : Instruction} → Stepped limit w i v → Appended 1 w.written v.written
unfolding no_step ignored_step promotion_step rotation_step measurement_step rotation_row measurement_row
step_appended {w = w} (ignored x z phase angle sine cosine e) = appended_none 1 0 w.written
step_appended {w = w} (rotated width x z phase angle sine cosine k e a b c d) =
    let o = w.written in
    let j = join_of x z w in
    let row = rotation_row j.component (length o.merges) (length j.sources) k in
    let wider : length (o.merges ++ j.sources) ≡ length o.merges + length j.sources = length-append o.merges j.sources in record {
      grown = record {
        steps = (2 ∷ length o.rotations ∷ [], refl);
        merges = (j.sources, refl);
        rotations = (row ∷ [], refl);
        promotions = begins_refl o.promotions;
        measurements = begins_refl o.measurements;
      };
      steps_more = length-append o.steps (2 ∷ length o.rotations ∷ []);
      rows_more = let l = length-append o.rotations (row ∷ []) in omega arith;
      rotations_wide = λ h. each_more (λ r. length r ≡ 21) o.rotations row h refl;
      measurements_wide = λ h. h;
      rows_inside = λ h. (
        each_more (λ r. row_merge_offset r + row_merge_count r ≤ length (o.merges ++ j.sources)) o.rotations row
            (inside_wider (length o.merges) (length (o.merges ++ j.sources)) o.rotations (omega arith) h.0) (omega arith),
        inside_wider (length o.merges) (length (o.merges ++ j.sources)) o.measurements (omega arith) h.1,
      );
    }
step_appended {w = w} promoted =
    let o = w.written in
    let next = length w.components in record {
      grown = record {
        steps = (3 ∷ length o.promotions ∷ [], refl);
        merges = begins_refl o.merges;
        rotations = begins_refl o.rotations;
        promotions = (next ∷ [], refl);
        measurements = begins_refl o.measurements;
      };
      steps_more = length-append o.steps (3 ∷ length o.promotions ∷ []);
      rows_more = let l = length-append o.promotions (next ∷ []) in omega arith;
      rotations_wide = λ h. h;
      measurements_wide = λ h. h;
      rows_inside = λ h. h;
    }
step_appended {w = w} (measured width x z phase pivot k e a b c d f g) =
    let o = w.written in
    let j = join_of x z w in
    let row = measurement_row j.component (length o.merges) (length j.sources) k (eqb (length (remove_at k.pivot j.members)) 0) in
    let wider : length (o.merges ++ j.sources) ≡ length o.merges + length j.sources = length-append o.merges j.sources in record {
      grown = record {
        steps = (4 ∷ length o.measurements ∷ [], refl);
        merges = (j.sources, refl);
        rotations = begins_refl o.rotations;
        promotions = begins_refl o.promotions;
        measurements = (row ∷ [], refl);
      };
      steps_more = length-append o.steps (4 ∷ length o.measurements ∷ []);
      rows_more = let l = length-append o.measurements (row ∷ []) in omega arith;
      rotations_wide = λ h. h;
      measurements_wide = λ h. each_more (λ r. length r ≡ 19) o.measurements row h refl;
      rows_inside = λ h. (
        inside_wider (length o.merges) (length (o.merges ++ j.sources)) o.rotations (omega arith) h.0,
        each_more (λ r. row_merge_offset r + row_merge_count r ≤ length (o.merges ++ j.sources)) o.measurements row
            (inside_wider (length o.merges) (length (o.merges ++ j.sources)) o.measurements (omega arith) h.1) (omega arith),
      );
    }
step_appended {w = w} recorded = appended_none 0 0 w.written
step_appended {w = w} detected = appended_none 0 0 w.written
step_appended {w = w} expected = appended_none 0 0 w.written
step_appended {w = w} branched = appended_none 0 0 w.written

-- what a run writes
pub run_appended : {limit : ℕ} {w u : Walk} {is : List Instruction} → Run limit w is u → Appended (length is) w.written u.written
run_appended (done w) = appended_refl w.written
run_appended (more s r) = appended_then (step_appended s) (run_appended r)

-- ---- the laws of a run

-- and in a run
pub run_grown : {limit : ℕ} {w u : Walk} {is : List Instruction} → Run limit w is u → Grown w.written u.written
run_grown r = (run_appended r).grown

-- two words of steps a record
pub step_steps : {limit : ℕ} {w v : Walk} {i : Instruction} → Stepped limit w i v → length v.written.steps ≡ length w.written.steps + 2
step_steps s = (step_appended s).steps_more

-- so many for a run
pub run_steps : {limit : ℕ} {w u : Walk} {is : List Instruction} → Run limit w is u → length u.written.steps ≡ length w.written.steps + 2 * length is
run_steps r = (run_appended r).steps_more

-- at most one row a record
pub run_rows : {limit : ℕ} {w u : Walk} {is : List Instruction} → Run limit w is u → row_count u.written ≤ row_count w.written + length is
run_rows r = (run_appended r).rows_more

-- rotation rows keep their 21 words
pub run_rotations : {limit : ℕ} {w u : Walk} {is : List Instruction} → Run limit w is u → AllOf 21 w.written.rotations → AllOf 21 u.written.rotations
run_rotations r = (run_appended r).rotations_wide

-- measurement rows their 19
pub run_measurements : {limit : ℕ} {w u : Walk} {is : List Instruction} → Run limit w is u → AllOf 19 w.written.measurements → AllOf 19 u.written.measurements
run_measurements r = (run_appended r).measurements_wide

-- rows keep their parts of the merge list
pub run_inside : {limit : ℕ} {w u : Walk} {is : List Instruction} → Run limit w is u → Inside w.written → Inside u.written
run_inside r = (run_appended r).rows_inside

-- at the start no row is written
pub start_wide : (k n : ℕ) → AllOf n (start k).written.rotations × AllOf n (start k).written.measurements
unfolding start
start_wide k n = (λ i h. absurd (omega arith), λ i h. absurd (omega arith))

-- so none runs past the merge list
pub start_inside : (k : ℕ) → Inside (start k).written
unfolding start
start_inside k = (λ i h. absurd (omega arith), λ i h. absurd (omega arith))

-- ---- a walk that stops

-- a refusal's number is from 11 to 20. Each test hands on what it does not refuse itself
abbrev FromWalk : ℕ → Type 0
FromWalk m = (11 ≤ m) × (m ≤ 20)

-- a test of the walk
number_refuse : (t : Bool) (n : ℕ) (rest : Answer Walk) (m : ℕ) → FromWalk n → refuse t n rest ≡ refused m → (rest ≡ refused m → FromWalk m) → FromWalk m
number_refuse true n rest m h e later = let same : n ≡ m = cc in (omega (arith, h.0), omega (arith, h.1))
number_refuse false n rest m h e later = later e

-- a choice between two answers
number_cond : {A : Type 0} (t : Bool) (x y : Answer A) (m : ℕ) → cond t x y ≡ refused m → (x ≡ refused m → FromWalk m) → (y ≡ refused m → FromWalk m) → FromWalk m
number_cond true x y m e p q = p e
number_cond false x y m e p q = q e

-- an answer that is gone on with
number_when : {A : Type 0} (x : Answer A) (f : A → Walk) (m : ℕ) → when_given x (λ a. given (f a)) ≡ refused m → (x ≡ refused m → FromWalk m) → FromWalk m
number_when (given a) f m e p = let z : ◌≡◌ {A = ℕ} 0 1 = cc in absurd (omega arith)
number_when (refused n) f m e p = let same : n ≡ m = cc in p (ap refused same)

-- 14, where a dimension is too large
number_dimension : {A : Type 0} (d : Option ℕ) (f : ℕ → Answer A) (m : ℕ) → of_dimension d f ≡ refused m → ((n : ℕ) → f n ≡ refused m → FromWalk m) → FromWalk m
number_dimension None f m e p = let same : 14 ≡ m = cc in (omega arith, omega arith)
number_dimension (Some n) f m e p = p n e

-- a value is no refusal
number_given : {A : Type 0} {a : A} {m : ℕ} → given a ≡ refused m → FromWalk m
number_given e = let z : ◌≡◌ {A = ℕ} 0 1 = cc in absurd (omega arith)

-- a number of the walk
number_is : {A : Type 0} (n : ℕ) {m : ℕ} → FromWalk n → ◌≡◌ {A = Answer A} (refused n) (refused m) → FromWalk m
number_is n {m} h e = let same : n ≡ m = cc in (omega (arith, h.0), omega (arith, h.1))

-- 11 and 14
number_rotate : (limit : ℕ) (w : Walk) (width x z phase : ℕ) (angle sine cosine : Float) (m : ℕ)
    → rotate limit w width x z phase angle sine cosine ≡ refused m → FromWalk m
unfolding rotate
number_rotate limit w width x z phase angle sine cosine m e =
    number_refuse (not (eqb width (length w.order))) 11 _ m (omega arith) e λ f.
    number_cond (eqb (length w.order) 0) _ _ m f number_given λ g.
    number_refuse (is_none (dimension limit (length (join_of x z w).members))) 14 _ m (omega arith) g λ h.
    number_when (rotation limit (local_action x z phase w (join_of x z w)) phase angle sine cosine) (λ k. rotation_step w (join_of x z w) k) m h λ i.
    number_dimension (dimension limit (length (join_of x z w).members)) _ m i λ n. number_given

-- 14 and 17 to 20, the kernel's
number_measurement : (limit : ℕ) (a : ActivePauliAction) (phase pivot m : ℕ) → measurement limit a phase pivot ≡ refused m → FromWalk m
number_measurement limit a phase pivot m e =
    number_dimension (dimension limit a.nqubits) _ m e λ n f.
    number_cond (not (eqb a.xmask 0)) _ _ m f
    (λ g. number_cond (eqb (bit_at a.xmask pivot) 0) _ _ m g (number_is 17 (omega arith)) number_given)
    λ g. number_cond (not (eqb a.zmask 0)) _ _ m g
    (λ h. number_cond (eqb (bit_at a.zmask pivot) 0) _ _ m h (number_is 18 (omega arith))
    λ i. number_cond (imaginary phase) _ _ m i (number_is 19 (omega arith)) number_given)
    (number_is 20 (omega arith))

-- 12 to 16, and those
number_measure : (limit : ℕ) (w : Walk) (width x z phase pivot m : ℕ) → measure limit w width x z phase pivot ≡ refused m → FromWalk m
unfolding measure
number_measure limit w width x z phase pivot m e =
    number_refuse (not (eqb width (length w.order))) 12 _ m (omega arith) e λ f.
    number_refuse (eqb (length w.order) 0) 13 _ m (omega arith) f λ g.
    number_refuse (is_none (dimension limit (length (join_of x z w).members))) 14 _ m (omega arith) g λ h.
    number_refuse (not (ltb pivot (length w.order))) 15 _ m (omega arith) h λ i.
    number_refuse (not (is_in (get_or w.order pivot 0) (join_of x z w).members)) 16 _ m (omega arith) i λ j.
    number_when _ (λ k. measurement_step w (join_of x z w) pivot k) m j
    (number_measurement limit (local_action x z phase w (join_of x z w)) phase (place_of (get_or w.order pivot 0) (join_of x z w).members) m)

-- of any instruction
number_step : (limit : ℕ) (w : Walk) (i : Instruction) (m : ℕ) → step limit w i ≡ refused m → FromWalk m
unfolding step
number_step limit w (Rotation width x z phase angle sine cosine) m e = number_rotate limit w width x z phase angle sine cosine m e
number_step limit w Promotion m e = number_given e
number_step limit w (Measurement width x z phase pivot) m e = number_measure limit w width x z phase pivot m e
number_step limit w RecordMeasurement m e = number_given e
number_step limit w RecordDetector m e = number_given e
number_step limit w Expectation m e = number_given e
number_step limit w DormantBranch m e = number_given e

-- a walk stops at one of its records, with a number from 11 to 20
pub stopped_index : (limit index : ℕ) (w : Walk) (is : List Instruction) (n j : ℕ) → walk_from limit index w is ≡ refused_at n j
    → (index ≤ j) × (j < index + length is) × (11 ≤ n) × (n ≤ 20)
unfolding walk_from
stopped_index limit index w [] n j e = let z : ◌≡◌ {A = ℕ} 0 1 = cc in absurd (omega arith)
stopped_index limit index w (i ∷ is) n j e = go (step limit w i) refl e (λ v. stopped_index limit (suc index) v is n j)
  where
    go : (x : Answer Walk) → step limit w i ≡ x → onward x index (λ v. walk_from limit (suc index) v is) ≡ refused_at n j
        → ((v : Walk) → walk_from limit (suc index) v is ≡ refused_at n j → (suc index ≤ j) × (j < suc index + length is) × (11 ≤ n) × (n ≤ 20))
        → (index ≤ j) × (j < index + suc (length is)) × (11 ≤ n) × (n ≤ 20)
    go (given v) p f later = let r = later v f in (omega (arith, r.0), omega (arith, r.1), r.2, r.3)
    go (refused m) p f later =
        let r = number_step limit w i m p in
        let number_same : m ≡ n = cc in
        let index_same : index ≡ j = cc in (omega arith, omega arith, omega (arith, r.0), omega (arith, r.1))

-- ---- a plan that is refused

-- a refusal's index is 0 or a record's
abbrev Indexed : List ℕ → Result → Type 0
Indexed ws r = (n j : ℕ) → r ≡ refused_at n j → (j ≡ 0) ⊎ (j < length ws / 8)

-- 0, for head and buffers
indexed_first : (ws : List ℕ) (number : ℕ) → Indexed ws (refused_at number 0)
indexed_first ws number n j e = inl (let z : 0 ≡ j = cc in omega arith)

-- a plan is no refusal
indexed_plan : (ws : List ℕ) (p : Plan) → Indexed ws (completed p)
indexed_plan ws p n j e = let z : ◌≡◌ {A = ℕ} 0 1 = cc in absurd (omega arith)

-- a test of head and buffers
indexed_refuse : (ws : List ℕ) (t : Bool) (number : ℕ) (rest : Result) → Indexed ws rest → Indexed ws (refuse_all t number rest)
indexed_refuse ws true number rest r = indexed_first ws number
indexed_refuse ws false number rest r = r

-- the walk's
indexed_walk : (limit initial dense_peak : ℕ) (ws : List ℕ) → Indexed ws (after_walk initial dense_peak (walk_from limit 0 (start initial) (instructions_of ws)))
indexed_walk limit initial dense_peak ws = go (walk_from limit 0 (start initial) (instructions_of ws)) refl
  where
    go : (x : Walked) → walk_from limit 0 (start initial) (instructions_of ws) ≡ x → Indexed ws (after_walk initial dense_peak x)
    go (completed w) f n j e = indexed_plan ws _ n j e
    go (refused_at m i) f n j e =
        let s = stopped_index limit 0 (start initial) (instructions_of ws) m i f in
        let l = instructions_length ws in
        let same : i ≡ j = cc in inr (omega (arith, s.1))

-- the record pass's, and then the walk's
indexed_pass : (limit initial dense_peak : ℕ) (ws : List ℕ) → Indexed ws (after_pass limit initial dense_peak ws (record_pass initial ws))
indexed_pass limit initial dense_peak ws = go (record_pass initial ws) refl
  where
    go : (x : Checked) → record_pass initial ws ≡ x → Indexed ws (after_pass limit initial dense_peak ws x)
    go (completed passed) f n j e = indexed_walk limit initial dense_peak ws n j e
    go (refused_at m i) f n j e =
        let s = refused_in initial ws m i f in
        let same : i ≡ j = cc in inr (omega (arith, s.index_below))

-- planning refuses with the index 0 or a record's
pub refused_index : (h : Head) (ws : List ℕ) (l : Lengths) (n j : ℕ) → plan_of h ws l ≡ refused_at n j → (j ≡ 0) ⊎ (j < length ws / 8)
unfolding plan_of plan_read
refused_index h ws l = indexed_refuse ws (ceiling_refused h) 24 _ (go (max_dimension h))
  where
    read : (dense_peak : ℕ) → Indexed ws (plan_read h ws l dense_peak)
    read dense_peak =
        indexed_refuse ws (words_refused ws) 2 _
        (indexed_refuse ws (buffers_refused (length ws / 8) l) 3 _
        (indexed_refuse ws (ltb 512 h.initial_k) 4 _
        (indexed_pass h.ceiling h.initial_k dense_peak ws)))

    either : (t : Bool) (p : Plan) (r : Result) → Indexed ws r → Indexed ws (cond t (completed p) r)
    either true p r i = indexed_plan ws p
    either false p r i = i

    go : (d : Option ℕ) → Indexed ws (for_dense_peak h ws l d)
    go None = indexed_first ws 1
    go (Some dense_peak) = either (unread h) _ _ (read dense_peak)
