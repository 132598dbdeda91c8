-- Every word of an accepted plan is below 2 ^ 64: lengths and numbers of components, rows and sources are bounded by the records, masks and dimensions by a
-- size below 64, and every float is a constant, a rounded sum or product, or a number of the record, so that binary64 holds it and its bits are a word.
use Rattle.std.specs.Prelude.{Option, Some, None}
use mathlib.Core.Path.{◌≡◌, refl, sym, ◌∙◌, subst}
use mathlib.Core.Bool.{Bool, true, false, cond, not}
use mathlib.Core.List.{List, [], ◌∷◌, ◌++◌}
use Prim.Native.Nat.{ℕ, zero, suc, ◌/◌, ◌%◌, ◌^◌, ◌≤◌, ◌<◌, min}
use native.Mathlib.Omega.{arith}
use lib.Dec.{T, eqb, ltb}
use lib.ListN.{length, get_or, length-append}
use lib.Bits.{bit_and}
use lib.Ieee.{Float, binary64, fits, neg}
use lib.Ieee.Bits.{of_bits-fits}
use lib.Ieee.Fits.{neg-fits, add-fits, sub-fits, mul-fits}
use borrow.Author.Tests.{ltb-true, ltb-false}
use Rattle.words.specs.Words.{AreWords}
use Rattle.words.proofs.Patches.{begins_length}
use Rattle.words.proofs.Words.{below_each, words_append, cond_word, power_word, flag_word_lem, FloatFits, float_word}
use Rattle.kernels.specs.Bits.{odd_ones, dimension, bit_at, without_bit, highest_bit}
use Rattle.refusals.specs.Answer.{Answer, given, refused, completed}
use Rattle.kernels.specs.Active.{unit_power, phase_factor, odd_phase, action, imaginary, of_dimension, rotation_kernel, rotation, measurement_kernel, measurement}
use Rattle.kernels.specs.declared.active.Complex64.{Complex64}
use Rattle.kernels.specs.declared.active.ActivePauliAction.{ActivePauliAction}
use Rattle.kernels.specs.declared.active.PrecomputedActivePauliRotationKernel.{PrecomputedActivePauliRotationKernel}
use Rattle.kernels.specs.declared.active.PrecomputedActivePauliMeasurementKernel.{PrecomputedActivePauliMeasurementKernel}
use Rattle.records.specs.Record.{kind, width, x_mask, z_mask, phase, pivot, flag, measurement_of, instructions_by_kind, instruction_of, record_at, instructions_of}
use Rattle.records.specs.declared.Head.{Head}
use Rattle.records.specs.declared.Instruction.{Instruction}
use Rattle.records.specs.declared.Instruction.TheVariants.{Rotation, Promotion, RecordMeasurement, RecordDetector, Measurement, Expectation, DormantBranch}
use Rattle.records.proofs.Laws.{instructions_length, instruction_at}
use Rattle.plan_spec.specs.Lists.{remove_at, concat}
use Rattle.plan_spec.specs.Rows.{step_row}
use Rattle.plan_spec.specs.Components.{local_mask, allocated_for}
use Rattle.plan_spec.specs.Walk.{Walk, join_of, local_action, pair_words, row_head, rotation_row, measurement_row, start, no_step, ignored_step, promotion_step, rotation_step, measurement_step}
use Rattle.plan_spec.specs.Plan.{Lengths, Plan, unread, unread_plan, plan_from, max_dimension, for_dense_peak, plan_of}
use Rattle.plan_spec.specs.Connectivity.{ActiveOrder, active_start, active_step}
use Rattle.plan_spec.specs.Laws.{HasPlanWords, HasPlanCounts}
use Rattle.plan_spec.proofs.Counting.{member_at, place_below}
use Rattle.plan_spec.proofs.Steps.{cond_yes, Stepped, ignored, rotated, promoted, measured, recorded, detected, expected, branched, Run, done, more}
use Rattle.plan_spec.proofs.LocalBits.{local_below}
use Rattle.plan_spec.proofs.Invariant.{source_below}
use Rattle.plan_spec.proofs.Tracking.{Tracked, active_of, tracked_here, target_below, start_tracked, step_tracked}
use Rattle.plan_spec.proofs.Growth.{concat_more, row_count, run_grown, length_concat, run_rotations, run_measurements, start_wide}
use Rattle.plan_spec.proofs.Accepted.{ceiling_passed, accepted}
use Rattle.plan_spec.proofs.Room.{Narrow, longest_count, steps_count, run_components, start_components, component_count, rows_most, merges_most, peak_below, passed_narrow, passed_promotions, or-false}
use Rattle.plan_spec.proofs.Sizes.{reached_longest}

-- ---- floats that binary64 holds

-- two of them
pair_words_lem : (c : Complex64) → FloatFits c.re → FloatFits c.im → AreWords (pair_words c)
pair_words_lem c p q = (float_word c.re p, (float_word c.im q, tt))

-- a phase's
unit_fits : (n : ℕ) → FloatFits (unit_power n).re × FloatFits (unit_power n).im
unfolding fits neg
unit_fits zero = (tt, tt)
unit_fits (suc zero) = (tt, tt)
unit_fits (suc (suc zero)) = (tt, tt)
unit_fits (suc (suc (suc n))) = (tt, tt)

-- an instruction's
abbrev pub FloatsFit : Instruction → Type 0
FloatsFit (Rotation width x z phase angle sine cosine) = FloatFits angle × FloatFits sine × FloatFits cosine
FloatsFit Promotion = Unit
FloatsFit RecordMeasurement = Unit
FloatsFit RecordDetector = Unit
FloatsFit (Measurement width x z phase pivot) = Unit
FloatsFit Expectation = Unit
FloatsFit DormantBranch = Unit

-- those of all instructions
abbrev pub AllFloatsFit : List Instruction → Type 0
AllFloatsFit is = (i : ℕ) → i < length is → FloatsFit (get_or is i DormantBranch)

-- a record's floats are read from bits
record_floats : (r : List ℕ) → FloatsFit (instruction_of r)
unfolding instruction_of measurement_of
record_floats r = by_kind (kind r)
  where
    by_flag : (f : ℕ) → FloatsFit (get_or (Measurement (width r) (x_mask r) (z_mask r) (phase r) (pivot r) ∷ []) f Expectation)
    by_flag zero = tt
    by_flag (suc f) = tt

    by_kind : (n : ℕ) → FloatsFit (get_or (instructions_by_kind r) n DormantBranch)
    by_kind zero = (of_bits-fits binary64 _, of_bits-fits binary64 _, of_bits-fits binary64 _)
    by_kind (suc zero) = tt
    by_kind (suc (suc zero)) = tt
    by_kind (suc (suc (suc zero))) = tt
    by_kind (suc (suc (suc (suc zero)))) = by_flag (flag r)
    by_kind (suc (suc (suc (suc (suc zero))))) = tt
    by_kind (suc (suc (suc (suc (suc (suc n)))))) = tt

-- so are those of the instructions
pub instruction_floats : (ws : List ℕ) → AllFloatsFit (instructions_of ws)
instruction_floats ws i h =
    let n = instructions_length ws in subst FloatsFit (sym (instruction_at ws i DormantBranch (omega arith))) (record_floats (record_at ws i))

-- ---- rows

-- a dimension is a power of two below 2 ^ 64
dimension_word : (limit k n : ℕ) → dimension limit k ≡ Some n → n < 2 ^ 64
unfolding dimension
dimension_word limit k n = go (ltb k (min limit 64)) refl
  where
    go : (t : Bool) → ltb k (min limit 64) ≡ t → cond t (Some (2 ^ k)) None ≡ Some n → n < 2 ^ 64
    go true e f =
        let same : 2 ^ k ≡ n = cc in
        let l = ltb-true k (min limit 64) e in
        let m = power_word k (omega arith) in omega arith
    go false e f = let z : ◌≡◌ {A = ℕ} 0 1 = cc in absurd (omega arith)

-- a law of what an answer gives
abbrev Given : {A : Type 0} → (A → Type 0) → Answer A → Type 0
Given P (given a) = P a
Given P (refused n) = Unit

-- of either of two answers
given_cond : {A : Type 0} (P : A → Type 0) (t : Bool) (x y : Answer A) → Given P x → Given P y → Given P (cond t x y)
given_cond P true x y p q = p
given_cond P false x y p q = q

-- and of an answer for a dimension
given_dimension : {A : Type 0} (P : A → Type 0) (d : Option ℕ) (f : ℕ → Answer A) → ((n : ℕ) → d ≡ Some n → Given P (f n)) → Given P (of_dimension d f)
given_dimension P None f h = tt
given_dimension P (Some n) f h = h n refl

-- the first eleven words
head_words : (component offset count size x z phase : ℕ) → component < 2 ^ 64 → offset < 2 ^ 64 → count < 2 ^ 64 → size < 64 → x < 2 ^ 64 → z < 2 ^ 64
    → AreWords (row_head component offset count (action size x z phase))
unfolding row_head
head_words component offset count size x z phase c o n s p q =
    let unit = unit_fits (phase % 4) in
    let even = pair_words_lem (phase_factor phase) unit.0 unit.1 in
    let odd = pair_words_lem (odd_phase (phase_factor phase)) (neg-fits binary64 _ unit.0) (neg-fits binary64 _ unit.1) in
    let overlap = flag_word_lem (odd_ones (bit_and x z)) in omega arith

module _ (limit component offset count size x z phase : ℕ) (head : AreWords (row_head component offset count (action size x z phase))) where
  -- the action
  abbrev act : ActivePauliAction
  act = action size x z phase

  -- a rotation's row
  rotation_words : (angle sine cosine : Float) (k : PrecomputedActivePauliRotationKernel) → FloatsFit (Rotation size x z phase angle sine cosine)
      → rotation limit act phase angle sine cosine ≡ given k → AreWords (rotation_row component offset count k)
  unfolding rotation_row row_head highest_bit
  rotation_words angle sine cosine made floats e =
      subst (Given (λ k. AreWords (rotation_row component offset count k))) e (given_dimension _ (dimension limit size) _ λ n f.
      let k = rotation_kernel n act phase angle sine cosine in
      let diagonal = flag_word_lem k.is_diagonal in
      let uniform = flag_word_lem k.uniform_imag_pairs in
      let flip = flag_word_lem k.real_pair_flip in
      let bit = cond_word (eqb x 0) 0 (highest_bit x) (omega arith) (omega arith) in
      let d = dimension_word limit size n f in
      let pairs = cond_word (eqb x 0) 0 (n / 2) (omega arith) (omega arith) in
      let a = float_word angle floats.0 in
      let s = float_word sine floats.1 in
      let c = float_word cosine floats.2 in
      let coefficient = pair_words_lem k.minus_even_coefficient (sub-fits binary64 _ _) (add-fits binary64 _ _) in omega arith)

  -- a measurement's
  measurement_words : (pivot : ℕ) (deactivated : Bool) (k : PrecomputedActivePauliMeasurementKernel) → pivot < 2 ^ 64 → z < 2 ^ 64
      → measurement limit act phase pivot ≡ given k → AreWords (measurement_row component offset count k deactivated)
  unfolding measurement_row row_head
  measurement_words pivot deactivated made p q e =
      subst (Given Row) e (given_dimension Row (dimension limit size) _ λ n f.
      given_cond Row (not (eqb x 0)) _ _
      (given_cond Row (eqb (bit_at x pivot) 0) _ _ tt (row n f false 0 0 (omega arith) (omega arith)))
      (given_cond Row (not (eqb z 0)) _ _
      (given_cond Row (eqb (bit_at z pivot) 0) _ _ tt
      (given_cond Row (imaginary phase) _ _ tt (row n f true (phase % 4 / 2) (without_bit z pivot) (omega arith) (omega arith))))
      tt))
    where
      Row : PrecomputedActivePauliMeasurementKernel → Type 0
      Row k = AreWords (measurement_row component offset count k deactivated)

      row : (n : ℕ) → dimension limit size ≡ Some n → (diagonal : Bool) (bit rest : ℕ) → bit < 2 ^ 64 → rest < 2 ^ 64
          → Row (measurement_kernel n act pivot diagonal bit rest)
      row n f diagonal bit rest b r =
          let d = dimension_word limit size n f in
          let first = flag_word_lem diagonal in
          let last = flag_word_lem deactivated in
          let k = measurement_kernel n act pivot diagonal bit rest in
          let coefficient = pair_words_lem k.nondiagonal_coefficient1_even (mul-fits binary64 _ _) (mul-fits binary64 _ _) in omega arith

-- ---- states of the walk

-- lengths that a word holds
record Few (w : Walk) : Type 0 where
  components : length w.components < 2 ^ 64
  merges : length w.written.merges < 2 ^ 64
  rows : row_count w.written < 2 ^ 64

-- outputs only grow, so they were no longer before
few_before : {limit : ℕ} {w u : Walk} {is : List Instruction} → Run limit w is u → Few u → Few w
few_before {w = w} {u = u} run few =
    let o = w.written in
    let v = u.written in
    let g = run_grown run in
    let c = run_components run in
    let merges = begins_length o.merges v.merges g.merges in
    let rotations = begins_length o.rotations v.rotations g.rotations in
    let promotions = begins_length o.promotions v.promotions g.promotions in
    let measurements = begins_length o.measurements v.measurements g.measurements in
    record { components = omega (arith, few.components); merges = omega (arith, few.merges); rows = omega (arith, few.rows) }

-- what was written so far is words, and binary64 holds the works
record Worded (w : Walk) : Type 0 where
  steps : AreWords w.written.steps
  merges : AreWords w.written.merges
  rotations : AreWords (concat w.written.rotations)
  promotions : AreWords w.written.promotions
  measurements : AreWords (concat w.written.measurements)
  dense : FloatFits w.dense_work
  component : FloatFits w.component_work

-- one step more
step_more : (kind payload : ℕ) (steps : List ℕ) → kind < 2 ^ 64 → payload < 2 ^ 64 → AreWords steps → AreWords (steps ++ step_row kind payload)
step_more kind payload steps k l p = words_append steps (step_row kind payload) p (k, (l, tt))

-- one row more
row_more : (rows : List (List ℕ)) (row : List ℕ) → AreWords (concat rows) → AreWords row → AreWords (concat (rows ++ (row ∷ [])))
row_more rows row p q = subst AreWords (sym (concat_more rows row)) (words_append (concat rows) row p q)

-- a local mask has a bit for each member
mask_word : (mask : ℕ) (order members : List ℕ) → length members < 64 → local_mask mask order members < 2 ^ 64
mask_word mask order members size = let b = local_below mask order members in let p = power_word (length members) size in omega arith

module _ (w : Walk) (r : ActiveOrder) (t : Tracked w r) (x z : ℕ) (few : Few w) where
  -- sources are numbers of components
  sources_words : AreWords (join_of x z w).sources
  unfolding join_of
  sources_words = below_each (join_of x z w).sources λ i h.
      let b = source_below w.components (active_of w r) (tracked_here w r t) x z _ (member_at (join_of x z w).sources i h) in omega (arith, few.components)

  -- the first eleven words of the join's row
  join_words : (phase : ℕ) → 0 < length w.order → length (join_of x z w).members < 64 → length (w.written.merges ++ (join_of x z w).sources) < 2 ^ 64
      → AreWords (row_head (join_of x z w).component (length w.written.merges) (length (join_of x z w).sources) (local_action x z phase w (join_of x z w)))
  join_words phase active size later =
      let target = target_below w r t x z active in
      let l = length-append w.written.merges (join_of x z w).sources in
      head_words _ _ _ _ _ _ phase (omega (arith, few.components)) (omega arith) (omega arith) size
      (mask_word x w.order (join_of x z w).members size) (mask_word z w.order (join_of x z w).members size)

-- a step that writes no row
kept_worded : (w : Walk) → Worded w → Worded (no_step w)
unfolding no_step
kept_worded w p = record {
  steps = step_more 0 0 w.written.steps (omega arith) (omega arith) p.steps;
  merges = p.merges;
  rotations = p.rotations;
  promotions = p.promotions;
  measurements = p.measurements;
  dense = p.dense;
  component = p.component;
}

-- an accepted step keeps the law
step_worded : {limit : ℕ} {w v : Walk} {i : Instruction} (r : ActiveOrder) → Stepped limit w i v → Tracked w r → FloatsFit i → Few w → Few v → Worded w → Worded v
unfolding ignored_step promotion_step rotation_step measurement_step
step_worded {w = w} r (ignored x z phase angle sine cosine empty) t floats few later p = record {
  steps = step_more 1 0 w.written.steps (omega arith) (omega arith) p.steps;
  merges = p.merges;
  rotations = p.rotations;
  promotions = p.promotions;
  measurements = p.measurements;
  dense = add-fits binary64 _ _;
  component = p.component;
}
step_worded {limit = limit} {w = w} r (rotated width x z phase angle sine cosine k wide active small size made) t floats few later p =
    let o = w.written in
    let j = join_of x z w in
    let head = join_words w r t x z few phase active size later.merges in record {
      steps = step_more 2 (length o.rotations) o.steps (omega arith) (omega (arith, few.rows)) p.steps;
      merges = words_append o.merges j.sources p.merges (sources_words w r t x z few);
      rotations = row_more o.rotations _ p.rotations
          (rotation_words limit j.component (length o.merges) (length j.sources) _ _ _ phase head angle sine cosine k floats made);
      promotions = p.promotions;
      measurements = p.measurements;
      dense = add-fits binary64 _ _;
      component = add-fits binary64 _ _;
    }
step_worded {w = w} r promoted t floats few later p =
    let o = w.written in record {
      steps = step_more 3 (length o.promotions) o.steps (omega arith) (omega (arith, few.rows)) p.steps;
      merges = p.merges;
      rotations = p.rotations;
      promotions = words_append o.promotions (length w.components ∷ []) p.promotions (few.components, tt);
      measurements = p.measurements;
      dense = add-fits binary64 _ _;
      component = add-fits binary64 _ _;
    }
step_worded {limit = limit} {w = w} r (measured width x z phase pivot k wide active small size below inside made) t floats few later p =
    let o = w.written in
    let j = join_of x z w in
    let place = place_below (get_or w.order pivot 0) j.members inside in
    let head = join_words w r t x z few phase active size later.merges in record {
      steps = step_more 4 (length o.measurements) o.steps (omega arith) (omega (arith, few.rows)) p.steps;
      merges = words_append o.merges j.sources p.merges (sources_words w r t x z few);
      rotations = p.rotations;
      promotions = p.promotions;
      measurements = row_more o.measurements _ p.measurements
          (measurement_words limit j.component (length o.merges) (length j.sources) _ _ _ phase head _ (eqb (length (remove_at k.pivot j.members)) 0) k
          (omega arith) (mask_word z w.order j.members size) made);
      dense = add-fits binary64 _ _;
      component = add-fits binary64 _ _;
    }
step_worded {w = w} r recorded t floats few later p = kept_worded w p
step_worded {w = w} r detected t floats few later p = kept_worded w p
step_worded {w = w} r expected t floats few later p = kept_worded w p
step_worded {w = w} r branched t floats few later p = kept_worded w p

-- so does a run that ends with few of each
run_worded : {limit : ℕ} {w u : Walk} {is : List Instruction} (r : ActiveOrder) → Run limit w is u → Tracked w r → AllFloatsFit is → Few u → Worded w → Worded u
run_worded r (done w) t floats few p = p
run_worded r (more {i = i} s rest) t floats few p =
    run_worded (active_step r i) rest (step_tracked r s t) (λ j h. floats (suc j) (omega arith)) few
    (step_worded r s t (floats zero (omega arith)) (few_before (more s rest) few) (few_before rest few) p)

-- nothing is written at the start, and the works are 0
start_worded : (k : ℕ) → Worded (start k)
unfolding start fits
start_worded k = record { steps = tt; merges = tt; rotations = tt; promotions = tt; measurements = tt; dense = tt; component = tt }

-- ---- plans

-- the walk that a plan is made from, be it read or not, over at most n instructions
record Made (limit initial n : ℕ) (p : Plan) : Type 0 where
  start_size : ℕ
  instructions : List Instruction
  last : Walk
  dense_peak : ℕ
  run : Run limit (start start_size) instructions last
  narrow : Narrow instructions
  floats : AllFloatsFit instructions
  short : length instructions ≤ 1024
  within : length instructions ≤ n
  few : length last.components ≤ 512
  dense_word : dense_peak < 2 ^ 64
  plan_is : p ≡ plan_from initial dense_peak last

-- a plan that read nothing is made from a walk over no records
unread_made : (h : Head) (ws : List ℕ) (l : Lengths) (p : Plan) → unread h ≡ true → plan_of h ws l ≡ completed p → Made h.ceiling h.initial_k (length ws / 8) p
unfolding unread_plan
unread_made h ws l p u e = go (max_dimension h) refl (ceiling_passed h ws l p e).1
  where
    go : (d : Option ℕ) → dimension h.ceiling h.max_k ≡ d → for_dense_peak h ws l d ≡ completed p → Made h.ceiling h.initial_k (length ws / 8) p
    go None f e = let z : ◌≡◌ {A = ℕ} 0 1 = cc in absurd (omega arith)
    go (Some dense_peak) f e =
        let g : completed (unread_plan h.initial_k dense_peak) ≡ completed p = sym (cond_yes (unread h) _ _ u) ∙ e in
        let same : p ≡ unread_plan h.initial_k dense_peak = cc in record {
          start_size = 0;
          instructions = [];
          last = start 0;
          dense_peak = dense_peak;
          run = done (start 0);
          narrow = λ i k. absurd (omega arith);
          floats = λ i k. absurd (omega arith);
          short = omega arith;
          within = omega arith;
          few = let c = start_components 0 in omega arith;
          dense_word = dimension_word h.ceiling h.max_k dense_peak f;
          plan_is = same;
        }

-- every other from that over its records
read_made : (h : Head) (ws : List ℕ) (l : Lengths) (p : Plan) → unread h ≡ false → plan_of h ws l ≡ completed p → Made h.ceiling h.initial_k (length ws / 8) p
read_made h ws l p u e =
    let k = h.initial_k in
    let a = accepted h ws l p u e in
    let words = ltb-false 8192 (length ws) (or-false (not (eqb (length ws % 8) 0)) (ltb 8192 (length ws)) a.words).1 in
    let count = component_count k a.run in
    let most = passed_promotions k ws a.initial_small a.passed in record {
      start_size = k;
      instructions = instructions_of ws;
      last = a.last;
      dense_peak = a.dense_peak;
      run = a.run;
      narrow = passed_narrow k ws a.passed;
      floats = instruction_floats ws;
      short = let n = instructions_length ws in omega arith;
      within = let n = instructions_length ws in omega arith;
      few = omega arith;
      dense_word = dimension_word h.ceiling h.max_k a.dense_peak a.dimension_given;
      plan_is = a.plan_is;
    }

-- so is every plan
plan_made : (h : Head) (ws : List ℕ) (l : Lengths) (p : Plan) → plan_of h ws l ≡ completed p → Made h.ceiling h.initial_k (length ws / 8) p
plan_made h ws l p e = go (unread h) refl
  where
    go : (t : Bool) → unread h ≡ t → Made h.ceiling h.initial_k (length ws / 8) p
    go true u = unread_made h ws l p u e
    go false u = read_made h ws l p u e

module _ {limit initial n : ℕ} {p : Plan} (m : Made limit initial n p) where
  -- few records make few of everything
  made_few : Few m.last
  made_few = record {
    components = omega (arith, m.few);
    merges = let l = merges_most m.start_size m.run m.narrow m.few in omega (arith, m.short);
    rows = let l = rows_most m.start_size m.run in omega (arith, m.short);
  }

  -- so all that was written is words
  made_worded : Worded m.last
  made_worded = run_worded (active_start m.start_size) m.run (start_tracked m.start_size) m.floats made_few (start_worded m.start_size)

  -- the words of its plan
  made_words : initial < 2 ^ 64 → HasPlanWords (plan_from initial m.dense_peak m.last)
  unfolding plan_from allocated_for
  made_words small =
      let w = made_worded in record {
        steps = w.steps;
        merges = w.merges;
        sizes = below_each m.last.longest λ i h. let b = reached_longest 64 (omega arith) (omega arith) m.start_size m.run i in omega arith;
        rotations = w.rotations;
        promotions = w.promotions;
        measurements = w.measurements;
        initial_components = small;
        component_count = made_few.components;
        dense_work = float_word _ w.dense;
        component_work = float_word _ w.component;
        dense_peak = m.dense_word;
        peak = let b = peak_below m.start_size m.run m.narrow m.few in omega arith;
        allocated = omega arith;
      }

  -- its words in number
  made_counts : HasPlanCounts n (plan_from initial m.dense_peak m.last)
  unfolding plan_from
  made_counts =
      let k = m.start_size in
      let steps = steps_count k m.run in
      let merges = merges_most k m.run m.narrow m.few in
      let sizes = longest_count k m.run in
      let rotations = length_concat 21 m.last.written.rotations (run_rotations m.run (start_wide k 21).0) in
      let measurements = length_concat 19 m.last.written.measurements (run_measurements m.run (start_wide k 19).1) in
      let rows = rows_most k m.run in record {
        steps = omega arith;
        sizes = sizes;
        rotations = omega arith;
        measurements = omega arith;
        most = omega (arith, m.within, m.few);
        few = omega (arith, m.short, m.few);
      }

  -- the works of its plan
  made_fits : FloatFits (plan_from initial m.dense_peak m.last).dense_work × FloatFits (plan_from initial m.dense_peak m.last).component_work
  unfolding plan_from
  made_fits = (made_worded.dense, made_worded.component)

-- every word of an accepted plan is below 2 ^ 64; initial_k is copied, also where nothing is read
pub plan_words : (h : Head) (ws : List ℕ) (l : Lengths) (p : Plan) → h.initial_k < 2 ^ 64 → plan_of h ws l ≡ completed p → HasPlanWords p
plan_words h ws l p small e = let m = plan_made h ws l p e in subst HasPlanWords (sym m.plan_is) (made_words m small)

-- and binary64 holds its works, so that they come back from their bits
pub works_fit : (h : Head) (ws : List ℕ) (l : Lengths) (p : Plan) → plan_of h ws l ≡ completed p
    → T (fits binary64 p.dense_work) × T (fits binary64 p.component_work)
works_fit h ws l p e =
    let m = plan_made h ws l p e in
    subst (λ (q : Plan). FloatFits q.dense_work × FloatFits q.component_work) (sym m.plan_is) (made_fits m)

-- rows and steps are whole, and there are few of each
pub plan_counts : (h : Head) (ws : List ℕ) (l : Lengths) (p : Plan) → plan_of h ws l ≡ completed p → HasPlanCounts (length ws / 8) p
plan_counts h ws l p e = let m = plan_made h ws l p e in subst (HasPlanCounts (length ws / 8)) (sym m.plan_is) (made_counts m)
