-- The walk over the instructions, one step for each, with refusals 11 to 20. Written from 01, section 4, and its table "Where planning stops"; the whole works
-- that go along with it are 02's, CR 1.
use Rattle.std.specs.Prelude.{ℕ, suc, ◌+◌, ◌*◌, ◌^◌, max, List, [], ◌∷◌, ◌++◌, map, Bool, true, false, if◌then◌else◌, not, nat_lt, ◌==◌, length, get_or, set, replicate, pos, Float, Option, Some, None}
use Rattle.std.specs.Float.{fin, binary64}
use Rattle.std.specs.Float.Ieee.{add, mul, to_bits}
use Rattle.words.specs.Lists.{numbers_from}
use Rattle.words.specs.Words.{flag_word, bits_word}
use Rattle.kernels.specs.Bits.{odd_ones, highest_bit, exp2, dimension}
use Rattle.refusals.specs.Answer.{Answer, Outcome, given, refused, completed, refused_at}
use Rattle.kernels.specs.Active.{action, rotation, measurement}
use Rattle.kernels.specs.declared.active.Complex64.{Complex64}
use Rattle.kernels.specs.declared.active.ActivePauliAction.{ActivePauliAction}
use Rattle.kernels.specs.declared.active.PrecomputedActivePauliRotationKernel.{PrecomputedActivePauliRotationKernel}
use Rattle.kernels.specs.declared.active.PrecomputedActivePauliMeasurementKernel.{PrecomputedActivePauliMeasurementKernel}
use Rattle.records.specs.declared.Instruction.{Instruction}
use Rattle.records.specs.declared.Instruction.TheVariants.{Rotation, Promotion, RecordMeasurement, RecordDetector, Measurement, Expectation, DormantBranch}
use Rattle.plan_spec.specs.Rows.{no_kind, ignored_kind, rotation_kind, promotion_kind, measurement_kind, step_row}
use Rattle.plan_spec.specs.Lists.{is_in, place_of, remove_at}
use Rattle.plan_spec.specs.Components.{touched, sources_of, gathered, joined, joining_cost, live_dimension, local_mask, float_two}
use Rattle.plan_spec.specs.WholeWorks.{WholeSums, first_sums, with_works, whole_joining_cost}

-- ---- the state

-- the steps, the merge list and the rows that were written so far; a row is the list of its words
pub record Written : Type 0 where
  pub steps : List ℕ
  pub merges : List ℕ
  pub rotations : List (List ℕ)
  pub promotions : List ℕ
  pub measurements : List (List ℕ)

pub record Walk : Type 0 where
  pub order : List ℕ
  pub components : List (List ℕ)
  pub longest : List ℕ
  pub dense_work : Float
  pub component_work : Float
  pub whole : WholeSums
  pub peak : ℕ
  pub quantum : ℕ
  pub written : Written

-- "Start: coordinates 0 to initial_k - 1 in order, each alone in the component of its number"
unfoldable pub start : (initial_k : ℕ) → Walk
unfolding live_dimension
start k =
    let alone = map (λ c. c ∷ []) (numbers_from 0 k) in record {
      order = numbers_from 0 k;
      components = alone;
      longest = replicate k 1;
      dense_work = fin false 0 (pos 0);
      component_work = fin false 0 (pos 0);
      whole = first_sums (numbers_from 0 k);
      peak = live_dimension alone;
      quantum = 0;
      written = record { steps = []; merges = []; rotations = []; promotions = []; measurements = [] };
    }

-- ---- rows: "Flags are 0 or 1, floats stand as their bits"

abbrev pub pair_words : Complex64 → List ℕ
pair_words c = bits_word c.re ∷ bits_word c.im ∷ []

-- "component, merge offset, merge count, local width, x and z, even, odd (two each), overlap"
unfoldable pub row_head : (component offset count : ℕ) → ActivePauliAction → List ℕ
unfolding to_bits
row_head component offset count a =
    component ∷ offset ∷ count ∷ a.nqubits ∷ a.xmask ∷ a.zmask
    ∷ (pair_words a.even_phase ++ (pair_words a.odd_phase ++ (flag_word a.xz_overlap_odd ∷ [])))

-- "diagonal, uniform, flip, pair bit, pair count, angle, cosine, sine, coefficient (two)"
unfoldable pub rotation_row : (component offset count : ℕ) → PrecomputedActivePauliRotationKernel → List ℕ
unfolding row_head
rotation_row component offset count k =
    row_head component offset count k.action
    ++ (flag_word k.is_diagonal ∷ flag_word k.uniform_imag_pairs ∷ flag_word k.real_pair_flip ∷ k.pair_bit ∷ k.pair_count
    ∷ bits_word k.kernel_angle ∷ bits_word k.cos_kernel_angle ∷ bits_word k.sin_kernel_angle ∷ pair_words k.minus_even_coefficient)

-- "the same first eleven, pivot, diagonal, phase bit, z-without-pivot, out dimension, coefficient (two), deactivated"
unfoldable pub measurement_row : (component offset count : ℕ) → PrecomputedActivePauliMeasurementKernel → (deactivated : Bool) → List ℕ
unfolding row_head
measurement_row component offset count k deactivated =
    row_head component offset count k.action
    ++ (k.pivot ∷ flag_word k.is_diagonal ∷ k.diagonal_phase_bit ∷ k.z_without_pivot ∷ k.out_dim
    ∷ (pair_words k.nondiagonal_coefficient1_even ++ (flag_word deactivated ∷ [])))

-- ---- a join, before a rotation or a flag-0 measurement

-- `work` is the component work with the joining cost added, and `cost` that cost as a whole number
pub record Join : Type 0 where
  pub sources : List ℕ
  pub component : ℕ
  pub members : List ℕ
  pub components : List (List ℕ)
  pub longest : List ℕ
  pub work : Float
  pub cost : ℕ
  pub peak : ℕ

-- the target; 0 where nothing is touched
abbrev pub first_of : List ℕ → ℕ
first_of sources = get_or sources 0 0

unfoldable pub join_of : (x z : ℕ) → Walk → Join
unfolding touched sources_of joined joining_cost whole_joining_cost live_dimension
join_of x z w =
    let sources = sources_of w.components (touched x z w.order w.components) in
    let component = first_of sources in
    let members = gathered w.components sources in
    let components = joined w.components sources in record {
      sources = sources;
      component = component;
      members = members;
      components = components;
      longest = set w.longest component (max (get_or w.longest component 0) (length members));
      work = add binary64 w.component_work (joining_cost w.components sources);
      cost = whole_joining_cost w.components sources;
      peak = max w.peak (live_dimension components);
    }

abbrev pub local_action : (x z phase : ℕ) → Walk → Join → ActivePauliAction
local_action x z phase w j =
    action (length j.members) (local_mask x w.order j.members) (local_mask z w.order j.members) phase

-- "a refusal" where the test holds, and else the rest
abbrev pub refuse : Bool → ℕ → Answer Walk → Answer Walk
refuse test number rest = if test then refused number else rest

abbrev pub when_given : {A : Type 0} → Answer A → (A → Answer Walk) → Answer Walk
when_given (given a) f = f a
when_given (refused number) f = refused number

abbrev pub is_none : Option ℕ → Bool
is_none None = true
is_none (Some n) = false

-- 14: "a component of 62"; 02, CR 4: "a component whose size is the ceiling or more"
abbrev pub too_large : (limit : ℕ) → Join → Bool
too_large limit j = is_none (dimension limit (length j.members))

-- ---- the steps, by kind of instruction

-- "kind (0 None, 1 IgnoredGlobalPhase, 2 Rotation, 3 Promotion, 4 Measurement) and payload"
abbrev pub with_step : (kind payload : ℕ) → Written → Written
with_step kind payload o =
    record { steps = o.steps ++ step_row kind payload; merges = o.merges; rotations = o.rotations; promotions = o.promotions; measurements = o.measurements }

-- the state as it was, with one step more, this dense work, so much of it more as a whole number, and so many quantum instructions
abbrev pub kept_step : ℕ → Float → ℕ → ℕ → Walk → Walk
kept_step kind dense more quantum w = record {
  order = w.order;
  components = w.components;
  longest = w.longest;
  component_work = w.component_work;
  peak = w.peak;
  dense_work = dense;
  whole = with_works more 0 w.order w.whole;
  quantum = quantum;
  written = with_step kind 0 w.written;
}

unfoldable pub no_step : Walk → Walk
no_step w = kept_step no_kind w.dense_work 0 w.quantum w

-- "At k = 0 it becomes IgnoredGlobalPhase and still adds dense work 1"
unfoldable pub ignored_step : Walk → Walk
ignored_step w = kept_step ignored_kind (add binary64 w.dense_work (exp2 0)) 1 (suc w.quantum) w

-- "Promotion: dense + 2·2^k; a new coordinate and component, both next numbers; component + 34"
unfoldable pub promotion_step : Walk → Walk
unfolding live_dimension
promotion_step w =
    let next = length w.components in
    let components = w.components ++ ((next ∷ []) ∷ []) in
    let o = w.written in record {
      order = w.order ++ (next ∷ []);
      components = components;
      longest = w.longest ++ (1 ∷ []);
      dense_work = add binary64 w.dense_work (mul binary64 float_two (exp2 (length w.order)));
      component_work = add binary64 w.component_work (fin false 17 (pos 1));
      whole = with_works (2 * 2 ^ length w.order) 34 (w.order ++ (next ∷ [])) w.whole;
      peak = max w.peak (live_dimension components);
      quantum = suc w.quantum;
      written = with_step promotion_kind (length o.promotions)
          (record { steps = o.steps; merges = o.merges; rotations = o.rotations; promotions = o.promotions ++ (next ∷ []); measurements = o.measurements });
    }

-- "Rotation: dense work + 2^k; join; component work + (2^size + 32)"
unfoldable pub rotation_step : Walk → Join → PrecomputedActivePauliRotationKernel → Walk
unfolding rotation_row
rotation_step w j k =
    let o = w.written in
    let row = rotation_row j.component (length o.merges) (length j.sources) k in record {
      order = w.order;
      components = j.components;
      longest = j.longest;
      dense_work = add binary64 w.dense_work (exp2 (length w.order));
      component_work = add binary64 j.work (add binary64 (exp2 (length j.members)) (fin false 1 (pos 5)));
      whole = with_works (2 ^ length w.order) (j.cost + (2 ^ length j.members + 32)) w.order w.whole;
      peak = j.peak;
      quantum = suc w.quantum;
      written = with_step rotation_kind (length o.rotations)
          (record { steps = o.steps; merges = o.merges ++ j.sources; rotations = o.rotations ++ (row ∷ []); promotions = o.promotions; measurements = o.measurements });
    }

-- "Measurement, flag 0: dense + 2·2^k; join; component + (2·2^size + 32), size before removal; then the coordinate at the pivot's active position
-- leaves, the order otherwise kept. An emptied component is deactivated"
unfoldable pub measurement_step : Walk → Join → ℕ → PrecomputedActivePauliMeasurementKernel → Walk
unfolding measurement_row live_dimension
measurement_step w j pivot k =
    let left = remove_at k.pivot j.members in
    let components = set j.components j.component left in
    let o = w.written in
    let row = measurement_row j.component (length o.merges) (length j.sources) k (length left == 0) in record {
      order = remove_at pivot w.order;
      components = components;
      longest = j.longest;
      dense_work = add binary64 w.dense_work (mul binary64 float_two (exp2 (length w.order)));
      component_work = add binary64 j.work (add binary64 (mul binary64 float_two (exp2 (length j.members))) (fin false 1 (pos 5)));
      whole = with_works (2 * 2 ^ length w.order) (j.cost + (2 * 2 ^ length j.members + 32)) (remove_at pivot w.order) w.whole;
      peak = max j.peak (live_dimension components);
      quantum = suc w.quantum;
      written = with_step measurement_kind (length o.measurements)
          (record { steps = o.steps; merges = o.merges ++ j.sources; rotations = o.rotations; promotions = o.promotions; measurements = o.measurements ++ (row ∷ []) });
    }

-- how many coordinates are active
abbrev pub active_width : Walk → ℕ
active_width w = length w.order

-- 11, or the ignored phase, or 14, or the rotation
unfoldable pub rotate : (limit : ℕ) → Walk → (width x z phase : ℕ) (angle sine cosine : Float) → Answer Walk
unfolding join_of rotation_step ignored_step dimension odd_ones highest_bit
rotate limit w width x z phase angle sine cosine =
    let j = join_of x z w in
    if not (width == active_width w) then refused 11
    else if active_width w == 0 then given (ignored_step w)
    else if too_large limit j then refused 14
    else when_given (rotation limit (local_action x z phase w j) phase angle sine cosine) (λ k. given (rotation_step w j k))

-- 12, 13, 14, then the pivot's 15 to 20, or the measurement
unfoldable pub measure : (limit : ℕ) → Walk → (width x z phase pivot : ℕ) → Answer Walk
unfolding join_of measurement_step dimension odd_ones
measure limit w width x z phase pivot =
    let j = join_of x z w in
    let coordinate = get_or w.order pivot 0 in
    let local_pivot = place_of coordinate j.members in
    if not (width == active_width w) then refused 12
    else if active_width w == 0 then refused 13
    else if too_large limit j then refused 14
    else if not (nat_lt pivot (active_width w)) then refused 15
    else if not (is_in coordinate j.members) then refused 16
    else when_given (measurement limit (local_action x z phase w j) phase local_pivot) (λ k. given (measurement_step w j pivot k))

-- one instruction. "Flag 1: step None, nothing else"
unfoldable pub step : (limit : ℕ) → Walk → Instruction → Answer Walk
unfolding rotate measure promotion_step no_step
step limit w (Rotation width x z phase angle sine cosine) = rotate limit w width x z phase angle sine cosine
step limit w Promotion = given (promotion_step w)
step limit w (Measurement width x z phase pivot) = measure limit w width x z phase pivot
step limit w Expectation = given (no_step w)
step limit w RecordMeasurement = given (no_step w)
step limit w RecordDetector = given (no_step w)
step limit w DormantBranch = given (no_step w)

-- ---- the whole walk: the last state, or the first refusal with its record's index

abbrev pub Walked : Type 0
Walked = Outcome Walk

abbrev pub onward : Answer Walk → (index : ℕ) → (Walk → Walked) → Walked
onward (given w) index f = f w
onward (refused number) index f = refused_at number index

unfoldable pub walk_from : (limit index : ℕ) → Walk → List Instruction → Walked
unfolding step
walk_from limit index w [] = completed w
walk_from limit index w (i ∷ is) = onward (step limit w i) index (λ v. walk_from limit (suc index) v is)
