-- What the contracts of the crate `record_steps` say, over the state's arrays as lists: what a
-- record does before and after its join. 01, section 4, and "Where planning stops".
use Rattle.std.specs.Prelude.{ℕ, ◌+◌, ◌*◌, ◌%◌, ◌^◌, ◌<◌, ◌≤◌, max, ◌≡◌, List, [], ◌∷◌, length, get_or, set, Option, None, Some, Result, Ok, Err, if◌then◌else◌, nat_le, ◌==◌}
use Rattle.words.specs.Lists.{patch}
use Rattle.refusals.specs.Answer.{Answer, given, refused, number_or_0}
use Rattle.refusals.specs.Numbers.{number_of}
use Rattle.refusals.specs.declared.Reason.{Reason}
use Rattle.kernels.specs.Active.{action, rotation, measurement}
use Rattle.kernels.specs.declared.active.ActivePauliAction.{ActivePauliAction}
use Rattle.kernels.specs.declared.active.Angle.{Angle}
use Rattle.kernels.specs.declared.active.PrecomputedActivePauliRotationKernel.{PrecomputedActivePauliRotationKernel}
use Rattle.kernels.specs.declared.active.PrecomputedActivePauliMeasurementKernel.{PrecomputedActivePauliMeasurementKernel}
use Rattle.records.specs.declared.Instruction.{Instruction}
use Rattle.records.specs.declared.Instruction.TheVariants.{Rotation, Promotion, RecordMeasurement, RecordDetector, Measurement, Expectation, DormantBranch}
use Rattle.plan_spec.specs.Rows.{measurement_words, rotation_words}
use Rattle.plan_spec.specs.Walk.{rotation_row, measurement_row}
use Rattle.masks.specs.Positions.{picked, reached_mask, Below512, sources_in, local_of}
use Rattle.work_sums.specs.Tally.{joining_of, Countable, JoinFits, rotated_tally, measured_tally, promoted_tally}
use Rattle.work_sums.specs.declared.Joining.{Joining}
use Rattle.work_sums.specs.declared.Tally.{Tally}
use Rattle.record_steps.specs.declared.Pauli.{Pauli}
use Rattle.record_steps.specs.declared.AtRecord.{AtRecord}

-- ---- before the join

-- the sources of a join by the masks, at a width
abbrev pub sources_at : List ℕ → List ℕ → ℕ → ℕ → ℕ → List ℕ
sources_at component size width x z =
    sources_in size (picked (reached_mask (x % 2 ^ width) (z % 2 ^ width)) component)

-- what the code asks so that the sources can be written and their join counted
pub record GatherFits (component size : List ℕ) (width offset room x z : ℕ) : Type 0 where
  pub narrow : width < 64
  pub numbers : Below512 component
  pub written : offset + length (sources_at component size width x z) ≤ room
  pub counted : Countable size (sources_at component size width x z)

-- "11: width not k"; "12: width not k. 13: k = 0". A number 0 says that there is no refusal
unfoldable pub number_before : ℕ → Instruction → ℕ
number_before width (Rotation w x z phase angle sine cosine) = if (w == width) then 0 else 11
number_before width (Measurement w x z phase pivot) =
    if (w == width) then (if (width == 0) then 13 else 0) else 12
number_before width Promotion = 0
number_before width RecordMeasurement = 0
number_before width RecordDetector = 0
number_before width Expectation = 0
number_before width DormantBranch = 0

-- the sources of the join that a record makes: none where it is refused, where no coordinate is
-- active, and for the kinds that join nothing
unfoldable pub sources_before : ℕ → (ℕ → ℕ → List ℕ) → Instruction → List ℕ
sources_before width sources (Rotation w x z phase angle sine cosine) =
    if (w == width) then (if (width == 0) then [] else sources x z) else []
sources_before width sources (Measurement w x z phase pivot) =
    if (w == width) then (if (width == 0) then [] else sources x z) else []
sources_before width sources Promotion = []
sources_before width sources RecordMeasurement = []
sources_before width sources RecordDetector = []
sources_before width sources Expectation = []
sources_before width sources DormantBranch = []

-- what is asked where a record makes a join
abbrev pub WhereJoined : ℕ → (ℕ → ℕ → Type 0) → Instruction → Type 0
WhereJoined width asked (Rotation w x z phase angle sine cosine) =
    w ≡ width → 0 < width → asked x z
WhereJoined width asked (Measurement w x z phase pivot) = w ≡ width → 0 < width → asked x z
WhereJoined width asked Promotion = Unit
WhereJoined width asked RecordMeasurement = Unit
WhereJoined width asked RecordDetector = Unit
WhereJoined width asked Expectation = Unit
WhereJoined width asked DormantBranch = Unit

-- the join of the sources: none where there are none
abbrev pub join_before : List ℕ → List ℕ → Option Joining
join_before size [] = None
join_before size (t ∷ others) = Some (joining_of size (t ∷ others))

-- the join that a call's answer has: none where it is a refusal
abbrev pub join_of_answer : Result (Option Joining) Reason → Option Joining
join_of_answer (Ok join) = join
join_of_answer (Err reason) = None

-- what opening a record does: the answer is 01's, and the sources stand in the merge list from the
-- offset on
pub record Opened (width offset : ℕ) (component size : List ℕ) (i : Instruction)
    (result : Result (Option Joining) Reason) (merges merges' : List ℕ) : Type 0 where
  pub number : number_or_0 result ≡ number_before width i
  pub join : join_of_answer result
      ≡ join_before size (sources_before width (sources_at component size width) i)
  pub written : merges'
      ≡ patch offset (sources_before width (sources_at component size width) i) merges

-- ---- after it

-- what a record changes beside the state: the sums, the steps, the longest sizes, and the rows of
-- its kind
pub record Progress : Type 0 where
  pub tally : Tally
  pub steps : List ℕ
  pub sizes : List ℕ
  pub rows : List ℕ

abbrev pub progress_of : Tally → List ℕ → List ℕ → List ℕ → Progress
progress_of tally steps sizes rows =
    record { tally = tally; steps = steps; sizes = sizes; rows = rows }

-- "Local bit j is the global bit at the position of the component's j-th member"
abbrev pub local_action_of : List ℕ → Pauli → ℕ → ℕ → ActivePauliAction
local_action_of place pauli width size =
    let local_x = local_of (pauli.x % 2 ^ width) place in
    let local_z = local_of (pauli.z % 2 ^ width) place in
    action size local_x local_z pauli.phase

-- a call's answer goes with 01's: a value where a kernel is given, and it is done with that
-- kernel, or the refusal of the same number
abbrev pub Settled : {K T : Type 0} → Answer K → Result T Reason → (T → K → Type 0) → Type 0
Settled {K} answer (Ok value) done = (k : K) × (answer ≡ given k) × done value k
Settled answer (Err reason) done = answer ≡ refused (number_of reason)

-- what both kinds ask: masks that fit a word, sums that the join fits, and room for the step and
-- the longest size
pub record JoinedFits (place : List ℕ) (pauli : Pauli) (here : AtRecord) (join : Joining)
    (tally : Tally) (steps sizes : List ℕ) : Type 0 where
  pub narrow : here.width < 64
  pub x_fits : local_of (pauli.x % 2 ^ here.width) place < 2 ^ 64
  pub z_fits : local_of (pauli.z % 2 ^ here.width) place < 2 ^ 64
  pub sums : JoinFits tally join
  pub step_room : 2 * here.index + 2 ≤ length steps
  pub size_room : join.target < length sizes

-- the longest sizes after a join
abbrev pub raised : List ℕ → Joining → List ℕ
raised sizes join = set sizes join.target (max (get_or sizes join.target 0) join.size)

-- the kernel of a rotation over a component of a size, or 14
abbrev pub rotation_answer : List ℕ → Pauli → Angle → AtRecord → ℕ
    → Answer PrecomputedActivePauliRotationKernel
rotation_answer place pauli angle here size =
    rotation here.limit (local_action_of place pauli here.width size) pauli.phase
    angle.value angle.sine angle.cosine

-- what a rotation with this kernel leaves
pub record RotationDone (here : AtRecord) (join : Joining) (before after : Progress)
    (k : PrecomputedActivePauliRotationKernel) : Type 0 where
  pub sums : after.tally ≡ rotated_tally before.tally join here.width
  pub step : after.steps ≡ patch (2 * here.index) (2 ∷ before.tally.rotations ∷ []) before.steps
  pub size : after.sizes ≡ raised before.sizes join
  pub row : after.rows
      ≡ patch (rotation_words * before.tally.rotations)
      (rotation_row join.target before.tally.merges join.count k) before.rows

-- 14: 02, CR 4, "a component whose size is the ceiling or more", which is the limit here.
-- "15: pivot >= k. 16: its coordinate is outside the target"
abbrev pub pivot_answer : {K : Type 0} → List ℕ → ℕ → AtRecord → Joining → Answer K → Answer K
pivot_answer component pivot here join rest =
    if nat_le here.limit join.size then refused 14
    else (if nat_le here.width pivot then refused 15
    else (if (get_or component pivot 0 == join.target) then rest else refused 16))

-- 14 to 16, and else the kernel of a measurement, or 17 to 20
abbrev pub measurement_answer : List ℕ → List ℕ → Pauli → ℕ → AtRecord → Joining
    → Answer PrecomputedActivePauliMeasurementKernel
measurement_answer component place pauli pivot here join =
    pivot_answer component pivot here join
    (measurement here.limit (local_action_of place pauli here.width join.size) pauli.phase
    (get_or place pivot 0))

-- what a measurement with this kernel leaves
pub record MeasurementDone (here : AtRecord) (join : Joining) (before after : Progress)
    (k : PrecomputedActivePauliMeasurementKernel) : Type 0 where
  pub sums : after.tally ≡ measured_tally before.tally join here.width
  pub step : after.steps ≡ patch (2 * here.index) (4 ∷ before.tally.measurements ∷ []) before.steps
  pub size : after.sizes ≡ raised before.sizes join
  pub row : after.rows
      ≡ patch (measurement_words * before.tally.measurements)
      (measurement_row join.target before.tally.merges join.count k (join.size == 1)) before.rows

-- what a promotion asks
pub record PromotionFits (next : ℕ) (here : AtRecord) (before : Progress) : Type 0 where
  pub narrow : here.width < 512
  pub live : before.tally.live + 2 < 2 ^ 64
  pub quantum : before.tally.quantum + 1 < 2 ^ 64
  pub row_room : before.tally.promotions < length before.rows
  pub step_room : 2 * here.index + 2 ≤ length before.steps
  pub size_room : next < length before.sizes

-- "Promotion rows, one word, the component"
pub record PromotionDone (next : ℕ) (here : AtRecord) (before after : Progress) : Type 0 where
  pub sums : after.tally ≡ promoted_tally before.tally here.width
  pub step : after.steps ≡ patch (2 * here.index) (3 ∷ before.tally.promotions ∷ []) before.steps
  pub size : after.sizes ≡ set before.sizes next 1
  pub row : after.rows ≡ set before.rows before.tally.promotions next
