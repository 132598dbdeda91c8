-- What the contracts of the walk's own functions say: what the loop keeps, and what one record
-- does. The state, the sums and the buffers are those of the definition's walk after as many
-- records, from which the definition's walk goes on to the same end.
use Rattle.std.specs.Prelude.{ℕ, ◌+◌, ◌/◌, ◌<◌, ◌≤◌, ◌≡◌, List, length, take, drop, Option, Result, Ok, Err}
use mathlib.Core.Logic.{◌⊎◌}
use Rattle.words.specs.Lists.{Begins}
use Rattle.refusals.specs.Numbers.{number_of}
use Rattle.refusals.specs.declared.Reason.{Reason}
use Rattle.records.specs.Record.{instructions_of}
use Rattle.records.specs.declared.Instruction.{Instruction}
use Rattle.plan_spec.specs.Lists.{concat}
use Rattle.plan_spec.specs.Walk.{Walk, start, walk_from}
use Rattle.plan_spec.proofs.Steps.{Run}
use Rattle.state.specs.declared.State.{State}
use Rattle.state.specs.Steps.{BeforeJoin, Joined, BeforeRemoval, Removed, Closed}
use Rattle.refusals.specs.Answer.{Answer, given, refused_at}
use Rattle.kernels.specs.declared.active.PrecomputedActivePauliMeasurementKernel.{PrecomputedActivePauliMeasurementKernel}
use Rattle.work_sums.specs.declared.Tally.{Tally}
use Rattle.work_sums.specs.declared.Joining.{Joining}
use Rattle.state_model.specs.Represents.{Ordered, Represents}
use Rattle.plan_buffers.specs.declared.StoredOutputs.{StoredOutputs}
use Rattle.record_steps.specs.RecordSteps.{sources_at, GatherFits, sources_before, WhereJoined, Opened, Progress, progress_of, measurement_answer}
use Rattle.record_steps.specs.declared.Pauli.{Pauli}
use Rattle.record_steps.specs.declared.AtRecord.{AtRecord}
use Rattle.plan_buffers.specs.SevenBuffers.{Buffers, SameLengths}
use Rattle.walk.specs.Walking.{Tallied, Walkable}

-- ---- the loop

-- after i records
pub record Reached (limit k : ℕ) (is : List Instruction) (i : ℕ) (w : Walk) (s : State) (t : Tally)
    (c : Buffers) : Type 0 where
  pub run : Run limit (start k) (take i is) w
  pub ahead : walk_from limit 0 (start k) is ≡ walk_from limit i w (drop i is)
  pub rep : Represents s w.order w.components
  pub sums : Tallied t w
  pub steps_begin : Begins w.written.steps c.steps
  pub merges_begin : Begins w.written.merges c.merges
  pub sizes_begin : Begins w.longest c.sizes
  pub rotations_begin : Begins (concat w.written.rotations) c.rotations
  pub promotions_begin : Begins w.written.promotions c.promotions
  pub measurements_begin : Begins (concat w.written.measurements) c.measurements

-- the same with the active order, and with the buffers b where the loop begins
pub record Looping (limit k : ℕ) (ws : List ℕ) (i : ℕ) (o : List ℕ) (s : State) (t : Tally)
    (c : Buffers) : Type 0 where
  pub b : Buffers
  pub ok : Walkable k ws b
  pub upto : i ≤ length ws / 8
  pub long : SameLengths b c
  pub w : Walk
  pub at : Reached limit k (instructions_of ws) i w s t c
  pub ordered : Ordered o w.order

-- ---- one record

-- where a record's step begins, whatever the groups
pub record Standing (limit : ℕ) (ws : List ℕ) (i : ℕ) (o : List ℕ) (s : State) (t : Tally)
    (c : List ℕ → Buffers) : Type 0 where
  pub next : i < length ws / 8
  pub k : ℕ
  pub groups : List ℕ
  pub looping : Looping limit k ws i o s t (c groups)

-- where it ends: one record more, or the definition's walk stops at this one
abbrev pub StepEnds : ℕ → ℕ → List ℕ → ℕ → Result Unit Reason → List ℕ → State → Tally → Buffers
    → Type 0
StepEnds limit k ws i (Ok done) o s t c = Looping limit k ws (i + 1) o s t c
StepEnds limit k ws i (Err reason) o s t c =
    walk_from limit 0 (start k) (instructions_of ws) ≡ refused_at (number_of reason) i

-- ---- its join

-- the sources of the join that a record makes in a state
abbrev pub sources_of : State → Instruction → List ℕ
sources_of s x = sources_before s.width (sources_at s.component s.size s.width) x

-- what is asked so that the sources can be written from the offset on, and joined where there is
-- more than one
pub record Joins (s : State) (x : Instruction) (offset room : ℕ) : Type 0 where
  pub gathered :
      WhereJoined s.width (λ a z. GatherFits s.component s.size s.width offset room a z) x
  pub inside : offset ≤ room
  pub joined : 1 < length (sources_of s x) → BeforeJoin s (sources_of s x)

-- the state after the join: joined, or as it was where there is no more than one source
abbrev pub Met : State → List ℕ → State → Type 0
Met s sources u = ((1 < length sources) × Joined s sources u) ⊎ ((u ≡ s) × (length sources ≤ 1))

-- what making a record's join does: it is opened, and the state after it is u
pub record JoinMade (s u : State) (x : Instruction) (offset : ℕ)
    (result : Result (Option Joining) Reason) (merges merges' : List ℕ) : Type 0 where
  pub opened : Opened s.width offset s.component s.size x result merges merges'
  pub met : Met s (sources_of s x) u

-- ---- what is written

-- the sums, the steps and the longest sizes, with the rows of a kind
abbrev pub rotation_progress : Tally → StoredOutputs → Progress
rotation_progress t out = progress_of t out.steps.now out.sizes.now out.rotations.now

abbrev pub promotion_progress : Tally → StoredOutputs → Progress
promotion_progress t out = progress_of t out.steps.now out.sizes.now out.promotions.now

abbrev pub measurement_progress : Tally → StoredOutputs → Progress
measurement_progress t out = progress_of t out.steps.now out.sizes.now out.measurements.now

-- ---- a measurement

-- the answer to a measurement in a state
abbrev pub answer_in : State → Pauli → ℕ → AtRecord → Joining
    → Answer PrecomputedActivePauliMeasurementKernel
answer_in u pauli pivot here join = measurement_answer u.component u.place pauli pivot here join

-- an answer with a kernel asks of the state that the pivot can leave it
abbrev pub Leaves : Answer PrecomputedActivePauliMeasurementKernel → State → ℕ → Type 0
Leaves answer u pivot =
    (q : PrecomputedActivePauliMeasurementKernel) → answer ≡ given q → BeforeRemoval u pivot

-- what is written, and the pivot has left the state and the order
pub record Measured (written : PrecomputedActivePauliMeasurementKernel → Type 0) (pivot : ℕ)
    (o o' : List ℕ) (u v : State) (q : PrecomputedActivePauliMeasurementKernel) : Type 0 where
  pub done : written q
  pub removed : Removed u pivot v
  pub closed : Closed pivot v.width o o'
