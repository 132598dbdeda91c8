-- All that is promised of calls, each promise by its name, in the order of the crate's functions.
-- They speak of the calls of Rattle and of C alike: `Calls` says what a call leaves.
use Rattle.std.specs.Prelude.{ℕ, ◌≡◌, ◌≤◌, ◌<◌, ◌+◌, ◌*◌, ◌/◌, ◌^◌, ◌⊎◌, List, Option, Some, None, length, get_or, take, false, true, pos}
use Rattle.std.specs.Float.{fin}
use Rattle.std.specs.List.{list_any}
use Rattle.refusals.specs.Answer.{completed, given}
use Rattle.words.specs.Lists.{part_of}
use Rattle.words.specs.Words.{AreBytes}
use Rattle.records.specs.Record.{kind, sine, cosine, record_at, instructions_of}
use Rattle.records.specs.Sound.{IsUnitPair}
use Rattle.records.specs.declared.Head.{Head}
use Rattle.records.specs.declared.Instruction.{Instruction}
use Rattle.records.specs.declared.Instruction.TheVariants.{DormantBranch}
use Rattle.plan_spec.specs.Rows.{measurement_words, rotation_words}
use Rattle.plan_spec.specs.WholeWorks.{without_quotient}
use Rattle.plan_spec.specs.Walk.{Walk, start, walk_from}
use Rattle.plan_spec.specs.Plan.{Plan, unread, plan_of}
use Rattle.plan_spec.specs.Connectivity.{Connected, Replayed, listed_by, replay_after}
use Rattle.plan_spec.specs.Sources.{AreSources, JoinsListed, IsListed, SourcesListed}
use Rattle.plan_spec.specs.Groups.{GroupsListed}
use Rattle.plan_spec.specs.Laws.{Agree, TooWideExactly, IsNonNegative, IsWholeWalk, Fits, HasDimensions, under, HoldsPlan}
use Rattle.plan_buffers.specs.SevenBuffers.{Buffers, lengths_of}
use Rattle.plan_buffers.specs.SixOutputs.{Outputs, word_counts_of}
use Rattle.stored_plan.specs.Stored.{Kept, kept_of, bytes_of, file_of}
use Rattle.stored_plan.specs.Reading.{trailer_word}
use Rattle.stored_plan.specs.Loading.{Restored}
use Rattle.stored_plan.specs.Laws.{IsLongEnough, IsSamePlan}
use Rattle.pending.specs.Operation.{operations_of, is_expectation}
use Rattle.optimizer.specs.declared.Counts.{Counts}
use Rattle.optimizer.specs.Laws.{Left}
use Rattle.guarantees.specs.Calls.{Leaves, IsRead, Refuses, zeroed, LeavesFile, LeavesKept, LeavesList}
use Rattle.guarantees.specs.Back.{GivenBack}

-- what holds of the plan p that any call for a head and record words leaves
abbrev pub OfPlans : (Head → List ℕ → Plan → Type 0) → Type 0
OfPlans P =
    (h : Head) (ws : List ℕ) (before after : Buffers) (p : Plan)
    → Leaves h ws before after (Some p)
    → P h ws p

-- the same, where the records are read
abbrev pub OfReadPlans : (Head → List ℕ → Plan → Type 0) → Type 0
OfReadPlans P = OfPlans λ h ws p. IsRead h → P h ws p

-- p is the definition's plan of this program, with buffers of these lengths
abbrev pub IsPlanOf : Head → List ℕ → Buffers → Plan → Type 0
IsPlanOf h ws before p = plan_of h ws (lengths_of before) ≡ completed p

-- the state in which the definition's walk comes to record i
abbrev pub ComesTo : Head → List ℕ → ℕ → Walk → Type 0
ComesTo h ws i w =
    walk_from h.ceiling 0 (start h.initial_k) (take i (instructions_of ws)) ≡ completed w

-- ---- components

-- after each number m of records the components are right
abbrev pub ComponentsAreRight : Type 0
ComponentsAreRight =
    OfReadPlans λ h ws p. (m : ℕ) → m ≤ length (instructions_of ws)
    → Connected h.initial_k (instructions_of ws) p m

-- ---- sources

-- how many rows of a rotation, and of a measurement, a plan has
abbrev pub rotation_rows : Plan → ℕ
rotation_rows q = length q.rotations / rotation_words

abbrev pub measurement_rows : Plan → ℕ
measurement_rows q = length q.measurements / measurement_words

-- each join's row lists its sources; and each row, of as many as the definition's plan q has, is
-- that of a join
abbrev pub SourcesAreListed : Type 0
SourcesAreListed =
    (h : Head) (ws : List ℕ) (before after : Buffers) (p q : Plan)
    → Leaves h ws before after (Some p)
    → IsRead h
    → IsPlanOf h ws before q
    → SourcesListed h.initial_k (instructions_of ws) p (rotation_rows q) (measurement_rows q)

-- in each state to which the definition's walk comes, the sources of a join, whatever its masks,
-- are the touched components
abbrev pub EveryJoinIsListed : Type 0
EveryJoinIsListed =
    (h : Head) (ws : List ℕ) (i : ℕ) (w : Walk)
    → ComesTo h ws i w
    → JoinsListed w

-- one list only is the sources of a join
abbrev pub SourcesAreUnique : Type 0
SourcesAreUnique =
    (order : List ℕ) (components : Replayed) (x z : ℕ) (xs ys : List ℕ)
    → AreSources order components x z xs
    → AreSources order components x z ys
    → xs ≡ ys

-- ---- groups

-- the groups are the components that live after the last record, with zeros behind them
abbrev pub GroupsAreListed : Type 0
GroupsAreListed =
    OfReadPlans λ h ws p. (zeros : ℕ)
    × GroupsListed (replay_after p (length (instructions_of ws))) zeros p.groups

-- one list only is the groups of some components
abbrev pub GroupsAreUnique : Type 0
GroupsAreUnique =
    (components : Replayed) (zeros : ℕ) (xs ys : List ℕ)
    → GroupsListed components zeros xs
    → GroupsListed components zeros ys
    → xs ≡ ys

-- ---- works

-- whole works, where they are given, are the float works
abbrev pub WorksAgree : Type 0
WorksAgree = OfPlans λ h ws p. Agree p.whole_works p.dense_work p.component_work

-- they are missing exactly where the width passes 38
abbrev pub TooWideIsExact : Type 0
TooWideIsExact =
    OfReadPlans λ h ws p. TooWideExactly h.initial_k (instructions_of ws) p.whole_works

-- float works are no NaN, and not negative
abbrev pub WorksAreNotNegative : Type 0
WorksAreNotNegative = OfPlans λ h ws p. IsNonNegative p.dense_work × IsNonNegative p.component_work

-- ---- pairs

-- the squares of each rotation's sine and cosine sum to 1, give or take 2^-50; not both are zero
abbrev pub PairsAreUnits : Type 0
PairsAreUnits =
    OfReadPlans λ h ws p. (i : ℕ) → i < length ws / 8 → kind (record_at ws i) ≡ 0
    → IsUnitPair (sine (record_at ws i)) (cosine (record_at ws i))

-- ---- ceilings

-- each component has its dimension under the ceiling
abbrev pub DimensionsFit : Type 0
DimensionsFit = OfReadPlans λ h ws p. HasDimensions h.ceiling (length (instructions_of ws)) p

-- under each ceiling that holds a plan every call leaves that plan
abbrev pub PlanIsKept : Type 0
PlanIsKept =
    (h : Head) (ws : List ℕ) (before after before' after' : Buffers)
    (p : Plan) (o : Option Plan) (ceiling : ℕ)
    → lengths_of before' ≡ lengths_of before
    → Leaves h ws before after (Some p)
    → HoldsPlan ceiling h p
    → Leaves (under ceiling h) ws before' after' o
    → o ≡ Some p

-- a plan that a call leaves under another ceiling is that plan, and the ceiling holds it
abbrev pub NoOtherPlan : Type 0
NoOtherPlan =
    (h : Head) (ws : List ℕ) (before after before' after' : Buffers) (p q : Plan) (ceiling : ℕ)
    → lengths_of before' ≡ lengths_of before
    → Leaves h ws before after (Some p)
    → Leaves (under ceiling h) ws before' after' (Some q)
    → (q ≡ p) × HoldsPlan ceiling h p

-- ---- unread records

-- a plan that says nothing but initial_k and 2^max_k
pub record SaysNothing (h : Head) (p : Plan) : Type 0 where
  pub selected : p.selected ≡ false
  pub initial_components : p.initial_components ≡ h.initial_k
  pub component_count : p.component_count ≡ 0
  pub dense_work : p.dense_work ≡ fin false 0 (pos 0)
  pub component_work : p.component_work ≡ fin false 0 (pos 0)
  pub dense_peak : p.dense_peak ≡ 2 ^ h.max_k
  pub peak : p.peak ≡ 0
  pub allocated : p.allocated ≡ 0
  pub whole_works : p.whole_works ≡ without_quotient 0

-- a plan whose records are not read says nothing, and its buffers hold zeros alone
abbrev pub UnreadSaysNothing : Type 0
UnreadSaysNothing =
    (h : Head) (ws : List ℕ) (before after : Buffers) (p : Plan)
    → Leaves h ws before after (Some p)
    → unread h ≡ true
    → SaysNothing h p × (after ≡ zeroed before)

-- ---- room

-- a plan uses no more of the buffers than refusal 3 asks for, and its peak is below 2^63
abbrev pub RoomIsEnough : Type 0
RoomIsEnough =
    (h : Head) (ws : List ℕ) (before : Buffers) (p : Plan)
    → IsPlanOf h ws before p
    → Fits p (length ws / 8)

-- ---- guards

-- the definition's walk comes to no state against which the Rust guards
abbrev pub GuardsNeverFail : Type 0
GuardsNeverFail =
    (h : Head) (ws : List ℕ) (i : ℕ) (w : Walk)
    → ComesTo h ws i w
    → IsWholeWalk w

-- ---- refusals

-- a refusal's number is not 0, and its index is 0 or a record's
abbrev pub RefusalIsPlaced : Type 0
RefusalIsPlaced =
    (h : Head) (ws : List ℕ) (before after : Buffers) (number index : ℕ)
    → Refuses h ws before after number index
    → (0 < number) × ((index ≡ 0) ⊎ (index < length ws / 8))

-- a refusal leaves zeros in all seven buffers
abbrev pub RefusalLeavesZeros : Type 0
RefusalLeavesZeros =
    (h : Head) (ws : List ℕ) (before after : Buffers)
    → Leaves h ws before after None
    → after ≡ zeroed before

-- ---- rows

-- record i's instruction
abbrev pub instruction_at : List ℕ → ℕ → Instruction
instruction_at ws i = get_or (instructions_of ws) i DormantBranch

-- what is read for record i is what the definition's walk gives there
abbrev pub RowsAreRead : Type 0
RowsAreRead =
    (h : Head) (ws : List ℕ) (before after : Buffers) (p : Plan)
    → Leaves h ws before after (Some p)
    → IsRead h
    → (i : ℕ) → i < length (instructions_of ws)
    → (w : Walk) × ComesTo h ws i w × GivenBack h.ceiling w (instruction_at ws i) i after

-- the part of the merge list that the reader gives for a row is the one that the row names
abbrev pub PartsAreRead : Type 0
PartsAreRead =
    (p : Plan) (m kind : ℕ) (row order : List ℕ) (x z : ℕ)
    → IsListed p m kind row order x z
    → part_of p.merges (get_or row 1 0) (get_or row 2 0) ≡ listed_by p row

-- ---- files

-- every call that loads these bytes gives back what the plan's file keeps, with zeros behind it in
-- the outputs
abbrev pub IsReadBack : Plan → List ℕ → Type 0
IsReadBack p file =
    (before after : Outputs) (o : Option Kept)
    → IsLongEnough p (word_counts_of before)
    → LeavesKept file before after o
    → (o ≡ Some (kept_of p)) × Restored (given (kept_of p)) before after

-- n bytes are the plan's file, n is its length and the one in its trailer, and they are read back
pub record IsFileOf (p : Plan) (filed : List ℕ) (n : ℕ) : Type 0 where
  pub bytes : take n filed ≡ file_of p
  pub returned : n ≡ length (file_of p)
  pub trailer : trailer_word (take n filed) 14 ≡ n
  pub back : IsReadBack p (take n filed)

-- a file that a call leaves is that of the definition's plan
abbrev pub StoredIsReadBack : Type 0
StoredIsReadBack =
    (h : Head) (ws : List ℕ) (before after : Buffers) (file filed : List ℕ) (n : ℕ)
    → h.initial_k < 2 ^ 64
    → LeavesFile h ws before after file filed n
    → (p : Plan) × IsPlanOf h ws before p × IsFileOf p filed n

-- so many bytes are enough for any file of so many records
abbrev pub FileIsShort : Type 0
FileIsShort =
    (h : Head) (ws : List ℕ) (before after : Buffers) (file filed : List ℕ) (n : ℕ)
    → h.initial_k < 2 ^ 64
    → LeavesFile h ws before after file filed n
    → n ≤ 8 * (24 * (length ws / 8) + 1047)

-- one plan has one file: bytes that are read at all are the file of what they give back
abbrev pub FileIsOne : Type 0
FileIsOne =
    (file : List ℕ) (before after : Outputs) (k : Kept)
    → AreBytes file
    → LeavesKept file before after (Some k)
    → bytes_of k ≡ file

-- one file has one plan: the same fields, works as floats, and rows
abbrev pub PlanIsOne : Type 0
PlanIsOne =
    (h h' : Head) (ws ws' : List ℕ) (before before' : Buffers) (p q : Plan)
    → h.initial_k < 2 ^ 64
    → h'.initial_k < 2 ^ 64
    → IsPlanOf h ws before p
    → IsPlanOf h' ws' before' q
    → file_of p ≡ file_of q
    → IsSamePlan p q

-- ---- lists

-- all that is claimed of a list that is optimized
abbrev pub ListIsKept : Type 0
ListIsKept =
    (width : ℕ) (words prefixes list_before list map_before map : List ℕ) (r : Counts)
    → LeavesList width words prefixes list_before list map_before map r
    → list_any is_expectation (operations_of words) ≡ false
    → Left words prefixes list map r

-- a list that was left as it is, with the map 0, 1 and so on
pub record IsUnchanged (words list map : List ℕ) (r : Counts) : Type 0 where
  pub operations : operations_of (take (32 * r.output) list) ≡ operations_of words
  pub boundaries : (p : ℕ) → p ≤ length (operations_of words) → get_or map p 0 ≡ p
  pub input : r.input ≡ length (operations_of words)
  pub output : r.output ≡ length (operations_of words)
  pub fused : r.fused ≡ 0
  pub cancelled : r.cancelled ≡ 0
  pub swaps : r.swaps ≡ 0

-- a list with an expectation value is left as it is
abbrev pub ExpectationKeepsList : Type 0
ExpectationKeepsList =
    (width : ℕ) (words prefixes list_before list map_before map : List ℕ) (r : Counts)
    → LeavesList width words prefixes list_before list map_before map r
    → list_any is_expectation (operations_of words) ≡ true
    → IsUnchanged words list map r
