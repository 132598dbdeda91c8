-- What a call leaves, whether it is made in Rattle or in C: a plan, a refusal, a file, what a file
-- keeps, or a list that was optimized. It is read off the call's answer, or off the words of its
-- reply, and off the lent buffers.
use Rattle.std.specs.Prelude.{ℕ, ◌≡◌, ◌≤◌, ◌<◌, List, Option, Some, None, not, ◌==◌, if◌then◌else◌, map, get_or, length, take, Ok, Err}
use Rattle.std.specs.Float.{binary64}
use Rattle.std.specs.Float.Ieee.{of_bits}
use Rattle.words.specs.Lists.{numbers_from}
use Rattle.refusals.specs.Numbers.{number_of}
use Rattle.refusals.specs.declared.Reason.{Reason}
use Rattle.refusals.specs.declared.Refusal.{Refusal}
use Rattle.records.specs.declared.Head.{Head}
use Rattle.plan_spec.specs.WholeWorks.{WholeWorks, too_wide, without_quotient, with_quotient}
use Rattle.plan_spec.specs.Plan.{Plan}
use Rattle.plan_buffers.specs.declared.WordCounts.{WordCounts}
use Rattle.plan_buffers.specs.SevenBuffers.{Buffers, lengths_of, padded_buffers, no_words}
use Rattle.plan_buffers.specs.SixOutputs.{Outputs}
use Rattle.answer.specs.declared.ActiveComponentPlan.{ActiveComponentPlan}
use Rattle.component_plan.specs.Answer.{Answers}
use Rattle.component_plan.specs.Demand.{plan_in}
use Rattle.stored_plan.specs.Stored.{Kept}
use Rattle.stored_plan.specs.Loading.{scalar_list, Loads}
use Rattle.stored_plan.specs.declared.StoredPlan.{StoredPlan}
use Rattle.store.specs.Storing.{Stores}
use Rattle.optimizer.specs.declared.Counts.{Counts}
use Rattle.optimizer.specs.Answer as Optimizing
use Rattle.midvokt.specs.Reply.{Replies}
use Rattle.midvokt.specs.Stored.{StoreReplies, LoadReplies}
use Rattle.midvokt.specs.Optimized.{OptimizeReplies}

-- ---- planning

-- the whole works that words 9 to 13 of a reply tell
abbrev pub works_told : List ℕ → WholeWorks
works_told words =
    let dense = get_or words 10 0 in
    if get_or words 9 0 == 0 then too_wide
    else (if get_or words 9 0 == 1 then without_quotient dense
    else with_quotient dense (get_or words 11 0) (get_or words 12 0) (get_or words 13 0))

-- the plan that a reply and the buffers tell
abbrev pub plan_told : List ℕ → Buffers → Plan
plan_told words b = record {
  selected = not (get_or words 1 0 == 0);
  initial_components = get_or words 2 0;
  component_count = get_or words 3 0;
  dense_work = of_bits binary64 (get_or words 4 0);
  component_work = of_bits binary64 (get_or words 5 0);
  dense_peak = get_or words 6 0;
  peak = get_or words 7 0;
  allocated = get_or words 8 0;
  whole_works = works_told words;
  steps = b.steps;
  merges = b.merges;
  sizes = b.sizes;
  rotations = b.rotations;
  promotions = b.promotions;
  measurements = b.measurements;
  groups = b.groups;
}

-- a call of `build_active_component_plan` or of `midvokt_plan` leaves this plan, or None where it
-- refuses
pub data Leaves (h : Head) (ws : List ℕ) (before after : Buffers) : Option Plan → Type 0 where
  answer : (r : ActiveComponentPlan) → Answers h ws before after (Ok r)
      → Leaves h ws before after (Some (plan_in r after))
  refusal : (r : Refusal) → Answers h ws before after (Err r)
      → Leaves h ws before after None
  reply : (res words : List ℕ) → 14 ≤ length res → Replies h ws before after res words 0
      → Leaves h ws before after (Some (plan_told words after))
  number : (res words : List ℕ) (n : ℕ) → 0 < n → Replies h ws before after res words n
      → Leaves h ws before after None

-- such a call refuses, with this number and this index
pub data Refuses (h : Head) (ws : List ℕ) (before after : Buffers)
    : (number index : ℕ) → Type 0 where
  answer : (r : Refusal) → Answers h ws before after (Err r)
      → Refuses h ws before after (number_of r.reason) r.index
  reply : (res words : List ℕ) (n : ℕ) → 0 < n → 1 ≤ length res
      → Replies h ws before after res words n
      → Refuses h ws before after n (get_or words 0 0)

-- the head has the records read: max is at least 8, and there are no expectation values
pub record IsRead (h : Head) : Type 0 where
  pub wide : 8 ≤ h.max_k
  pub no_values : h.nexpvals ≡ 0

-- seven buffers of these lengths, with zeros alone
abbrev pub zeroed : Buffers → Buffers
zeroed b = padded_buffers (lengths_of b) no_words

-- ---- files

-- a call of `store` or of `midvokt_store` leaves a file of so many bytes, at the front of `filed`
pub data LeavesFile (h : Head) (ws : List ℕ) (before after : Buffers) (file filed : List ℕ)
    : ℕ → Type 0 where
  answer : (n : ℕ) → Stores h ws before after file filed (Ok n)
      → LeavesFile h ws before after file filed n
  reply : (res words : List ℕ) → 2 ≤ length res
      → StoreReplies h ws before after file filed res words 0
      → LeavesFile h ws before after file filed (get_or words 1 0)

-- what so many words of the six outputs, and these scalar words, say that a file keeps
abbrev pub kept_told : List ℕ → WordCounts → Outputs → Kept
kept_told scalars counts o = record {
  steps = take counts.steps o.steps;
  merges = take counts.merges o.merges;
  sizes = take counts.sizes o.sizes;
  rotations = take counts.rotations o.rotations;
  promotions = take counts.promotions o.promotions;
  measurements = take counts.measurements o.measurements;
  scalars = scalars;
}

-- words 1 to 8 of a reply, and the counts that words 9 to 14 tell
abbrev pub scalars_told : List ℕ → List ℕ
scalars_told words = map (λ i. get_or words i 0) (numbers_from 1 8)

abbrev pub words_told : List ℕ → WordCounts
words_told words = record {
  steps = get_or words 9 0;
  merges = get_or words 10 0;
  sizes = get_or words 11 0;
  rotations = get_or words 12 0;
  promotions = get_or words 13 0;
  measurements = get_or words 14 0;
}

-- what a reply and the outputs tell of a file
abbrev pub file_told : List ℕ → Outputs → Kept
file_told words o = kept_told (scalars_told words) (words_told words) o

-- a call of `load` or of `midvokt_load` says that a file keeps this, or None where it refuses
pub data LeavesKept (file : List ℕ) (before after : Outputs) : Option Kept → Type 0 where
  answer : (s : StoredPlan) → Loads file before after (Ok s)
      → LeavesKept file before after (Some (kept_told (scalar_list s.scalars) s.counts after))
  refusal : (r : Reason) → Loads file before after (Err r)
      → LeavesKept file before after None
  reply : (res words : List ℕ) → 15 ≤ length res → LoadReplies file before after res words 0
      → LeavesKept file before after (Some (file_told words after))
  number : (res words : List ℕ) (n : ℕ) → 0 < n → LoadReplies file before after res words n
      → LeavesKept file before after None

-- ---- lists

-- the counts that words 1 to 5 of a reply tell
abbrev pub counts_told : List ℕ → Counts
counts_told words = record {
  input = get_or words 1 0;
  output = get_or words 2 0;
  fused = get_or words 3 0;
  cancelled = get_or words 4 0;
  swaps = get_or words 5 0;
}

-- a call of `optimize_pending_operations` or of `midvokt_optimize` leaves this list, this map and
-- these counts
pub data LeavesList (width : ℕ) (words prefixes list_before list map_before map : List ℕ)
    : Counts → Type 0 where
  answer : (r : Counts)
      → Optimizing.Answers width words prefixes list_before list map_before map (Ok r)
      → LeavesList width words prefixes list_before list map_before map r
  reply : (res told : List ℕ) → 6 ≤ length res
      → OptimizeReplies width words prefixes list_before list map_before map res told 0
      → LeavesList width words prefixes list_before list map_before map (counts_told told)
