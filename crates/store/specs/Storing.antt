-- What the contract of `store` says: its answer, the seven buffers and every byte of the file.
-- Written from 02, CR 2.
use Rattle.std.specs.Prelude.{ℕ, ◌≡◌, ◌≤◌, List, [], length, take, Result as Answered, Ok, Err, nat_lt}
use Rattle.refusals.specs.Answer.{completed, refused_at, Outcome}
use Rattle.words.specs.Lists.{padded}
use Rattle.refusals.specs.Numbers.{number_of}
use Rattle.refusals.specs.declared.Refusal.{Refusal}
use Rattle.records.specs.declared.Head.{Head}
use Rattle.plan_spec.specs.Plan.{Lengths, Result, refuse_all, plan_of}
use Rattle.plan_buffers.specs.SevenBuffers.{Buffers, lengths_of, Held}
use Rattle.plan_buffers.specs.declared.WordCounts.{WordCounts}
use Rattle.plan_buffers.specs.SixOutputs.{Outputs}
use Rattle.answer.specs.declared.ActiveComponentPlan.{ActiveComponentPlan}
use Rattle.stored_plan.specs.Stored.{Kept, file_of}
use Rattle.plan_file.specs.Writing.{kept_in}

-- "Planning's refusals come first, then 23 for a short file buffer", of n bytes
abbrev pub fitting : ℕ → Result → Result
fitting n (completed p) = refuse_all (nat_lt n (length (file_of p))) 23 (completed p)
fitting n (refused_at number index) = refused_at number index

-- what storing gives for a head, the record words, the lengths of the lent buffers and that of
-- the file
abbrev pub store_of : Head → List ℕ → Lengths → ℕ → Result
store_of h ws l n = fitting n (plan_of h ws l)

-- "The writer returns the file's length", or the refusal's number and record index: of the code's
-- answer
abbrev pub outcome_of : Answered ℕ Refusal → Outcome ℕ
outcome_of (Ok n) = completed n
outcome_of (Err refusal) = refused_at (number_of refusal.reason) refusal.index

-- of the definition's result
abbrev pub outcome_in : Result → Outcome ℕ
outcome_in (completed p) = completed (length (file_of p))
outcome_in (refused_at number index) = refused_at number index

-- the file of a plan; a refusal has none
abbrev pub file_in : Result → List ℕ
file_in (completed p) = file_of p
file_in (refused_at number index) = []

-- the answer, every buffer and every byte of the file are the definition's: "Unused bytes and
-- words, and after a refusal all outputs and the writer's file, are zero"
pub record Stores (h : Head) (ws : List ℕ) (before after : Buffers) (file filed : List ℕ)
    (r : Answered ℕ Refusal) : Type 0 where
  pub answer : outcome_of r ≡ outcome_in (store_of h ws (lengths_of before) (length file))
  pub held : Held (store_of h ws (lengths_of before) (length file)) before after
  pub bytes : filed
      ≡ padded (length file) (file_in (store_of h ws (lengths_of before) (length file)))

-- ---- what the function below `store` says

-- the counts are no more than the outputs' lengths
pub record UsedInside (used : WordCounts) (o : Outputs) : Type 0 where
  pub steps : used.steps ≤ length o.steps
  pub merges : used.merges ≤ length o.merges
  pub sizes : used.sizes ≤ length o.sizes
  pub rotations : used.rotations ≤ length o.rotations
  pub promotions : used.promotions ≤ length o.promotions
  pub measurements : used.measurements ≤ length o.measurements

-- the words that a plan uses of the outputs, and its scalar words, are what its file keeps
abbrev pub used_of : ActiveComponentPlan → Outputs → Kept
used_of p o = kept_in p (record {
  steps = take p.used.steps o.steps;
  merges = take p.used.merges o.merges;
  sizes = take p.used.sizes o.sizes;
  rotations = take p.used.rotations o.rotations;
  promotions = take p.used.promotions o.promotions;
  measurements = take p.used.measurements o.measurements;
})
