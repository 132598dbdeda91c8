-- What is said of a call of `load` with the file that a call of `store` has left: 02, CR 2,
-- "reading a written plan restores these fields and every row".
use Rattle.std.specs.Prelude.{ℕ, ◌≡◌, List, length, take, Result as Answered}
use Rattle.refusals.specs.Answer.{given}
use Rattle.words.specs.Lists.{padded}
use Rattle.plan_spec.specs.Plan.{Plan}
use Rattle.stored_plan.specs.Stored.{kept_of, scalars_of, file_of}
use Rattle.stored_plan.specs.Reading.{trailer_word, counts_of}
use Rattle.plan_buffers.specs.SixOutputs.{Outputs, word_counts_of}
use Rattle.stored_plan.specs.Loading.{Loads, loaded, outcome_of}
use Rattle.stored_plan.specs.Laws.{IsLongEnough}
use Rattle.refusals.specs.declared.Reason.{Reason}
use Rattle.stored_plan.specs.declared.StoredPlan.{StoredPlan}

-- the answer has the plan's eight fields and counts, and the six outputs have every word of the
-- plan's, with zeros behind
pub record GivesBack (p : Plan) (before after : Outputs)
    (r : Answered StoredPlan Reason) : Type 0 where
  pub answer : outcome_of r ≡ given (loaded (scalars_of p) (counts_of (kept_of p)))
  pub steps : after.steps ≡ padded (length before.steps) p.steps
  pub merges : after.merges ≡ padded (length before.merges) p.merges
  pub sizes : after.sizes ≡ padded (length before.sizes) p.sizes
  pub rotations : after.rotations ≡ padded (length before.rotations) p.rotations
  pub promotions : after.promotions ≡ padded (length before.promotions) p.promotions
  pub measurements : after.measurements ≡ padded (length before.measurements) p.measurements

-- n bytes of what was left are the plan's file, n is the length in its trailer, and reading them
-- gives the plan back into any outputs that are long enough
pub record Written (p : Plan) (filed : List ℕ) (n : ℕ) : Type 0 where
  pub file : take n filed ≡ file_of p
  pub returned : n ≡ length (file_of p)
  pub trailer : trailer_word (take n filed) 14 ≡ n
  pub back : (before after : Outputs) (r : Answered StoredPlan Reason)
      → IsLongEnough p (word_counts_of before) → Loads (take n filed) before after r
      → GivesBack p before after r
