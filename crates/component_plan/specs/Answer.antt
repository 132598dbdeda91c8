-- What the contract of `build_active_component_plan` says: number and values for each case of the
-- answer, and the seven buffers.
use Rattle.std.specs.Prelude.{ℕ, ◌≡◌, List, Result as Answered}
use Rattle.refusals.specs.Answer.{completed}
use Rattle.refusals.specs.declared.Refusal.{Refusal}
use Rattle.records.specs.declared.Head.{Head}
use Rattle.plan_spec.specs.Plan.{Plan, Result, plan_of, plan_read}
use Rattle.plan_buffers.specs.SevenBuffers.{Buffers, lengths_of, Held}
use Rattle.answer.specs.declared.ActiveComponentPlan.{ActiveComponentPlan}
use Rattle.answer.specs.Outcome.{outcome_of, outcome_in}

-- the answer and every buffer are the definition's
pub record Answers (h : Head) (ws : List ℕ) (before after : Buffers)
    (r : Answered ActiveComponentPlan Refusal) : Type 0 where
  pub answer : outcome_of r ≡ outcome_in (plan_of h ws (lengths_of before))
  pub held : Held (plan_of h ws (lengths_of before)) before after

-- the same of a result of the definition, but that a refusal leaves the buffers open
pub record Filled (result : Result) (before after : Buffers)
    (r : Answered ActiveComponentPlan Refusal) : Type 0 where
  pub answer : outcome_of r ≡ outcome_in result
  pub held : (p : Plan) → result ≡ completed p → Held (completed p) before after

-- of a program
abbrev pub HeadAnswers : Head → List ℕ → Buffers → Buffers
    → Answered ActiveComponentPlan Refusal → Type 0
HeadAnswers h ws before after r = Filled (plan_of h ws (lengths_of before)) before after r

-- of a program whose records are read
abbrev pub ReadAnswers : Head → ℕ → List ℕ → Buffers → Buffers
    → Answered ActiveComponentPlan Refusal → Type 0
ReadAnswers h dense_peak ws before after r =
    Filled (plan_read h ws (lengths_of before) dense_peak) before after r
