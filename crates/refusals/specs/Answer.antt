-- What the definitions of all crates give: a value, or the number of a refusal; and which of them a call's answer is.
use Rattle.std.specs.Prelude.{ℕ, Result, Ok, Err}
use Rattle.refusals.specs.Numbers.{number_of}
use Rattle.refusals.specs.declared.Reason.{Reason}

-- an answer: the value, or the number of a refusal of 01
pub data Answer (A : Type 0) : Type 0 where
  given : A → Answer A
  refused : ℕ → Answer A

-- what a whole program gives: the value, or a refusal's number with the index of the record that it is of (0 where it is of none)
pub data Outcome (A : Type 0) : Type 0 where
  completed : A → Outcome A
  refused_at : (number index : ℕ) → Outcome A

-- 01's number and values for a call's answer
abbrev pub answer_of : {A : Type 0} → Result A Reason → Answer A
answer_of (Ok value) = given value
answer_of (Err reason) = refused (number_of reason)

-- the number of a call's refusal, or 0
abbrev pub number_or_0 : {A : Type 0} → Result A Reason → ℕ
number_or_0 (Ok value) = 0
number_or_0 (Err reason) = number_of reason
