-- What the contract of `load` says: its answer, and the six outputs, for what reading the file gives.
use Rattle.std.specs.Prelude.{ℕ, ◌+◌, ◌*◌, ◌≡◌, List, [], ◌∷◌, map, length, get_or, Result, Ok, Err}
use Rattle.refusals.specs.Answer.{Answer, given, refused}
use Rattle.words.specs.Lists.{numbers_from, padded}
use Rattle.plan_buffers.specs.declared.WordCounts.{WordCounts}
use Rattle.stored_plan.specs.Stored.{trailer_words, Kept}
use Rattle.plan_buffers.specs.SixOutputs.{Outputs, word_counts_of}
use Rattle.stored_plan.specs.Reading.{Read, trailer_word, counts_of, read_file}
use Rattle.stored_plan.specs.declared.ScalarWords.{ScalarWords}
use Rattle.refusals.specs.Numbers as Reasons
use Rattle.refusals.specs.declared.Reason.{Reason}
use Rattle.stored_plan.specs.declared.StoredPlan.{StoredPlan}

-- the eight words and the counts
pub record Loaded : Type 0 where
  pub scalars : List ℕ
  pub counts : WordCounts

abbrev pub loaded : (scalars : List ℕ) (counts : WordCounts) → Loaded
loaded scalars counts = record { scalars = scalars; counts = counts }

abbrev pub scalar_list : ScalarWords → List ℕ
scalar_list s =
    s.selected ∷ s.initial_components ∷ s.component_count ∷ s.estimated_dense_work ∷ s.estimated_component_work
    ∷ s.dense_peak_dimension ∷ s.component_peak_live_dimension ∷ s.component_allocated_dimension ∷ []

-- of the code's answer
abbrev pub outcome_of : Result StoredPlan Reason → Answer Loaded
outcome_of (Ok plan) = given (loaded (scalar_list plan.scalars) plan.counts)
outcome_of (Err reason) = refused (Reasons.number_of reason)

-- of the definition's
abbrev pub outcome_in : Read → Answer Loaded
outcome_in (given k) = given (loaded k.scalars (counts_of k))
outcome_in (refused number) = refused number

-- what a lent output of n words holds afterwards: its section and zeros behind it, and zeros alone after a refusal
abbrev pub restored_in : ℕ → (Kept → List ℕ) → Read → List ℕ
restored_in n section (given k) = padded n (section k)
restored_in n section (refused number) = padded n []

-- the six outputs hold what was read, whatever they held before
pub record Restored (r : Read) (before after : Outputs) : Type 0 where
  pub steps : after.steps ≡ restored_in (length before.steps) (λ k. k.steps) r
  pub merges : after.merges ≡ restored_in (length before.merges) (λ k. k.merges) r
  pub sizes : after.sizes ≡ restored_in (length before.sizes) (λ k. k.sizes) r
  pub rotations : after.rotations ≡ restored_in (length before.rotations) (λ k. k.rotations) r
  pub promotions : after.promotions ≡ restored_in (length before.promotions) (λ k. k.promotions) r
  pub measurements : after.measurements ≡ restored_in (length before.measurements) (λ k. k.measurements) r

-- the answer and every output are those of reading the file
pub record Loads (file : List ℕ) (before after : Outputs) (r : Result StoredPlan Reason) : Type 0 where
  pub answer : outcome_of r ≡ outcome_in (read_file file (word_counts_of before))
  pub held : Restored (read_file file (word_counts_of before)) before after

-- ---- what the functions below `load` say

-- the refusal's number, 0 where there is none
abbrev pub number_of : Read → ℕ
number_of (given k) = 0
number_of (refused number) = number

-- the sixteen words of a file's trailer
abbrev pub trailer_in : List ℕ → List ℕ
trailer_in file = map (trailer_word file) (numbers_from 0 trailer_words)

-- section s's count: the trailer has a start and a count of each
abbrev pub count_of : (trailer : List ℕ) → (s : ℕ) → ℕ
count_of trailer s = get_or trailer (2 * s + 1) 0

-- the seven starts and counts in a trailer, in turn
abbrev pub pointers_in : List ℕ → List ℕ
pointers_in trailer = map (λ i. get_or trailer i 0) (numbers_from 0 14)

-- the six counts in a trailer
abbrev pub counts_in : List ℕ → WordCounts
counts_in trailer = record {
  steps = count_of trailer 0;
  merges = count_of trailer 1;
  sizes = count_of trailer 2;
  rotations = count_of trailer 3;
  promotions = count_of trailer 4;
  measurements = count_of trailer 5;
}
