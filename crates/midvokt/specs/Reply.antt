-- What the contract of `midvokt_plan` says: its answer, the words of `result`, and the seven buffers, for the definition.
use Rattle.std.specs.Prelude.{ℕ, ◌≡◌, List, [], ◌∷◌, map, length, get_or, Result as Answered, Ok, Err}
use Rattle.refusals.specs.Answer.{Outcome, completed, refused_at}
use Rattle.words.specs.Lists.{numbers_from}
use Rattle.words.specs.Words.{flag_word, bits_word}
use Rattle.refusals.specs.Numbers as Reasons
use Rattle.refusals.specs.declared.Refusal.{Refusal}
use Rattle.records.specs.declared.Head.{Head}
use Rattle.plan_spec.specs.WholeWorks.{whole_words}
use Rattle.plan_spec.specs.Plan.{plan_of}
use Rattle.plan_buffers.specs.SevenBuffers.{Buffers, lengths_of, Held}
use Rattle.answer.specs.Outcome.{Fields, outcome_in}

-- the head of a call's first four words
abbrev pub head_of : (initial_k max_k nexpvals ceiling : ℕ) → Head
head_of initial_k max_k nexpvals ceiling =
    record { initial_k = initial_k; max_k = max_k; nexpvals = nexpvals; ceiling = ceiling }

-- the seven lent buffers, in the order of a call
abbrev pub seven_buffers : (steps merges sizes rotations promotions measurements groups : List ℕ) → Buffers
seven_buffers steps merges sizes rotations promotions measurements groups = record {
  steps = steps;
  merges = merges;
  sizes = sizes;
  rotations = rotations;
  promotions = promotions;
  measurements = measurements;
  groups = groups;
}

-- 0 for a plan, else the refusal's number
abbrev pub number_of : Outcome Fields → ℕ
number_of (completed f) = 0
number_of (refused_at number index) = number

-- of the code's answer
abbrev pub number_in : {A : Type 0} → Answered A Refusal → ℕ
number_in (Ok value) = 0
number_in (Err refusal) = Reasons.number_of refusal.reason

-- the refusal's record index, 0 for a plan; then "the eight scalar fields in order", works as bits; then the five words of the whole works
abbrev pub words_of : Outcome Fields → List ℕ
words_of (completed f) =
    0 ∷ flag_word f.selected ∷ f.initial_components ∷ f.component_count ∷ bits_word f.dense_work ∷ bits_word f.component_work
    ∷ f.dense_peak ∷ f.peak ∷ f.allocated ∷ whole_words f.whole_works
words_of (refused_at number index) = index ∷ []

-- a lent result of n words: these, as many as there is room for, and zeros behind them
abbrev pub laid_out : ℕ → List ℕ → List ℕ
laid_out n ws = map (λ i. get_or ws i 0) (numbers_from 0 n)

pub record Replies (h : Head) (ws : List ℕ) (before after : Buffers) (lent filled : List ℕ) (r : ℕ) : Type 0 where
  pub number : r ≡ number_of (outcome_in (plan_of h ws (lengths_of before)))
  pub result : filled ≡ laid_out (length lent) (words_of (outcome_in (plan_of h ws (lengths_of before))))
  pub held : Held (plan_of h ws (lengths_of before)) before after
