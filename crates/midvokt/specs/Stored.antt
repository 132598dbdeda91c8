-- What the contracts of `midvokt_store` and `midvokt_load` say: what they return, the words of `result`, the buffers and the file, for 02's definition, CR 2.
use Rattle.std.specs.Prelude.{ℕ, ◌≡◌, List, [], ◌∷◌, ◌++◌, length, replicate}
use Rattle.refusals.specs.Answer.{Answer, Outcome, completed, given, refused, refused_at}
use Rattle.words.specs.Lists.{padded}
use Rattle.records.specs.declared.Head.{Head}
use Rattle.plan_buffers.specs.SevenBuffers.{Buffers, lengths_of, Held}
use Rattle.stored_plan.specs.Reading.{read_file}
use Rattle.stored_plan.specs.Loading as Loading
use Rattle.plan_buffers.specs.SixOutputs.{Outputs, word_counts_of}
use Rattle.stored_plan.specs.Loading.{Loaded, Restored}
use Rattle.store.specs.Storing as Storing
use Rattle.store.specs.Storing.{store_of, file_in}
use Rattle.midvokt.specs.Reply.{laid_out}

-- ---- storing

-- 0 for a file, else the refusal's number
abbrev pub store_number : Outcome ℕ → ℕ
store_number (completed n) = 0
store_number (refused_at number index) = number

-- the refusal's record index, 0 for a file; the file's length in bytes, 0 after a refusal
abbrev pub store_words : Outcome ℕ → List ℕ
store_words (completed n) = 0 ∷ n ∷ []
store_words (refused_at number index) = index ∷ 0 ∷ []

pub record StoreReplies (h : Head) (ws : List ℕ) (before after : Buffers) (file filed lent filled : List ℕ) (r : ℕ) : Type 0 where
  pub number : r ≡ store_number (Storing.outcome_in (store_of h ws (lengths_of before) (length file)))
  pub result : filled ≡ laid_out (length lent) (store_words (Storing.outcome_in (store_of h ws (lengths_of before) (length file))))
  pub held : Held (store_of h ws (lengths_of before) (length file)) before after
  pub bytes : filed ≡ padded (length file) (file_in (store_of h ws (lengths_of before) (length file)))

-- ---- reading

-- the six lent outputs, in the order of a call
abbrev pub six_outputs : (steps merges sizes rotations promotions measurements : List ℕ) → Outputs
six_outputs steps merges sizes rotations promotions measurements = record {
  steps = steps;
  merges = merges;
  sizes = sizes;
  rotations = rotations;
  promotions = promotions;
  measurements = measurements;
}

-- 0 for a plan, else the refusal's number
abbrev pub load_number : Answer Loaded → ℕ
load_number (given l) = 0
load_number (refused number) = number

-- 0, the eight words and the six counts; all zero after a refusal
abbrev pub load_words : Answer Loaded → List ℕ
load_words (given l) =
    let counts = l.counts in
    0 ∷ (l.scalars ++ (counts.steps ∷ counts.merges ∷ counts.sizes ∷ counts.rotations ∷ counts.promotions ∷ counts.measurements ∷ []))
load_words (refused number) = replicate 15 0

pub record LoadReplies (file : List ℕ) (before after : Outputs) (lent filled : List ℕ) (r : ℕ) : Type 0 where
  pub number : r ≡ load_number (Loading.outcome_in (read_file file (word_counts_of before)))
  pub result : filled ≡ laid_out (length lent) (load_words (Loading.outcome_in (read_file file (word_counts_of before))))
  pub held : Restored (read_file file (word_counts_of before)) before after
