-- What replaying a vector of planning gives: whether the definition's words are recorded.
use Rattle.std.specs.Prelude.{ℕ, Bool, ◌&&◌, ◌==◌, List, drop, get_or, replicate, Ok, Err, if◌then◌else◌}
use Rattle.records.specs.declared.Head.{Head}
use Rattle.plan_spec.specs.Plan.{Lengths, Result, plan_of}
use Rattle.answer.specs.Outcome.{outcome_in}
use Rattle.midvokt.specs.Reply.{number_of, words_of, laid_out}
use Rattle.vectors.specs.Reading.{Read, ◌>>=◌, word_in, words_in, holds, buffer_within}
use Rattle.vectors.specs.declared.Flaw.TheVariants.{TooLong}
use Rattle.replay.specs.Head.{longest, too_long}
use Rattle.replay.specs.declared.Buffers.{Buffers as Lent}
use Rattle.plan_buffers.specs.SevenBuffers.{Buffers, padded_buffers, result_words}

-- the head that planning is called with
abbrev pub head_of : List ℕ → Head
head_of head = record {
  initial_k = get_or head 0 0;
  max_k = get_or head 1 0;
  nexpvals = get_or head 2 0;
  ceiling = get_or head 3 0;
}

-- the lengths of the seven buffers
abbrev pub lengths_in : List ℕ → Lengths
lengths_in head = record {
  steps = get_or head 5 0;
  merges = get_or head 6 0;
  sizes = get_or head 7 0;
  rotations = get_or head 8 0;
  promotions = get_or head 9 0;
  measurements = get_or head 10 0;
  groups = get_or head 11 0;
}

-- what stands in the seven buffers
abbrev pub buffers_of : Lent → Buffers
buffers_of b = record {
  steps = b.steps.items;
  merges = b.merges.items;
  sizes = b.sizes.items;
  rotations = b.rotations.items;
  promotions = b.promotions.items;
  measurements = b.measurements.items;
  groups = b.groups.items;
}

-- buffers of these lengths, with no zero in them
abbrev pub sevens : Lengths → Buffers
sevens n = record {
  steps = replicate n.steps 7;
  merges = replicate n.merges 7;
  sizes = replicate n.sizes 7;
  rotations = replicate n.rotations 7;
  promotions = replicate n.promotions 7;
  measurements = replicate n.measurements 7;
  groups = replicate n.groups 7;
}

-- what a result leaves in buffers of these lengths
abbrev pub held_in : Result → Lengths → Buffers
held_in result n = padded_buffers n (result_words result)

-- whether the recorded number and the fourteen recorded words are these
unfoldable pub answer_in : ℕ → List ℕ → List ℕ → Read Bool
answer_in number reply ws = do
  recorded ← word_in ws
  expected ← words_in 14 recorded.1
  Ok ((number == recorded.0) && holds reply expected.0, expected.1)

-- whether the seven buffers hold the recorded words
unfoldable pub buffers_in : Buffers → List ℕ → Read Bool
buffers_in b ws = do
  steps ← buffer_within longest b.steps ws
  merges ← buffer_within longest b.merges steps.1
  sizes ← buffer_within longest b.sizes merges.1
  rotations ← buffer_within longest b.rotations sizes.1
  promotions ← buffer_within longest b.promotions rotations.1
  measurements ← buffer_within longest b.measurements promotions.1
  groups ← buffer_within longest b.groups measurements.1
  Ok (
    steps.0 && merges.0 && sizes.0 && rotations.0 && promotions.0 && measurements.0 && groups.0,
    groups.1,
  )

-- whether this answer and these buffers are recorded
unfoldable pub recorded_in : ℕ → List ℕ → Buffers → List ℕ → Read Bool
recorded_in number reply b ws = do
  answer ← answer_in number reply ws
  held ← buffers_in b answer.1
  Ok (answer.0 && held.0, held.1)

-- the same of what a result of planning answers, and leaves in buffers of these lengths
abbrev pub planned_in : Result → Lengths → List ℕ → Read Bool
planned_in result n ws =
    let outcome = outcome_in result in
    recorded_in (number_of outcome) (laid_out 14 (words_of outcome)) (held_in result n) ws

-- the twelve words of the head
unfoldable pub head_in : List ℕ → Read (List ℕ)
head_in ws = do
  head ← words_in 12 ws
  if too_long (drop 4 head.0) then Err TooLong else Ok head

-- whether what the definition gives for the head and the records is recorded behind them
unfoldable pub agreement : List ℕ → Read Bool
agreement ws = do
  head ← head_in ws
  records ← words_in (get_or head.0 4 0) head.1
  let lengths = lengths_in head.0 in
      planned_in (plan_of (head_of head.0) records.0 lengths) lengths records.1
