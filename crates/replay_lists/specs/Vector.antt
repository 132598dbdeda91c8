-- What replaying a list of pending operations gives: whether the definition's words are recorded.
use Rattle.std.specs.Prelude.{ℕ, Bool, ◌&&◌, ◌==◌, List, drop, get_or, Ok, Err, if◌then◌else◌}
use Rattle.refusals.specs.Answer.{Outcome}
use Rattle.optimizer_spec.specs.Optimizing.{Optimized, outcome_of}
use Rattle.optimizer.specs.Answer.{told_in, list_in, map_in}
use Rattle.midvokt.specs.Reply.{laid_out}
use Rattle.midvokt.specs.Optimized.{optimize_number, optimize_words}
use Rattle.vectors.specs.Reading.{Read, ◌>>=◌, word_in, words_in, holds, buffer_within}
use Rattle.vectors.specs.declared.Flaw.TheVariants.{TooLong}
use Rattle.replay_lists.specs.Head.{longest, too_long}

-- whether the recorded number and the six recorded words are these
unfoldable pub answer_in : ℕ → List ℕ → List ℕ → Read Bool
answer_in number reply ws = do
  recorded ← word_in ws
  expected ← words_in 6 recorded.1
  Ok ((number == recorded.0) && holds reply expected.0, expected.1)

-- whether this answer, this list and this map are recorded
unfoldable pub recorded_in : ℕ → List ℕ → List ℕ → List ℕ → List ℕ → Read Bool
recorded_in number reply optimized map ws = do
  answer ← answer_in number reply ws
  list ← buffer_within longest optimized answer.1
  marks ← buffer_within longest map list.1
  Ok (answer.0 && list.0 && marks.0, marks.1)

-- the same of what optimizing answers, and leaves in a list and a map of these lengths
abbrev pub optimized_in : Outcome Optimized → ℕ → ℕ → List ℕ → Read Bool
optimized_in outcome list_len map_len ws =
    recorded_in (optimize_number (told_in outcome)) (laid_out 6 (optimize_words (told_in outcome)))
    (list_in list_len outcome) (map_in map_len outcome) ws

-- the five words of the head
unfoldable pub head_in : List ℕ → Read (List ℕ)
head_in ws = do
  head ← words_in 5 ws
  if too_long (drop 1 head.0) then Err TooLong else Ok head

-- whether what the definition gives for the width, the list and the prefixes is recorded
unfoldable pub agreement : List ℕ → Read Bool
agreement ws = do
  head ← head_in ws
  operations ← words_in (get_or head.0 1 0) head.1
  prefixes ← words_in (get_or head.0 2 0) operations.1
  let width = get_or head.0 0 0 in
      let list_len = get_or head.0 3 0 in
      let map_len = get_or head.0 4 0 in
      let outcome = outcome_of width operations.0 prefixes.0 list_len map_len in
      optimized_in outcome list_len map_len prefixes.1
