-- What the contract of `midvokt_optimize` says: what it returns, the words of `result`, and the lent list and map, for 02's definition, CR 6.
use Rattle.std.specs.Prelude.{ℕ, ◌≡◌, List, [], ◌∷◌, length}
use Rattle.refusals.specs.Answer.{Outcome, completed, refused_at}
use Rattle.optimizer_spec.specs.Optimizing.{outcome_of}
use Rattle.optimizer.specs.Answer.{told_in, list_in, map_in}
use Rattle.midvokt.specs.Reply.{laid_out}

-- 0 for a list, else the refusal's number
abbrev pub optimize_number : (Outcome (List ℕ)) → ℕ
optimize_number (completed counts) = 0
optimize_number (refused_at number index) = number

-- the refusal's index, 0 for a list; then the five counts, 0 after a refusal
abbrev pub optimize_words : (Outcome (List ℕ)) → List ℕ
optimize_words (completed counts) = 0 ∷ counts
optimize_words (refused_at number index) = index ∷ 0 ∷ 0 ∷ 0 ∷ 0 ∷ 0 ∷ []

pub record OptimizeReplies (width : ℕ) (words prefixes list_before list_after map_before map_after lent filled : List ℕ) (r : ℕ) : Type 0 where
  pub number : r ≡ optimize_number (told_in (outcome_of width words prefixes (length list_before) (length map_before)))
  pub result : filled ≡ laid_out (length lent) (optimize_words (told_in (outcome_of width words prefixes (length list_before) (length map_before))))
  pub list : list_after ≡ list_in (length list_before) (outcome_of width words prefixes (length list_before) (length map_before))
  pub map : map_after ≡ map_in (length map_before) (outcome_of width words prefixes (length list_before) (length map_before))
