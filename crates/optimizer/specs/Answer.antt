-- What the contract of `optimize_pending_operations` says: its answer, and every word of the lent list and map, for what optimizing gives.
use Rattle.std.specs.Prelude.{ℕ, ◌-◌, ◌/◌, ◌%◌, ◌<◌, ◌≤◌, ◌≡◌, List, [], ◌∷◌, ◌++◌, true, false, length, replicate, Result, Ok, Err, nat_lt}
use Rattle.std.specs.List.{list_any, list_all, concat}
use Rattle.refusals.specs.Answer.{Outcome, completed, refused_at}
use Rattle.refusals.specs.Numbers as Reasons
use Rattle.refusals.specs.declared.Refusal.{Refusal}
use Rattle.pending.specs.Operation.{operations_of}
use Rattle.pending.specs.Form.{operation_fits}
use Rattle.optimizer_spec.specs.Optimizing.{Optimized, as_it_is, in_segments, outcome_of}
use Rattle.optimizer.specs.declared.checks.Verdict.{Verdict}
use Rattle.optimizer.specs.declared.Counts.{Counts}
use Rattle.optimizer.specs.declared.checks.Verdict.TheVariants.{AsItIs, InSegments}

-- of the code's verdict
abbrev pub verdict_of : Result Verdict Refusal → (words prefixes : List ℕ) → (Outcome Optimized)
verdict_of (Ok AsItIs) words prefixes = completed (as_it_is (operations_of words))
verdict_of (Ok InSegments) words prefixes = completed (in_segments (operations_of words) prefixes)
verdict_of (Err refusal) words prefixes = refused_at (Reasons.number_of refusal.reason) refusal.index

-- for a list that is optimized in segments no prefix is beyond it
abbrev pub PrefixesInside : Verdict → (n : ℕ) → (prefixes : List ℕ) → Type 0
PrefixesInside AsItIs n prefixes = Unit
PrefixesInside InSegments n prefixes = list_any (nat_lt n) prefixes ≡ false

-- what is known of a call with a verdict
pub record Sound (width : ℕ) (words prefixes : List ℕ) (optimized_len map_len : ℕ) (verdict : Verdict) : Type 0 where
  pub whole : length words % 32 ≡ 0
  pub few : length words ≤ 32768
  pub room : length words ≤ optimized_len
  pub map_room : length words / 32 < map_len
  pub fit : list_all (operation_fits width) (operations_of words) ≡ true
  pub inside : PrefixesInside verdict (length words / 32) prefixes

-- ---- the answer and the lent words

-- the code's counts in the order of "counts"
abbrev pub counts_list : Counts → List ℕ
counts_list c = c.input ∷ c.output ∷ c.fused ∷ c.cancelled ∷ c.swaps ∷ []

-- what a call tells: the five counts, or a refusal's number and index; of the code's answer
abbrev pub told_of : Result Counts Refusal → (Outcome (List ℕ))
told_of (Ok counts) = completed (counts_list counts)
told_of (Err refusal) = refused_at (Reasons.number_of refusal.reason) refusal.index

-- of the definition's
abbrev pub told_in : (Outcome Optimized) → (Outcome (List ℕ))
told_in (completed o) = completed o.counts
told_in (refused_at number index) = refused_at number index

-- n words that begin with these, "then zeros"
abbrev pub held : (n : ℕ) → List ℕ → List ℕ
held n ws = ws ++ replicate (n - length ws) 0

-- n words of the list: the operations that are left, zeros behind them, and after a refusal zeros alone
abbrev pub list_in : (n : ℕ) → (Outcome Optimized) → List ℕ
list_in n (completed o) = held n (concat o.operations)
list_in n (refused_at number index) = held n []

-- n words of the map
abbrev pub map_in : (n : ℕ) → (Outcome Optimized) → List ℕ
map_in n (completed o) = held n o.map
map_in n (refused_at number index) = held n []

-- the answer and every word of list and map are the definition's, whatever they held
pub record Answers (width : ℕ) (words prefixes list_before list_after map_before map_after : List ℕ) (r : Result Counts Refusal) : Type 0 where
  pub answer : told_of r ≡ told_in (outcome_of width words prefixes (length list_before) (length map_before))
  pub list : list_after ≡ list_in (length list_before) (outcome_of width words prefixes (length list_before) (length map_before))
  pub map : map_after ≡ map_in (length map_before) (outcome_of width words prefixes (length list_before) (length map_before))

-- the same of what is done to a list that is not refused
pub record Gives (o : Optimized) (list_before list_after map_before map_after : List ℕ) (r : Counts) : Type 0 where
  pub counts : counts_list r ≡ o.counts
  pub list : list_after ≡ held (length list_before) (concat o.operations)
  pub map : map_after ≡ held (length map_before) o.map
