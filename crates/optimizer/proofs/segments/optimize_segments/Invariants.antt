use Rattle.std.proofs.Common.{◌≡◌, ℕ, ◌/◌, ◌≤◌, List, length, get_or, drop}
use Rattle.pending.specs.Operation.{operations_of}
use Rattle.optimizer.specs.declared.segments.Progress.{Progress}
use Rattle.optimizer.specs.Working.{Going, Come, mark}
use Rattle.optimizer.proofs.segments.optimize_segments.Given as goal

-- the segments in front of this end are optimized, for any prefixes whose ends are marked
pub record Invariant (list before : List ℕ) (map marked : List ℕ) (end : ℕ) (p : Progress) : Type 0 where
  pub list_long : length list ≡ length before
  pub map_long : length map ≡ length marked
  pub going : Going end p
  pub rest : drop p.start (operations_of list) ≡ drop p.start (operations_of before)
  pub come : (prefixes : List ℕ) → ((q : ℕ) → q ≤ length before / 32 → get_or marked q 0 ≡ mark (length before / 32) prefixes q) →
      Come (operations_of before) prefixes end (operations_of list) map p

abbrev pub invariant-loop-end : goal.invariant-loop-end
invariant-loop-end l = Invariant l.list l.initial.list l.map l.initial.map l.end l.progress
