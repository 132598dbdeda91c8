use Rattle.std.proofs.Common.{◌≡◌, ℕ, ◌<◌, List, length, get_or}
use Rattle.optimizer.proofs.number.Given as goal

-- the words so far are their places
pub record Invariant (words before : List ℕ) (i : ℕ) : Type 0 where
  pub long : length words ≡ length before
  pub placed : (q : ℕ) → q < i → get_or words q 0 ≡ q

abbrev pub invariant-loop-i : goal.invariant-loop-i
invariant-loop-i l = Invariant l.words l.initial.words l.i
