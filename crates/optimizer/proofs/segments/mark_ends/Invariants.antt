use Rattle.std.proofs.Common.{◌≡◌, ℕ, ◌<◌, List, cond, length, get_or, take}
use Rattle.std.specs.Prelude.{eqb}
use Rattle.std.specs.List.{list_any}
use Rattle.optimizer_spec.specs.Optimizing.{no_boundary}
use Rattle.optimizer.proofs.segments.mark_ends.Given as goal

-- the prefixes so far are marked, and nothing else
pub record Invariant (map before prefixes : List ℕ) (i : ℕ) : Type 0 where
  pub long : length map ≡ length before
  pub marks : (q : ℕ) → q < length before → get_or map q 0 ≡ cond (list_any (eqb q) (take i prefixes)) 0 no_boundary

abbrev pub invariant-loop-i : goal.invariant-loop-i
invariant-loop-i l = Invariant l.map l.initial.map l.fn.prefixes l.i
