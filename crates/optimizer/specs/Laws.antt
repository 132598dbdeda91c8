-- What is claimed of optimizing, brought to the words that a call leaves: 02, CR 6, "Also wanted".
use Rattle.std.specs.Prelude.{ℕ, ◌*◌, ◌≤◌, ◌≡◌, List, length, get_or, take}
use Rattle.pending.specs.Operation.{operations_of}
use Rattle.optimizer_spec.specs.Claims.{output, fusions, boundary_of, Claims}
use Rattle.optimizer_spec.specs.Further.{Further}
use Rattle.optimizer.specs.declared.Counts.{Counts}
use Rattle.optimizer.specs.Working.{bare, cancellations}

-- of the list in `words`: what is left, the boundaries and the counts stand in the lent list, map and answer, and all that is claimed holds of them
pub record Left (words prefixes list map : List ℕ) (r : Counts) : Type 0 where
  pub operations : operations_of (take (32 * r.output) list) ≡ bare (output (operations_of words) prefixes)
  pub boundaries : (p : ℕ) → p ≤ length (operations_of words) → get_or map p 0 ≡ boundary_of (operations_of words) prefixes p
  pub input : r.input ≡ length (operations_of words)
  pub left : r.output ≡ length (output (operations_of words) prefixes)
  pub fused : r.fused ≡ length (fusions (operations_of words) prefixes)
  pub cancelled : r.cancelled ≡ cancellations (fusions (operations_of words) prefixes)
  pub claims : Claims (operations_of words) prefixes
  pub further : Further (operations_of words) prefixes
