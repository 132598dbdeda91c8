use Rattle.std.proofs.Common.{ℕ, ◌≡◌, ◌<◌, length, get_or}
use Rattle.masks.specs.Positions.{Below512}
use Rattle.state.proofs.first_order.Given as goal

abbrev pub invariant-loop-i : goal.invariant-loop-i
invariant-loop-i l = (length l.numbers ≡ 512) × ((p : ℕ) → p < l.i → get_or l.numbers p 0 ≡ p) × Below512 l.numbers
