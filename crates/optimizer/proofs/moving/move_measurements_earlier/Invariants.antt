use Rattle.std.proofs.Common.{◌≡◌, ℕ, ◌-◌, ◌*◌, ◌/◌, ◌≤◌, Bool, List, length}
use Rattle.pending.specs.Operation.{operations_of}
use Rattle.optimizer.specs.Working.{moving, move_turn, turns}
use Rattle.optimizer.proofs.moving.move_measurements_earlier.Given as goal

-- the turns that are left lead from here to the same end
pub record Invariant (slack : Bool) (segment before : List ℕ) (i swaps : ℕ) : Type 0 where
  pub long : length segment ≡ length before
  pub few : swaps ≤ 1024 * i
  pub ends :
      turns (move_turn slack) (length before / 32 - i) i (moving (operations_of segment) swaps)
      ≡ turns (move_turn slack) (length before / 32) 0 (moving (operations_of before) 0)

abbrev pub invariant-loop-i : goal.invariant-loop-i
invariant-loop-i l = Invariant l.fn.slack l.segment l.initial.segment l.i l.swaps
