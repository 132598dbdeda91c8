use Rattle.std.proofs.Common.{◌≡◌, ℕ, ◌-◌, ◌/◌, List, length}
use Rattle.pending.specs.Operation.{operations_of}
use Rattle.optimizer.specs.declared.fusing.Fused.{Fused}
use Rattle.optimizer.specs.Working.{fusing_of, fusing_in, fuse_turn, turns, Within}
use Rattle.optimizer.proofs.fusing.fuse_commuting_rotations.Given as goal

-- the turns that are left lead from here to the same end
pub record Invariant (segment before : List ℕ) (i : ℕ) (counts : Fused) : Type 0 where
  pub long : length segment ≡ length before
  pub within : Within i counts
  pub ends :
      turns fuse_turn (length before / 32 - i) i (fusing_in (operations_of segment) counts)
      ≡ turns fuse_turn (length before / 32) 0 (fusing_of (operations_of before))

abbrev pub invariant-loop-i : goal.invariant-loop-i
invariant-loop-i l = Invariant l.segment l.initial.segment l.i l.counts
