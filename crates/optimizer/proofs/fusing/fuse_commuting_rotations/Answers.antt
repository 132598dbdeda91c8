-- `optimizer::fusing::fuse_commuting_rotations` meets its contract: each turn is the next of those that are left.
use Rattle.std.proofs.Common.{◌+◌, ◌-◌, ◌/◌, length, ap, rules}
use mathlib.Core.Path.{◌∙◌}
use Rattle.pending.specs.Operation.{operations_of}
use Rattle.optimizer.specs.Working.{fusing_in, fuse_turn, turns}
use Rattle.optimizer.proofs.Laws.{one_more}
use Rattle.optimizer.proofs.fusing.fuse_commuting_rotations.Goals as goal

pub loop-i-preserved : goal.loop-i-preserved
loop-i-preserved c =
    let n = length c.args.segment.now / 32 in
    let s = fusing_in (operations_of c.loop-i.segment) c.loop-i.counts in
    record {
      long = c.fuse_turn-counts.ensures.length ∙ c.loop-i.invariant.long;
      within = c.fuse_turn-counts.ensures.counts;
      ends =
          ap (turns fuse_turn (n - (c.loop-i.i + 1)) (c.loop-i.i + 1)) c.fuse_turn-counts.ensures.turned
          ∙ one_more fuse_turn n c.loop-i.i s (search rules)
          ∙ c.loop-i.invariant.ends;
    }
