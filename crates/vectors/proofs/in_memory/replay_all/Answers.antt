-- A vector that is replayed is the first of those that are left, and is counted.
use Rattle.std.proofs.Common.{arith, ◌≡◌, ◌+◌, ◌-◌, suc}
use Rattle.vectors.proofs.Counting.{one_counted, one_at_most}
use Rattle.vectors.proofs.in_memory.replay_all.Goals as goal

pub loop-i-preserved : goal.loop-i-preserved
loop-i-preserved g c =
    let f = g.V.Vector.agreement in
    let was = c.loop-i.invariant in
    let left : c.args.count - c.loop-i.i ≡ suc (c.args.count - (c.loop-i.i + 1)) = omega arith in
    let bound = one_at_most c.in-Ok.agrees in
    record {
      agree_bound = omega (arith, bound.0, was.agree_bound, c.with-counts.ensures.agree);
      differ_bound = omega (arith, bound.1, was.differ_bound, c.with-counts.ensures.differ);
      replayed = one_counted f _ _ _ _ _ _ _ _ c.in-Ok.agrees left c.in-Ok.ensures
          (omega (arith, c.with-counts.ensures.agree)) (omega (arith, c.with-counts.ensures.differ)) was.replayed;
    }
