-- `plan_buffers::buffers::allocated` meets its contract. The loop's invariant: the sum is that over the sizes so far, or the largest word where that is smaller.
use Rattle.std.proofs.Common.{arith}
use Rattle.std.proofs.lemmas.Grind.{common_steps}
use Rattle.words.proofs.Words.{below_at}
use Rattle.plan_buffers.proofs.Fill.{allocated_sum}
use Rattle.plan_buffers.proofs.buffers.allocated.Goals as goal

pub overflow_shl-size : goal.overflow_shl-size
overflow_shl-size c = below_at c.args.sizes.now c.loop-size.size-index c.requires c.loop-size-test.true

pub loop-size-preserved : goal.loop-size-preserved
loop-size-preserved c =
    let small = below_at c.args.sizes.now c.loop-size.size-index c.requires c.loop-size-test.true in grind (arith, common_steps)

pub returns : goal.returns
returns c = grind (arith, common_steps, allocated_sum c.args.sizes.now)
