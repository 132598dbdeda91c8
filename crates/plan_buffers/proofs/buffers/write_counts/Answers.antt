-- `plan_buffers::buffers::write_counts` meets its contract. The loop's invariant: the counts of all components are those of the components from c on, over
-- what was written so far. The words that are taken only grow, so each count is inside the buffer.
use Rattle.std.proofs.Common.{refl}
use Rattle.plan_buffers.specs.Buffers.{counts_of}
use Rattle.plan_buffers.proofs.buffers.write_counts.Goals as goal

pub loop-c-init : goal.loop-c-init
unfolding counts_of
loop-c-init c = (refl, refl)
