-- `fill_from` meets its contract: the entry that a turn gives the value is the next behind those that have it.
use Rattle.std.proofs.Common.{arith, ◌∙◌}
use lib.ListN.{length-set}
use Rattle.words.proofs.filling.fill_from.Goals as goal
use Rattle.words.proofs.Filled.{filled_more}

pub loop-i-preserved : goal.loop-i-preserved
loop-i-preserved g c =
    let kept = length-set c.loop-i.entries c.loop-i.i c.args.value in (
      kept ∙ c.loop-i.invariant.0,
      filled_more c.args.entries.now c.loop-i.entries c.args.value c.args.from c.loop-i.i (omega arith) (omega arith) c.loop-i.invariant.1,
    )
