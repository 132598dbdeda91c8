-- `midvokt_optimize` meets its contract: what `optimize_pending_operations` answers, in words.
use Rattle.std.proofs.Common.{ap, ◌∙◌}
use lib.ListN.{length}
use Rattle.midvokt.specs.Reply.{laid_out}
use Rattle.midvokt.specs.Optimized.{optimize_number, optimize_words}
use Rattle.midvokt.proofs.Laid.{optimize_told}
use Rattle.midvokt.proofs.optimizing.midvokt_optimize.Goals as goal

pub returns : goal.returns
returns c =
    let optimized = c.optimize_pending_operations-counts.ensures in record {
      number = c.reply_number.ensures ∙ optimize_told c.optimize_pending_operations-counts.result ∙ ap optimize_number optimized.answer;
      result = c.lay_out.ensures ∙ ap (laid_out (length c.args.res.now)) (c.optimize_words.ensures ∙ ap optimize_words optimized.answer);
      list = optimized.list;
      map = optimized.map;
    }
