-- `lay_out` meets its contract: the front of the result has the words that there is room for, and the rest is cleared.
use Rattle.std.proofs.Common.{rules}
use Rattle.midvokt.proofs.Laid.{laid_copied}
use Rattle.midvokt.proofs.lay_out.Goals as goal

pub returns : goal.returns
returns c = laid_copied c.min-n.result c.args.words.now c.args.res.now c.copy_from_slice.new.self c.fill_from.new.entries c.min-n.ensures (search rules) c.fill_from.ensures
