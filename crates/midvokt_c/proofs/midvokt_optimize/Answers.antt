-- `midvokt_optimize` meets its contract: it is what the call of its name ensures.
use Rattle.midvokt_c.proofs.midvokt_optimize.Goals as goal

pub returns : goal.returns
returns c = c.midvokt_optimize.ensures
