-- `midvokt_store` meets its contract: it is what the call of its name ensures.
use Rattle.midvokt_c.proofs.midvokt_store.Goals as goal

pub returns : goal.returns
returns c = c.midvokt_store.ensures
