use Rattle.guarantees.proofs.Promised as Promised
use Rattle.guarantees.proofs.pairs.Goals as goal

pub returns : goal.returns
returns c = Promised.pairs
