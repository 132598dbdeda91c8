use Rattle.guarantees.proofs.Promised as Promised
use Rattle.guarantees.proofs.guards.Goals as goal

pub returns : goal.returns
returns c = Promised.guards
