use Rattle.guarantees.proofs.Promised as Promised
use Rattle.guarantees.proofs.refusals.Goals as goal

pub returns-clause-placed : goal.returns-clause-placed
returns-clause-placed c = Promised.placed

pub returns-clause-zeroed : goal.returns-clause-zeroed
returns-clause-zeroed c = Promised.zeroed_buffers
