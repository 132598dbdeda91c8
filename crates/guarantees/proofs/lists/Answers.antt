use Rattle.guarantees.proofs.Promised as Promised
use Rattle.guarantees.proofs.lists.Goals as goal

pub returns-clause-claims : goal.returns-clause-claims
returns-clause-claims c = Promised.lists

pub returns-clause-expectation : goal.returns-clause-expectation
returns-clause-expectation c = Promised.unchanged
