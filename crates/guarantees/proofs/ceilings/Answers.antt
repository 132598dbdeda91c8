use Rattle.guarantees.proofs.Promised as Promised
use Rattle.guarantees.proofs.ceilings.Goals as goal

pub returns-clause-dimensions : goal.returns-clause-dimensions
returns-clause-dimensions c = Promised.dimensions

pub returns-clause-kept : goal.returns-clause-kept
returns-clause-kept c = Promised.kept

pub returns-clause-no_other : goal.returns-clause-no_other
returns-clause-no_other c = Promised.no_other_plan
