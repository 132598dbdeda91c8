use Rattle.guarantees.proofs.Promised as Promised
use Rattle.guarantees.proofs.groups.Goals as goal

pub returns-clause-listed : goal.returns-clause-listed
returns-clause-listed c = Promised.groups

pub returns-clause-no_other_list : goal.returns-clause-no_other_list
returns-clause-no_other_list c = Promised.one_groups
