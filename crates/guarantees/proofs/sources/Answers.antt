use Rattle.guarantees.proofs.Promised as Promised
use Rattle.guarantees.proofs.sources.Goals as goal

pub returns-clause-listed : goal.returns-clause-listed
returns-clause-listed c = Promised.sources

pub returns-clause-every_join : goal.returns-clause-every_join
returns-clause-every_join c = Promised.every_join

pub returns-clause-no_other_list : goal.returns-clause-no_other_list
returns-clause-no_other_list c = Promised.one_sources
