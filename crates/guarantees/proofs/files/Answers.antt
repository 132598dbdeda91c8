use Rattle.guarantees.proofs.Promised as Promised
use Rattle.guarantees.proofs.files.Goals as goal

pub returns-clause-back : goal.returns-clause-back
returns-clause-back c = Promised.stored

pub returns-clause-short : goal.returns-clause-short
returns-clause-short c = Promised.short_file

pub returns-clause-one_file : goal.returns-clause-one_file
returns-clause-one_file c = Promised.one_file

pub returns-clause-one_plan : goal.returns-clause-one_plan
returns-clause-one_plan c = Promised.one_program
