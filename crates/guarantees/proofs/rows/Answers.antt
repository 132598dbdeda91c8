use Rattle.guarantees.proofs.Promised as Promised
use Rattle.guarantees.proofs.rows.Goals as goal

pub returns-clause-given_back : goal.returns-clause-given_back
returns-clause-given_back c = Promised.rows

pub returns-clause-parts : goal.returns-clause-parts
returns-clause-parts c = Promised.parts
