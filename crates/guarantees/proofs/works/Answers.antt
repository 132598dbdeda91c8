use Rattle.guarantees.proofs.Promised as Promised
use Rattle.guarantees.proofs.works.Goals as goal

pub returns-clause-agree : goal.returns-clause-agree
returns-clause-agree c = Promised.works_agree

pub returns-clause-too_wide : goal.returns-clause-too_wide
returns-clause-too_wide c = Promised.too_wide

pub returns-clause-not_negative : goal.returns-clause-not_negative
returns-clause-not_negative c = Promised.not_negative
