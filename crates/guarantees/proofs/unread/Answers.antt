use Rattle.guarantees.proofs.Promised as Promised
use Rattle.guarantees.proofs.unread.Goals as goal

pub returns : goal.returns
returns c = Promised.unread_empty
