use Rattle.guarantees.proofs.Promised as Promised
use Rattle.guarantees.proofs.room.Goals as goal

pub returns : goal.returns
returns c = Promised.room
