-- A vector that is read and planned is the definition's where its recorded words are the call's.
use Rattle.std.proofs.Common.{refl}
use Rattle.replay.proofs.Agreeing.{agreement_is}
use Rattle.replay.proofs.replay_next.Goals as goal

pub returns : goal.returns
returns g c = λ known.
    let head = c.in_ok-twelve.ensures.head known in
    let records = c.in_ok-records.ensures.words head.0 in
    let told = rw (← c.as_slice-head.ensures.value) at head.1 in
    let number = rw c.deref.ensures.value at c.plan-number.ensures in
    rw (agreement_is _ _ _ _ _ _ _ _ _ _ told records.1 c.in_ok-buffers.ensures refl number)
    (c.recorded.ensures records.0)
