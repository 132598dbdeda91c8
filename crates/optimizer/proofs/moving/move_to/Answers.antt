-- `optimizer::moving::move_to` meets its contract: the part that is turned begins with the words of the earlier place and ends with those of the operation.
use Rattle.std.proofs.Common.{◌+◌, ◌-◌, ◌*◌, refl, arith}
use Rattle.optimizer.proofs.Turned.{turned}
use Rattle.optimizer.proofs.moving.move_to.Goals as goal

pub returns-clause-moved : goal.returns-clause-moved
returns-clause-moved c =
    turned c.args.segment.now _ c.rotate_right.new.self c.args.to c.args.i (32 * c.args.i + 32 - 32 * c.args.to) c.requires.earlier c.requires.inside
    (let h = c.requires.earlier in omega arith) refl c.rotate_right.ensures.after
