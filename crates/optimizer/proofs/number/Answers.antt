-- `optimizer::number` meets its contract: each word is its place.
use Rattle.std.proofs.Common.{length, arith}
use Rattle.std.specs.List.{range_with_len}
use mathlib.Core.Path.{◌∙◌}
use Rattle.std.proofs.lemmas.List.{map-id}
use Rattle.optimizer.proofs.Holding.{by_entries}
use Rattle.optimizer.proofs.number.Goals as goal

pub returns : goal.returns
returns c =
    let end = c.loop-i-test.false in
    by_entries (λ q. q) (length c.args.words.now) c.loop-i.words c.loop-i.invariant.long (λ q small. c.loop-i.invariant.placed q (omega arith))
    ∙ map-id (range_with_len 0 (length c.args.words.now))
