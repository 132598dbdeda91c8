-- `optimizer::checks::has_expectation` meets its contract: each turn passes over one operation.
use Rattle.std.proofs.Common.{sym, arith}
use mathlib.Core.Path.{◌∙◌}
use Rattle.pending.specs.Operation.{operations_of, is_expectation}
use Rattle.pending.proofs.Chunks.{count}
use Rattle.optimizer.proofs.Laws.{none_here, none_left}
use Rattle.optimizer.proofs.checks.has_expectation.Goals as goal

pub loop-i-preserved : goal.loop-i-preserved
loop-i-preserved c =
    let small = c.loop-i-test.true in
    c.loop-i.invariant
    ∙ none_here is_expectation c.loop-i.i (operations_of c.args.words.now) c.operation_at.result.now (omega (arith, count c.args.words.now))
    c.operation_at.ensures.operation (sym c.is_expectation.ensures ∙ c.if-is_expectation.false)

pub returns : goal.returns
returns c =
    let end = c.loop-i-test.false in
    sym (c.loop-i.invariant ∙ none_left is_expectation c.loop-i.i (operations_of c.args.words.now) (omega (arith, count c.args.words.now)))
