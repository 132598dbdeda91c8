-- `optimizer::moving::move_measurements_earlier` meets its contract: each turn is the next of those that are left.
use Rattle.std.proofs.Common.{◌+◌, ◌-◌, ◌/◌, length, ap, rules, arith}
use mathlib.Core.Path.{◌∙◌}
use Rattle.pending.specs.Operation.{operations_of}
use Rattle.optimizer.specs.Working.{moving, moved_to, move_turn, turns}
use Rattle.optimizer.proofs.Laws.{one_more}
use Rattle.optimizer.proofs.moving.move_measurements_earlier.Goals as goal

pub loop-i-preserved : goal.loop-i-preserved
loop-i-preserved c =
    let os = operations_of c.loop-i.segment in
    let i = c.loop-i.i in
    let swaps = c.loop-i.swaps in
    let n = length c.args.segment.now / 32 in
    let inside = c.passed_in-n.ensures.inside in
    let small = c.loop-i-test.true in
    let few = c.loop-i.invariant.few in
    let all = c.requires in
    let turned =
    ap (λ xs. moving xs (swaps + c.passed_in-n.result)) c.move_to.ensures.moved
    ∙ ap (λ k. moving (moved_to (i - k) i os) (swaps + k)) c.passed_in-n.ensures.passed in
    record {
      long = c.move_to.ensures.length ∙ c.loop-i.invariant.long;
      few = omega arith;
      ends =
          ap (turns (move_turn c.args.slack) (n - (i + 1)) (i + 1)) turned
          ∙ one_more (move_turn c.args.slack) n i (moving os swaps) (search rules)
          ∙ c.loop-i.invariant.ends;
    }
