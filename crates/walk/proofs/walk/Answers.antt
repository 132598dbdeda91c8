-- `walk` meets its contract: the loop keeps that the active order, the state, the sums and the buffers are those of the definition's walk after as many records
-- (`Looping`), which holds at the start, and at its end gives the groups and the words behind them.
use Rattle.std.proofs.Common.{rules, Err, sym, ap}
use mathlib.Core.Path.{subst}
use Rattle.refusals.specs.Numbers.{number_of}
use Rattle.refusals.specs.declared.Refusal.{Refusal}
use Rattle.plan_spec.specs.Walk.{Walked}
use Rattle.walk.specs.Walking.{WalkEnds}
use native.Mathlib.Omega.{arith}
use Rattle.plan_buffers.specs.SevenBuffers.{buffers_of}
use Rattle.walk.proofs.Looping.{begins, count_small, groups_fit, places_fit, finishes}
use Rattle.walk.proofs.walk.Goals as goal

pub loop-index-init : goal.loop-index-init
loop-index-init c = (
  begins c.args.limit c.args.initial_k c.args.records.now (buffers_of c.args.out.now c.args.groups.now) c.fill_ones.new.words c.first_order-order.result c.start-state.result c.start-tally.result c.requires c.first_order-order.ensures.in_order c.start-state.ensures c.start-tally.ensures c.fill_ones.ensures c.fill_ones.auto.words,
  search rules,
)

pub write_counts-starts-requires-clause-fits : goal.write_counts-starts-requires-clause-fits
write_counts-starts-requires-clause-fits c = groups_fit c.loop-index.invariant.0 (omega (arith, c.loop-index-test.false))

pub write_counts-starts-requires-clause-few : goal.write_counts-starts-requires-clause-few
write_counts-starts-requires-clause-few c = count_small c.loop-index.invariant.0 (omega (arith, c.loop-index-test.false))

pub write_members-requires : goal.write_members-requires
write_members-requires c =
    places_fit c.loop-index.invariant.0 (omega (arith, c.loop-index-test.false)) _ c.write_counts-starts.new.groups c.write_counts-starts.ensures.start c.write_counts-starts.ensures.groups

pub returns-clause-walked : goal.returns-clause-walked
returns-clause-walked c =
    finishes c.loop-index.invariant.0 (omega (arith, c.loop-index-test.false)) c.write_counts-starts.result.used c.write_counts-starts.result.start c.write_counts-starts.new.groups c.write_members.new.groups c.write_counts-starts.ensures.used c.write_counts-starts.ensures.start c.write_counts-starts.ensures.groups c.write_members.ensures

pub returns-in-Err-clause-walked : goal.returns-in-Err-clause-walked
returns-in-Err-clause-walked c =
    let stops = c.in-Err.ensures.step c.args.initial_k c.args.groups.now c.loop-index.invariant.0 in
    subst (λ (v : Walked). WalkEnds v (Err c.at.result) (buffers_of c.record_step.new.out c.args.groups.now)) (sym stops)
    (ap (λ (r : Refusal). number_of r.reason) (sym c.at.ensures), ap (λ (r : Refusal). r.index) (sym c.at.ensures))
