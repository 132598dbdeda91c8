-- `optimizer::moving::reach` meets its contract: each turn looks at the next operation to the left.
use Rattle.std.proofs.Common.{◌≡◌, ◌-◌, Bool, true, false, ◌&&◌, [], get_or, ap, sym, arith}
use Rattle.std.specs.Prelude.{not}
use mathlib.Core.Path.{◌∙◌, ap₂}
use Rattle.pending.specs.Operation.{Operation, operations_of, is_rotation, strings_commute, same_string}
use Rattle.pending.proofs.Chunks.{count}
use Rattle.optimizer.proofs.Reaching.{found, stopped, reached, passed, at_end}
use Rattle.optimizer.proofs.moving.reach.Goals as goal

-- what is said of the two operations that are read is said of the list's
pub tells : (f : Operation → Operation → Bool) (a b m o : Operation) (r v : Bool) → a ≡ m → b ≡ o → r ≡ f a b → r ≡ v → f m o ≡ v
tells f a b m o r v a_is b_is r_is h = sym (r_is ∙ ap₂ f a_is b_is) ∙ h

pub returns-then-not-can_pass-clause-reached : goal.returns-then-not-can_pass-clause-reached
returns-then-not-can_pass-clause-reached c =
    let os = operations_of c.args.segment.now in
    let m = get_or os c.args.i [] in
    let o = get_or os (c.args.i - 1 - c.loop-n.n) [] in
    let stop = tells (λ a b. is_rotation b && strings_commute a b) _ _ m o c.can_pass.result false c.operation_at-measurement.ensures.operation c.operation_at-other.ensures.operation c.can_pass.ensures c.if-not-can_pass.true in
    c.with_slack.ensures ∙ sym (c.loop-n.invariant ∙ stopped c.args.slack m os c.args.i c.loop-n.n (let h = c.requires in omega (arith, count c.args.segment.now)) c.loop-n-test.true stop)

pub returns-then-is_goal-clause-reached : goal.returns-then-is_goal-clause-reached
returns-then-is_goal-clause-reached c =
    let os = operations_of c.args.segment.now in
    let m = get_or os c.args.i [] in
    let o = get_or os (c.args.i - 1 - c.loop-n.n) [] in
    let pass = tells (λ a b. is_rotation b && strings_commute a b) _ _ m o c.can_pass.result true c.operation_at-measurement.ensures.operation c.operation_at-other.ensures.operation c.can_pass.ensures c.if-not-can_pass.false in
    let goal = tells (λ a b. not c.args.slack && same_string a b) _ _ m o c.is_goal.result true c.operation_at-measurement.ensures.operation c.operation_at-other.ensures.operation c.is_goal.ensures c.if-is_goal.true in
    sym (c.loop-n.invariant ∙ reached c.args.slack m os c.args.i c.loop-n.n (let h = c.requires in omega (arith, count c.args.segment.now)) c.loop-n-test.true pass goal)

pub loop-n-preserved : goal.loop-n-preserved
loop-n-preserved c =
    let os = operations_of c.args.segment.now in
    let m = get_or os c.args.i [] in
    let o = get_or os (c.args.i - 1 - c.loop-n.n) [] in
    let pass = tells (λ a b. is_rotation b && strings_commute a b) _ _ m o c.can_pass.result true c.operation_at-measurement.ensures.operation c.operation_at-other.ensures.operation c.can_pass.ensures c.if-not-can_pass.false in
    let goal = tells (λ a b. not c.args.slack && same_string a b) _ _ m o c.is_goal.result false c.operation_at-measurement.ensures.operation c.operation_at-other.ensures.operation c.is_goal.ensures c.if-is_goal.false in
    c.loop-n.invariant ∙ passed c.args.slack m os c.args.i c.loop-n.n (let h = c.requires in omega (arith, count c.args.segment.now)) c.loop-n-test.true pass goal

pub returns-clause-reached : goal.returns-clause-reached
returns-clause-reached c =
    let os = operations_of c.args.segment.now in
    let m = get_or os c.args.i [] in
    let all : c.loop-n.n ≡ c.args.i = (let h = c.loop-n-test.false in let g = c.loop-n.auto.n-end in omega arith) in
    c.with_slack-2.ensures
    ∙ sym (c.loop-n.invariant ∙ ap (found c.args.slack m os c.args.i) all ∙ at_end c.args.slack m os c.args.i (let h = c.requires in omega (arith, count c.args.segment.now)))
