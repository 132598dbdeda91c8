-- `optimizer::fusing::meet` meets its contract: what is written is made of the two operations, and goes where the later one stands.
use Rattle.std.proofs.Common.{◌≡◌, ◌+◌, ◌-◌, ◌*◌, [], length, get_or, set, take, drop, ap, sym, arith}
use mathlib.Core.Path.{◌∙◌, ap₂}
use Rattle.pending.specs.Operation.{operations_of, y_count, whole_sign}
use Rattle.pending.proofs.Chunks.{operation_in, operation_length, lent}
use Rattle.optimizer_spec.specs.Passes.{fused_angle, cancels}
use Rattle.optimizer.specs.Working.{is_zero}
use Rattle.optimizer.proofs.Laws.{met_is}
use Rattle.optimizer.proofs.fusing.meet.Goals as goal

pub returns-clause-cancelled : goal.returns-clause-cancelled
unfolding cancels
returns-clause-cancelled c =
    c.write_met.ensures.cancelled ∙ ap is_zero (c.fused_angle-angle.ensures ∙ ap₂ fused_angle c.operation_at-earlier.ensures.operation c.operation_at-later.ensures.operation)

pub returns-clause-met : goal.returns-clause-met
returns-clause-met c =
    let os = operations_of c.args.segment.now in
    let k : 32 * c.args.j + 32 - 32 * c.args.j ≡ 32 = omega arith in
    let part = ap (λ n. take n (drop (32 * c.args.j) c.args.segment.now)) k ∙ sym (operation_in c.args.segment.now c.args.j c.requires.j) in
    let whole = c.write_met.auto.later ∙ (ap (λ o. length o) part ∙ operation_length c.args.segment.now c.args.j c.requires.j) in
    let becomes =
    c.write_met.ensures.met
    ∙ met_is (get_or os c.args.i []) (get_or os c.args.j []) _ c.fused_angle-angle.result c.y_count-phase.result c.whole_sign-constant.result part
    (c.fused_angle-angle.ensures ∙ ap₂ fused_angle c.operation_at-earlier.ensures.operation c.operation_at-later.ensures.operation)
    (c.y_count-phase.ensures ∙ ap y_count c.operation_at-later.ensures.operation)
    (c.whole_sign-constant.ensures ∙ ap whole_sign c.operation_at-later.ensures.operation) in
    lent c.args.segment.now c.write_met.new.later c.args.j (32 * c.args.j + 32 - 32 * c.args.j) c.requires.j whole k
    ∙ ap (set os c.args.j) becomes
