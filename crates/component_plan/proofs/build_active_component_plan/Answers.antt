-- `build_active_component_plan` meets its contract: after a refusal all seven buffers are zeroed, whatever it left in them.
use Rattle.std.specs.Prelude.{is_err, ◌≡◌, true}
use Rattle.std.proofs.Common.{rules}
use Rattle.plan_buffers.specs.SevenBuffers.{buffers_of}
use Rattle.plan_buffers.proofs.Lengths.{all_lengths}
use Rattle.component_plan.proofs.Refusals.{refused_answers}
use Rattle.component_plan.proofs.build_active_component_plan.Goals as goal

pub returns-then-is_err-clause-answers : goal.returns-then-is_err-clause-answers
returns-then-is_err-clause-answers c =
    let a = c.args in
    let planned = c.plan_head-planned in
    let before = buffers_of a.out.now a.groups.now in
    let between = buffers_of planned.new.out planned.new.groups in
    let after = buffers_of c.clear_all.new.out c.clear_all.new.groups in
    let refused : is_err planned.result ≡ true = search rules in
    refused_answers a.head a.records.now before between after planned.result planned.ensures.answers refused
    (all_lengths a.out.now planned.new.out a.groups.now planned.new.groups planned.ensures.same.lengths planned.auto.groups)
    c.clear_all.ensures.cleared
