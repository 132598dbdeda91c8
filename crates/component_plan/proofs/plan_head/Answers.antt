-- `plan_head` meets its contract: the head decides refusals 24 and 1 and whether the records are read; a plan that reads none leaves zeros.
use Rattle.std.specs.Prelude.{◌≡◌, true, Ok}
use Rattle.refusals.specs.Numbers.{number_of}
use Rattle.refusals.specs.declared.Refusal.{Refusal}
use Rattle.plan_spec.specs.Plan.{unread, unread_plan}
use Rattle.plan_buffers.specs.SevenBuffers.{buffers_of, lengths_of}
use Rattle.component_plan.proofs.Refusals.{unread_held, unread_same, unread_small, unread_expected, unread_neither, plan_headless, plan_unread, plan_is_read, filled_planned, filled_same, filled_error}
use Rattle.component_plan.proofs.plan_head.Goals as goal
use Rattle.component_plan.proofs.plan_head.Goals.{then-head-lt8-via-then-head-lt8, then-head-lt8-via-else-head-lt8+then-head-ne0}

pub returns-in_err-peak-clause-answers : goal.returns-in_err-peak-clause-answers
returns-in_err-peak-clause-answers c =
    let a = c.args in
    let before = buffers_of a.out.now a.groups.now in
    let reason = c.in_err-peak.field-0.0 in
    let refusal : Refusal = record { reason = reason; index = 0 } in
    filled_error _ before before c.from_residual.result refusal c.from_residual.ensures.0 c.from_residual.ensures.1
    (plan_headless a.head a.records.now (lengths_of before) (number_of reason) c.in_err-peak.ensures)

pub returns-then-head-lt8-clause-answers : goal.returns-then-head-lt8-clause-answers
returns-then-head-lt8-clause-answers c =
    let a = c.args in
    let before = buffers_of a.out.now a.groups.now in
    let after = buffers_of c.clear_all.new.out c.clear_all.new.groups in
    let peak = c.in_ok-peak.peak in
    let head_unread : unread a.head ≡ true =
    elim c.then-head-lt8.branch [
      | then-head-lt8-via-then-head-lt8 w ↦ unread_small a.head w.if-head-lt8.true
      | then-head-lt8-via-else-head-lt8+then-head-ne0 w ↦ unread_expected a.head w.if-head-ne0.true
    ] in
    filled_planned _ before after (unread_plan a.head.initial_k peak) (Ok c.unread_plan.result)
    (plan_unread a.head a.records.now (lengths_of before) peak c.in_ok-peak.ensures head_unread)
    (unread_same a.head.initial_k peak c.unread_plan.result c.unread_plan.ensures)
    (unread_held a.head.initial_k peak before after c.clear_all.ensures.cleared)

pub returns-clause-answers : goal.returns-clause-answers
returns-clause-answers c =
    let a = c.args in
    let lengths = lengths_of (buffers_of a.out.now a.groups.now) in
    let is_read = unread_neither a.head c.if-head-lt8.false c.if-head-ne0.false in
    filled_same
    (plan_is_read a.head a.records.now lengths c.in_ok-peak.peak c.in_ok-peak.ensures is_read)
    c.plan_read.ensures.answers
