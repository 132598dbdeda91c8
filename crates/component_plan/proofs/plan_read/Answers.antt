-- `plan_read` meets its contract: a refusal of `check_lent` or of the record pass is the definition's first, the walk stops where the definition's stops, and what a
-- finished walk has written is the plan, with zeros behind it.
use Rattle.std.specs.Prelude.{ℕ, Bool, ◌≡◌, refl, length}
use mathlib.Core.Path.{sym, ap, ◌∙◌}
use native.Mathlib.Omega.{arith}
use Rattle.refusals.specs.Numbers.{number_of}
use Rattle.refusals.specs.declared.Refusal.{Refusal}
use Rattle.refusals.proofs.Laws.{positive}
use Rattle.records.specs.Pass.{Passed, record_pass}
use Rattle.plan_spec.specs.Walk.{start, walk_from}
use Rattle.plan_spec.specs.Plan.{after_walk}
use Rattle.records.specs.Record.{instructions_of}
use Rattle.plan_buffers.specs.SevenBuffers.{buffers_of, lengths_of}
use Rattle.plan_buffers.proofs.Lengths.{all_lengths}
use Rattle.component_plan.specs.Refusing.{lent_number}
use Rattle.component_plan.proofs.Refusals.{lent_refused, lent_passed, walk_stops, filled_error}
use Rattle.component_plan.proofs.Finished.{read_walk, counts_fit, sizes_inside, sizes_below, filled}
use Rattle.component_plan.proofs.plan_read.Goals as goal

-- the number for the lent buffers, of their lengths
lent_told : (k n number : ℕ) {short refused : Bool} → short ≡ refused → number ≡ lent_number k n short → number ≡ lent_number k n refused
lent_told k n number same told = told ∙ ap (λ (b : Bool). lent_number k n b) same

pub returns-in_err-check_lent-clause-answers : goal.returns-in_err-check_lent-clause-answers
returns-in_err-check_lent-clause-answers c =
    let a = c.args in
    let before = buffers_of a.out.now a.groups.now in
    let reason = c.in_err-check_lent.field-0.0 in
    let number = number_of reason in
    let refusal : Refusal = record { reason = reason; index = 0 } in
    filled_error _ before before c.from_residual.result refusal c.from_residual.ensures.0 c.from_residual.ensures.1
    (lent_refused a.head a.records.now (lengths_of before) a.dense_peak number
    (lent_told a.head.initial_k (length a.records.now) number c.buffers_short-short.ensures (c.in_err-check_lent.ensures))
    (λ e. absurd (omega (arith, positive reason, e))))

pub returns-in_err-check_records-clause-answers : goal.returns-in_err-check_records-clause-answers
returns-in_err-check_records-clause-answers c =
    let a = c.args in
    let before = buffers_of a.out.now a.groups.now in
    let refusal = c.in_err-check_records.field-0.0 in
    let lent = lent_told a.head.initial_k (length a.records.now) 0 c.buffers_short-short.ensures (c.in_ok-check_lent.ensures) in
    filled_error _ before before c.from_residual-in_err-check_records.result refusal
    c.from_residual-in_err-check_records.ensures.0 c.from_residual-in_err-check_records.ensures.1
    (lent_passed a.head a.records.now (lengths_of before) a.dense_peak 0 lent refl _ (sym (c.in_err-check_records.ensures)))

pub returns-in_err-done-clause-answers : goal.returns-in_err-done-clause-answers
returns-in_err-done-clause-answers c =
    let a = c.args in
    let before = buffers_of a.out.now a.groups.now in
    let walked = buffers_of c.walk.new.out c.walk.new.groups in
    let refusal = c.in_err-done.field-0.0 in
    let lent = lent_told a.head.initial_k (length a.records.now) 0 c.buffers_short-short.ensures (c.in_ok-check_lent.ensures) in
    let passed : record_pass a.head.initial_k a.records.now ≡ Passed = sym (c.in_ok-check_records.ensures) in
    let stops =
    walk_stops (walk_from a.head.ceiling 0 (start a.head.initial_k) (instructions_of a.records.now)) refusal walked c.in_err-done.ensures.walked in
    filled_error _ before walked c.from_residual-in_err-done.result refusal
    c.from_residual-in_err-done.ensures.0 c.from_residual-in_err-done.ensures.1
    (read_walk a.head a.dense_peak a.records.now before lent passed ∙ ap (after_walk a.head.initial_k a.dense_peak) stops)

pub allocated_in-all-requires : goal.allocated_in-all-requires
allocated_in-all-requires c =
    let a = c.args in
    let before = buffers_of a.out.now a.groups.now in
    let walked = buffers_of c.walk.new.out c.walk.new.groups in
    let lent = lent_told a.head.initial_k (length a.records.now) 0 c.buffers_short-short.ensures c.in_ok-check_lent.ensures in
    let passed = sym c.in_ok-check_records.ensures in
    let done = c.in_ok-done.done in
    let ends = c.in_ok-done.ensures.walked in record {
      inside = sizes_inside a.head a.dense_peak a.records.now before lent passed walked done ends;
      below = sizes_below a.head a.dense_peak a.records.now before lent passed walked done ends;
    }

pub finished_plan-plan-requires : goal.finished_plan-plan-requires
finished_plan-plan-requires c =
    let a = c.args in
    let before = buffers_of a.out.now a.groups.now in
    let walked = buffers_of c.walk.new.out c.walk.new.groups in
    let lent = lent_told a.head.initial_k (length a.records.now) 0 c.buffers_short-short.ensures c.in_ok-check_lent.ensures in
    let passed = sym c.in_ok-check_records.ensures in
    let done = c.in_ok-done.done in
    let ends = c.in_ok-done.ensures.walked in
    counts_fit a.head a.dense_peak a.records.now before lent passed walked done ends

pub returns-clause-answers : goal.returns-clause-answers
returns-clause-answers c =
    let a = c.args in
    let before = buffers_of a.out.now a.groups.now in
    let walked = buffers_of c.walk.new.out c.walk.new.groups in
    let lent = lent_told a.head.initial_k (length a.records.now) 0 c.buffers_short-short.ensures c.in_ok-check_lent.ensures in
    let passed = sym c.in_ok-check_records.ensures in
    let done = c.in_ok-done.done in
    let ends = c.in_ok-done.ensures.walked in
    filled a.head a.dense_peak a.records.now before lent passed walked done ends
    c.allocated_in-all.result c.finished_plan-plan.result c.allocated_in-all.ensures c.finished_plan-plan.ensures
    (buffers_of c.clear_rest.new.out c.clear_rest.new.groups)
    (all_lengths a.out.now c.walk.new.out a.groups.now c.walk.new.groups c.in_ok-done.ensures.same.lengths c.walk.auto.groups)
    c.clear_rest.ensures.cleared
