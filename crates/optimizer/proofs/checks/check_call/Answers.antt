-- `optimizer::checks::check_call` meets its contract: its four tests are the definition's, in the same order.
use Rattle.std.proofs.Common.{ℕ, true, false, refl, ap, sym}
use Rattle.std.specs.Prelude.{ltb, Some, None}
use Rattle.std.specs.List.{list_any}
use mathlib.Core.Path.{◌∙◌}
use Rattle.refusals.specs.Answer.{refused_at}
use Rattle.refusals.specs.Numbers as Reasons
use Rattle.pending.proofs.Chunks.{count}
use Rattle.optimizer.specs.declared.checks.Verdict.TheVariants.{AsItIs, InSegments}
use Rattle.optimizer.proofs.Judging.{by_answers, sound}
use Rattle.optimizer.proofs.checks.check_call.Goals as goal

pub returns-then-not-form_fits-clause-answer : goal.returns-then-not-form_fits-clause-answer
returns-then-not-form_fits-clause-answer c =
    ap (λ r. refused_at (Reasons.number_of r.reason) r.index) c.at.ensures
    ∙ by_answers c.args.width c.args.operations.now c.args.prefixes.now c.args.optimized_len c.args.map_len false _ _ _
    (sym c.form_fits.ensures ∙ c.if-not-form_fits.true) refl refl refl

pub returns-then-has_expectation-clause-answer : goal.returns-then-has_expectation-clause-answer
returns-then-has_expectation-clause-answer c =
    by_answers c.args.width c.args.operations.now c.args.prefixes.now c.args.optimized_len c.args.map_len true true _ _
    (sym c.form_fits.ensures ∙ c.if-not-form_fits.false) (sym c.has_expectation.ensures ∙ c.if-has_expectation.true) refl refl

pub returns-then-has_expectation-clause-sound : goal.returns-then-has_expectation-clause-sound
returns-then-has_expectation-clause-sound c =
    sound c.args.width c.args.operations.now c.args.prefixes.now c.args.optimized_len c.args.map_len AsItIs (sym c.form_fits.ensures ∙ c.if-not-form_fits.false)
    tt

pub returns-then-has_prefix_beyond-clause-answer : goal.returns-then-has_prefix_beyond-clause-answer
returns-then-has_prefix_beyond-clause-answer c =
    ap (λ r. refused_at (Reasons.number_of r.reason) r.index) c.at-then-has_prefix_beyond.ensures
    ∙ by_answers c.args.width c.args.operations.now c.args.prefixes.now c.args.optimized_len c.args.map_len true false true _
    (sym c.form_fits.ensures ∙ c.if-not-form_fits.false) (sym c.has_expectation.ensures ∙ c.if-has_expectation.false)
    (ap (λ (n : ℕ). list_any (ltb n) c.args.prefixes.now) (count c.args.operations.now) ∙ sym c.has_prefix_beyond.ensures ∙ c.if-has_prefix_beyond.true) refl

pub returns-in-Some-clause-answer : goal.returns-in-Some-clause-answer
returns-in-Some-clause-answer c =
    ap (λ r. refused_at (Reasons.number_of r.reason) r.index) c.at-in-Some.ensures
    ∙ by_answers c.args.width c.args.operations.now c.args.prefixes.now c.args.optimized_len c.args.map_len true false false (Some c.in-Some.i)
    (sym c.form_fits.ensures ∙ c.if-not-form_fits.false) (sym c.has_expectation.ensures ∙ c.if-has_expectation.false)
    (ap (λ (n : ℕ). list_any (ltb n) c.args.prefixes.now) (count c.args.operations.now) ∙ sym c.has_prefix_beyond.ensures ∙ c.if-has_prefix_beyond.false) (sym c.in-Some.ensures)

pub returns-clause-answer : goal.returns-clause-answer
returns-clause-answer c =
    by_answers c.args.width c.args.operations.now c.args.prefixes.now c.args.optimized_len c.args.map_len true false false None
    (sym c.form_fits.ensures ∙ c.if-not-form_fits.false) (sym c.has_expectation.ensures ∙ c.if-has_expectation.false)
    (ap (λ (n : ℕ). list_any (ltb n) c.args.prefixes.now) (count c.args.operations.now) ∙ sym c.has_prefix_beyond.ensures ∙ c.if-has_prefix_beyond.false) (sym c.in_default.ensures)

pub returns-clause-sound : goal.returns-clause-sound
returns-clause-sound c =
    sound c.args.width c.args.operations.now c.args.prefixes.now c.args.optimized_len c.args.map_len InSegments (sym c.form_fits.ensures ∙ c.if-not-form_fits.false)
    (sym c.has_prefix_beyond.ensures ∙ c.if-has_prefix_beyond.false)
