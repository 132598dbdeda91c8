-- `midvokt::midvokt_plan` meets its contract: the planner's answer is the definition's outcome, and number and words are read off that.
use Rattle.std.proofs.Common.{rules, ap, ◌∙◌}
use lib.ListN.{length}
use Rattle.refusals.specs.Answer.{Outcome}
use Rattle.answer.specs.Outcome.{Fields}
use Rattle.midvokt.specs.Reply.{number_of, words_of, laid_out}
use Rattle.midvokt.proofs.Laid.{plan_told}
use Rattle.midvokt.proofs.midvokt_plan.Goals as goal

pub returns : goal.returns
returns c =
    let planned = c.build_active_component_plan-planned.ensures.answers in record {
      number = c.reply_number.ensures ∙ plan_told c.build_active_component_plan-planned.result ∙ ap number_of planned.answer;
      result = c.write_result.ensures ∙ ap (λ (o : (Outcome Fields)). laid_out (length c.args.res.now) (words_of o)) planned.answer;
      held = search rules;
    }
