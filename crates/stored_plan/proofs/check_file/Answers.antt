-- `check_file` meets its contract: the calls before a return have shown which of the tests of reading decide.
use Rattle.std.proofs.Common.{◌∙◌, sym, true, false, rules}
use Rattle.stored_plan.proofs.Accepting.{number_counts}
use Rattle.stored_plan.proofs.check_file.Goals as goal

pub returns-then-trailer-ne8-clause-number : goal.returns-then-trailer-ne8-clause-number
returns-then-trailer-ne8-clause-number c =
    number_counts c.args.file.now c.args.lent c.in_ok-trailer.ensures.trailer c.in_ok-trailer.ensures.number
    (sym c.sections_touch.ensures ∙ c.if-not-sections_touch.false) c.counts_in-counts.ensures true
    (search rules)

pub returns-clause-number : goal.returns-clause-number
returns-clause-number c =
    number_counts c.args.file.now c.args.lent c.in_ok-trailer.ensures.trailer c.in_ok-trailer.ensures.number
    (sym c.sections_touch.ensures ∙ c.if-not-sections_touch.false) c.counts_in-counts.ensures false
    (search rules)
