-- `plan_rows::MeasurementRow::write` meets its contract: eight words stand behind the eleven of the
-- head, and each is the definition's by what the callees ensure.
use Rattle.std.proofs.Common.{◌∙◌}
use Rattle.words.proofs.Words.{flag_is}
use Rattle.plan_spec.specs.Walk.{row_head, measurement_row}
use Rattle.plan_rows.proofs.Words.{head_length, behind}
use Rattle.plan_rows.proofs.MeasurementRowRow.write.Goals as goal

pub returns : goal.returns
unfolding measurement_row
returns c =
    let head = c.args.self.head in
    let action = c.args.self.kernel.action in
    behind (row_head head.component head.merge_offset head.merge_count action) _ c.write_head.new.part c.copy_from_slice.new.self c.args.part.now 11 8
    (head_length head.component head.merge_offset head.merge_count action) c.write_head.ensures c.copy_from_slice.ensures.after
    ∙ rw (c.from.ensures, c.float_bits.ensures, c.float_bits-2.ensures, c.from-2.ensures, flag_is c.args.self.kernel.is_diagonal, flag_is c.args.self.deactivated)
