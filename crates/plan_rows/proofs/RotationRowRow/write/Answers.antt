-- `plan_rows::RotationRow::write` meets its contract: ten words stand behind the eleven of the
-- head, and each is the definition's by what the callees ensure.
use Rattle.std.proofs.Common.{◌∙◌}
use Rattle.words.proofs.Words.{flag_is}
use Rattle.plan_spec.specs.Walk.{row_head, rotation_row}
use Rattle.plan_rows.proofs.Words.{head_length, behind}
use Rattle.plan_rows.proofs.RotationRowRow.write.Goals as goal

pub returns : goal.returns
unfolding rotation_row
returns c =
    let head = c.args.self.head in
    let action = c.args.self.kernel.action in
    behind (row_head head.component head.merge_offset head.merge_count action) _ c.write_head.new.part c.copy_from_slice.new.self c.args.part.now 11 10
    (head_length head.component head.merge_offset head.merge_count action) c.write_head.ensures c.copy_from_slice.ensures.after
    ∙ rw (c.from.ensures, c.from-2.ensures, c.from-3.ensures, c.float_bits.ensures, c.float_bits-2.ensures, c.float_bits-3.ensures, c.float_bits-4.ensures, c.float_bits-5.ensures, flag_is c.args.self.kernel.is_diagonal, flag_is c.args.self.kernel.uniform_imag_pairs, flag_is c.args.self.kernel.real_pair_flip)
