-- `plan_rows::write_head` meets its contract: each of the eleven words is the definition's by what
-- the callees ensure.
use Rattle.words.proofs.Words.{flag_is}
use Rattle.plan_spec.specs.Walk.{row_head}
use Rattle.plan_rows.proofs.write_head.Goals as goal

pub returns : goal.returns
unfolding row_head
returns c = rw (c.copy_from_slice.ensures.after, c.float_bits.ensures, c.float_bits-2.ensures, c.float_bits-3.ensures, c.float_bits-4.ensures, c.from.ensures, flag_is)
