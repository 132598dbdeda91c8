-- `plan_rows::reading::fill_rotation_rows` meets its contract: each turn puts the next row's struct
-- in its place, so at the end every struct is filled.
use Rattle.std.proofs.Common.{length, arith}
use Rattle.words.proofs.Filled.{filled_all}
use Rattle.plan_rows.specs.Reading.{rotation_or_zero}
use Rattle.plan_rows.proofs.reading.fill_rotation_rows.Goals as goal

pub returns : goal.returns
returns c =
    let filled = c.loop-i.invariant in
    filled_all (rotation_or_zero c.args.rotations.now) (length c.args.rows.now) c.loop-i.rows (filled.0, λ j h. filled.1 j (omega arith))
