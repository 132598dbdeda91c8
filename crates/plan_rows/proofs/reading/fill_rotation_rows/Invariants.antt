-- After i turns the first i structs are those of the rows, and the slice is as long as it was.
use Rattle.std.proofs.Common.{length}
use Rattle.words.proofs.Filled.{Filled}
use Rattle.plan_rows.specs.Reading.{rotation_or_zero}
use Rattle.plan_rows.proofs.reading.fill_rotation_rows.Given as goal

abbrev pub invariant-loop-i : goal.invariant-loop-i
invariant-loop-i l = Filled (rotation_or_zero l.rotations) (length l.initial.rows) l.i l.rows
