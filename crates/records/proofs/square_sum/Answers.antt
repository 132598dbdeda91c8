-- `records::square_sum` meets its contract: it is the same three operations. Written out, so that other operations are refused for the two values that differ.
use mathlib.Core.Path.{refl}
use Rattle.records.specs.Pass.{square_sum}
use Rattle.records.proofs.square_sum.Goals as goal

pub returns : goal.returns
unfolding square_sum
returns c = refl
