-- `pending::operation::commute` meets its contract: ones counted over a word are those of its 64 digits.
use Rattle.std.proofs.Common.{ℕ, ◌+◌, ◌%◌, eqb, rules}
use mathlib.Core.Path.{ap₂}
use Rattle.pending.specs.Operation.{commute}
use Rattle.pending.proofs.Laws.{ones_both}
use Rattle.pending.proofs.operation.commute.Goals as goal

pub returns : goal.returns
unfolding commute
returns c =
    ap₂ (λ (m n : ℕ). eqb ((m + n) % 2) 0) (ones_both c.args.a.x c.args.b.z (search rules)) (ones_both c.args.a.z c.args.b.x (search rules))
