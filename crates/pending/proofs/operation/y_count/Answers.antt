-- `pending::operation::y_count` meets its contract: ones counted over a word are those of its 64 digits.
use Rattle.std.proofs.Common.{ℕ, rules}
use mathlib.Core.Path.{ap₂, ◌∙◌}
use lib.Bits.{bit_and}
use lib.Count.{ones_in}
use Rattle.pending.specs.Operation.{y_count}
use Rattle.pending.proofs.Laws.{ones_both}
use Rattle.pending.proofs.operation.y_count.Goals as goal

pub returns : goal.returns
unfolding y_count
returns c =
    c.from.ensures
    ∙ ones_both c.pauli_of-pauli.result.x c.pauli_of-pauli.result.z (search rules)
    ∙ ap₂ (λ (x z : ℕ). ones_in 64 (bit_and x z)) c.pauli_of-pauli.ensures.x c.pauli_of-pauli.ensures.z
