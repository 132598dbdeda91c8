-- The definition gives every circuit of the table its answer, by computation.
use mathlib.Core.Path.{◌≡◌, refl}
use mathlib.Core.List.{map}
use mathlib.Core.Bool.{true, false}
use Prim.Native.Nat.{◌+◌, ◌^◌}
use Rattle.plan_spec.specs.Plan.{allocation_fits}
use lib.Ieee.{add, mul, le, of_bits}
use Rattle.records.specs.Record.{chunks, records_of}
use Rattle.records.specs.Pass.{within, square_sum, sums_to_one}
use Rattle.plan_spec.specs.Circuits.{Circuit, circuits, answer_of, pairs_pass}

pub circuits_hold : map answer_of circuits ≡ map (λ (c : Circuit). c.answer) circuits
unfolding circuits answer_of
circuits_hold = refl

-- 02, CR 5: no circuit is refused by 25, the refused ones included
pairs_hold : map (λ (c : Circuit). pairs_pass (records_of c.words)) circuits ≡ map (λ (c : Circuit). true) circuits
unfolding circuits records_of chunks sums_to_one square_sum within add mul le of_bits
pairs_hold = refl

-- 01, the last circuit: max_k 61
pub share_passes : allocation_fits (2 ^ 61 + 2 ^ 59 + 256) (2 ^ 61) ≡ true
unfolding allocation_fits
share_passes = refl

pub share_fails : allocation_fits (2 ^ 61 + 2 ^ 59 + 258) (2 ^ 61) ≡ false
unfolding allocation_fits
share_fails = refl
