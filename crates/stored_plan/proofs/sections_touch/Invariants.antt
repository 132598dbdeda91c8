use mathlib.Core.Path.{◌≡◌}
use mathlib.Core.List.{map}
use Prim.Native.Nat.{◌-◌, ◌*◌, ◌≤◌}
use lib.ListN.{get_or}
use Rattle.words.specs.Lists.{numbers_from}
use Rattle.stored_plan.specs.Reading.{touch}
use Rattle.stored_plan.proofs.sections_touch.Given as goal

abbrev pub invariant-loop-s : goal.invariant-loop-s
invariant-loop-s l = (l.s ≤ 7) × (l.at ≤ l.end)
    × (touch 0 l.end (map (λ i. get_or l.trailer i 0) (numbers_from 0 14)) ≡ touch l.at l.end (map (λ i. get_or l.trailer i 0) (numbers_from (2 * l.s) (14 - 2 * l.s))))
