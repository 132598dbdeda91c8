use Rattle.std.proofs.Common.{◌≡◌, ◌-◌, ◌^◌, min, take}
use Rattle.std.specs.List.{sum_by}
use Rattle.plan_buffers.proofs.buffers.allocated.Given as goal

abbrev pub invariant-loop-size : goal.invariant-loop-size
invariant-loop-size l = l.sum ≡ min (2 ^ 64 - 1) (sum_by (λ n. 2 ^ n) (take l.size-index l.sizes))
