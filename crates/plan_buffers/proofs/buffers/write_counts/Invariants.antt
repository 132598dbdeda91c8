use mathlib.Core.Path.{◌≡◌}
use lib.ListN.{length, take, drop}
use Rattle.plan_buffers.specs.Buffers.{counts_from, counts_of}
use Rattle.plan_buffers.proofs.buffers.write_counts.Given as goal

abbrev pub invariant-loop-c : goal.invariant-loop-c
invariant-loop-c l = (length l.groups ≡ length l.initial.groups)
    × (counts_from l.c (drop l.c (take l.count l.size)) (record { groups = l.groups; start = l.start; used = l.used }) ≡ counts_of (take l.count l.size) l.initial.groups)
