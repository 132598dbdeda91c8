use mathlib.Core.Path.{◌≡◌}
use lib.ListN.{length}
use Rattle.plan_buffers.specs.Buffers.{placed_up_to}
use Rattle.plan_buffers.proofs.buffers.write_members.Given as goal

abbrev pub invariant-loop-p : goal.invariant-loop-p
invariant-loop-p l = (length l.groups ≡ length l.initial.groups) × (l.groups ≡ placed_up_to l.start l.coordinate l.component l.place l.p l.initial.groups)
