use mathlib.Core.Path.{◌≡◌}
use Prim.Native.Nat.{◌/◌, ◌≤◌}
use lib.ListN.{length, drop}
use Rattle.records.specs.Record.{records_of}
use Rattle.records.specs.Pass.{pass_from, record_pass}
use Rattle.records.proofs.check_records.Given as goal

abbrev pub invariant-loop-i : goal.invariant-loop-i
invariant-loop-i l = (l.i ≤ length l.words / 8) × (record_pass l.initial_k l.words ≡ pass_from l.i l.coordinates (drop l.i (records_of l.words)))
