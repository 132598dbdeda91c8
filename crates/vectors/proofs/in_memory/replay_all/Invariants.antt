-- The vectors replayed so far and those behind them are all, and no more agree or differ than were replayed.
use Rattle.std.proofs.Common.{◌≤◌, ◌-◌}
use Rattle.vectors.proofs.Counting.{Replayed}
use Rattle.vectors.proofs.in_memory.replay_all.Given as goal

abbrev pub invariant-loop-i : goal.invariant-loop-i
invariant-loop-i g l = record {
  agree_bound : l.counts.agree ≤ l.i;
  differ_bound : l.counts.differ ≤ l.i;
  replayed : Replayed g.V.Vector.agreement l.words l.rest l.count (l.count - l.i) l.counts;
}
