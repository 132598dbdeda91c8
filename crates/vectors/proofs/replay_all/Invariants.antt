-- The vectors replayed so far and those behind them are all, and no more agree or differ than were replayed.
use Rattle.std.proofs.Common.{◌≤◌, ◌-◌}
use Rattle.std.specs.Prelude.{IsSome}
use Rattle.vectors.specs.Reading.{left_of}
use Rattle.vectors.proofs.Counting.{Replayed}
use Rattle.vectors.proofs.replay_all.Given as goal

abbrev pub invariant-loop-i : goal.invariant-loop-i
invariant-loop-i g l = record {
  agree_bound : l.counts.agree ≤ l.i;
  differ_bound : l.counts.differ ≤ l.i;
  replayed : IsSome (g.R.Read.remaining l.initial.input)
      → IsSome (g.R.Read.remaining l.input)
      × Replayed g.V.StreamedVector.agreement (left_of (g.R.Read.remaining l.initial.input)) (left_of (g.R.Read.remaining l.input)) l.count (l.count - l.i) l.counts;
}
