-- The words that have been read stand in front of those that are left.
use Rattle.std.proofs.Common.{◌≡◌, ◌++◌, length}
use Rattle.std.specs.Prelude.{IsSome}
use Rattle.vectors.specs.Reading.{left_of}
use Rattle.vectors.proofs.next_words.Given as goal

abbrev pub invariant-loop : goal.invariant-loop
invariant-loop g l = record {
  many : length l.words.items ≡ l.counter;
  read : IsSome (g.R.Read.remaining l.initial.input)
      → IsSome (g.R.Read.remaining l.input)
      × (left_of (g.R.Read.remaining l.initial.input) ≡ l.words.items ++ left_of (g.R.Read.remaining l.input));
}
