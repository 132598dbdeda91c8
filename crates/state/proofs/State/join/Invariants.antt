use Rattle.state.proofs.Gathers.{Passed}
use Rattle.state.proofs.State.join.Given as goal

abbrev pub invariant-loop-p : goal.invariant-loop-p
invariant-loop-p l = Passed l.initial.self l.rise l.target l.self l.p
