use Rattle.state.proofs.Numbers.{Removing}
use Rattle.state.proofs.State.remove.Given as goal

abbrev pub invariant-loop-p : goal.invariant-loop-p
invariant-loop-p l = Removing l.initial.self l.pivot l.target l.local l.self l.p
