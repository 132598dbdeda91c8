use Rattle.std.proofs.Common.{◌≡◌, drop}
use Rattle.state.specs.Steps.{gather_from, gathering}
use Rattle.state.proofs.gather_sizes.Given as goal

abbrev pub invariant-loop-source : goal.invariant-loop-source
invariant-loop-source l =
    gather_from (drop l.source-index l.others) (record { rise = l.rise; sizes = l.size; grown = l.grown }) ≡ gathering l.initial.size l.sources
