-- `state::gather_sizes` meets its contract. The loop's invariant: what the sources that are left make of the arrays is what all make of those at entry.
use Rattle.std.proofs.Common.{List, ℕ, arith, ◌+◌, ◌-◌, ap, length, drop, length-drop, replicate, get_or}
use Rattle.std.proofs.lemmas.Grind.{common_steps}
use lib.Seq.{take_all}
use Rattle.state.specs.Steps.{gather_from, gathering, target_of}
use Rattle.state.proofs.Gathers.{grown_within}
use Rattle.state.proofs.gather_sizes.Goals as goal

pub loop-source-init : goal.loop-source-init
unfolding gathering
loop-source-init c =
    let size = c.args.size.now in
    let sources = c.args.sources.now in
    ap (λ (l : List ℕ). gather_from l (record { rise = replicate 512 0; sizes = size; grown = get_or size (target_of sources) 0 }))
    (take_all (length sources - 1) (drop 1 sources) (omega (arith, length-drop 1 sources)))

pub bounds-rise-source : goal.bounds-rise-source
bounds-rise-source c = grind (arith, common_steps, c.requires.numbers (c.loop-source.source-index + 1))

pub overflow_add-grown : goal.overflow_add-grown
overflow_add-grown c =
    let turn = c.loop-source in
    omega
    (arith, grown_within _ turn.source-index (record { rise = turn.rise; sizes = turn.size; grown = turn.grown }) _ c.loop-source-test.true turn.invariant, c.requires.few)

pub bounds-size-source-in-loop-source : goal.bounds-size-source-in-loop-source
bounds-size-source-in-loop-source c = grind (arith, common_steps, c.requires.numbers (c.loop-source.source-index + 1))
