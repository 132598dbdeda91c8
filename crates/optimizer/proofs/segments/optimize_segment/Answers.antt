-- `optimizer::segments::optimize_segment` meets its contract: the first loop is over the whole segment, the second over the front that it leaves.
use Rattle.std.proofs.Common.{◌≡◌, ℕ, ◌*◌, ◌/◌, ◌++◌, length, take, drop, ap, sym, arith}
use Rattle.std.specs.Prelude.{not, eqb}
use mathlib.Core.Path.{◌∙◌, ap₂}
use Rattle.std.proofs.lemmas.List.{take_at, length-take}
use Rattle.pending.specs.Operation.{operations_of}
use Rattle.pending.proofs.Chunks.{count, operations_append, operations_take}
use Rattle.optimizer.specs.Working.{fusing_of, fuse_turn, moving, turns, move_turn}
use Rattle.optimizer.proofs.Segmenting.{segmented}
use Rattle.optimizer.proofs.segments.optimize_segment.Goals as goal

pub returns-clause-leaves : goal.returns-clause-leaves
returns-clause-leaves c ps same =
    let counts = c.fuse_commuting_rotations-fused.result in
    let few = c.fuse_commuting_rotations-fused.ensures.counts.left in
    let fused = c.fuse_commuting_rotations-fused.new.segment in
    let part = c.move_measurements_earlier-swaps.new.segment in
    let back = drop (32 * counts.left) fused in
    let kept = c.fuse_commuting_rotations-fused.ensures.length in
    let part_kept = c.move_measurements_earlier-swaps.ensures.length in
    let long : length part ≡ 32 * counts.left = omega (arith, length-take (32 * counts.left) fused) in
    let size : length (operations_of part) ≡ counts.left = omega (arith, count part) in
    let front = ap (take counts.left) (operations_append counts.left part back long) ∙ take_at (operations_of part) (operations_of back) counts.left size in
    let all = c.fuse_commuting_rotations-fused.ensures.fused ∙ ap (λ (n : ℕ). turns fuse_turn n 0 (fusing_of (operations_of c.args.segment.now))) (sym (count c.args.segment.now)) in
    let turned : length (take (32 * counts.left) fused) / 32 ≡ counts.left = omega (arith, length-take (32 * counts.left) fused) in
    let slack = not (eqb counts.fused 0) in
    let moved =
    c.move_measurements_earlier-swaps.ensures.moved
    ∙ ap₂ (λ n os. turns (move_turn slack) n 0 (moving os 0)) turned (operations_take counts.left fused (omega arith)) in
    segmented ps (operations_of c.args.segment.now) (operations_of fused) counts same c.requires.unmarked all
    (operations_of part) (operations_of (c.move_measurements_earlier-swaps.new.segment ++ back)) c.move_measurements_earlier-swaps.result front size moved
