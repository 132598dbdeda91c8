-- `optimizer::segments::segment_turn` meets its contract: where no segment ends nothing is done; else the segment is optimized and copied behind those in front.
use Rattle.std.proofs.Common.{◌≡◌, ◌+◌, List, length, take, drop, ap, sym, arith, ◌≤◌, ◌++◌}
use mathlib.Core.Path.{◌∙◌}
use Rattle.std.proofs.lemmas.List.{take-take}
use Rattle.pending.specs.Operation.{Operation, operations_of}
use Rattle.pending.proofs.Chunks.{count}
use Rattle.optimizer.proofs.Parts.{drop_further}
use Rattle.optimizer.proofs.Coming.{part, part_bare, passed_over, ended}
use Rattle.optimizer.proofs.segments.segment_turn.Goals as goal

pub returns-then-map-end-clause-come : goal.returns-then-map-end-clause-come
returns-then-map-end-clause-come c os prefixes come =
    let inside = c.requires.inside in
    passed_over os prefixes c.args.end (operations_of c.args.list.now) c.args.map.now c.args.so_far come
    (let size = come.size in omega (arith, count c.args.list.now)) c.if-map-end.true

pub returns-clause-come : goal.returns-clause-come
returns-clause-come c os prefixes come =
    let p = c.args.so_far in
    let end = c.args.end in
    let ws = c.args.list.now in
    let xs = operations_of ws in
    let mid = operations_of c.segment_at-segment.new.list in
    let list = operations_of c.compact.new.list in
    let r = c.segment_at-segment.result in
    let inside = c.requires.inside in
    let size = come.size in
    let within : end ≤ length os = omega (arith, count ws) in
    let start = c.requires.going.start in
    let output = c.requires.going.output in
    let few = c.segment_at-segment.ensures.few.left in
    let tail = drop p.start mid in
    let leaves = c.segment_at-segment.ensures.leaves (part os prefixes end xs c.args.map.now p come within) (part_bare os prefixes end xs c.args.map.now p come within) in
    let front =
    c.compact.ensures.front
    ∙ ap (λ (ys : List Operation). ys ++ take r.left tail)
    (sym (take-take p.output p.start mid output) ∙ ap (take p.output) c.segment_at-segment.ensures.front ∙ take-take p.output p.start xs output) in
    let long : length list ≡ length xs =
    (let h = c.compact.ensures.length in let g = c.segment_at-segment.ensures.length in omega (arith, count c.compact.new.list, count ws)) in
    ended os prefixes end xs c.args.map.now p come within c.if-map-end.false c.requires.room list r (omega arith) tail leaves front long
    (drop_further (p.start + r.left) end list mid (omega arith) c.compact.ensures.back ∙ c.segment_at-segment.ensures.back)

pub returns-clause-rest : goal.returns-clause-rest
returns-clause-rest c =
    let start = c.requires.going.start in
    let few = c.segment_at-segment.ensures.few.left in
    drop_further (c.args.so_far.start + c.segment_at-segment.result.left) c.args.end (operations_of c.compact.new.list) (operations_of c.segment_at-segment.new.list)
    (omega arith) c.compact.ensures.back
    ∙ c.segment_at-segment.ensures.back
