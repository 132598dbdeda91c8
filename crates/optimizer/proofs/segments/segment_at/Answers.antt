-- `optimizer::segments::segment_at` meets its contract: the part that is lent is the segment.
use Rattle.std.proofs.Common.{◌≡◌, ℕ, List, ◌+◌, ◌-◌, ◌*◌, length, drop, ap, sym, arith}
use mathlib.Core.Path.{◌∙◌, subst}
use Rattle.std.proofs.lemmas.List.{length-take, length-drop}
use borrow.Rule.Slice.PartMut.{put_mid}
use Rattle.pending.specs.Operation.{Operation, operations_of}
use Rattle.pending.proofs.Chunks.{count}
use Rattle.optimizer_spec.specs.Passes.{segment_of}
use Rattle.optimizer.specs.Working.{live, Leaves}
use Rattle.optimizer.proofs.Parts.{part_is, lent_part, in_front, from_front, behind}
use Rattle.optimizer.proofs.Segmenting.{leaves_front}
use Rattle.optimizer.proofs.segments.segment_at.Goals as goal

pub optimize_segment-requires-clause-unmarked : goal.optimize_segment-requires-clause-unmarked
optimize_segment-requires-clause-unmarked c =
    let part = part_is c.args.list.now c.args.start c.args.end c.requires.ascending c.requires.inside in
    ap live part ∙ c.requires.unmarked ∙ sym part

pub returns-clause-front : goal.returns-clause-front
returns-clause-front c =
    let ws = c.args.list.now in
    let now = c.optimize_segment.new.segment in
    let up = c.requires.ascending in
    let inside = c.requires.inside in
    let long : length now ≡ 32 * (c.args.end - c.args.start) =
    (let h = c.optimize_segment.ensures.length in omega (arith, length-take (32 * c.args.end - 32 * c.args.start) (drop (32 * c.args.start) ws), length-drop (32 * c.args.start) ws)) in
    in_front ws c.args.start (c.args.end - c.args.start) c.args.end (operations_of now) _ (omega arith) (omega (arith, count now))
    (lent_part ws c.args.start c.args.end now up inside long)

pub returns-clause-back : goal.returns-clause-back
returns-clause-back c =
    let ws = c.args.list.now in
    let now = c.optimize_segment.new.segment in
    let up = c.requires.ascending in
    let inside = c.requires.inside in
    let long : length now ≡ 32 * (c.args.end - c.args.start) =
    (let h = c.optimize_segment.ensures.length in omega (arith, length-take (32 * c.args.end - 32 * c.args.start) (drop (32 * c.args.start) ws), length-drop (32 * c.args.start) ws)) in
    let end : c.args.start + (c.args.end - c.args.start) ≡ c.args.end = omega arith in
    let all = operations_of (put_mid (32 * c.args.start) (32 * c.args.end - 32 * c.args.start) ws now) in
    ap (λ (n : ℕ). drop n all) (sym end)
    ∙ behind ws c.args.start (c.args.end - c.args.start) c.args.end (operations_of now) all (omega arith) (omega (arith, count now))
    (lent_part ws c.args.start c.args.end now up inside long)

pub returns-clause-leaves : goal.returns-clause-leaves
returns-clause-leaves c ps same =
    let ws = c.args.list.now in
    let now = c.optimize_segment.new.segment in
    let up = c.requires.ascending in
    let inside = c.requires.inside in
    let few = c.optimize_segment.ensures.few.left in
    let long : length now ≡ 32 * (c.args.end - c.args.start) =
    (let h = c.optimize_segment.ensures.length in omega (arith, length-take (32 * c.args.end - 32 * c.args.start) (drop (32 * c.args.start) ws), length-drop (32 * c.args.start) ws)) in
    let whole = from_front ws c.args.start (c.args.end - c.args.start) c.args.end (operations_of now) _ (omega arith) (omega (arith, count now))
    (lent_part ws c.args.start c.args.end now up inside long) in
    let part = same ∙ sym (part_is ws c.args.start c.args.end up inside) in
    subst (λ (os : List Operation). Leaves (segment_of ps) os c.optimize_segment.result) (sym whole)
    (leaves_front (segment_of ps) (operations_of now) (drop c.args.end (operations_of ws)) c.optimize_segment.result (let h = c.optimize_segment.ensures.length in omega (arith, count now))
    (c.optimize_segment.ensures.leaves ps part))
