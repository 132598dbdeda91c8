-- `optimizer::segments::compact` meets its contract: the words copied are the operations' own.
use Rattle.std.proofs.Common.{ℕ, sym, ◌≡◌, ◌+◌, length, take, drop, ap, arith, ◌++◌}
use mathlib.Core.Path.{◌∙◌}
use Rattle.std.proofs.lemmas.List.{length-take, length-drop}
use Rattle.pending.specs.Operation.{operations_of}
use Rattle.pending.proofs.Chunks.{count}
use Rattle.optimizer.proofs.Parts.{take_sum, drop_further, copied_part, with_front, behind}
use Rattle.optimizer.proofs.segments.compact.Goals as goal

pub returns-then-from-to-clause-front : goal.returns-then-from-to-clause-front
returns-then-from-to-clause-front c =
    let ws = c.args.list.now in
    let os = operations_of ws in
    let inside = c.requires.inside in
    let earlier = c.requires.earlier in
    let now = take c.args.count (drop c.args.from os) in
    ap (λ ws. take (c.args.to + c.args.count) (operations_of ws)) c.copy_within.ensures.after
    ∙ with_front ws c.args.to c.args.count (c.args.to + c.args.count) now _ (omega arith) (omega (arith, length-take c.args.count (drop c.args.from os), length-drop c.args.from os, count ws))
    (copied_part ws c.args.from c.args.count c.args.to inside earlier)

pub returns-then-from-to-clause-back : goal.returns-then-from-to-clause-back
returns-then-from-to-clause-back c =
    let ws = c.args.list.now in
    let os = operations_of ws in
    let inside = c.requires.inside in
    let earlier = c.requires.earlier in
    let now = take c.args.count (drop c.args.from os) in
    let all = operations_of c.copy_within.new.self in
    let long : length now ≡ c.args.count = omega (arith, length-take c.args.count (drop c.args.from os), length-drop c.args.from os, count ws) in
    drop_further (c.args.to + c.args.count) (c.args.from + c.args.count) all os (omega arith)
    (behind ws c.args.to c.args.count (c.args.to + c.args.count) now all (omega arith) long
    (ap operations_of c.copy_within.ensures.after ∙ copied_part ws c.args.from c.args.count c.args.to inside earlier))

pub returns-else-from-to-clause-front : goal.returns-else-from-to-clause-front
returns-else-from-to-clause-front c =
    let os = operations_of c.args.list.now in
    take_sum c.args.to c.args.count os ∙ ap (λ (k : ℕ). take c.args.to os ++ take c.args.count (drop k os)) (sym c.if-from-to.false)
