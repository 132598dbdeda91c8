-- `optimizer::segments::optimize_segments` meets its contract: each turn brings the loop one end further.
use Rattle.std.proofs.Common.{◌≡◌, ℕ, ◌+◌, ◌-◌, ◌≤◌, length, get_or, take, refl, ap, sym, arith}
use mathlib.Core.Path.{◌∙◌, subst}
use Rattle.pending.specs.Operation.{operations_of}
use Rattle.pending.proofs.Chunks.{count}
use Rattle.optimizer.specs.Working.{live, Come, mark}
use Rattle.optimizer.proofs.Unmarked.{live_part}
use Rattle.optimizer.proofs.Parts.{drop_further}
use Rattle.optimizer.proofs.Coming.{begun, finished}
use Rattle.optimizer.proofs.segments.optimize_segments.Goals as goal

pub loop-end-init : goal.loop-end-init
loop-end-init c = record {
  list_long = refl;
  map_long = refl;
  going = record { start = omega arith; output = omega arith; fused = omega arith; cancelled = omega arith; swaps = omega arith };
  rest = refl;
  come = λ prefixes marks. begun (operations_of c.args.list.now) prefixes c.args.map.now
      (subst (λ (n : ℕ). (q : ℕ) → q ≤ n → get_or c.args.map.now q 0 ≡ mark n prefixes q) (sym (count c.args.list.now)) marks);
}

pub segment_turn-progress-requires-clause-unmarked : goal.segment_turn-progress-requires-clause-unmarked
segment_turn-progress-requires-clause-unmarked c =
    let k = c.loop-end.end - c.loop-end.progress.start in
    let part = ap (take k) c.loop-end.invariant.rest in
    ap live part ∙ live_part c.loop-end.progress.start k (operations_of c.args.list.now) c.requires.unmarked ∙ sym part

pub loop-end-preserved : goal.loop-end-preserved
loop-end-preserved c = record {
  list_long = c.segment_turn-progress.ensures.list_length ∙ c.loop-end.invariant.list_long;
  map_long = c.segment_turn-progress.ensures.map_length ∙ c.loop-end.invariant.map_long;
  going = c.segment_turn-progress.ensures.going;
  rest =
      c.segment_turn-progress.ensures.rest
      ∙ drop_further c.loop-end.progress.start c.segment_turn-progress.result.start (operations_of c.loop-end.list) (operations_of c.args.list.now)
      c.segment_turn-progress.ensures.further c.loop-end.invariant.rest;
  come = λ prefixes marks. c.segment_turn-progress.ensures.come (operations_of c.args.list.now) prefixes (c.loop-end.invariant.come prefixes marks);
}

pub returns-clause-finished : goal.returns-clause-finished
returns-clause-finished c prefixes marks =
    let os = operations_of c.args.list.now in
    let all : c.loop-end.end ≡ length os + 1 = (let h = c.loop-end-test.false in let g = c.loop-end.auto in omega (arith, count c.args.list.now)) in
    finished os prefixes (operations_of c.loop-end.list) c.loop-end.map c.loop-end.progress (let h = c.requires.room in let g = c.loop-end.invariant.map_long in omega arith)
    (subst (λ (e : ℕ). Come os prefixes e (operations_of c.loop-end.list) c.loop-end.map c.loop-end.progress) all (c.loop-end.invariant.come prefixes marks))
