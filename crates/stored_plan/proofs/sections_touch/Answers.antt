-- `sections_touch` meets its contract. The loop's invariant: the pairs still to be read decide, from the place where those read so far end; that place is at
-- most the trailer's. The measure is the number of pairs left.
use mathlib.Core.Path.{◌≡◌, sym, ◌∙◌}
use Prim.Native.Nat.{◌*◌}
use native.Mathlib.Omega.{arith}
use lib.ListN.{get_or}
use Rattle.stored_plan.proofs.Touching.{turn_past, turn_touches}
use Rattle.stored_plan.proofs.sections_touch.Goals as goal

pub returns-then-end-at : goal.returns-then-end-at
returns-then-end-at c =
    let past = c.if-end-at.true in
    sym (c.loop-s.invariant.2 ∙ turn_past (λ i. get_or c.args.trailer.now i 0) c.loop-s.at c.args.end c.loop-s.s (omega arith) (omega (arith, past, c.loop-s.invariant.1)))

pub loop-s-preserved : goal.loop-s-preserved
loop-s-preserved c =
    let first : get_or c.args.trailer.now (2 * c.loop-s.s) 0 ≡ c.loop-s.at = omega arith in
    let inside = c.if-end-at.false in (
      omega arith,
      omega (arith, inside, c.loop-s.invariant.1),
      c.loop-s.invariant.2 ∙ turn_touches (λ i. get_or c.args.trailer.now i 0) c.loop-s.at c.args.end c.loop-s.s (omega arith) first,
    )
