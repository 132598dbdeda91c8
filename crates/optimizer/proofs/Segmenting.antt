-- Both loops over a segment leave what the definition leaves of it: the first one's turns are `fuse`, and the second one's, over what is left, are `move`.
use Rattle.std.proofs.Common.{◌≡◌, ℕ, ◌+◌, Bool, List, [], ◌∷◌, length, take, refl, ap, sym, arith, ◌≤◌, ◌++◌}
use Rattle.std.specs.Prelude.{not, eqb}
use lib.Dec.{eqb-suc-zero}
use mathlib.Core.Path.{◌∙◌, subst}
use Rattle.std.proofs.lemmas.List.{length-map, take-append-le}
use Rattle.pending.specs.Operation.{Operation}
use Rattle.optimizer_spec.specs.Passes.{Placed, Pair, Segment, Fused, fuse, move, is_empty, segment_of}
use Rattle.optimizer.specs.declared.fusing.Fused as Declared
use Rattle.optimizer.specs.declared.segments.Segment as Answer
use Rattle.optimizer.specs.Working.{bare, live, Fusing, fusing_of, fusing_in, fuse_turn, turns, Moving, moving, move_turn, Leaves}
use Rattle.optimizer.proofs.FuseTurns.{Reached, fused_by_turns}
use Rattle.optimizer.proofs.MoveTurns.{Arrived, moved_by_turns}

-- no pair is none
no_pairs : (ps : List Pair) → not (eqb (length ps) 0) ≡ not (is_empty ps)
no_pairs [] = refl
no_pairs (p ∷ ps) = ap not (eqb-suc-zero (length ps))

module _ (ps : List Placed) (os fused : List Operation) (counts : Declared.Fused) (same : bare ps ≡ os) (unmarked : live os ≡ os)
    (by_turns : fusing_in fused counts ≡ turns fuse_turn (length os) 0 (fusing_of os)) where
  abbrev pub f : Fused
  f = fuse (length ps) ps

  reached : Reached (fusing_of os) (fusing_in fused counts) f
  reached =
      subst (λ (t : Fusing). Reached (fusing_of os) t f) (sym by_turns)
      (fused_by_turns (length os) 0 (fusing_of os) (length ps) ps (omega arith) (omega arith) (same ∙ sym unmarked) (omega arith))

  fused_is : counts.fused ≡ length f.pairs
  fused_is = (let h = reached.fused in omega arith)

  left_is : length (take counts.left fused) ≡ counts.left
  left_is =
      let few = reached.left in
      ap (λ (xs : List Operation). length xs) reached.front ∙ length-map f.left (λ p. p.operation) ∙ omega arith

  module _ (moved whole : List Operation) (swaps : ℕ) (front : take counts.left whole ≡ moved) (size : length moved ≡ counts.left)
      (moves : moving moved swaps ≡ turns (move_turn (not (eqb counts.fused 0))) counts.left 0 (moving (take counts.left fused) 0)) where
    arrived : Arrived (moving (take counts.left fused) 0) (moving moved swaps) (move (not (is_empty f.pairs)) [] f.left)
    arrived =
        let slack_is : not (eqb counts.fused 0) ≡ not (is_empty f.pairs) = ap (λ (n : ℕ). not (eqb n 0)) fused_is ∙ no_pairs f.pairs in
        let long : 0 + counts.left ≡ length (take counts.left fused) = (let h = left_is in omega arith) in
        subst (λ (t : Moving). Arrived (moving (take counts.left fused) 0) t (move (not (is_empty f.pairs)) [] f.left))
        (sym (moves ∙ ap (λ (s : Bool). turns (move_turn s) counts.left 0 (moving (take counts.left fused) 0)) slack_is))
        (moved_by_turns (not (is_empty f.pairs)) counts.left 0 (moving (take counts.left fused) 0) [] f.left long refl (sym reached.front))

    pub segmented : Leaves (segment_of ps) whole (record { left = counts.left; fused = counts.fused; cancelled = counts.cancelled; swaps = swaps })
    unfolding segment_of
    segmented = record {
      left = sym size ∙ ap (λ (xs : List Operation). length xs) arrived.order ∙ length-map (move (not (is_empty f.pairs)) [] f.left).order (λ p. p.operation);
      front = front ∙ arrived.order;
      fused = fused_is;
      cancelled = (let h = reached.cancelled in omega arith);
      swaps = (let h = arrived.swaps in omega arith);
    }

-- what stands behind the segment is nothing to it
pub leaves_front : (s : Segment) (os back : List Operation) (r : Answer.Segment) → r.left ≤ length os → Leaves s os r → Leaves s (os ++ back) r
leaves_front s os back r few l = record {
  left = l.left;
  front = take-append-le r.left os back few ∙ l.front;
  fused = l.fused;
  cancelled = l.cancelled;
  swaps = l.swaps;
}
