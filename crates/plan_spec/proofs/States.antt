-- The states that the Rust guards against never occur: the invariant says that the components hold the active coordinates and nothing else, and a source of a
-- join holds one of them. And a row's component was below the limit, since its step was accepted.
use mathlib.Core.List.{List, []}
use Prim.Native.Nat.{ℕ, ◌<◌}
use native.Mathlib.Omega.{arith}
use lib.ListN.{get_or}
use Rattle.records.specs.declared.Instruction.{Instruction}
use Rattle.plan_spec.specs.Walk.{Walk, join_of, start, local_action, no_step, ignored_step, promotion_step, rotation_step, measurement_step, row_head, rotation_row, measurement_row}
use Rattle.plan_spec.specs.Connectivity.{ActiveOrder, active_start}
use Rattle.plan_spec.specs.Laws.{IsWholeWalk, RowsBelow}
use Rattle.plan_spec.proofs.Counting.{member_length}
use Rattle.plan_spec.proofs.Steps.{Run, Stepped, ignored, rotated, promoted, measured, recorded, detected, expected, branched, done, more}
use Rattle.plan_spec.proofs.Joins.{gathered_from}
use Rattle.plan_spec.proofs.Invariant.{listed_active, active_listed, source_holds}
use Rattle.plan_spec.proofs.Tracking.{Tracked, active_of, tracked_here, target_source, start_tracked, run_tracked, rotation_action, measurement_keeps}
use mathlib.Core.Path.{sym, subst}
use Rattle.kernels.specs.declared.active.ActivePauliAction.{ActivePauliAction}
use Rattle.plan_spec.specs.Lists.{place_of}
use Rattle.plan_spec.specs.Rows.{row_width}
use Rattle.plan_spec.proofs.Growth.{each_more}

pub tracked_whole : (w : Walk) (r : ActiveOrder) → Tracked w r → IsWholeWalk w
unfolding join_of
tracked_whole w r t =
    let h = tracked_here w r t in record {
      coordinate_valid = λ a m. let b = h.below a m in let n = h.next_same in omega arith;
      coordinate_held = λ a m. active_listed w.components (active_of w r) h a m;
      member_active = λ a c m. listed_active w.components (active_of w r) h a c m;
      joined_active = λ x z a m. let g = gathered_from w.components (join_of x z w).sources a m in listed_active w.components (active_of w r) h a g.0 g.2;
      source_live = λ x z c m.
          let s = source_holds w.components (active_of w r) h x z c m in (s.0, member_length s.1.0 (get_or w.components c []) s.1.2);
      target_given = λ x z active. target_source w r t x z active;
    }

-- in every state that the walk reaches, whatever the next record is
pub reached_whole : {limit : ℕ} (k : ℕ) {is : List Instruction} {u : Walk} → Run limit (start k) is u → IsWholeWalk u
reached_whole k {is = is} run = let t = run_tracked (active_start k) run (start_tracked k) in tracked_whole _ _ t

-- ---- rows below the limit

step_below : {limit : ℕ} {w v : Walk} {i : Instruction} → Stepped limit w i v → RowsBelow limit w.written → RowsBelow limit v.written
unfolding no_step ignored_step promotion_step rotation_step measurement_step rotation_row measurement_row row_head
step_below (ignored x z phase angle sine cosine empty) b = record { rotation = b.rotation; measurement = b.measurement }
step_below {limit = limit} {w = w} (rotated width x z phase angle sine cosine k wide active small fits made) b = record {
  rotation = each_more (λ row. row_width row < limit) w.written.rotations _ b.rotation
      (subst (λ (a : ActivePauliAction). a.nqubits < limit) (sym (rotation_action limit (local_action x z phase w (join_of x z w)) phase angle sine cosine k made)) small);
  measurement = b.measurement;
}
step_below promoted b = record { rotation = b.rotation; measurement = b.measurement }
step_below {limit = limit} {w = w} (measured width x z phase pivot k wide active small fits below inside made) b = record {
  rotation = b.rotation;
  measurement = each_more (λ row. row_width row < limit) w.written.measurements _ b.measurement
      (subst (λ (a : ActivePauliAction). a.nqubits < limit)
      (sym (measurement_keeps limit (local_action x z phase w (join_of x z w)) phase (place_of (get_or w.order pivot 0) (join_of x z w).members) k made).0) small);
}
step_below recorded b = record { rotation = b.rotation; measurement = b.measurement }
step_below detected b = record { rotation = b.rotation; measurement = b.measurement }
step_below expected b = record { rotation = b.rotation; measurement = b.measurement }
step_below branched b = record { rotation = b.rotation; measurement = b.measurement }

run-below : {limit : ℕ} {w u : Walk} {is : List Instruction} → Run limit w is u → RowsBelow limit w.written → RowsBelow limit u.written
run-below (done w) b = b
run-below (more s rest) b = run-below rest (step_below s b)

pub reached_below : {limit : ℕ} (k : ℕ) {is : List Instruction} {u : Walk} → Run limit (start k) is u → RowsBelow limit u.written
unfolding start
reached_below k run = run-below run (record { rotation = λ i h. absurd (omega arith); measurement = λ i h. absurd (omega arith) })
