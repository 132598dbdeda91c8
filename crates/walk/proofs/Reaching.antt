-- What the loop of the walk keeps: the state, the sums and the buffers are those of the definition's walk after as many records, from which the definition's walk
-- goes on to the same end. And the bounds that this gives.
use mathlib.Core.Path.{◌≡◌, refl, sym, ap, ◌∙◌, subst}
use mathlib.Core.Bool.{not}
use mathlib.Core.List.{List, [], ◌∷◌, ◌++◌, map}
use Prim.Native.Nat.{ℕ, zero, suc, ◌+◌, ◌*◌, ◌/◌, ◌%◌, ◌^◌, ◌≤◌, ◌<◌}
use native.Mathlib.Omega.{arith}
use lib.Dec.{eqb, ltb}
use borrow.Author.Tests.{ltb-false}
use lib.ListN.{length, get_or, take, drop, length-take}
use lib.Seq.{get_or-take, drop-cons, take-suc}
use Rattle.refusals.specs.Answer.{Answer, given, refused, refused_at}
use Rattle.records.specs.Record.{instructions_of}
use Rattle.records.specs.declared.Instruction.{Instruction}
use Rattle.records.specs.declared.Instruction.TheVariants.{Promotion, DormantBranch}
use Rattle.records.proofs.Laws.{instructions_length}
use Rattle.plan_spec.specs.Lists.{total}
use Rattle.plan_spec.specs.Components.{live_dimension}
use Rattle.plan_spec.specs.Walk.{Walk, step, start, walk_from, onward, no_step, ignored_step, promotion_step, rotation_step, measurement_step}
use Rattle.plan_spec.specs.Plan.{groups_of}
use Rattle.plan_spec.specs.Connectivity.{active_start, active_after, promotions_in}
use Rattle.plan_spec.proofs.Steps.{Stepped, ignored, rotated, promoted, measured, recorded, detected, expected, branched, stepped, Run, done, more}
use Rattle.plan_spec.proofs.Growth.{row_count, start_wide, run_rotations, run_measurements, AllOf}
use Rattle.plan_spec.proofs.Tracking.{Tracked, start_tracked, run_tracked}
use Rattle.plan_spec.proofs.Room.{or-false, Kept, Narrow, width_of, run_kept, start_kept, component_count, rows_most, steps_count, live_dimension_below, groups_most, passed_narrow, passed_promotions}
use Rattle.state.specs.declared.State.{State}
use Rattle.work_sums.specs.declared.Tally.{Tally}
use Rattle.plan_buffers.specs.SevenBuffers.{Buffers}
use Rattle.walk.specs.Walking.{Walkable}
use Rattle.walk.specs.Looping.{Reached}

-- ---- runs

-- one step more at a run's end
pub run_snoc : {limit : ℕ} {w v u : Walk} {i : Instruction} {is : List Instruction} → Run limit w is v → Stepped limit v i u → Run limit w (is ++ (i ∷ [])) u
run_snoc (done w) s = more s (done _)
run_snoc (more t r) s = more t (run_snoc r s)

-- a step counts at most one quantum instruction
step_quantum : {limit : ℕ} {w v : Walk} {i : Instruction} → Stepped limit w i v → v.quantum ≤ suc w.quantum
unfolding no_step ignored_step promotion_step rotation_step measurement_step
step_quantum (ignored x z phase angle sine cosine e) = omega arith
step_quantum (rotated width x z phase angle sine cosine k e a b c d) = omega arith
step_quantum promoted = omega arith
step_quantum (measured width x z phase pivot k e a b c d f g) = omega arith
step_quantum recorded = omega arith
step_quantum detected = omega arith
step_quantum expected = omega arith
step_quantum branched = omega arith

run_quantum : {limit : ℕ} {w u : Walk} {is : List Instruction} → Run limit w is u → u.quantum ≤ w.quantum + length is
run_quantum (done w) = omega arith
run_quantum (more s r) = let e = step_quantum s in let f = run_quantum r in omega arith

-- promotions among the first records are no more than among all
promotions_most : (i : ℕ) (is : List Instruction) → total (map promotions_in (take i is)) ≤ total (map promotions_in is)
promotions_most zero is = omega arith
promotions_most (suc i) [] = omega arith
promotions_most (suc i) (x ∷ is) = let r = promotions_most i is in omega arith

-- one that is next is not among the first
promotion_next : (i : ℕ) (is : List Instruction) → i < length is → get_or is i DormantBranch ≡ Promotion → total (map promotions_in (take i is)) < total (map promotions_in is)
promotion_next i [] h e = absurd (omega arith)
promotion_next zero (x ∷ is) h e = let f = ap promotions_in e in omega arith
promotion_next (suc i) (x ∷ is) h e = let r = promotion_next i is (omega arith) e in omega arith

start_quantum : (k : ℕ) → (start k).quantum ≡ 0
unfolding start
start_quantum k = refl

-- ---- what is known where the loop stands

module _ (limit k : ℕ) (ws : List ℕ) (b : Buffers) (ok : Walkable k ws b) (i : ℕ) (upto : i ≤ length ws / 8) (w : Walk) (s : State) (t : Tally) (c : Buffers)
    (at : Reached limit k (instructions_of ws) i w s t c) where
  abbrev is : List Instruction
  is = instructions_of ws

  records : length is ≡ length ws / 8
  records = instructions_length ws

  taken : length (take i is) ≡ i
  taken = let l = length-take i is in let h = records in omega arith

  pub tracked : Tracked w (active_after (active_start k) (take i is))
  tracked = run_tracked (active_start k) at.run (start_tracked k)

  narrow : Narrow (take i is)
  narrow j h =
      let e = taken in
      subst (λ (x : Instruction). width_of x ≤ 62) (sym (get_or-take i is j DormantBranch (omega arith))) (passed_narrow k ws ok.passed j (let l = records in omega arith))

  pub made : length w.components ≤ 512
  made =
      let e = component_count k at.run in
      let f = passed_promotions k ws ok.initial_small ok.passed in
      let g = promotions_most i is in omega arith

  pub kept : Kept w
  kept = run_kept (active_start k) at.run (start_tracked k) narrow (start_kept k)

  pub active_most : length w.order ≤ 512
  active_most = let m = made in omega (arith, kept.active)

  pub live_small : live_dimension w.components < 2 ^ 63
  live_small = live_dimension_below k at.run narrow made

  pub groups_small : length (groups_of w.components) ≤ 1024
  groups_small = groups_most k at.run narrow made

  pub quantum_small : w.quantum ≤ i
  quantum_small = let q = run_quantum at.run in let z = start_quantum k in let l = taken in omega arith

  pub steps_written : length w.written.steps ≡ 2 * i
  steps_written = let e = steps_count k at.run in let l = taken in omega arith

  pub rows_written : row_count w.written ≤ i
  rows_written = let e = rows_most k at.run in let l = taken in omega arith

  pub rotations_wide : AllOf 21 w.written.rotations
  rotations_wide = run_rotations at.run (start_wide k 21).0

  pub measurements_wide : AllOf 19 w.written.measurements
  measurements_wide = run_measurements at.run (start_wide k 19).1

  -- "over 8,192" words was not met
  pub few_records : length ws / 8 ≤ 1024
  few_records =
      let e = or-false (not (eqb (length ws % 8) 0)) (ltb 8192 (length ws)) ok.whole in
      let l = ltb-false 8192 (length ws) e.1 in omega arith

  -- ---- the next step

  module _ (next : i < length ws / 8) where
    inside : i < length is
    inside = let l = records in omega arith

    -- the next record's width
    pub width_next : width_of (get_or is i DormantBranch) ≤ 62
    width_next = passed_narrow k ws ok.passed i inside

    pub made_next : get_or is i DormantBranch ≡ Promotion → length w.components < 512
    made_next p =
        let e = component_count k at.run in
        let f = passed_promotions k ws ok.initial_small ok.passed in
        let g = promotion_next i is inside p in omega arith

    next_is : (x : Instruction) → get_or is i DormantBranch ≡ x → drop i is ≡ x ∷ drop (suc i) is
    next_is x e = drop-cons is i DormantBranch inside ∙ ap (λ (y : Instruction). y ∷ drop (suc i) is) e

    pub goes_on : (x : Instruction) → get_or is i DormantBranch ≡ x → walk_from limit 0 (start k) is ≡ onward (step limit w x) i (λ v. walk_from limit (suc i) v (drop (suc i) is))
    unfolding walk_from
    goes_on x e = at.ahead ∙ ap (walk_from limit i w) (next_is x e)

    -- a refusal of the next step is where the walk stops
    pub stops : (x : Instruction) (n : ℕ) → get_or is i DormantBranch ≡ x → step limit w x ≡ refused n → walk_from limit 0 (start k) is ≡ refused_at n i
    stops x n e f = goes_on x e ∙ ap (λ (a : Answer Walk). onward a i (λ v. walk_from limit (suc i) v (drop (suc i) is))) f

    -- an accepted one is one record more
    pub run_next : (x : Instruction) (v : Walk) → get_or is i DormantBranch ≡ x → step limit w x ≡ given v
        → Run limit (start k) (take (suc i) is) v × (walk_from limit 0 (start k) is ≡ walk_from limit (suc i) v (drop (suc i) is))
    run_next x v e f = (
      subst (λ (l : List Instruction). Run limit (start k) l v) (sym (take-suc is i DormantBranch inside ∙ ap (λ (y : Instruction). take i is ++ (y ∷ [])) e))
          (run_snoc at.run (stepped limit w v x f)),
      goes_on x e ∙ ap (λ (a : Answer Walk). onward a i (λ u. walk_from limit (suc i) u (drop (suc i) is))) f,
    )
