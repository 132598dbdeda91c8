-- What planning wrote is read back: outputs only grow and end in zeros, so the step, the row and the part of the merge list that a record wrote stand in the buffers
-- where the readers look for them, and a row's words are read as its kernel.
use mathlib.Core.Path.{◌≡◌, refl, ap, ◌∙◌, subst}
use mathlib.Core.Bool.{false}
use Rattle.std.specs.Prelude.{Some, Ok}
use Rattle.std.specs.Option.{option_map}
use mathlib.Core.List.{List, [], ◌∷◌, ◌++◌}
use Prim.Native.Nat.{ℕ, zero, suc, ◌+◌, ◌*◌, ◌≤◌, ◌<◌}
use native.Mathlib.Omega.{arith}
use lib.Dec.{eqb}
use lib.ListN.{length, get_or, take, drop, length-append}
use borrow.Author.Tests.{le-leb}
use lib.Seq.{drop-cons, length-take-le}
use Rattle.words.specs.Lists.{Begins, part_of}
use Rattle.words.proofs.Patches.{begins_trans, begins_length, part_there}
use Rattle.refusals.specs.Answer.{Answer, given, refused, completed}
use Rattle.records.specs.Record.{instructions_of}
use Rattle.records.specs.declared.Head.{Head}
use Rattle.records.specs.declared.Instruction.{Instruction}
use Rattle.records.specs.declared.Instruction.TheVariants.{DormantBranch}
use Rattle.plan_spec.specs.Lists.{concat, place_of, remove_at}
use Rattle.plan_spec.specs.Rows.{step_row, row_merge_offset, row_merge_count}
use Rattle.plan_spec.specs.Components.{local_mask}
use Rattle.plan_spec.specs.Walk.{Written, Walk, Join, join_of, no_step, ignored_step, promotion_step, rotation_step, measurement_step, start, step, onward, walk_from}
use Rattle.plan_spec.specs.Plan.{Plan, plan_from, plan_of, unread}
use Rattle.plan_spec.specs.Connectivity.{listed_by}
use Rattle.plan_spec.specs.Sources.{IsListed}
use Rattle.plan_spec.proofs.Steps.{Stepped, ignored, rotated, promoted, measured, recorded, detected, expected, branched, Run, more, run_of_walk}
use Rattle.plan_spec.proofs.Growth.{Grown, AllOf, length_concat, concat-append, concat_more, rotation_row_length, measurement_row_length, run_grown, run_rotations, run_measurements, start_wide}
use Rattle.plan_spec.proofs.Replay.{seam_part, seam_entry}
use Rattle.plan_spec.proofs.Padded.{Pads}
use Rattle.plan_spec.proofs.Room.{steps_count}
use Rattle.plan_spec.proofs.Accepted.{accepted}
use Rattle.plan_buffers.specs.SevenBuffers.{Buffers, lengths_of}
use Rattle.component_plan.specs.Answer.{Answers}
use Rattle.component_plan.specs.Demand.{plan_in}
use Rattle.answer.specs.declared.ActiveComponentPlan.{ActiveComponentPlan}
use Rattle.component_plan.proofs.Demand.{planned_pads}
use Rattle.plan_rows.specs.Reading.{row_at, step_in, rotation_in, measurement_in}
use Rattle.plan_rows.specs.RowLaws.{rotation_back, measurement_back}
use Rattle.plan_spec.proofs.Words.{FloatsFit, instruction_floats}
use Rattle.guarantees.specs.Back.{StepIs, rotation_of, measurement_of, GivenBack}
use Rattle.guarantees.proofs.KernelFloats.{rotation_exact, measurement_exact}

-- ---- where words stand

row_there : (n : ℕ) (ws : List ℕ) (i : ℕ) → n * i + n ≤ length ws → row_at n ws i ≡ Some (take n (drop (n * i) ws))
row_there n ws i h = rw (le-leb _ _ h)

-- what was appended is a part
part_back : (xs ys held : List ℕ) → Begins (xs ++ ys) held → part_of held (length xs) (length ys) ≡ ys
part_back xs ys held e =
    let l = begins_length (xs ++ ys) held e in
    let m = length-append xs ys in
    part_there held (length xs) (length ys) (omega arith) ∙ seam_part xs ys held e

-- and a row, where it is of the row's length and behind i rows
row_back : (n i : ℕ) (xs ys held : List ℕ) → length xs ≡ n * i → length ys ≡ n → Begins (xs ++ ys) held → row_at n held i ≡ Some ys
row_back n i xs ys held at size e =
    let l = begins_length (xs ++ ys) held e in
    let m = length-append xs ys in
    let same : take n (drop (n * i) held) ≡ take (length ys) (drop (length xs) held) = rw (at, size) refl in
    row_there n held i (omega arith) ∙ ap Some (same ∙ seam_part xs ys held e)

step_back : (i kind payload : ℕ) (b : Buffers) (written : List ℕ) → length written ≡ 2 * i → Begins (written ++ step_row kind payload) b.steps → StepIs b i kind payload
step_back i kind payload b written at e = ap (option_map step_in) (row_back 2 i written (step_row kind payload) b.steps at refl e)

-- a row behind rows of n words
rows_back : (n : ℕ) (rows all : List (List ℕ)) (row held : List ℕ) → AllOf n rows → length row ≡ n → Begins (rows ++ (row ∷ [])) all → Begins (concat all) held
    → row_at n held (length rows) ≡ Some row
rows_back n rows all row held wide size e f =
    row_back n (length rows) (concat rows) row held (length_concat n rows wide) size
    (begins_trans (concat rows ++ row) (concat all) held
    (concat e.0, ap concat e.1 ∙ concat-append (rows ++ (row ∷ [])) e.0 ∙ ap (λ (l : List ℕ). l ++ concat e.0) (concat_more rows row)) f)

-- ---- what an accepted step wrote

-- the buffers go on from what is written
record Holds (o : Written) (b : Buffers) : Type 0 where
  steps : Begins o.steps b.steps
  merges : Begins o.merges b.merges
  rotations : Begins (concat o.rotations) b.rotations
  promotions : Begins o.promotions b.promotions
  measurements : Begins (concat o.measurements) b.measurements

module _ (u : Walk) (b : Buffers) (held : Holds u.written b) (i : ℕ) where
  -- what the finished walk has written
  abbrev o : Written
  o = u.written

  -- the step of record i, and the part of the merge list that its join wrote
  wrote_step : (kind payload : ℕ) (w : Walk) → length w.written.steps ≡ 2 * i → Begins (w.written.steps ++ step_row kind payload) o.steps → StepIs b i kind payload
  wrote_step kind payload w at e = step_back i kind payload b w.written.steps at (begins_trans (w.written.steps ++ step_row kind payload) o.steps b.steps e held.steps)

  wrote_part : (w : Walk) (j : Join) → Begins (w.written.merges ++ j.sources) o.merges → part_of b.merges (length w.written.merges) (length j.sources) ≡ j.sources
  wrote_part w j e =
      part_back w.written.merges j.sources b.merges (begins_trans (w.written.merges ++ j.sources) o.merges b.merges e held.merges)

  -- all that the step of record i wrote
  step_given_back : {limit : ℕ} {w v : Walk} {ins : Instruction} → Stepped limit w ins v → FloatsFit ins → length w.written.steps ≡ 2 * i
      → AllOf 21 w.written.rotations → AllOf 19 w.written.measurements → Grown v.written o → GivenBack limit w ins i b
  unfolding no_step ignored_step promotion_step rotation_step measurement_step
  step_given_back {w = w} (ignored x z phase angle sine cosine empty) floats at rows outcomes g =
      (λ e. wrote_step 1 0 w at g.steps, λ some_active. let none_active = ap length empty in absurd (omega arith))
  step_given_back {limit = limit} {w = w} (rotated width x z phase angle sine cosine k wide active small fits made) floats at rows outcomes g =
      let j = join_of x z w in
      let offset = length w.written.merges in
      let long = rotation_row_length j.component offset (length j.sources) k in
      let exact = rotation_exact limit (length j.members) _ _ phase angle sine cosine k floats.0 floats.1 floats.2 made in (
        λ e. let none_active = ap length e in absurd (omega arith),
        λ some_active. record {
          kernel = k;
          made = made;
          step = wrote_step 2 (length w.written.rotations) w at g.steps;
          row_is =
              ap (option_map rotation_in) (rows_back 21 w.written.rotations o.rotations _ b.rotations rows long g.rotations held.rotations)
              ∙ ap Some (rotation_back (rotation_of w j k) exact);
          sources = wrote_part w j g.merges;
        },
      )
  step_given_back {w = w} promoted floats at rows outcomes g =
      let number = length w.written.promotions in (
        wrote_step 3 number w at g.steps,
        seam_entry w.written.promotions b.promotions (length w.components) 0 (begins_trans (w.written.promotions ++ (length w.components ∷ [])) o.promotions b.promotions g.promotions held.promotions),
      )
  step_given_back {limit = limit} {w = w} (measured width x z phase pivot k wide active small fits below inside made) floats at rows outcomes g =
      let j = join_of x z w in
      let offset = length w.written.merges in
      let last = eqb (length (remove_at k.pivot j.members)) 0 in
      let long = measurement_row_length j.component offset (length j.sources) k last in
      let local = place_of (get_or w.order pivot 0) j.members in
      let exact = measurement_exact limit (length j.members) (local_mask x w.order j.members) (local_mask z w.order j.members) phase local k made in record {
        kernel = k;
        made = made;
        step = wrote_step 4 (length w.written.measurements) w at g.steps;
        row_is =
            ap (option_map measurement_in) (rows_back 19 w.written.measurements o.measurements _ b.measurements outcomes long g.measurements held.measurements)
            ∙ ap Some (measurement_back (measurement_of w j k) exact);
        sources = wrote_part w j g.merges;
      }
  step_given_back {w = w} recorded floats at rows outcomes g = wrote_step 0 0 w at g.steps
  step_given_back {w = w} detected floats at rows outcomes g = wrote_step 0 0 w at g.steps
  step_given_back {w = w} expected floats at rows outcomes g = wrote_step 0 0 w at g.steps
  step_given_back {w = w} branched floats at rows outcomes g = wrote_step 0 0 w at g.steps

  -- the first step of a run, and what the rest of it appended
  run_given_back : {limit : ℕ} {w : Walk} {ins : Instruction} {rest : List Instruction} → Run limit w (ins ∷ rest) u → FloatsFit ins
      → length w.written.steps ≡ 2 * i → AllOf 21 w.written.rotations → AllOf 19 w.written.measurements → GivenBack limit w ins i b
  run_given_back (more s r) floats at rows outcomes = step_given_back s floats at rows outcomes (run_grown r)

-- ---- the walk from a state on

-- a finished walk comes to a state after m instructions, and goes on from there to its end
walk_on : (limit index m : ℕ) (s u : Walk) (is : List Instruction) → walk_from limit index s is ≡ completed u
    → (w : Walk) × (walk_from limit index s (take m is) ≡ completed w) × Run limit w (drop m is) u
unfolding walk_from
walk_on limit index zero s u is whole = (s, refl, run_of_walk limit index s u is whole)
walk_on limit index (suc m) s u [] whole = (s, refl, run_of_walk limit index s u [] whole)
walk_on limit index (suc m) s u (i ∷ is) whole = go (step limit s i) whole (λ v. walk_on limit (suc index) m v u is)
  where
    go : (x : Answer Walk) → onward x index (λ v. walk_from limit (suc index) v is) ≡ completed u
        → ((v : Walk) → walk_from limit (suc index) v is ≡ completed u → (w : Walk) × (walk_from limit (suc index) v (take m is) ≡ completed w) × Run limit w (drop m is) u)
        → (w : Walk) × (onward x index (λ v. walk_from limit (suc index) v (take m is)) ≡ completed w) × Run limit w (drop m is) u
    go (given v) e later = later v e
    go (refused n) e later = let z : ◌≡◌ {A = ℕ} 0 1 = cc in absurd (omega arith)

-- ---- the law

-- each record finds the definition's walk in a state, and the steps, rows and parts that are read from a call's buffers are what the walk gave for it there
pub planned_back : (h : Head) (ws : List ℕ) (before after : Buffers) (r : ActiveComponentPlan) → Answers h ws before after (Ok r) → unread h ≡ false
    → (i : ℕ) → i < length (instructions_of ws)
    → (w : Walk) × (walk_from h.ceiling 0 (start h.initial_k) (take i (instructions_of ws)) ≡ completed w) × GivenBack h.ceiling w (get_or (instructions_of ws) i DormantBranch) i after
unfolding plan_from
planned_back h ws before after r answers read i below =
    let is = instructions_of ws in
    let k = h.initial_k in
    let found = planned_pads (plan_of h ws (lengths_of before)) before after r answers.answer answers.held in
    let plan = accepted h ws (lengths_of before) found.0 read found.1 in
    let pads = subst (λ (p : Plan). Pads p (plan_in r after)) plan.plan_is found.2 in
    let on = walk_on h.ceiling 0 i (start k) plan.last is plan.walked in
    let w = on.0 in
    let front = run_of_walk h.ceiling 0 (start k) w (take i is) on.1 in
    let held : Holds plan.last.written after = record {
      steps = (_, pads.steps.1);
      merges = (_, pads.merges.1);
      rotations = (_, pads.rotations.1);
      promotions = (_, pads.promotions.1);
      measurements = (_, pads.measurements.1);
    } in
    let count = steps_count k front in
    let taken = length-take-le i is (omega arith) in (
      w,
      on.1,
      run_given_back plan.last after held i (subst (λ (l : List Instruction). Run h.ceiling w l plan.last) (drop-cons is i DormantBranch below) on.2)
          (instruction_floats ws i below) (omega arith) (run_rotations front (start_wide k 21).0) (run_measurements front (start_wide k 19).1),
    )

-- and the part that the offset and the count of a join's row give is the row's list, of which `Demand.call_sources` tells what stands in it
pub listed_part : (p : Plan) (m kind : ℕ) (row order : List ℕ) (x z : ℕ) → IsListed p m kind row order x z → part_of p.merges (row_merge_offset row) (row_merge_count row) ≡ listed_by p row
listed_part p m kind row order x z c = part_there p.merges (row_merge_offset row) (row_merge_count row) c.inside
