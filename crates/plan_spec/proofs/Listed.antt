-- Each row's part of the merge list is its join's sources: a step appends its sources where its row says they begin, outputs only grow, and the replay has the walk's
-- components, so what holds of the join in the walk holds of the row's part and the replayed components. And each row was written by a step that names it.
use mathlib.Core.Path.{◌≡◌, refl, sym, ap, ap₂, ◌∙◌, subst, subst₂, fun_ext}
use mathlib.Core.Logic.{◌⊎◌, inl, inr, ⊎_elim}
use mathlib.Core.List.{List, [], ◌∷◌, ◌++◌}
use Prim.Native.Nat.{ℕ, suc, ◌+◌, ◌*◌, ◌/◌, ◌≤◌, ◌<◌}
use native.Mathlib.Omega.{arith}
use lib.ListN.{length, get_or, take, drop, length-append}
use Rattle.refusals.specs.Answer.{completed}
use Rattle.words.specs.Lists.{Begins}
use Rattle.words.proofs.Numbers.{same_or_not}
use Rattle.words.proofs.Patches.{begins_length}
use Rattle.words.proofs.Padded.{zeroed_length}
use Rattle.records.specs.Record.{instructions_of}
use Rattle.records.specs.declared.Head.{Head}
use Rattle.records.specs.declared.Instruction.{Instruction}
use Rattle.records.specs.declared.Instruction.TheVariants.{Rotation, Promotion, RecordMeasurement, RecordDetector, Measurement, Expectation, DormantBranch}
use Rattle.plan_spec.specs.Rows.{row_component, row_merge_offset, row_merge_count, step_row}
use Rattle.plan_spec.specs.Components.{members_of}
use Rattle.plan_spec.specs.Walk.{Written, Walk, join_of, start, no_step, ignored_step, promotion_step, rotation_step, measurement_step, row_head, rotation_row, measurement_row}
use Rattle.plan_spec.specs.Plan.{Lengths, Plan, plan_from, plan_of}
use Rattle.plan_spec.specs.Connectivity.{ActiveOrder, active_start, active_after, Replayed, kind_at, rotation_at, measurement_at, listed_by, replay_after}
use Rattle.plan_spec.specs.Sources.{AreSources, IsListed, HasNoPart, ListedClaim, IsRowOf, SourcesListed}
use Rattle.plan_spec.proofs.Steps.{Stepped, ignored, rotated, promoted, measured, recorded, detected, expected, branched, Run, done, more}
use Rattle.plan_spec.proofs.Tracking.{Tracked}
use Rattle.plan_spec.proofs.Sources.{tracked_sources}
use Rattle.plan_spec.proofs.Growth.{Grown, AllOf, length_concat, grown_refl, grown_trans, run_grown, step_steps}
use Rattle.plan_spec.proofs.Replay.{seam_first, seam_second, seam_part, ReplayIs, rotation_kind, rotation_row_lem, measurement_kind, measurement_row_lem}
use Rattle.plan_spec.proofs.Accepted.{Accepted, accepted}
use Rattle.plan_spec.proofs.Connected.{rotations_wide, measurements_wide, start_steps, cut, next_step, read_head}
use Rattle.plan_spec.proofs.Padded.{Named, accepted_names, Pads, kind_same, payload_same, rotation_same, rotation_part, measurement_same, measurement_part, after_same}

-- ---- the row of each join

module _ (initial dense_peak : ℕ) (u : Walk) (rotations_of_21 : AllOf 21 u.written.rotations) (measurements_of_19 : AllOf 19 u.written.measurements) where
  abbrev plan : Plan
  plan = plan_from initial dense_peak u

  abbrev Follows : ℕ → Walk → Type 0
  Follows m w = ReplayIs initial dense_peak u rotations_of_21 measurements_of_19 m w

  -- a row that names the place and the number of its join's sources lists them
  row_listed : (m kind : ℕ) (row : List ℕ) (w : Walk) (r : ActiveOrder) (x z : ℕ) → Tracked w r → Follows m w → 0 < length w.order → kind_at plan m ≡ kind
      → (row_component row ≡ (join_of x z w).component) × (row_merge_offset row ≡ length w.written.merges) × (row_merge_count row ≡ length (join_of x z w).sources)
      → Begins (w.written.merges ++ (join_of x z w).sources) u.written.merges → IsListed plan m kind row r.order x z
  unfolding plan_from join_of
  row_listed m kind row w r x z t replay active kind_is entries e =
      let sources = (join_of x z w).sources in
      let listed : listed_by plan row ≡ sources =
      ap₂ (λ (count offset : ℕ). take count (drop offset u.written.merges)) entries.2 entries.1 ∙ seam_part w.written.merges sources u.written.merges e in
      let same : replay_after plan m ≡ members_of w.components = fun_ext replay in record {
        kind_is = kind_is;
        inside = let a = begins_length (w.written.merges ++ sources) u.written.merges e in let b = length-append w.written.merges sources in omega (arith, entries.1, entries.2);
        component = entries.0 ∙ sym (ap (λ (l : List ℕ). get_or l 0 0) listed);
        sources = subst (λ (l : List ℕ). AreSources r.order (replay_after plan m) x z l) (sym listed)
            (subst₂ (λ (order : List ℕ) (b : Replayed). AreSources order b x z sources) t.order_same (sym same) (tracked_sources w r t x z active));
      }

  -- a step of another kind names no part
  no_part : (m kind payload : ℕ) (written : List ℕ) → length written ≡ 2 * m → Begins (written ++ step_row kind payload) u.written.steps
      → (kind ≡ 2 → ⊥) → (kind ≡ 4 → ⊥) → HasNoPart plan m
  unfolding plan_from
  no_part m kind payload written l e two four =
      let k = seam_first written u.written.steps kind payload (2 * m) l e in (λ f. two (sym k ∙ f), λ f. four (sym k ∙ f))

  step_listed : {limit : ℕ} {w v : Walk} {i : Instruction} (m : ℕ) (r : ActiveOrder) → Stepped limit w i v → length w.written.steps ≡ 2 * m → Grown v.written u.written
      → Tracked w r → Follows m w → ListedClaim plan m r.order i
  unfolding ListedClaim no_step ignored_step promotion_step rotation_step measurement_step rotation_row measurement_row row_head
  step_listed {w = w} m r (ignored x z phase angle sine cosine empty) l g t replay =
      inl (sym t.order_same ∙ empty, no_part m 1 0 w.written.steps l g.steps (λ e. omega (arith, e)) (λ e. omega (arith, e)))
  step_listed {w = w} m r (rotated width x z phase angle sine cosine k wide active small fits made) l g t replay =
      let j = join_of x z w in
      let row = rotation_row_lem initial dense_peak u rotations_of_21 measurements_of_19 m w j k l g in
      inr (row_listed m 2 (rotation_at plan m) w r x z t replay active (rotation_kind initial dense_peak u rotations_of_21 measurements_of_19 m w j k l g)
      (ap row_component row, ap row_merge_offset row, ap row_merge_count row) g.merges)
  step_listed {w = w} m r promoted l g t replay = no_part m 3 (length w.written.promotions) w.written.steps l g.steps (λ e. omega (arith, e)) (λ e. omega (arith, e))
  step_listed {w = w} m r (measured width x z phase pivot k wide active small fits below inside made) l g t replay =
      let j = join_of x z w in
      let row = measurement_row_lem initial dense_peak u rotations_of_21 measurements_of_19 m w j pivot k l g in
      row_listed m 4 (measurement_at plan m) w r x z t replay active (measurement_kind initial dense_peak u rotations_of_21 measurements_of_19 m w j pivot k l g)
      (ap row_component row, ap row_merge_offset row, ap row_merge_count row) g.merges
  step_listed {w = w} m r recorded l g t replay = no_part m 0 0 w.written.steps l g.steps (λ e. omega (arith, e)) (λ e. omega (arith, e))
  step_listed {w = w} m r detected l g t replay = no_part m 0 0 w.written.steps l g.steps (λ e. omega (arith, e)) (λ e. omega (arith, e))
  step_listed {w = w} m r expected l g t replay = no_part m 0 0 w.written.steps l g.steps (λ e. omega (arith, e)) (λ e. omega (arith, e))
  step_listed {w = w} m r branched l g t replay = no_part m 0 0 w.written.steps l g.steps (λ e. omega (arith, e)) (λ e. omega (arith, e))

-- ---- each row is that of a join

-- what a step adds to the rows of a kind: nothing, or one row whose number its step names
abbrev Adds : ℕ → (Written → List (List ℕ)) → Written → Written → Type 0
Adds kind rows o p =
    (length (rows p) ≡ length (rows o)) ⊎ ((length (rows p) ≡ suc (length (rows o))) × (p.steps ≡ o.steps ++ (kind ∷ length (rows o) ∷ [])))

step_adds : (limit : ℕ) (w v : Walk) (i : Instruction) → Stepped limit w i v
    → Adds 2 (λ o. o.rotations) w.written v.written × Adds 4 (λ o. o.measurements) w.written v.written
unfolding no_step ignored_step promotion_step rotation_step measurement_step
step_adds limit w v i (ignored x z phase angle sine cosine empty) = (inl refl, inl refl)
step_adds limit w v i (rotated width x z phase angle sine cosine k wide active small fits made) =
    (inr (length-append w.written.rotations _ ∙ omega arith, refl), inl refl)
step_adds limit w v i promoted = (inl refl, inl refl)
step_adds limit w v i (measured width x z phase pivot k wide active small fits below inside made) =
    (inl refl, inr (length-append w.written.measurements _ ∙ omega arith, refl))
step_adds limit w v i recorded = (inl refl, inl refl)
step_adds limit w v i detected = (inl refl, inl refl)
step_adds limit w v i expected = (inl refl, inl refl)
step_adds limit w v i branched = (inl refl, inl refl)

-- a row that a run from record a on has added is named by one of its steps
module _ (kind : ℕ) (rows : Written → List (List ℕ)) (adds : (limit : ℕ) (w v : Walk) (i : Instruction) → Stepped limit w i v → Adds kind rows w.written v.written) (o : Written) where
  run_rows : {limit : ℕ} {w v : Walk} {is : List Instruction} (a : ℕ) → Run limit w is v → length w.written.steps ≡ 2 * a → Grown v.written o
      → (i : ℕ) → length (rows w.written) ≤ i → i < length (rows v.written)
      → (m : ℕ) × (m < a + length is) × (get_or o.steps (2 * m) 0 ≡ kind) × (get_or o.steps (suc (2 * m)) 0 ≡ i)
  run_rows a (done w) l g i low high = absurd (omega arith)
  run_rows {limit = limit} a (more {w = w} {v = v} {i = instruction} {is = is} s rest) l g i low high =
      let later : length (rows v.written) ≤ i → (m : ℕ) × (m < a + suc (length is)) × (get_or o.steps (2 * m) 0 ≡ kind) × (get_or o.steps (suc (2 * m)) 0 ≡ i) =
      λ from. let r = run_rows (suc a) rest (let e = step_steps s in omega arith) g i from high in (r.0, omega (arith, r.1), r.2, r.3) in
      ⊎_elim
      (λ e. later (omega arith))
      (λ n. ⊎_elim
      (λ here. let e = subst (λ (steps : List ℕ). Begins steps o.steps) n.1 (grown_trans (run_grown rest) g).steps in (
        a,
        omega arith,
        seam_first w.written.steps o.steps kind (length (rows w.written)) (2 * a) l e,
        seam_second w.written.steps o.steps kind (length (rows w.written)) (2 * a) l e ∙ sym here,
      ))
      (λ not_here. later (omega (arith, n.0, not_here)))
      (same_or_not i (length (rows w.written))))
      (adds limit w v instruction s)

-- at the start there is no row
start_rows : (k : ℕ) → (length (start k).written.rotations ≡ 0) × (length (start k).written.measurements ≡ 0)
unfolding start
start_rows k = (refl, refl)

-- ---- CR 3 of a run's plan, and of an accepted one

pub run_listed : (limit k dense_peak : ℕ) (is : List Instruction) (u : Walk) → Run limit (start k) is u
    → SourcesListed k is (plan_from k dense_peak u) (length u.written.rotations) (length u.written.measurements)
unfolding plan_from
run_listed limit k dense_peak is u run =
    let o = u.written in
    let none_yet = start_rows k in
    let wide = rotations_wide limit k dense_peak is u run in
    let long = measurements_wide limit k dense_peak is u run in
    let steps = start_steps limit k dense_peak is u run in record {
      joins = λ m h.
          let at = cut limit k dense_peak is u run m (omega arith) in
          next_step limit k dense_peak is u run m at (ListedClaim (plan_from k dense_peak u) m (active_after (active_start k) (take m is)).order)
          (λ v i s g. step_listed k dense_peak u wide long m (active_after (active_start k) (take m is)) s at.steps_same g at.tracked at.follows) h;
      rotation = λ i h.
          let r = run_rows 2 (λ p. p.rotations) (λ l w v j s. (step_adds l w v j s).0) o 0 run steps (grown_refl o) i (omega (arith, none_yet.0)) h in
          (r.0, omega (arith, r.1), r.2, r.3);
      measurement = λ i h.
          let r = run_rows 4 (λ p. p.measurements) (λ l w v j s. (step_adds l w v j s).1) o 0 run steps (grown_refl o) i (omega (arith, none_yet.1)) h in
          (r.0, omega (arith, r.1), r.2, r.3);
    }

-- how many rows there are
rows_counted : (k dense_peak : ℕ) (u : Walk) → AllOf 21 u.written.rotations → AllOf 19 u.written.measurements
    → (length u.written.rotations ≡ length (plan_from k dense_peak u).rotations / 21) × (length u.written.measurements ≡ length (plan_from k dense_peak u).measurements / 19)
unfolding plan_from
rows_counted k dense_peak u wide long =
    let a = length_concat 21 u.written.rotations wide in
    let b = length_concat 19 u.written.measurements long in (omega arith, omega arith)

-- of an accepted plan: a row has 21 words or 19
pub accepted_listed : (h : Head) (ws : List ℕ) (l : Lengths) (p : Plan) → Accepted h ws l p
    → SourcesListed h.initial_k (instructions_of ws) p (length p.rotations / 21) (length p.measurements / 19)
accepted_listed h ws l p a =
    let k = h.initial_k in
    let is = instructions_of ws in
    let run = a.run in
    let counted = rows_counted k a.dense_peak a.last (rotations_wide h.ceiling k a.dense_peak is a.last run) (measurements_wide h.ceiling k a.dense_peak is a.last run) in
    subst (λ (q : Plan). SourcesListed k is q (length q.rotations / 21) (length q.measurements / 19)) (sym a.plan_is)
    (subst₂ (λ (r m : ℕ). SourcesListed k is (plan_from k a.dense_peak a.last) r m) counted.0 counted.1
    (run_listed h.ceiling k a.dense_peak is a.last run))

-- CR 3 for every accepted program that was read
pub listed : (h : Head) (ws : List ℕ) (l : Lengths) (p : Plan) → plan_of h ws l ≡ completed p → 8 ≤ h.max_k → h.nexpvals ≡ 0
    → SourcesListed h.initial_k (instructions_of ws) p (length p.rotations / 21) (length p.measurements / 19)
listed h ws l p e wide none = accepted_listed h ws l p (accepted h ws l p (read_head h wide none) e)

-- ---- the words followed by zeros

module _ (p q : Plan) (pads : Pads p q) (m : ℕ) (named : (j : ℕ) → j < suc m → Named p j) where
  -- a row and its part are the same, and so are the components before it
  part_same : (kind : ℕ) (row row' order : List ℕ) (x z : ℕ) → row' ≡ row → listed_by q row' ≡ listed_by p row → IsListed p m kind row order x z → IsListed q m kind row' order x z
  part_same kind row row' order x z same part c =
      let long = zeroed_length p.merges q.merges pads.merges in
      let before = after_same p q pads m (λ j h. named j (omega arith)) in record {
        kind_is = kind_same p q pads m ∙ c.kind_is;
        inside = let i = c.inside in subst (λ (l : List ℕ). row_merge_offset l + row_merge_count l ≤ length q.merges) (sym same) (omega arith);
        component = ap row_component same ∙ c.component ∙ sym (ap (λ (l : List ℕ). get_or l 0 0) part);
        sources = subst₂ (λ (b : Replayed) (l : List ℕ). AreSources order b x z l) (sym before) (sym part) c.sources;
      }

  -- no part stays none
  none_same : HasNoPart p m → HasNoPart q m
  none_same n = let k = kind_same p q pads m in (λ e. n.0 (sym k ∙ e), λ e. n.1 (sym k ∙ e))

  listed_same : (order : List ℕ) (i : Instruction) → ListedClaim p m order i → ListedClaim q m order i
  unfolding ListedClaim
  listed_same order (Rotation width x z phase angle sine cosine) c =
      let here = named m (omega arith) in
      ⊎_elim
      (λ n. inl (n.0, none_same n.1))
      (λ j. inr (part_same 2 (rotation_at p m) (rotation_at q m) order x z (rotation_same p q pads m here j.kind_is) (rotation_part p q pads m here j.kind_is) j))
      c
  listed_same order (Measurement width x z phase pivot) c =
      let here = named m (omega arith) in
      part_same 4 (measurement_at p m) (measurement_at q m) order x z (measurement_same p q pads m here c.kind_is) (measurement_part p q pads m here c.kind_is) c
  listed_same order Promotion c = none_same c
  listed_same order RecordMeasurement c = none_same c
  listed_same order RecordDetector c = none_same c
  listed_same order Expectation c = none_same c
  listed_same order DormantBranch c = none_same c

-- a row's record is the same
row_of_same : (p q : Plan) (records kind i : ℕ) → Pads p q → IsRowOf records p kind i → IsRowOf records q kind i
row_of_same p q records kind i pads r = (r.0, r.1, kind_same p q pads r.0 ∙ r.2, payload_same p q pads r.0 ∙ r.3)

-- CR 3 of an accepted plan is CR 3 of its words followed by zeros
pub listed_padded : (h : Head) (ws : List ℕ) (l : Lengths) (p q : Plan) → Accepted h ws l p → Pads p q
    → SourcesListed h.initial_k (instructions_of ws) q (length p.rotations / 21) (length p.measurements / 19)
listed_padded h ws l p q a pads =
    let c = accepted_listed h ws l p a in
    let k = h.initial_k in
    let is = instructions_of ws in
    let named = accepted_names a in record {
      joins = λ m g. listed_same p q pads m (λ j f. named j (omega arith)) (active_after (active_start k) (take m is)).order (get_or is m DormantBranch) (c.joins m g);
      rotation = λ i g. row_of_same p q (length is) 2 i pads (c.rotation i g);
      measurement = λ i g. row_of_same p q (length is) 4 i pads (c.measurement i g);
    }
