-- One record: where the state, the sums and the buffers are those of the definition's walk, what the
-- code does next is the definition's step, and they are those of the walk again.
use mathlib.Core.Path.{◌≡◌, refl, sym, ap, ap₂, ◌∙◌, subst}
use mathlib.Core.Logic.{⊎_elim}
use mathlib.Core.Bool.{Bool, true, false, cond}
use mathlib.Core.List.{List, [], ◌∷◌, ◌++◌}
use Prim.Native.Nat.{ℕ, suc, ◌+◌, ◌-◌, ◌*◌, ◌/◌, ◌%◌, ◌^◌, ◌≤◌, ◌<◌, max}
use native.Mathlib.Numerals.{add-one}
use native.Mathlib.Nat.{add-zero}
use native.Mathlib.Omega.{arith}
use lib.Dec.{eqb, leb}
use lib.IntN.{pos}
use lib.Ieee.{Float, fin, binary64, add, mul}
use lib.ListN.{length, get_or, set, take, length-append}
use borrow.Author.Tests.{eq-eqb, ne_eqb, le-leb, lt-leb, leb-false, eqb-true, eqb-false}
use Rattle.words.specs.Lists.{patch, Begins}
use Rattle.words.proofs.Numbers.{same_or_not}
use Rattle.words.proofs.Patches.{begins_patch, begins_more, begins_set, begins_at}
use Rattle.kernels.specs.Bits.{exp2}
use Rattle.refusals.specs.Answer.{Answer, given, refused, refused_at}
use Rattle.kernels.specs.Active.{action, rotation, measurement}
use Rattle.kernels.specs.declared.active.Angle.{Angle}
use Rattle.kernels.specs.declared.active.PrecomputedActivePauliRotationKernel.{PrecomputedActivePauliRotationKernel}
use Rattle.kernels.specs.declared.active.PrecomputedActivePauliMeasurementKernel.{PrecomputedActivePauliMeasurementKernel}
use Rattle.records.specs.Record.{instructions_of}
use Rattle.records.specs.declared.Instruction.{Instruction}
use Rattle.records.specs.declared.Instruction.TheVariants.{Rotation, Promotion, RecordMeasurement, RecordDetector, Measurement, Expectation, DormantBranch}
use Rattle.plan_spec.specs.Lists.{concat, remove_at}
use Rattle.plan_spec.specs.Components.{members_of, size_of, amplitudes, joining_cost, live_dimension, local_mask, float_two}
use Rattle.plan_spec.specs.Walk.{Walk, Join, join_of, local_action, when_given, no_step, ignored_step, promotion_step, rotation_step, measurement_step, step, start, walk_from, rotation_row, measurement_row}
use Rattle.plan_spec.specs.Connectivity.{NoRepeats, ActiveOrder, active_start, active_after}
use Rattle.plan_spec.proofs.Counting.{length_remove_at}
use Rattle.plan_spec.proofs.Steps.{cond_yes, cond_no}
use Rattle.plan_spec.proofs.Growth.{row_count, length_concat}
use Rattle.plan_spec.proofs.Tracking.{Tracked, tracked_here, target_below, target_members, join_length, join_peak_is, measurement_keeps}
use Rattle.plan_spec.proofs.WholeWorks.{reached_within}
use Rattle.plan_spec.specs.Plan.{buffers_refused}
use Rattle.plan_spec.proofs.Room.{JoinKept, join_kept, width_of, Enough, enough}
use Rattle.state.specs.declared.State.{State}
use Rattle.work_sums.specs.declared.Tally.{Tally}
use Rattle.work_sums.specs.declared.Joining.{Joining}
use Rattle.masks.specs.Positions.{local_of}
use Rattle.state.specs.Steps.{BeforeJoin, BeforePromotion, promoted, BeforeRemoval, Removed}
use Rattle.work_sums.specs.Tally.{powers, power_left, joining_of, Countable, JoinFits, ignored_tally, joined_tally, rotated_tally, promoted_tally, measured_tally}
use Rattle.work_sums.proofs.Sums.{left_below, kept_sum, kept_joined}
use Rattle.state_model.specs.Represents.{Represents}
use Rattle.state_model.proofs.Moving.{represents_promotion, before_removal, represents_removal}
use Rattle.state_model.proofs.Sums.{live_removal, live_promotion}
use Rattle.plan_buffers.specs.SevenBuffers.{Buffers, SameLengths, lengths_of}
use Rattle.walk.specs.Walking.{Tallied, Walkable}
use Rattle.walk.specs.Looping.{Reached}
use Rattle.record_steps.specs.RecordSteps.{raised, sources_at, GatherFits, number_before, sources_before, WhereJoined, progress_of, local_action_of, JoinedFits, rotation_answer, RotationDone, measurement_answer, MeasurementDone, PromotionFits, PromotionDone}
use Rattle.record_steps.specs.declared.Pauli.{Pauli}
use Rattle.record_steps.specs.declared.AtRecord.{AtRecord}
use Rattle.walk.proofs.Reaching.{few_records, tracked, width_next, made, made_next, kept, live_small, quantum_small, steps_written, rows_written, rotations_wide, measurements_wide, run_next, stops}
use Rattle.walk.proofs.Joining as J
use Rattle.walk.proofs.Filling.{begins_row}
use Rattle.walk.proofs.Stepping.{refused_before, ignores, rotates, measures}

-- a record's Pauli, its angle, and where it stands
abbrev pub pauli_of : ℕ → ℕ → ℕ → Pauli
pauli_of x z phase = record { x = x; z = z; phase = phase }

abbrev pub angle_of : Float → Float → Float → Angle
angle_of angle sine cosine = record { value = angle; sine = sine; cosine = cosine }

abbrev pub at_record : ℕ → ℕ → ℕ → AtRecord
at_record limit i width = record { index = i; width = width; limit = limit }

-- an answer with a kernel has passed a test that refuses
past_refusal : {K : Type 0} (t : Bool) (n : ℕ) (rest : Answer K) (q : K) → cond t (refused n) rest ≡ given q → (t ≡ false) × (rest ≡ given q)
past_refusal true n rest q e = let z : ◌≡◌ {A = ℕ} 0 1 = cc in absurd (omega arith)
past_refusal false n rest q e = (refl, e)

-- and one that lets through
at_answer : {K : Type 0} (t : Bool) (n : ℕ) (rest : Answer K) (q : K) → cond t rest (refused n) ≡ given q → (t ≡ true) × (rest ≡ given q)
at_answer true n rest q e = (refl, e)
at_answer false n rest q e = let z : ◌≡◌ {A = ℕ} 0 1 = cc in absurd (omega arith)

-- the dimension of one member less
power_left_lem : (m : List ℕ) (size : ℕ) → suc (length m) ≡ size → amplitudes m ≡ power_left size
power_left_lem [] size e = sym (cond_yes (leb size 1) 0 _ (le-leb size 1 (omega arith)))
power_left_lem (a ∷ m) size e = ap (λ (n : ℕ). 2 ^ n) (omega arith) ∙ sym (cond_no (leb size 1) 0 (2 ^ (size - 1)) (lt-leb size 1 (omega arith)))

module _ (limit k : ℕ) (ws : List ℕ) (b : Buffers) (ok : Walkable k ws b) (i : ℕ) (next : i < length ws / 8) (w : Walk) (s : State) (t : Tally) (c : Buffers)
    (at : Reached limit k (instructions_of ws) i w s t c) (long : SameLengths b c) where
  -- the width is not above the widest
  within : length w.order ≤ w.whole.widest
  within = reached_within k at.run

  no_wider : t.widest ≡ max w.whole.widest (length w.order)
  no_wider = let m = at.sums.widest in let h = within in omega arith

  abbrev here : AtRecord
  here = at_record limit i s.width

  abbrev now : Instruction
  now = get_or (instructions_of ws) i DormantBranch

  abbrev roll : ActiveOrder
  roll = active_after (active_start k) (take i (instructions_of ws))

  upto : i ≤ length ws / 8
  upto = omega arith

  pub tr : Tracked w roll
  tr = tracked limit k ws b ok i upto w s t c at

  pub few : length w.components ≤ 512
  few = made limit k ws b ok i upto w s t c at

  room : Enough (length ws / 8) (lengths_of c)
  room = enough (length ws / 8) (lengths_of c) (ap (buffers_refused (length ws / 8)) long ∙ ok.room)

  rows : row_count w.written ≤ i
  rows = rows_written limit k ws b ok i upto w s t c at

  stepped : length w.written.steps ≡ 2 * i
  stepped = steps_written limit k ws b ok i upto w s t c at

  quantum : w.quantum ≤ i
  quantum = quantum_small limit k ws b ok i upto w s t c at

  live : live_dimension w.components < 2 ^ 63
  live = live_small limit k ws b ok i upto w s t c at

  small : i < 1024
  small = let f = few_records limit k ws b ok i upto w s t c at in omega arith

  -- the steps with one more
  kept_steps : (kind payload row : ℕ) (steps' : List ℕ) → payload ≡ row → steps' ≡ patch (2 * i) (kind ∷ payload ∷ []) c.steps
      → Begins (w.written.steps ++ (kind ∷ row ∷ [])) steps'
  kept_steps kind payload row steps' p e =
      subst (λ (n : ℕ). Begins (w.written.steps ++ (kind ∷ n ∷ [])) steps') p
      (subst (Begins (w.written.steps ++ (kind ∷ payload ∷ []))) (sym e) (begins_patch w.written.steps (kind ∷ payload ∷ []) c.steps (2 * i) at.steps_begin stepped))

  -- ---- what the code asks before a join

  module _ (x z : ℕ) (active : 0 < length w.order) (narrow : length w.order ≤ 62) where
    abbrev j : Join
    j = join_of x z w

    abbrev join : Joining
    join = joining_of s.size j.sources

    joins : JoinKept w j
    joins = join_kept w roll tr x z active (length w.order) refl narrow (kept limit k ws b ok i upto w s t c at)

    sources_written : sources_at s.component s.size s.width x z ≡ j.sources
    sources_written = J.written w roll tr s at.rep few x z active narrow

    sources_room : t.merges + length j.sources ≤ length c.merges
    sources_room =
        let m = at.sums.merges in
        let q = joins.spare in
        let r = rows in
        let f = few in
        let e = room.merges in omega arith

    pub gather_fits : GatherFits s.component s.size s.width t.merges (length c.merges) x z
    gather_fits = record {
      narrow = let e = at.rep.width in omega arith;
      numbers = at.rep.shape.small;
      written = let e = ap length sources_written in let q = sources_room in omega arith;
      counted = subst (Countable s.size) (sym sources_written) (J.countable w roll tr s at.rep few x z active narrow);
    }

    -- the state is one that the sources can be joined in
    pub joins_fit : BeforeJoin s j.sources
    joins_fit = J.joins w roll tr s at.rep few x z active narrow

    -- ---- the join's sums

    join_size : join.size ≡ length j.members
    unfolding joining_of
    join_size = J.size_is w roll tr s at.rep few x z active narrow

    join_target : join.target ≡ j.component
    unfolding joining_of
    join_target = sym (J.component_is w roll tr s at.rep few x z active narrow)

    join_count : join.count ≡ length j.sources
    unfolding joining_of
    join_count = refl

    costs : (join.cost ≡ joining_cost w.components j.sources) × (join.whole_cost ≡ j.cost % 2 ^ 64)
    unfolding joining_of join_of
    costs =
        let e = J.cost_is s.size w.components j.sources (J.agree w roll tr s at.rep few x z active narrow) (J.some w roll tr s at.rep few x z active narrow) in
        (e.0, ap (λ (n : ℕ). n % 2 ^ 64) e.1)

    join_freed : join.freed ≡ powers s.size j.sources
    unfolding joining_of
    join_freed = refl

    size_small : length j.members ≤ 62
    size_small = let m = J.members_most w roll tr s at.rep few x z active narrow in omega arith

    live_joined : t.live - join.freed + 2 ^ join.size ≡ live_dimension j.components
    live_joined =
        let l = J.live_is w roll tr s at.rep few x z active narrow in
        let f = l.0 in
        let g = l.1 in
        let e = join_freed in
        let p = ap (λ (n : ℕ). 2 ^ n) join_size in
        let m = at.sums.live in omega arith

    pub join_fits : JoinFits t join
    join_fits = record {
      freed = let l = (J.live_is w roll tr s at.rep few x z active narrow).0 in let e = join_freed in let m = at.sums.live in omega arith;
      size = let e = join_size in let q = size_small in omega arith;
      live = let e = live_joined in let l = J.live_after w roll tr s at.rep few x z active narrow in omega arith;
      merges = let e = join_count in let q = sources_room in let m = few_merges in omega arith;
      quantum = let e = at.sums.quantum in let q = quantum in let m = small in omega arith;
    }
      where
        few_merges : t.merges + length j.sources ≤ 2 * 1024
        few_merges =
            let m = at.sums.merges in
            let q = joins.spare in
            let r = rows in
            let f = few in
            let e = small in omega arith

    -- ---- after the join, in the state that stands for it

    module _ (u : State) (to : Represents u w.order j.components) where
      x_mask_is : local_of (x % 2 ^ s.width) u.place ≡ local_mask x w.order j.members
      x_mask_is = ap (λ (n : ℕ). local_of (x % 2 ^ n) u.place) at.rep.width ∙ J.x_local w roll tr s at.rep few x z active narrow u to

      z_mask_is : local_of (z % 2 ^ s.width) u.place ≡ local_mask z w.order j.members
      z_mask_is = ap (λ (n : ℕ). local_of (z % 2 ^ n) u.place) at.rep.width ∙ J.z_local w roll tr s at.rep few x z active narrow u to

      local_same : (phase : ℕ) → local_action_of u.place (pauli_of x z phase) s.width join.size ≡ local_action x z phase w j
      local_same phase =
          ap (λ (n : ℕ). local_action_of u.place (pauli_of x z phase) s.width n) join_size
          ∙ ap₂ (λ (m n : ℕ). action (length j.members) m n phase) x_mask_is z_mask_is

      longest_same : length w.longest ≡ length w.components
      longest_same = tr.longest_same

      pub joined_fits : (phase : ℕ) → JoinedFits u.place (pauli_of x z phase) here join t c.steps c.sizes
      joined_fits phase = record {
        narrow = let e = at.rep.width in omega arith;
        x_fits = let e = x_mask_is in let f = J.mask_fits w roll tr s at.rep few x z active narrow u to x in omega arith;
        z_fits = let e = z_mask_is in let f = J.mask_fits w roll tr s at.rep few x z active narrow u to z in omega arith;
        sums = join_fits;
        step_room = let e = room.steps in omega arith;
        size_room = let e = join_target in let f = target_below w roll tr x z active in let q = few in let r = room.sizes in omega arith;
      }

      -- the longest sizes
      sizes_after_is : (sizes' : List ℕ) → sizes' ≡ raised c.sizes join → Begins j.longest sizes'
      unfolding join_of
      sizes_after_is sizes' e =
          let d = j.component in
          let below : d < length w.longest = let f = target_below w roll tr x z active in let l = longest_same in omega arith in
          let v = max (get_or w.longest d 0) (length j.members) in
          let same : raised c.sizes join ≡ set c.sizes d v =
          ap₂ (λ (a n : ℕ). set c.sizes a (max (get_or c.sizes a 0) n)) join_target join_size
          ∙ ap (λ (n : ℕ). set c.sizes d (max n (length j.members))) (begins_at w.longest c.sizes d at.sizes_begin below) in
          subst (Begins (set w.longest d v)) (sym (e ∙ same)) (begins_set w.longest c.sizes d v at.sizes_begin below)

      -- the merge list
      merges_after : (merges' : List ℕ) → merges' ≡ patch t.merges j.sources c.merges → Begins (w.written.merges ++ j.sources) merges'
      merges_after merges' e = subst (Begins (w.written.merges ++ j.sources)) (sym e) (begins_patch w.written.merges j.sources c.merges t.merges at.merges_begin (sym at.sums.merges))

      work_joined : add binary64 t.work join.cost ≡ j.work
      unfolding join_of
      work_joined = ap₂ (add binary64) at.sums.work costs.0

      whole_joined : (more : ℕ) → ((t.whole_work + join.whole_cost) % 2 ^ 64 + more) % 2 ^ 64 ≡ (w.whole.component + (j.cost + more)) % 2 ^ 64
      whole_joined more = kept_joined t.whole_work w.whole.component join.whole_cost j.cost more at.sums.whole_work costs.1

      peak_joined : max t.peak (t.live - join.freed + 2 ^ join.size) ≡ j.peak
      peak_joined = ap₂ max at.sums.peak live_joined ∙ sym (join_peak_is x z w)

      merges_joined : t.merges + join.count ≡ length (w.written.merges ++ j.sources)
      merges_joined = let e = length-append w.written.merges j.sources in let m = at.sums.merges in let n = join_count in omega arith

      -- ---- a rotation

      pub rotation_room : 21 * t.rotations + 21 ≤ length c.rotations
      rotation_room = let e = room.rotations in let r = rows in let m = at.sums.rotations in omega arith

      module _ (width phase : ℕ) (angle sine cosine : Float) (is_now : now ≡ Rotation width x z phase angle sine cosine) (wide : width ≡ length w.order) where
        rotation_same : rotation_answer u.place (pauli_of x z phase) (angle_of angle sine cosine) here join.size ≡ rotation limit (local_action x z phase w j) phase angle sine cosine
        rotation_same = ap (λ a. rotation limit a phase angle sine cosine) (local_same phase)

        pub rotation_stops : (n : ℕ) → rotation_answer u.place (pauli_of x z phase) (angle_of angle sine cosine) here join.size ≡ refused n
            → walk_from limit 0 (start k) (instructions_of ws) ≡ refused_at n i
        rotation_stops n e =
            stops limit k ws b ok i upto w s t c at next (Rotation width x z phase angle sine cosine) n is_now
            (rotates limit w width x z phase angle sine cosine wide active ∙ ap (λ a. when_given a (λ q. given (rotation_step w j q))) (sym rotation_same ∙ e))

        pub rotation_goes : (q : PrecomputedActivePauliRotationKernel) (t' : Tally) (c' : Buffers)
            → rotation_answer u.place (pauli_of x z phase) (angle_of angle sine cosine) here join.size ≡ given q
            → RotationDone here join (progress_of t c.steps c.sizes c.rotations) (progress_of t' c'.steps c'.sizes c'.rotations) q
            → c'.merges ≡ patch t.merges j.sources c.merges → c'.promotions ≡ c.promotions → c'.measurements ≡ c.measurements
            → Reached limit k (instructions_of ws) (i + 1) (rotation_step w j q) u t' c'
        unfolding rotation_step rotated_tally joined_tally
        rotation_goes q t' c' e d merges promotions measurements =
            let went = run_next limit k ws b ok i upto w s t c at next (Rotation width x z phase angle sine cosine) (rotation_step w j q) is_now
            (rotates limit w width x z phase angle sine cosine wide active ∙ ap (λ a. when_given a (λ p. given (rotation_step w j p))) (sym rotation_same ∙ e)) in
            let o = w.written in
            let row = rotation_row j.component (length o.merges) (length j.sources) q in
            let row_same : rotation_row join.target t.merges join.count q ≡ row =
            ap₂ (λ (a m : ℕ). rotation_row a m join.count q) join_target at.sums.merges ∙ ap (λ (n : ℕ). rotation_row j.component (length o.merges) n q) join_count in
            let before = length_concat 21 o.rotations (rotations_wide limit k ws b ok i upto w s t c at) in
            let place : 21 * t.rotations ≡ length (concat o.rotations) = let m = at.sums.rotations in omega arith in
            let sums = d.sums in
            subst (λ (n : ℕ). Reached limit k (instructions_of ws) n (rotation_step w j q) u t' c') (sym (add-one i)) (record {
              run = went.0;
              ahead = went.1;
              rep = to;
              sums = subst (λ (a : Tally). Tallied a (rotation_step w j q)) (sym sums) (record {
                dense = ap₂ (λ (a : Float) (n : ℕ). add binary64 a (exp2 n)) at.sums.dense at.rep.width;
                work = ap₂ (λ (a : Float) (n : ℕ). add binary64 a (add binary64 (exp2 n) (fin false 1 (pos 5)))) work_joined join_size;
                whole_dense = ap (λ (n : ℕ). (t.whole_dense + 2 ^ n) % 2 ^ 64) at.rep.width ∙ kept_sum t.whole_dense w.whole.dense (2 ^ length w.order) at.sums.whole_dense;
                whole_work = ap (λ (n : ℕ). ((t.whole_work + join.whole_cost) % 2 ^ 64 + (2 ^ n + 32)) % 2 ^ 64) join_size ∙ whole_joined (2 ^ length j.members + 32);
                widest = no_wider;
                live = live_joined;
                peak = peak_joined;
                merges = merges_joined;
                rotations = let l = length-append o.rotations (row ∷ []) in let m = at.sums.rotations in omega arith;
                promotions = at.sums.promotions;
                measurements = at.sums.measurements;
                quantum = let m = at.sums.quantum in omega arith;
              });
              steps_begin = kept_steps 2 t.rotations (length o.rotations) c'.steps at.sums.rotations d.step;
              merges_begin = merges_after c'.merges merges;
              sizes_begin = sizes_after_is c'.sizes d.size;
              rotations_begin = subst (Begins (concat (o.rotations ++ (row ∷ []))))
                  (sym (d.row ∙ ap₂ (λ (n : ℕ) (l : List ℕ). patch n l c.rotations) place row_same))
                  (begins_row o.rotations row c.rotations (length (concat o.rotations)) at.rotations_begin refl);
              promotions_begin = subst (Begins o.promotions) (sym promotions) at.promotions_begin;
              measurements_begin = subst (Begins (concat o.measurements)) (sym measurements) at.measurements_begin;
            })

      -- ---- a measurement

      pub measurement_room : 19 * t.measurements + 19 ≤ length c.measurements
      measurement_room = let e = room.measurements in let r = rows in let m = at.sums.measurements in omega arith

      module _ (width phase pivot : ℕ) (is_now : now ≡ Measurement width x z phase pivot) (wide : width ≡ length w.order) where
        abbrev answer : Answer PrecomputedActivePauliMeasurementKernel
        answer = measurement_answer u.component u.place (pauli_of x z phase) pivot here join

        -- the definition's answer in the same tests
        abbrev tested : Answer PrecomputedActivePauliMeasurementKernel
        tested =
            cond (leb limit join.size) (refused 14)
            (cond (leb (length w.order) pivot) (refused 15)
            (cond (eqb (get_or u.component pivot 0) j.component) (measurement limit (local_action x z phase w j) phase (get_or u.place pivot 0)) (refused 16)))

        tested_same : answer ≡ tested
        tested_same =
            ap₂ (λ (n d : ℕ). cond (leb limit join.size) (refused 14) (cond (leb n pivot) (refused 15)
            (cond (eqb (get_or u.component pivot 0) d) (measurement limit (local_action_of u.place (pauli_of x z phase) s.width join.size) phase (get_or u.place pivot 0)) (refused 16))))
            at.rep.width join_target
            ∙ ap (λ a. cond (leb limit join.size) (refused 14) (cond (leb (length w.order) pivot) (refused 15)
            (cond (eqb (get_or u.component pivot 0) j.component) (measurement limit a phase (get_or u.place pivot 0)) (refused 16)))) (local_same phase)

        steps_so : step limit w (Measurement width x z phase pivot) ≡ when_given answer (λ q. given (measurement_step w j pivot q))
        steps_so =
            measures limit w width x z phase pivot join.size (get_or u.component pivot 0) (get_or u.place pivot 0) wide active join_size
            (let e = join_size in let q = size_small in omega arith)
            (λ h. J.pivot_within w roll tr s at.rep few x z active narrow u to pivot h)
            (λ h e. J.pivot_at w roll tr s at.rep few x z active narrow u to pivot h e)
            ∙ ap (λ a. when_given a (λ q. given (measurement_step w j pivot q))) (sym tested_same)

        pub measurement_stops : (n : ℕ) → answer ≡ refused n → walk_from limit 0 (start k) (instructions_of ws) ≡ refused_at n i
        measurement_stops n e =
            stops limit k ws b ok i upto w s t c at next (Measurement width x z phase pivot) n is_now
            (steps_so ∙ ap (λ a. when_given a (λ q. given (measurement_step w j pivot q))) e)

        -- what an answer with a kernel has passed
        module _ (q : PrecomputedActivePauliMeasurementKernel) (e : answer ≡ given q) where
          passed : (pivot < length w.order) × (get_or u.component pivot 0 ≡ j.component)
              × (measurement limit (local_action x z phase w j) phase (get_or u.place pivot 0) ≡ given q)
          passed =
              let one = past_refusal (leb limit join.size) 14 _ q (sym tested_same ∙ e) in
              let two = past_refusal (leb (length w.order) pivot) 15 _ q one.1 in
              let three = at_answer (eqb (get_or u.component pivot 0) j.component) 16 _ q two.1 in
              (leb-false (length w.order) pivot two.0, eqb-true (get_or u.component pivot 0) j.component three.0, three.1)

          pivot_same : q.pivot ≡ get_or u.place pivot 0
          pivot_same = (measurement_keeps limit (local_action x z phase w j) phase (get_or u.place pivot 0) q passed.2).1

          once : NoRepeats w.order
          once = (tracked_here w roll tr).once

          pub removal_fits : BeforeRemoval u pivot
          removal_fits = before_removal u w.order j.components to once pivot passed.0 (omega arith)

          abbrev left : List ℕ
          left = remove_at q.pivot j.members

          held : members_of j.components j.component ≡ j.members
          held = target_members w roll tr x z active

          -- the state after the removal
          represents_left : (v : State) → Removed u pivot v → Represents v (remove_at pivot w.order) (set j.components j.component left)
          represents_left v d =
              let at_pivot = passed.1 in
              subst (λ (l : List ℕ). Represents v (remove_at pivot w.order) (set j.components j.component l))
              (ap₂ remove_at (sym pivot_same) held)
              (subst (λ (a : ℕ). Represents v (remove_at pivot w.order) (set j.components a (remove_at (get_or u.place pivot 0) (members_of j.components a)))) at_pivot
              (represents_removal u w.order j.components to once pivot passed.0 v d))

          inside_members : q.pivot < length j.members
          inside_members =
              let p = to.place pivot passed.0 in
              let f = ap (size_of j.components) passed.1 in
              let l = ap length held in
              let g = pivot_same in omega arith

          left_length : suc (length left) ≡ length j.members
          left_length = length_remove_at q.pivot j.members inside_members

          left_power : amplitudes left ≡ power_left join.size
          left_power = let l = left_length in let e = join_size in power_left_lem left join.size (omega arith)

          last_same : eqb join.size 1 ≡ eqb (length left) 0
          last_same =
              let l = left_length in
              let e = join_size in
              ⊎_elim
              (λ f. eq-eqb join.size 1 (omega arith) ∙ sym (eq-eqb (length left) 0 f))
              (λ f. ne_eqb join.size 1 (λ g. f (omega arith)) ∙ sym (ne_eqb (length left) 0 f))
              (same_or_not (length left) 0)

          live_left : t.live - join.freed + 2 ^ join.size - 2 ^ join.size + power_left join.size ≡ live_dimension (set j.components j.component left)
          live_left =
              let below : j.component < length j.components = let f = target_below w roll tr x z active in let l = join_length w roll tr x z active in omega arith in
              let size = ap length held in
              let filled = J.members_some w roll tr s at.rep few x z active narrow in
              let e = live_removal j.components j.component left below (omega arith) in
              let p = ap (λ (n : ℕ). 2 ^ n) (size ∙ sym join_size) in
              let f = live_joined in
              let g = left_power in
              let most : 2 ^ join.size ≤ live_dimension j.components = let h = J.live_is w roll tr s at.rep few x z active narrow in let r = join_freed in let m = at.sums.live in omega (arith, h.0) in omega arith

          peak_left : j.peak ≡ max j.peak (live_dimension (set j.components j.component left))
          peak_left =
              let e = live_left in
              let f = live_joined in
              let g = left_below join.size in
              let p = join_peak_is x z w in omega arith

          pub measurement_goes : (v : State) (t' : Tally) (c' : Buffers) → Removed u pivot v
              → MeasurementDone here join (progress_of t c.steps c.sizes c.measurements) (progress_of t' c'.steps c'.sizes c'.measurements) q
              → c'.merges ≡ patch t.merges j.sources c.merges → c'.promotions ≡ c.promotions → c'.rotations ≡ c.rotations
              → Reached limit k (instructions_of ws) (i + 1) (measurement_step w j pivot q) v t' c'
          unfolding measurement_step measured_tally joined_tally
          measurement_goes v t' c' removed d merges promotions rotations =
              let went = run_next limit k ws b ok i upto w s t c at next (Measurement width x z phase pivot) (measurement_step w j pivot q) is_now
              (steps_so ∙ ap (λ a. when_given a (λ p. given (measurement_step w j pivot p))) e) in
              let o = w.written in
              let row = measurement_row j.component (length o.merges) (length j.sources) q (eqb (length left) 0) in
              let row_same : measurement_row join.target t.merges join.count q (eqb join.size 1) ≡ row =
              ap₂ (λ (a m : ℕ). measurement_row a m join.count q (eqb join.size 1)) join_target at.sums.merges
              ∙ ap₂ (λ (n : ℕ) (f : Bool). measurement_row j.component (length o.merges) n q f) join_count last_same in
              let before = length_concat 19 o.measurements (measurements_wide limit k ws b ok i upto w s t c at) in
              let place : 19 * t.measurements ≡ length (concat o.measurements) = let m = at.sums.measurements in omega arith in
              let sums = d.sums in
              subst (λ (n : ℕ). Reached limit k (instructions_of ws) n (measurement_step w j pivot q) v t' c') (sym (add-one i)) (record {
                run = went.0;
                ahead = went.1;
                rep = represents_left v removed;
                sums = subst (λ (a : Tally). Tallied a (measurement_step w j pivot q)) (sym sums) (record {
                  dense = ap₂ (λ (a : Float) (n : ℕ). add binary64 a (mul binary64 float_two (exp2 n))) at.sums.dense at.rep.width;
                  work = ap₂ (λ (a : Float) (n : ℕ). add binary64 a (add binary64 (mul binary64 float_two (exp2 n)) (fin false 1 (pos 5)))) work_joined join_size;
                  whole_dense = ap (λ (n : ℕ). (t.whole_dense + 2 * 2 ^ n) % 2 ^ 64) at.rep.width ∙ kept_sum t.whole_dense w.whole.dense (2 * 2 ^ length w.order) at.sums.whole_dense;
                  whole_work = ap (λ (n : ℕ). ((t.whole_work + join.whole_cost) % 2 ^ 64 + (2 * 2 ^ n + 32)) % 2 ^ 64) join_size ∙ whole_joined (2 * 2 ^ length j.members + 32);
                  widest = let e = no_wider in let h = within in let l = length_remove_at pivot w.order passed.0 in omega arith;
                  live = live_left;
                  peak = peak_joined ∙ peak_left;
                  merges = merges_joined;
                  rotations = at.sums.rotations;
                  promotions = at.sums.promotions;
                  measurements = let l = length-append o.measurements (row ∷ []) in let m = at.sums.measurements in omega arith;
                  quantum = let m = at.sums.quantum in omega arith;
                });
                steps_begin = kept_steps 4 t.measurements (length o.measurements) c'.steps at.sums.measurements d.step;
                merges_begin = merges_after c'.merges merges;
                sizes_begin = sizes_after_is c'.sizes d.size;
                rotations_begin = subst (Begins (concat o.rotations)) (sym rotations) at.rotations_begin;
                promotions_begin = subst (Begins o.promotions) (sym promotions) at.promotions_begin;
                measurements_begin = subst (Begins (concat (o.measurements ++ (row ∷ []))))
                    (sym (d.row ∙ ap₂ (λ (n : ℕ) (l : List ℕ). patch n l c.measurements) place row_same))
                    (begins_row o.measurements row c.measurements (length (concat o.measurements)) at.measurements_begin refl);
              })

  -- ---- records that join nothing

  pub step_room : 2 * i + 2 ≤ length c.steps
  step_room = let e = room.steps in omega arith

  pub quantum_room : t.quantum + 1 < 2 ^ 64
  quantum_room = let e = at.sums.quantum in let q = quantum in let m = small in omega arith

  -- the buffers but for the steps are as they were
  abbrev with_steps : List ℕ → Buffers
  with_steps steps' = record {
    steps = steps';
    merges = c.merges;
    sizes = c.sizes;
    rotations = c.rotations;
    promotions = c.promotions;
    measurements = c.measurements;
    groups = c.groups;
  }

  pub plain_goes : (steps' : List ℕ) → step limit w now ≡ given (no_step w) → steps' ≡ patch (2 * i) (0 ∷ 0 ∷ []) c.steps
      → Reached limit k (instructions_of ws) (i + 1) (no_step w) s t (with_steps steps')
  unfolding no_step
  plain_goes steps' f e =
      let went = run_next limit k ws b ok i upto w s t c at next now (no_step w) refl f in
      subst (λ (n : ℕ). Reached limit k (instructions_of ws) n (no_step w) s t (with_steps steps')) (sym (add-one i)) (record {
        run = went.0;
        ahead = went.1;
        rep = at.rep;
        sums = record {
          dense = at.sums.dense;
          work = at.sums.work;
          whole_dense = at.sums.whole_dense ∙ ap (λ (n : ℕ). n % 2 ^ 64) (sym (add-zero w.whole.dense));
          whole_work = at.sums.whole_work ∙ ap (λ (n : ℕ). n % 2 ^ 64) (sym (add-zero w.whole.component));
          widest = no_wider;
          live = at.sums.live;
          peak = at.sums.peak;
          merges = at.sums.merges;
          rotations = at.sums.rotations;
          promotions = at.sums.promotions;
          measurements = at.sums.measurements;
          quantum = at.sums.quantum;
        };
        steps_begin = kept_steps 0 0 0 steps' refl e;
        merges_begin = at.merges_begin;
        sizes_begin = at.sizes_begin;
        rotations_begin = at.rotations_begin;
        promotions_begin = at.promotions_begin;
        measurements_begin = at.measurements_begin;
      })

  pub ignored_goes : (width x z phase : ℕ) (angle sine cosine : Float) (steps' : List ℕ) → now ≡ Rotation width x z phase angle sine cosine → width ≡ length w.order
      → length w.order ≡ 0 → steps' ≡ patch (2 * i) (1 ∷ 0 ∷ []) c.steps
      → Reached limit k (instructions_of ws) (i + 1) (ignored_step w) s (ignored_tally t) (with_steps steps')
  unfolding ignored_step ignored_tally
  ignored_goes width x z phase angle sine cosine steps' is_now wide none_active e =
      let went = run_next limit k ws b ok i upto w s t c at next (Rotation width x z phase angle sine cosine) (ignored_step w) is_now
      (ignores limit w width x z phase angle sine cosine wide none_active) in
      subst (λ (n : ℕ). Reached limit k (instructions_of ws) n (ignored_step w) s (ignored_tally t) (with_steps steps')) (sym (add-one i)) (record {
        run = went.0;
        ahead = went.1;
        rep = at.rep;
        sums = record {
          dense = ap (λ (a : Float). add binary64 a (exp2 0)) at.sums.dense;
          work = at.sums.work;
          whole_dense = kept_sum t.whole_dense w.whole.dense 1 at.sums.whole_dense;
          whole_work = at.sums.whole_work ∙ ap (λ (n : ℕ). n % 2 ^ 64) (sym (add-zero w.whole.component));
          widest = no_wider;
          live = at.sums.live;
          peak = at.sums.peak;
          merges = at.sums.merges;
          rotations = at.sums.rotations;
          promotions = at.sums.promotions;
          measurements = at.sums.measurements;
          quantum = let m = at.sums.quantum in omega arith;
        };
        steps_begin = kept_steps 1 0 0 steps' refl e;
        merges_begin = at.merges_begin;
        sizes_begin = at.sizes_begin;
        rotations_begin = at.rotations_begin;
        promotions_begin = at.promotions_begin;
        measurements_begin = at.measurements_begin;
      })

  -- ---- a promotion

  module _ (is_now : now ≡ Promotion) where
    fewer : length w.components < 512
    fewer = made_next limit k ws b ok i upto w s t c at next is_now

    active_fewer : length w.order < 512
    active_fewer = let f = fewer in let q = (kept limit k ws b ok i upto w s t c at).active in omega arith

    pub state_room : BeforePromotion s
    state_room = record {
      width = let e = at.rep.width in let f = active_fewer in omega arith;
      count = let e = at.rep.count in let f = fewer in omega arith;
    }

    pub promotion_fits : PromotionFits s.count here (progress_of t c.steps c.sizes c.promotions)
    promotion_fits = record {
      narrow = let e = at.rep.width in let f = active_fewer in omega arith;
      live = let e = at.sums.live in let l = live in omega arith;
      quantum = quantum_room;
      row_room = let e = room.promotions in let r = rows in let m = at.sums.promotions in omega arith;
      step_room = step_room;
      size_room = let e = at.rep.count in let f = fewer in let r = room.sizes in omega arith;
    }

    pub promotion_goes : (t' : Tally) (c' : Buffers)
        → PromotionDone s.count here (progress_of t c.steps c.sizes c.promotions) (progress_of t' c'.steps c'.sizes c'.promotions)
        → c'.merges ≡ c.merges → c'.rotations ≡ c.rotations → c'.measurements ≡ c.measurements
        → Reached limit k (instructions_of ws) (i + 1) (promotion_step w) (promoted s) t' c'
    unfolding promotion_step promoted_tally step
    promotion_goes t' c' d merges rotations measurements =
        let went = run_next limit k ws b ok i upto w s t c at next Promotion (promotion_step w) is_now refl in
        let o = w.written in
        let new = length w.components in
        let count = at.rep.count in
        let l = tr.longest_same in
        let sums = d.sums in
        subst (λ (n : ℕ). Reached limit k (instructions_of ws) n (promotion_step w) (promoted s) t' c') (sym (add-one i)) (record {
          run = went.0;
          ahead = went.1;
          rep = represents_promotion s w.order w.components at.rep active_fewer fewer;
          sums = subst (λ (a : Tally). Tallied a (promotion_step w)) (sym sums) (record {
            dense = ap₂ (λ (a : Float) (n : ℕ). add binary64 a (mul binary64 float_two (exp2 n))) at.sums.dense at.rep.width;
            work = ap (λ (a : Float). add binary64 a (fin false 17 (pos 1))) at.sums.work;
            whole_dense = ap (λ (n : ℕ). (t.whole_dense + 2 * 2 ^ n) % 2 ^ 64) at.rep.width ∙ kept_sum t.whole_dense w.whole.dense (2 * 2 ^ length w.order) at.sums.whole_dense;
            whole_work = kept_sum t.whole_work w.whole.component 34 at.sums.whole_work;
            widest = let e = at.rep.width in let m = at.sums.widest in let f = length-append w.order (new ∷ []) in omega arith;
            live = let e = live_promotion w.components new in let m = at.sums.live in omega arith;
            peak = let e = live_promotion w.components new in let m = at.sums.live in ap₂ max at.sums.peak (omega arith);
            merges = at.sums.merges;
            rotations = at.sums.rotations;
            promotions = let e = length-append o.promotions (new ∷ []) in let m = at.sums.promotions in omega arith;
            measurements = at.sums.measurements;
            quantum = let m = at.sums.quantum in omega arith;
          });
          steps_begin = kept_steps 3 t.promotions (length o.promotions) c'.steps at.sums.promotions d.step;
          merges_begin = subst (Begins o.merges) (sym merges) at.merges_begin;
          sizes_begin = subst (Begins (w.longest ++ (1 ∷ []))) (sym d.size)
              (begins_more w.longest c.sizes s.count 1 at.sizes_begin (l ∙ sym count) promotion_fits.size_room);
          rotations_begin = subst (Begins (concat o.rotations)) (sym rotations) at.rotations_begin;
          promotions_begin = subst (Begins (o.promotions ++ (new ∷ []))) (sym (d.row ∙ ap (set c.promotions t.promotions) count))
              (begins_more o.promotions c.promotions t.promotions new at.promotions_begin (sym at.sums.promotions) promotion_fits.row_room);
          measurements_begin = subst (Begins (concat o.measurements)) (sym measurements) at.measurements_begin;
        })

  -- ---- before the join

  pub open_fits : WhereJoined s.width (λ x z. GatherFits s.component s.size s.width t.merges (length c.merges) x z) now
  open_fits = go now (width_next limit k ws b ok i upto w s t c at next)
    where
      fits : (width x z : ℕ) → width ≤ 62 → width ≡ s.width → 0 < s.width → GatherFits s.component s.size s.width t.merges (length c.merges) x z
      fits width x z narrow e active = let l = at.rep.width in gather_fits x z (omega arith) (omega arith)

      go : (x : Instruction) → width_of x ≤ 62 → WhereJoined s.width (λ x z. GatherFits s.component s.size s.width t.merges (length c.merges) x z) x
      go (Rotation width x z phase angle sine cosine) h = λ e active. fits width x z h e active
      go (Measurement width x z phase pivot) h = λ e active. fits width x z h e active
      go Promotion h = tt
      go RecordMeasurement h = tt
      go RecordDetector h = tt
      go Expectation h = tt
      go DormantBranch h = tt

  -- refusals 11 to 13
  pub open_stops : (n : ℕ) → n ≡ number_before s.width now → (n ≡ 0 → ⊥) → walk_from limit 0 (start k) (instructions_of ws) ≡ refused_at n i
  open_stops n e some =
      let same : number_before (length w.order) now ≡ n = ap (λ (d : ℕ). number_before d now) (sym at.rep.width) ∙ sym e in
      stops limit k ws b ok i upto w s t c at next now n refl (refused_before limit w now (λ f. some (sym same ∙ f)) ∙ ap refused same)

  -- the sources of a record that joins
  abbrev sources_now : Instruction → List ℕ
  sources_now x = sources_before s.width (sources_at s.component s.size s.width) x

  joins_now : (width x z : ℕ) → width ≡ length w.order → (active : 0 < length w.order) (narrow : length w.order ≤ 62)
      → cond (eqb width s.width) (cond (eqb s.width 0) [] (sources_at s.component s.size s.width x z)) [] ≡ (join_of x z w).sources
  joins_now width x z e active narrow =
      let l = at.rep.width in
      cond_yes (eqb width s.width) _ _ (eq-eqb width s.width (omega arith))
      ∙ cond_no (eqb s.width 0) _ _ (ne_eqb s.width 0 (λ f. omega arith))
      ∙ sources_written x z active narrow

  pub rotation_sources : (width x z phase : ℕ) (angle sine cosine : Float) → width ≡ length w.order → (active : 0 < length w.order) (narrow : length w.order ≤ 62)
      → sources_now (Rotation width x z phase angle sine cosine) ≡ (join_of x z w).sources
  unfolding sources_before
  rotation_sources width x z phase angle sine cosine e active narrow = joins_now width x z e active narrow

  pub measurement_sources : (width x z phase pivot : ℕ) → width ≡ length w.order → (active : 0 < length w.order) (narrow : length w.order ≤ 62)
      → sources_now (Measurement width x z phase pivot) ≡ (join_of x z w).sources
  unfolding sources_before
  measurement_sources width x z phase pivot e active narrow = joins_now width x z e active narrow

  -- where there is more than one source, the state can be joined
  pub joins_before : (ss : List ℕ) → ss ≡ sources_now now → 1 < length ss → BeforeJoin s ss
  unfolding sources_before
  joins_before ss e more = subst (BeforeJoin s) (sym e) (go now (width_next limit k ws b ok i upto w s t c at next) (let l = ap length e in omega arith))
    where
      of_masks : (width x z : ℕ) → width ≤ 62 → (t u : Bool) → eqb width s.width ≡ t → eqb s.width 0 ≡ u
          → 1 < length (cond t (cond u [] (sources_at s.component s.size s.width x z)) [])
          → BeforeJoin s (cond t (cond u [] (sources_at s.component s.size s.width x z)) [])
      of_masks width x z narrow true true e f h = absurd (omega arith)
      of_masks width x z narrow true false e f h =
          let l = at.rep.width in
          let a = eqb-true width s.width e in
          let z' = eqb-false s.width 0 f in
          let active : 0 < length w.order = omega (arith, z') in
          let small' : length w.order ≤ 62 = omega arith in
          subst (BeforeJoin s) (sym (sources_written x z active small')) (joins_fit x z active small')
      of_masks width x z narrow false u e f h = absurd (omega arith)

      go : (x : Instruction) → width_of x ≤ 62 → 1 < length (sources_now x) → BeforeJoin s (sources_now x)
      go (Rotation width x z phase angle sine cosine) n h = of_masks width x z n (eqb width s.width) (eqb s.width 0) refl refl h
      go (Measurement width x z phase pivot) n h = of_masks width x z n (eqb width s.width) (eqb s.width 0) refl refl h
      go Promotion n h = absurd (omega arith)
      go RecordMeasurement n h = absurd (omega arith)
      go RecordDetector n h = absurd (omega arith)
      go Expectation n h = absurd (omega arith)
      go DormantBranch n h = absurd (omega arith)
