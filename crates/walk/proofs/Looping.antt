-- What each place of one record's step asks and gives, and what the ends of the loop do, where the walk
-- stands after as many records: by the lemmas on the definition's step.
use Rattle.std.specs.Prelude.{Option, Some, None, Ok}
use mathlib.Core.Path.{◌≡◌, refl, sym, ap, ap₂, ◌∙◌, subst}
use mathlib.Core.Logic.{⊎_elim}
use mathlib.Core.List.{List, [], ◌∷◌, ◌++◌}
use Prim.Native.Nat.{ℕ, ◌+◌, ◌*◌, ◌/◌, ◌^◌, ◌≤◌, ◌<◌}
use native.Mathlib.Omega.{arith}
use lib.Ieee.{Float}
use lib.ListN.{length, get_or, set, take, drop, replicate}
use Rattle.words.specs.Lists.{patch, Begins}
use Rattle.words.proofs.Patches.{begins_length}
use Rattle.words.proofs.Numbers.{same_or_not}
use Rattle.words.proofs.Patches.{patch_none}
use Rattle.refusals.specs.Answer.{Answer, given, refused, refused_at}
use Rattle.kernels.specs.declared.active.PrecomputedActivePauliRotationKernel.{PrecomputedActivePauliRotationKernel}
use Rattle.kernels.specs.declared.active.PrecomputedActivePauliMeasurementKernel.{PrecomputedActivePauliMeasurementKernel}
use Rattle.records.specs.Record.{record_at, instruction_of, instructions_of}
use Rattle.records.proofs.Laws.{instruction_at}
use Rattle.records.specs.declared.Instruction.{Instruction}
use Rattle.records.specs.declared.Instruction.TheVariants.{Rotation, Promotion, RecordMeasurement, RecordDetector, Measurement, Expectation, DormantBranch}
use Rattle.plan_spec.specs.Lists.{concat}
use Rattle.plan_spec.specs.Walk.{Walk, join_of, no_step, ignored_step, promotion_step, rotation_step, measurement_step, step, start, walk_from}
use Rattle.plan_spec.proofs.Room.{width_of}
use Rattle.state.specs.declared.State.{State}
use Rattle.work_sums.specs.declared.Tally.{Tally}
use Rattle.work_sums.specs.declared.Joining.{Joining}
use Rattle.state.specs.Steps.{InOrder, Closed, Started, Joined, BeforePromotion, promoted, BeforeRemoval, Removed}
use Rattle.work_sums.specs.Tally.{start_tally, joining_of, ignored_tally}
use Rattle.plan_buffers.specs.Buffers.{counts_of, CountsFit, placed_up_to, PlacesFit}
use Rattle.state_model.specs.Represents.{Ordered, Represents}
use Rattle.state_model.proofs.Moving.{ordered_start, ordered_promotion, ordered_removal}
use Rattle.plan_buffers.specs.SevenBuffers.{Buffers, lengths_of, SameLengths}
use Rattle.walk.specs.Walking.{WalkEnds, Walkable}
use Rattle.walk.specs.Looping.{Reached, Looping, Joins, JoinMade, sources_of, Met}
use Rattle.record_steps.specs.RecordSteps.{sources_at, GatherFits, number_before, sources_before, WhereJoined, join_before, progress_of, JoinedFits, rotation_answer, RotationDone, measurement_answer, MeasurementDone, PromotionFits, PromotionDone}
use Rattle.record_steps.specs.declared.AtRecord.{AtRecord}
use Rattle.walk.proofs.Reaching.{width_next}
use Rattle.walk.proofs.Joining as J
use Rattle.walk.proofs.Stepping.{rotation_width, measurement_width}
use Rattle.walk.proofs.OneRecord as R
use Rattle.walk.proofs.OneRecord.{pauli_of, angle_of, at_record}
use Rattle.walk.proofs.Ending as E
use Rattle.walk.proofs.Ending.{reached_start}
use Rattle.walk.proofs.Making.{some_join, no_join}
use Rattle.record_steps.proofs.Openings.{rotation_empty}

-- a state and buffers that are the same stand for the same walk
reached_same : {limit k : ℕ} {is : List Instruction} {m : ℕ} {w : Walk} {s u : State} {t : Tally} {c c' : Buffers} → Reached limit k is m w s t c → u ≡ s
    → c'.steps ≡ c.steps → c'.merges ≡ c.merges → c'.sizes ≡ c.sizes → c'.rotations ≡ c.rotations → c'.promotions ≡ c.promotions
    → c'.measurements ≡ c.measurements → Reached limit k is m w u t c'
reached_same {w = w} at e steps merges sizes rotations promotions measurements = record {
  run = at.run;
  ahead = at.ahead;
  rep = subst (λ (v : State). Represents v w.order w.components) (sym e) at.rep;
  sums = at.sums;
  steps_begin = subst (Begins w.written.steps) (sym steps) at.steps_begin;
  merges_begin = subst (Begins w.written.merges) (sym merges) at.merges_begin;
  sizes_begin = subst (Begins w.longest) (sym sizes) at.sizes_begin;
  rotations_begin = subst (Begins (concat w.written.rotations)) (sym rotations) at.rotations_begin;
  promotions_begin = subst (Begins w.written.promotions) (sym promotions) at.promotions_begin;
  measurements_begin = subst (Begins (concat w.written.measurements)) (sym measurements) at.measurements_begin;
}

no_words : (xs : List ℕ) → length xs ≡ 0 → xs ≡ []
no_words [] e = refl
no_words (x ∷ xs) e = absurd (omega arith)

-- the kinds that do nothing: neither a rotation nor a promotion nor a measurement
pub does_nothing : (limit : ℕ) (w : Walk) (width : ℕ) (f : ℕ → ℕ → List ℕ) (x : Instruction)
    → ((a b c d : ℕ) (e g h : Float) → x ≡ Rotation a b c d e g h → ⊥) → (x ≡ Promotion → ⊥) → ((a b c d e : ℕ) → x ≡ Measurement a b c d e → ⊥)
    → (step limit w x ≡ given (no_step w)) × (length (sources_before width f x) ≡ 0)
unfolding step sources_before
does_nothing limit w width f (Rotation a b c d e g h) r p m = absurd (r a b c d e g h refl)
does_nothing limit w width f Promotion r p m = absurd (p refl)
does_nothing limit w width f (Measurement a b c d e) r p m = absurd (m a b c d e refl)
does_nothing limit w width f RecordMeasurement r p m = (refl, refl)
does_nothing limit w width f RecordDetector r p m = (refl, refl)
does_nothing limit w width f Expectation r p m = (refl, refl)
does_nothing limit w width f DormantBranch r p m = (refl, refl)

-- ---- one record

module _ {limit k : ℕ} {ws : List ℕ} {i : ℕ} {o : List ℕ} {s : State} {t : Tally} {c : Buffers} (lo : Looping limit k ws i o s t c) (next : i < length ws / 8) {x : Instruction}
    (read : x ≡ instruction_of (record_at ws i)) where
  now : get_or (instructions_of ws) i DormantBranch ≡ x
  now = instruction_at ws i DormantBranch next ∙ sym read

  abbrev here : AtRecord
  here = at_record limit i s.width

  abbrev sources : List ℕ
  sources = sources_of s x

  wide : s.width ≡ length lo.w.order
  wide = lo.at.rep.width

  pub opening : WhereJoined s.width (λ a z. GatherFits s.component s.size s.width t.merges (length c.merges) a z) x
  opening =
      subst (WhereJoined s.width (λ a z. GatherFits s.component s.size s.width t.merges (length c.merges) a z)) now
      (R.open_fits limit k ws lo.b lo.ok i next lo.w s t c lo.at lo.long)

  pub opening_stops : (number : ℕ) → number ≡ number_before s.width x → (number ≡ 0 → ⊥) → walk_from limit 0 (start k) (instructions_of ws) ≡ refused_at number i
  opening_stops number e f = R.open_stops limit k ws lo.b lo.ok i next lo.w s t c lo.at lo.long number (e ∙ ap (number_before s.width) (sym now)) f

  -- the width of the record
  narrow : width_of x ≤ 62
  narrow = subst (λ (y : Instruction). width_of y ≤ 62) now (width_next limit k ws lo.b lo.ok i lo.upto lo.w s t c lo.at next)

  -- the sources stand in the merge list
  merges_inside : t.merges ≤ length c.merges
  merges_inside =
      let e = lo.at.sums.merges in
      let f = begins_length lo.w.written.merges c.merges lo.at.merges_begin in omega arith

  -- what the join asks
  pub join_asks : Joins s x t.merges (length c.merges)
  join_asks = record {
    gathered = opening;
    inside = merges_inside;
    joined = λ h. R.joins_before limit k ws lo.b lo.ok i next lo.w s t c lo.at lo.long sources (ap (sources_of s) (sym now)) h;
  }

  -- room for one more quantum instruction
  pub quantum_room : t.quantum + 1 < 2 ^ 64
  quantum_room = R.quantum_room limit k ws lo.b lo.ok i next lo.w s t c lo.at lo.long

  -- behind the join
  module _ {made : Option Joining} {u : State} {merges' : List ℕ} (jm : JoinMade s u x t.merges (Ok made) c.merges merges') where
    met_so : Met s sources u
    met_so = jm.met

    -- where nothing is joined, the state and the merge list are as they were
    unjoined : length sources ≡ 0 → u ≡ s
    unjoined e = ⊎_elim (λ d. absurd (let h = d.0 in omega arith)) (λ d. d.0) met_so

    unmerged : length sources ≡ 0 → merges' ≡ c.merges
    unmerged e = jm.opened.written ∙ ap (λ (l : List ℕ). patch t.merges l c.merges) (no_words sources e) ∙ patch_none t.merges c.merges

    -- one record more
    on : {o' : List ℕ} {u : State} {t' : Tally} {c' : Buffers} (v : Walk) → Reached limit k (instructions_of ws) (i + 1) v u t' c' → SameLengths c c' → Ordered o' v.order
        → Looping limit k ws (i + 1) o' u t' c'
    on v at long ordered = record { b = lo.b; ok = lo.ok; upto = omega arith; long = long ∙ lo.long; w = v; at = at; ordered = ordered }

    -- ---- a record that joins

    module _ (a z : ℕ) (active : 0 < length lo.w.order) (small : length lo.w.order ≤ 62) (same : sources ≡ (join_of a z lo.w).sources) where
      met : Represents u lo.w.order (join_of a z lo.w).components
      met =
          let tr = R.tr limit k ws lo.b lo.ok i next lo.w s t c lo.at lo.long in
          let few = R.few limit k ws lo.b lo.ok i next lo.w s t c lo.at lo.long in
          ⊎_elim
          (λ d. J.represents lo.w _ tr s lo.at.rep few a z active small u (subst (λ (l : List ℕ). Joined s l u) same d.1))
          (λ d. subst (λ (v : State). Represents v lo.w.order (join_of a z lo.w).components) (sym d.0)
          (J.represents_same lo.w _ tr s lo.at.rep few a z active small (let l = ap length same in let h = d.1 in omega arith)))
          met_so

      join_is : (jn : Joining) → Some jn ≡ join_before s.size sources → jn ≡ joining_of s.size (join_of a z lo.w).sources
      join_is jn e = (some_join s.size sources jn e).0 ∙ ap (joining_of s.size) same

      asks : (phase : ℕ) (jn : Joining) → Some jn ≡ join_before s.size sources → JoinedFits u.place (pauli_of a z phase) here jn t c.steps c.sizes
      asks phase jn e =
          subst (λ (q : Joining). JoinedFits u.place (pauli_of a z phase) here q t c.steps c.sizes) (sym (join_is jn e))
          (R.joined_fits limit k ws lo.b lo.ok i next lo.w s t c lo.at lo.long a z active small u met phase)

    -- ---- rotations

    module _ {width a z phase : ℕ} {angle sine cosine : Float} (told : x ≡ Rotation width a z phase angle sine cosine) where
      rotation_now : get_or (instructions_of ws) i DormantBranch ≡ Rotation width a z phase angle sine cosine
      rotation_now = now ∙ told

      rotation_wide : width ≡ length lo.w.order
      rotation_wide =
          rotation_width limit lo.w width a z phase angle sine cosine (ap (λ (d : ℕ). number_before d (Rotation width a z phase angle sine cosine)) (sym wide) ∙ ap (number_before s.width) (sym told) ∙ sym jm.opened.number)

      rotation_small : length lo.w.order ≤ 62
      rotation_small = let e = ap width_of told in let f = narrow in let g = rotation_wide in omega arith

      -- no sources: no coordinate is active
      pub rotation_none : length sources ≡ 0 → length lo.w.order ≡ 0
      rotation_none e =
          ⊎_elim
          (λ f. f)
          (λ f. absurd (let g = rotation_joins (omega arith) in let l = ap length g in
          let h = J.some lo.w _ (R.tr limit k ws lo.b lo.ok i next lo.w s t c lo.at lo.long) s lo.at.rep (R.few limit k ws lo.b lo.ok i next lo.w s t c lo.at lo.long) a z (omega arith) rotation_small in
          omega arith))
          (same_or_not (length lo.w.order) 0)
        where
          rotation_joins : 0 < length lo.w.order → sources ≡ (join_of a z lo.w).sources
          rotation_joins active =
              ap (sources_before s.width (sources_at s.component s.size s.width)) told
              ∙ R.rotation_sources limit k ws lo.b lo.ok i next lo.w s t c lo.at lo.long width a z phase angle sine cosine rotation_wide active rotation_small

      pub ignored_goes : made ≡ None → (t' : Tally) (c' : Buffers) → t' ≡ ignored_tally t → c'.steps ≡ patch (2 * i) (1 ∷ 0 ∷ []) c.steps
          → c'.merges ≡ merges' → c'.sizes ≡ c.sizes → c'.rotations ≡ c.rotations → c'.promotions ≡ c.promotions
          → c'.measurements ≡ c.measurements → SameLengths c c' → Looping limit k ws (i + 1) o u t' c'
      unfolding ignored_step
      ignored_goes none t' c' sums steps merges sizes rotations promotions measurements long =
          let none_there = no_join s.size sources (sym none ∙ jm.opened.join) in
          on (ignored_step lo.w)
          (subst (λ (a : Tally). Reached limit k (instructions_of ws) (i + 1) (ignored_step lo.w) u a c') (sym sums)
          (reached_same
          (R.ignored_goes limit k ws lo.b lo.ok i next lo.w s t c lo.at lo.long width a z phase angle sine cosine c'.steps rotation_now rotation_wide (rotation_none none_there) steps)
          (unjoined none_there) refl (merges ∙ unmerged none_there) sizes rotations promotions measurements))
          long lo.ordered

      module _ {jn : Joining} (join : made ≡ Some jn) where
        made_so : Some jn ≡ join_before s.size sources
        made_so = sym join ∙ jm.opened.join

        rotation_active : 0 < length lo.w.order
        rotation_active =
            ⊎_elim
            (λ f. absurd (let h = (some_join s.size sources jn made_so).1 in let l = ap length (ap (sources_before s.width (sources_at s.component s.size s.width)) told ∙ unreached f) in omega arith))
            (λ f. omega arith)
            (same_or_not (length lo.w.order) 0)
          where
            unreached : length lo.w.order ≡ 0 → sources_before s.width (sources_at s.component s.size s.width) (Rotation width a z phase angle sine cosine) ≡ []
            unreached f = (rotation_empty s.width (sources_at s.component s.size s.width) refl (rotation_wide ∙ sym wide) (wide ∙ f)).1

        rotation_joined : sources ≡ (join_of a z lo.w).sources
        rotation_joined =
            ap (sources_before s.width (sources_at s.component s.size s.width)) told
            ∙ R.rotation_sources limit k ws lo.b lo.ok i next lo.w s t c lo.at lo.long width a z phase angle sine cosine rotation_wide rotation_active rotation_small

        pub rotate_asks : JoinedFits u.place (pauli_of a z phase) here jn t c.steps c.sizes
        rotate_asks = asks a z rotation_active rotation_small rotation_joined phase jn made_so

        stands : Represents u lo.w.order (join_of a z lo.w).components
        stands = met a z rotation_active rotation_small rotation_joined

        pub rotate_room : 21 * t.rotations + 21 ≤ length c.rotations
        rotate_room = R.rotation_room limit k ws lo.b lo.ok i next lo.w s t c lo.at lo.long a z rotation_active rotation_small u stands

        abbrev rotated : Answer PrecomputedActivePauliRotationKernel
        rotated = rotation_answer u.place (pauli_of a z phase) (angle_of angle sine cosine) here jn.size

        answer_same : rotated ≡ rotation_answer u.place (pauli_of a z phase) (angle_of angle sine cosine) here (joining_of s.size (join_of a z lo.w).sources).size
        answer_same = ap (λ (q : Joining). rotation_answer u.place (pauli_of a z phase) (angle_of angle sine cosine) here q.size) (join_is a z rotation_active rotation_small rotation_joined jn made_so)

        pub rotate_stops : (n : ℕ) → rotated ≡ refused n → walk_from limit 0 (start k) (instructions_of ws) ≡ refused_at n i
        rotate_stops n e =
            R.rotation_stops limit k ws lo.b lo.ok i next lo.w s t c lo.at lo.long a z rotation_active rotation_small u stands width phase angle sine cosine rotation_now rotation_wide n
            (sym answer_same ∙ e)

        pub rotate_goes : (q : PrecomputedActivePauliRotationKernel) (t' : Tally) (c' : Buffers) → rotated ≡ given q
            → RotationDone here jn (progress_of t c.steps c.sizes c.rotations) (progress_of t' c'.steps c'.sizes c'.rotations) q
            → c'.merges ≡ merges' → c'.promotions ≡ c.promotions → c'.measurements ≡ c.measurements → SameLengths c c'
            → Looping limit k ws (i + 1) o u t' c'
        unfolding rotation_step
        rotate_goes q t' c' e done merges promotions measurements long =
            on (rotation_step lo.w (join_of a z lo.w) q)
            (R.rotation_goes limit k ws lo.b lo.ok i next lo.w s t c lo.at lo.long a z rotation_active rotation_small u stands width phase angle sine cosine rotation_now rotation_wide q t' c'
            (sym answer_same ∙ e)
            (subst (λ (j : Joining). RotationDone here j (progress_of t c.steps c.sizes c.rotations) (progress_of t' c'.steps c'.sizes c'.rotations) q) (join_is a z rotation_active rotation_small rotation_joined jn made_so) done)
            (merges ∙ jm.opened.written ∙ ap (λ (l : List ℕ). patch t.merges l c.merges) rotation_joined) promotions measurements)
            long lo.ordered

    -- ---- measurements

    module _ {width a z phase pivot : ℕ} (told : x ≡ Measurement width a z phase pivot) where
      measurement_now : get_or (instructions_of ws) i DormantBranch ≡ Measurement width a z phase pivot
      measurement_now = now ∙ told

      passed : (width ≡ length lo.w.order) × (0 < length lo.w.order)
      passed =
          measurement_width limit lo.w width a z phase pivot
          (ap (λ (d : ℕ). number_before d (Measurement width a z phase pivot)) (sym wide) ∙ ap (number_before s.width) (sym told) ∙ sym jm.opened.number)

      measurement_small : length lo.w.order ≤ 62
      measurement_small = let e = ap width_of told in let f = narrow in let g = passed.0 in omega arith

      measurement_joined : sources ≡ (join_of a z lo.w).sources
      measurement_joined =
          ap (sources_before s.width (sources_at s.component s.size s.width)) told
          ∙ R.measurement_sources limit k ws lo.b lo.ok i next lo.w s t c lo.at lo.long width a z phase pivot passed.0 passed.1 measurement_small

      -- it joins something
      pub measurement_joins : made ≡ None → ⊥
      measurement_joins none =
          let l = ap length measurement_joined in
          let n = no_join s.size sources (sym none ∙ jm.opened.join) in
          let h = J.some lo.w _ (R.tr limit k ws lo.b lo.ok i next lo.w s t c lo.at lo.long) s lo.at.rep (R.few limit k ws lo.b lo.ok i next lo.w s t c lo.at lo.long) a z passed.1 measurement_small in
          omega arith

      -- the order's last position, once the pivot has left
      pub gap_fits : (v : State) → Removed u pivot v → BeforeRemoval u pivot → (pivot ≤ v.width) × (v.width < 512) × (length o ≡ 512)
      gap_fits v removed before =
          let e = removed.width in
          let f = before.active in
          let g = before.narrow in
          (omega arith, omega arith, lo.ordered.long)

      module _ {jn : Joining} (join : made ≡ Some jn) where
        opened_so : Some jn ≡ join_before s.size sources
        opened_so = sym join ∙ jm.opened.join

        pub measure_asks : JoinedFits u.place (pauli_of a z phase) here jn t c.steps c.sizes
        measure_asks = asks a z passed.1 measurement_small measurement_joined phase jn opened_so

        stands_so : Represents u lo.w.order (join_of a z lo.w).components
        stands_so = met a z passed.1 measurement_small measurement_joined

        pub measure_room : 19 * t.measurements + 19 ≤ length c.measurements
        measure_room = R.measurement_room limit k ws lo.b lo.ok i next lo.w s t c lo.at lo.long a z passed.1 measurement_small u stands_so

        abbrev found : Answer PrecomputedActivePauliMeasurementKernel
        found = measurement_answer u.component u.place (pauli_of a z phase) pivot here jn

        found_same : found ≡ measurement_answer u.component u.place (pauli_of a z phase) pivot here (joining_of s.size (join_of a z lo.w).sources)
        found_same = ap (measurement_answer u.component u.place (pauli_of a z phase) pivot here) (join_is a z passed.1 measurement_small measurement_joined jn opened_so)

        pub measure_stops : (n : ℕ) → found ≡ refused n → walk_from limit 0 (start k) (instructions_of ws) ≡ refused_at n i
        measure_stops n e =
            R.measurement_stops limit k ws lo.b lo.ok i next lo.w s t c lo.at lo.long a z passed.1 measurement_small u stands_so width phase pivot measurement_now passed.0 n
            (sym found_same ∙ e)

        pub remove_asks : (q : PrecomputedActivePauliMeasurementKernel) → found ≡ given q → BeforeRemoval u pivot
        remove_asks q e =
            R.removal_fits limit k ws lo.b lo.ok i next lo.w s t c lo.at lo.long a z passed.1 measurement_small u stands_so width phase pivot measurement_now passed.0 q
            (sym found_same ∙ e)

        pub measure_goes : (q : PrecomputedActivePauliMeasurementKernel) (t' : Tally) (c' : Buffers) (v : State) (o' : List ℕ) → found ≡ given q
            → MeasurementDone here jn (progress_of t c.steps c.sizes c.measurements) (progress_of t' c'.steps c'.sizes c'.measurements) q
            → Removed u pivot v → Closed pivot v.width o o'
            → c'.merges ≡ merges' → c'.promotions ≡ c.promotions → c'.rotations ≡ c.rotations → SameLengths c c'
            → Looping limit k ws (i + 1) o' v t' c'
        unfolding measurement_step
        measure_goes q t' c' v o' e done removed closed merges promotions rotations long =
            on (measurement_step lo.w (join_of a z lo.w) pivot q)
            (R.measurement_goes limit k ws lo.b lo.ok i next lo.w s t c lo.at lo.long a z passed.1 measurement_small u stands_so width phase pivot measurement_now passed.0 q
            (sym found_same ∙ e) v t' c' removed
            (subst (λ (j : Joining). MeasurementDone here j (progress_of t c.steps c.sizes c.measurements) (progress_of t' c'.steps c'.sizes c'.measurements) q) (join_is a z passed.1 measurement_small measurement_joined jn opened_so) done)
            (merges ∙ jm.opened.written ∙ ap (λ (l : List ℕ). patch t.merges l c.merges) measurement_joined) promotions rotations)
            long
            (let w = stands_so.width in let active = (remove_asks q e).active in let fewer = removed.width in
            ordered_removal o o' lo.w.order lo.ordered pivot v.width (omega arith) (omega arith) closed)

    -- ---- promotions

    module _ (told : x ≡ Promotion) where
      promotion_now : get_or (instructions_of ws) i DormantBranch ≡ Promotion
      promotion_now = now ∙ told

      no-sources : length sources ≡ 0
      unfolding sources_before
      no-sources = ap (λ (y : Instruction). length (sources_before s.width (sources_at s.component s.size s.width) y)) told

      same_state : u ≡ s
      same_state = unjoined no-sources

      pub promote_asks : PromotionFits u.count here (progress_of t c.steps c.sizes c.promotions)
      promote_asks =
          subst (λ (v : State). PromotionFits v.count here (progress_of t c.steps c.sizes c.promotions)) (sym same_state)
          (R.promotion_fits limit k ws lo.b lo.ok i next lo.w s t c lo.at lo.long promotion_now)

      pub promoted_asks : BeforePromotion u
      promoted_asks =
          subst (λ (v : State). BeforePromotion v) (sym same_state)
          (R.state_room limit k ws lo.b lo.ok i next lo.w s t c lo.at lo.long promotion_now)

      pub promote_goes : (t' : Tally) (c' : Buffers) (v : State) (o' : List ℕ)
          → PromotionDone u.count here (progress_of t c.steps c.sizes c.promotions) (progress_of t' c'.steps c'.sizes c'.promotions) → v ≡ promoted u
          → o' ≡ set o u.width u.count → c'.merges ≡ merges' → c'.rotations ≡ c.rotations → c'.measurements ≡ c.measurements → SameLengths c c'
          → Looping limit k ws (i + 1) o' v t' c'
      unfolding promotion_step
      promote_goes t' c' v o' d e appended merges rotations measurements long =
          on (promotion_step lo.w)
          (reached_same
          (R.promotion_goes limit k ws lo.b lo.ok i next lo.w s t c lo.at lo.long promotion_now t' c'
          (subst (λ (y : State). PromotionDone y.count here (progress_of t c.steps c.sizes c.promotions) (progress_of t' c'.steps c'.sizes c'.promotions)) same_state d)
          (merges ∙ unmerged no-sources) rotations measurements)
          (e ∙ ap promoted same_state) refl refl refl refl refl refl)
          long
          (subst (λ (l : List ℕ). Ordered l (lo.w.order ++ (length lo.w.components ∷ [])))
          (sym (appended ∙ ap (λ (y : State). set o y.width y.count) same_state ∙ ap (set o s.width) lo.at.rep.count))
          (ordered_promotion o lo.w.order lo.ordered
          (let f = (R.state_room limit k ws lo.b lo.ok i next lo.w s t c lo.at lo.long promotion_now).width in omega (arith, wide)) s.width (length lo.w.components) wide))

    -- ---- records that do nothing

    module _ (not_rotation : (a b c d : ℕ) (e g h : Float) → x ≡ Rotation a b c d e g h → ⊥) (not_promotion : x ≡ Promotion → ⊥)
        (not_measurement : (a b c d e : ℕ) → x ≡ Measurement a b c d e → ⊥) where
      pub plain_goes : (c' : Buffers) → c'.steps ≡ patch (2 * i) (0 ∷ 0 ∷ []) c.steps
          → c'.merges ≡ merges' → c'.sizes ≡ c.sizes → c'.rotations ≡ c.rotations → c'.promotions ≡ c.promotions
          → c'.measurements ≡ c.measurements → SameLengths c c' → Looping limit k ws (i + 1) o u t c'
      unfolding no_step
      plain_goes c' steps merges sizes rotations promotions measurements long =
          let quiet = does_nothing limit lo.w s.width (sources_at s.component s.size s.width) x not_rotation not_promotion not_measurement in
          on (no_step lo.w)
          (reached_same
          (R.plain_goes limit k ws lo.b lo.ok i next lo.w s t c lo.at lo.long c'.steps (ap (step limit lo.w) now ∙ quiet.0) steps)
          (unjoined quiet.1) refl (merges ∙ unmerged quiet.1) sizes rotations promotions measurements)
          long lo.ordered

-- ---- where the loop begins and ends

-- the buffers with the longest sizes written
abbrev with_sizes : Buffers → List ℕ → Buffers
with_sizes b sizes = record {
  steps = b.steps;
  merges = b.merges;
  sizes = sizes;
  rotations = b.rotations;
  promotions = b.promotions;
  measurements = b.measurements;
  groups = b.groups;
}

pub begins : (limit k : ℕ) (ws : List ℕ) (b : Buffers) (sizes o : List ℕ) (s : State) (t : Tally) → Walkable k ws b → InOrder k o → Started k s → t ≡ start_tally k
    → sizes ≡ replicate k 1 ++ drop k b.sizes → length sizes ≡ length b.sizes
    → Looping limit k ws 0 o s t (with_sizes b sizes)
unfolding start
begins limit k ws b sizes o s t ok numbered started sums filled long = record {
  b = b;
  ok = ok;
  upto = omega arith;
  long = ap (λ (n : ℕ). record (lengths_of b) { sizes = n }) long;
  w = start k;
  at = subst (λ (a : Tally). Reached limit k (instructions_of ws) 0 (start k) s a (with_sizes b sizes)) (sym sums)
      (reached_start limit k (instructions_of ws) s (with_sizes b sizes) b.sizes started filled);
  ordered = ordered_start k o numbered;
}

module _ {limit k : ℕ} {ws : List ℕ} {i : ℕ} {o : List ℕ} {s : State} {t : Tally} {c : Buffers} (lo : Looping limit k ws i o s t c) (all : length ws / 8 ≤ i) where
  at-end : i ≡ length ws / 8
  at-end = let f = lo.upto in omega arith

  pub count_small : s.count ≤ 512
  count_small = E.count_small limit k ws lo.b lo.ok i at-end lo.w s t c lo.at lo.long o lo.ordered

  pub groups_fit : CountsFit (take s.count s.size) c.groups
  groups_fit = (E.groups_here limit k ws lo.b lo.ok i at-end lo.w s t c lo.at lo.long o lo.ordered).fit

  pub places_fit : (first groups' : List ℕ) → first ≡ (counts_of (take s.count s.size) c.groups).start → groups' ≡ (counts_of (take s.count s.size) c.groups).groups
      → PlacesFit first s.component s.place s.width (length groups')
  places_fit first groups' e f =
      subst (λ (l : List ℕ). PlacesFit l s.component s.place s.width (length groups')) (sym e)
      (subst (λ (l : List ℕ). PlacesFit (counts_of (take s.count s.size) c.groups).start s.component s.place s.width (length l)) (sym f)
      (E.groups_here limit k ws lo.b lo.ok i at-end lo.w s t c lo.at lo.long o lo.ordered).inside)

  pub finishes : (used : ℕ) (first counts groups' : List ℕ) → used ≡ (counts_of (take s.count s.size) c.groups).used
      → first ≡ (counts_of (take s.count s.size) c.groups).start → counts ≡ (counts_of (take s.count s.size) c.groups).groups
      → groups' ≡ placed_up_to first o s.component s.place s.width counts
      → WalkEnds (walk_from limit 0 (start k) (instructions_of ws)) (Ok (record { tally = t; count = s.count; groups = used }))
      (record {
        steps = c.steps;
        merges = c.merges;
        sizes = c.sizes;
        rotations = c.rotations;
        promotions = c.promotions;
        measurements = c.measurements;
        groups = groups';
      })
  finishes used first counts groups' u e f g =
      E.ends limit k ws lo.b lo.ok i at-end lo.w s t c lo.at lo.long o lo.ordered used groups' u
      (g ∙ ap₂ (λ (a d : List ℕ). placed_up_to a o s.component s.place s.width d) e f)
