-- What the buffers hold once the words behind the used ones are zeroed: the walk's words stand in front, so they hold these and zeros, as the definition's plan says. And
-- the whole works that are kept modulo 2 ^ 64 are the definition's wherever they are given: there they are at most 2 ^ 51.
use Prim.Native.Nat.{ℕ, ◌*◌, ◌/◌, ◌%◌, ◌^◌, ◌<◌, ◌≤◌}
use native.Mathlib.Omega.{arith}
use native.Mathlib.Nat.{mod-eq_of_lt}
use mathlib.Core.Path.{◌≡◌, refl, sym, ap, ap₂, ◌∙◌}
use mathlib.Core.Bool.{Bool, true, false, cond}
use mathlib.Core.List.{List}
use lib.Dec.{ltb}
use lib.ListN.{length, take}
use Rattle.refusals.specs.Answer.{completed}
use borrow.Author.Tests.{ltb-false}
use Rattle.words.specs.Lists.{Begins}
use Rattle.words.proofs.Patches.{begins_take}
use Rattle.records.specs.Record.{instructions_of}
use Rattle.records.proofs.Laws.{instructions_length}
use Rattle.plan_spec.specs.Lists.{concat}
use Rattle.plan_spec.specs.WholeWorks.{WholeSums, too_wide, quotient_of, whole_works_of}
use Rattle.plan_spec.specs.Walk.{Walk, start}
use Rattle.plan_spec.specs.Plan.{plan_from, groups_of}
use Rattle.plan_spec.proofs.Steps.{Run}
use Rattle.plan_spec.proofs.Growth.{run_rotations, run_measurements, start_wide, length_concat}
use Rattle.plan_spec.proofs.WholeWorks.{reached_exactly}
use Rattle.plan_spec.proofs.Room.{longest_count, steps_count, rows_most}
use Rattle.walk.specs.declared.Summary.{Summary}
use Rattle.plan_buffers.specs.SevenBuffers.{Buffers, lengths_of, SameLengths, padded_buffers, first_words, result_words, Held}
use Rattle.walk.specs.Walking.{Ended}
use Rattle.plan_buffers.specs.declared.WordCounts.{WordCounts}
use Rattle.work_sums.specs.Tally.{whole_sums_of}
use Rattle.answer.specs.Outcome.{used_in, used_by, UsedFit}

-- n words of a buffer in whose front n words stand
pub front_is : (n : ℕ) (ws xs : List ℕ) → n ≡ length ws → Begins ws xs → take n xs ≡ ws
front_is n ws xs count front = begins_take ws xs n front (sym count)

-- sums that are kept modulo 2 ^ 64 say the same of the works where a narrow program's sums are below that
whole_kept : (s : WholeSums) (dense component widest : ℕ) → dense ≡ s.dense % 2 ^ 64 → component ≡ s.component % 2 ^ 64 → widest ≡ s.widest
    → (s.widest ≤ 38 → (s.dense < 2 ^ 64) × (s.component < 2 ^ 64))
    → whole_works_of (record { dense = dense; component = component; widest = widest }) ≡ whole_works_of s
unfolding whole_works_of
whole_kept s dense component widest d c w small =
    ap (λ (n : ℕ). cond (ltb 38 n) too_wide (quotient_of dense component)) w ∙ by_width (ltb 38 s.widest) refl
  where
    by_width : (t : Bool) → ltb 38 s.widest ≡ t → cond t too_wide (quotient_of dense component) ≡ cond t too_wide (quotient_of s.dense s.component)
    by_width true e = refl
    by_width false e =
        let below = small (ltb-false 38 s.widest e) in
        ap₂ quotient_of (d ∙ mod-eq_of_lt below.0) (c ∙ mod-eq_of_lt below.1)

module _ {limit : ℕ} (k : ℕ) (ws : List ℕ) (w : Walk) (run : Run limit (start k) (instructions_of ws) w) (s : Summary) (walked : Buffers) (ended : Ended w s walked) where
  rotation_words : 21 * s.tally.rotations ≡ length (concat w.written.rotations)
  rotation_words = ap (λ (n : ℕ). 21 * n) ended.sums.rotations ∙ sym (length_concat 21 w.written.rotations (run_rotations run (start_wide k 21).0))

  measurement_words : 19 * s.tally.measurements ≡ length (concat w.written.measurements)
  measurement_words = ap (λ (n : ℕ). 19 * n) ended.sums.measurements ∙ sym (length_concat 19 w.written.measurements (run_measurements run (start_wide k 19).1))

  step_words : 2 * (length ws / 8) ≡ length w.written.steps
  step_words = ap (λ (n : ℕ). 2 * n) (sym (instructions_length ws)) ∙ sym (steps_count k run)

  -- the used words can be counted
  pub used_fit : length ws ≤ 8192 → UsedFit s (length ws / 8)
  used_fit few =
      let l = instructions_length ws in
      let rows = rows_most k run in record {
        steps = omega arith;
        rotations = omega (arith, ended.sums.rotations);
        measurements = omega (arith, ended.sums.measurements);
      }

  -- the whole works are the definition's
  pub whole_same : length ws ≤ 8192
      → whole_works_of (whole_sums_of s.tally) ≡ whole_works_of w.whole
  whole_same few =
      whole_kept w.whole s.tally.whole_dense s.tally.whole_work s.tally.widest ended.sums.whole_dense ended.sums.whole_work ended.sums.widest
      (λ narrow. let l = instructions_length ws in
      let e = reached_exactly k run (omega arith) narrow in (omega (arith, e.dense_most), omega (arith, e.component_most)))

  -- as many sizes as components
  pub size_words : s.count ≡ length w.longest
  size_words = ended.count ∙ sym (longest_count k run)

  -- the used words are counted
  pub used_same : (dense_peak : ℕ) → used_by s (length ws / 8) ≡ used_in (plan_from k dense_peak w)
  unfolding plan_from
  used_same dense_peak i = record {
    steps = step_words i;
    merges = ended.sums.merges i;
    sizes = size_words i;
    rotations = rotation_words i;
    promotions = ended.sums.promotions i;
    measurements = measurement_words i;
  }

  -- so the first words of all seven are the plan's
  first_same : (dense_peak : ℕ)
      → first_words (used_by s (length ws / 8)) s.groups walked ≡ result_words (completed (plan_from k dense_peak w))
  unfolding plan_from
  first_same dense_peak i = record {
    steps = front_is _ w.written.steps walked.steps step_words ended.steps i;
    merges = front_is _ w.written.merges walked.merges ended.sums.merges ended.merges i;
    sizes = front_is _ w.longest walked.sizes size_words ended.sizes i;
    rotations = front_is _ (concat w.written.rotations) walked.rotations rotation_words ended.rotations i;
    promotions = front_is _ w.written.promotions walked.promotions ended.sums.promotions ended.promotions i;
    measurements = front_is _ (concat w.written.measurements) walked.measurements measurement_words ended.measurements i;
    groups = front_is _ (groups_of w.components) walked.groups ended.used ended.groups i;
  }

  -- and with zeros behind them they hold the plan
  pub walk_held : (dense_peak : ℕ) (before after : Buffers) (used : WordCounts) → SameLengths before walked
      → used ≡ used_by s (length ws / 8) → after ≡ padded_buffers (lengths_of walked) (first_words used s.groups walked)
      → Held (completed (plan_from k dense_peak w)) before after
  walk_held dense_peak before after used same counted cleared =
      cleared
      ∙ ap (λ (u : WordCounts). padded_buffers (lengths_of walked) (first_words u s.groups walked)) counted
      ∙ ap₂ padded_buffers same (first_same dense_peak)
