-- The answer of storing, case by case. Where planning gave a plan, its counts are those of the definition's plan, so that the front of each buffer is that plan's
-- output and the file of these words is its file.
use Rattle.std.specs.Prelude.{Result as Answered, Ok, Err}
use mathlib.Core.Path.{◌≡◌, refl, sym, ap, ◌∙◌, subst, subst₂}
use mathlib.Core.Bool.{Bool}
use mathlib.Core.List.{List, []}
use Prim.Native.Nat.{ℕ, ◌+◌, ◌*◌, ◌/◌, ◌≤◌, ◌<◌}
use native.Mathlib.Omega.{arith}
use lib.ListN.{length}
use Rattle.refusals.specs.Answer.{completed, refused_at}
use borrow.Author.Tests.{lt-ltb, le-ltb}
use Rattle.words.specs.Lists.{padded}
use Rattle.words.proofs.Padded.{front_of_padded}
use Rattle.records.specs.declared.Head.{Head}
use Rattle.plan_spec.specs.Plan.{Lengths, Plan, Result, refuse_all, plan_of}
use Rattle.plan_spec.proofs.Room.{plan_fits_in}
use Rattle.plan_spec.proofs.Words.{plan_counts}
use Rattle.plan_buffers.specs.declared.WordCounts.{WordCounts}
use Rattle.plan_buffers.specs.SixOutputs.{Outputs}
use Rattle.refusals.specs.Numbers.{number_of}
use Rattle.refusals.specs.declared.Refusal.{Refusal}
use Rattle.refusals.specs.declared.Reason.TheVariants.{Lengths as LengthsShort}
use Rattle.plan_buffers.specs.SevenBuffers.{Buffers, lengths_of, SameLengths, padded_buffers, no_words, Held}
use Rattle.answer.specs.declared.ActiveComponentPlan.{ActiveComponentPlan}
use Rattle.answer.specs.Outcome.{outcome_of, used_in}
use Rattle.component_plan.specs.Answer.{Answers}
use Rattle.component_plan.proofs.Refusals.{away, zeros_held}
use Rattle.stored_plan.specs.Stored.{Kept, scalars_of, kept_of, bytes_of, file_of}
use Rattle.plan_file.specs.Writing.{scalars_in, words_for}
use Rattle.plan_file.proofs.Writing.{bytes_count}
use Rattle.plan_file.proofs.Fields.{found}
use Rattle.store.specs.Storing.{fitting, store_of, file_in, outcome_in, Stores, UsedInside, used_of}

-- ---- a plan that was answered

-- the six outputs among the buffers
abbrev pub six : Buffers → Outputs
six b = record {
  steps = b.steps;
  merges = b.merges;
  sizes = b.sizes;
  rotations = b.rotations;
  promotions = b.promotions;
  measurements = b.measurements;
}

module _ (h : Head) (ws : List ℕ) (before between : Buffers) (r : ActiveComponentPlan) (a : Answers h ws before between (Ok r)) where
  abbrev it : (p : Plan) × (plan_of h ws (lengths_of before) ≡ completed p) × (scalars_in r ≡ scalars_of p) × (r.used ≡ used_in p)
  it = found (plan_of h ws (lengths_of before)) r a.answer

  abbrev p : Plan
  p = it.0

  held : Held (completed p) before between
  held = subst (λ (x : Result). Held x before between) it.1 a.held

  -- the counts are no more than the buffers' lengths
  pub inside : SameLengths before between → UsedInside r.used (six between)
  inside same =
      let f = plan_fits_in h ws (lengths_of before) p it.1 in
      let u = it.3 in record {
        steps = subst₂ (λ (c : WordCounts) (l : Lengths). c.steps ≤ l.steps) (sym u) (sym same) f.steps;
        merges = subst₂ (λ (c : WordCounts) (l : Lengths). c.merges ≤ l.merges) (sym u) (sym same) f.merges;
        sizes = subst₂ (λ (c : WordCounts) (l : Lengths). c.sizes ≤ l.sizes) (sym u) (sym same) f.sizes;
        rotations = subst₂ (λ (c : WordCounts) (l : Lengths). c.rotations ≤ l.rotations) (sym u) (sym same) f.rotations;
        promotions = subst₂ (λ (c : WordCounts) (l : Lengths). c.promotions ≤ l.promotions) (sym u) (sym same) f.promotions;
        measurements = subst₂ (λ (c : WordCounts) (l : Lengths). c.measurements ≤ l.measurements) (sym u) (sym same) f.measurements;
      }

  -- what stands in front is what the file keeps
  front_is : used_of r (six between) ≡ kept_of p
  front_is =
      let u = it.3 in
      let steps = front_of_padded _ r.used.steps p.steps between.steps (ap (λ (c : WordCounts). c.steps) u) (ap (λ (b : Buffers). b.steps) held) in
      let merges = front_of_padded _ r.used.merges p.merges between.merges (ap (λ (c : WordCounts). c.merges) u) (ap (λ (b : Buffers). b.merges) held) in
      let sizes = front_of_padded _ r.used.sizes p.sizes between.sizes (ap (λ (c : WordCounts). c.sizes) u) (ap (λ (b : Buffers). b.sizes) held) in
      let rotations = front_of_padded _ r.used.rotations p.rotations between.rotations (ap (λ (c : WordCounts). c.rotations) u) (ap (λ (b : Buffers). b.rotations) held) in
      let promotions = front_of_padded _ r.used.promotions p.promotions between.promotions (ap (λ (c : WordCounts). c.promotions) u) (ap (λ (b : Buffers). b.promotions) held) in
      let measurements = front_of_padded _ r.used.measurements p.measurements between.measurements (ap (λ (c : WordCounts). c.measurements) u) (ap (λ (b : Buffers). b.measurements) held) in
      λ i. record {
        steps = steps i;
        merges = merges i;
        sizes = sizes i;
        rotations = rotations i;
        promotions = promotions i;
        measurements = measurements i;
        scalars = it.2 i;
      }

  -- the file's length
  file_length : length (file_of p) ≡ 8 * words_for r.used
  file_length = bytes_count (kept_of p) refl ∙ ap (λ (c : WordCounts). 8 * words_for c) (sym it.3)

  -- in words it is far below what a word holds
  pub words_small : words_for r.used ≤ 24 * 1024 + 1047
  words_small =
      let few = (plan_counts h ws (lengths_of before) p it.1).few in
      let most : words_for (used_in p) ≤ 24 * 1024 + 1047 = omega arith in
      subst (λ (c : WordCounts). words_for c ≤ 24 * 1024 + 1047) (sym it.3) most

  -- a file too short for it
  pub stores_short : (after : Buffers) (file filed : List ℕ) → length file / 8 < words_for r.used → SameLengths before between
      → after ≡ padded_buffers (lengths_of between) no_words
      → filed ≡ padded (length file) [] → Stores h ws before after file filed (Err (record { reason = LengthsShort; index = 0 }))
  stores_short after file filed short same zeros cleared =
      let long = file_length in
      let refusal : store_of h ws (lengths_of before) (length file) ≡ refused_at 23 0 =
      ap (fitting (length file)) it.1 ∙ ap (λ (t : Bool). refuse_all t 23 (completed p)) (lt-ltb (length file) (length (file_of p)) (omega arith)) in record {
        answer = sym (ap outcome_in refusal);
        held = subst (λ (x : Result). Held x before after) (sym refusal) (zeros_held before between after same zeros);
        bytes = cleared ∙ sym (ap (λ (x : Result). padded (length file) (file_in x)) refusal);
      }

  -- and one that is long enough
  pub stores_file : (file filed : List ℕ) → words_for r.used ≤ length file / 8 → filed ≡ padded (length file) (bytes_of (used_of r (six between)))
      → Stores h ws before between file filed (Ok (8 * words_for r.used))
  stores_file file filed room written =
      let long = file_length in
      let plan : store_of h ws (lengths_of before) (length file) ≡ completed p =
      ap (fitting (length file)) it.1 ∙ ap (λ (t : Bool). refuse_all t 23 (completed p)) (le-ltb (length file) (length (file_of p)) (omega arith)) in record {
        answer = ap completed (sym long) ∙ sym (ap outcome_in plan);
        held = subst (λ (x : Result). Held x before between) (sym plan) held;
        bytes = written ∙ ap (λ (k : Kept). padded (length file) (bytes_of k)) front_is ∙ sym (ap (λ (x : Result). padded (length file) (file_in x)) plan);
      }

-- ---- a refusal of planning

pub stores_refused : (h : Head) (ws : List ℕ) (before after : Buffers) (r : Answered ActiveComponentPlan Refusal) (refusal : Refusal) (file filed : List ℕ)
    → Answers h ws before after r → r ≡ Err refusal → filed ≡ padded (length file) [] → Stores h ws before after file filed (Err refusal)
stores_refused h ws before after r refusal file filed a e cleared =
    let number = number_of refusal.reason in
    let gone = away (plan_of h ws (lengths_of before)) number refusal.index (sym (ap outcome_of e) ∙ a.answer) in
    let kept : store_of h ws (lengths_of before) (length file) ≡ refused_at number refusal.index = ap (fitting (length file)) gone in record {
      answer = sym (ap outcome_in kept);
      held = subst (λ (x : Result). Held x before after) (gone ∙ sym kept) a.held;
      bytes = cleared ∙ sym (ap (λ (x : Result). padded (length file) (file_in x)) kept);
    }
