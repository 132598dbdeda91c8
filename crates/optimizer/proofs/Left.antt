-- What is claimed of optimizing, of the words that a call leaves: the contract says that they are the definition's, whose operations have 32 words each.
use Rattle.std.proofs.Common.{◌≡◌, ℕ, suc, ◌-◌, ◌*◌, ◌<◌, ◌≤◌, Bool, true, false, List, [], length, get_or, take, refl, ap, arith}
use Rattle.std.specs.Prelude as Prelude
use Rattle.std.specs.Prelude.{replicate, Option, Some, None, Result as Answered, Ok}
use Rattle.std.specs.List.{list_any, concat, range_with_len}
use mathlib.Core.Path.{◌∙◌}
use lib.ListN.{get_or-map}
use Rattle.std.proofs.lemmas.List.{length-map, take_at, get_or_append_left, get_or_default}
use Rattle.std.proofs.lemmas.List.FromFn.{length-range_with_len, get_or-range_with_len}
use Rattle.refusals.specs.Answer.{Outcome, completed, refused_at}
use Rattle.pending.specs.Operation.{Operation, operations_of, is_expectation}
use Rattle.pending.proofs.Chunks.{count, operation_length, words_count, operations_joined}
use Rattle.optimizer_spec.specs.Passes.{placed}
use Rattle.optimizer_spec.specs.Optimizing.{in_segments, outcome_of}
use Rattle.optimizer_spec.specs.Claims.{output, boundary_of}
use Rattle.optimizer_spec.proofs.Claimed.{claimed}
use Rattle.optimizer_spec.proofs.Further.{further}
use Rattle.optimizer.specs.declared.Counts.{Counts}
use Rattle.optimizer.specs.Working.{bare}
use Rattle.optimizer.specs.Answer.{told_in, held, list_in, map_in, counts_list, Answers}
use Rattle.optimizer.specs.Laws.{Left}
use Rattle.optimizer.proofs.Judging.{decided, form, beyond, odd, is_decided}

module _ (words prefixes : List ℕ) where
  abbrev pub os : List Operation
  os = operations_of words

  -- an answer with counts, where no expectation value keeps the list as it is, is that of the segments
  by_segments : (counts : List ℕ) (f b : Bool) (o : Option ℕ) → completed counts ≡ told_in (decided words prefixes f false b o) →
      decided words prefixes f false b o ≡ completed (in_segments os prefixes)
  by_segments counts false b o told = let z : ◌≡◌ {A = ℕ} 0 1 = cc in absurd (omega arith)
  by_segments counts true true o told = let z : ◌≡◌ {A = ℕ} 0 1 = cc in absurd (omega arith)
  by_segments counts true false (Some i) told = let z : ◌≡◌ {A = ℕ} 0 1 = cc in absurd (omega arith)
  by_segments counts true false None told = refl

  -- each operation that is left has 32 words
  whole : (k : ℕ) → k < length (bare (output os prefixes)) → length (get_or (bare (output os prefixes)) k []) ≡ 32
  whole k small =
      let it = get_or (output os prefixes) k (placed 0 []) in
      let inside : k < length (output os prefixes) = omega (arith, length-map (output os prefixes) (λ o. o.operation)) in
      let kept = (claimed os prefixes).kept k (placed 0 []) inside in
      let place = kept.inside in
      ap (λ (o : Operation). length o) (get_or-map (λ o. o.operation) (output os prefixes) k (placed 0 []))
      ∙ kept.size
      ∙ operation_length words it.place (omega (arith, count words))

-- the counts that a call tells
counts_of : (Outcome (List ℕ)) → List ℕ
counts_of (completed counts) = counts
counts_of (refused_at number index) = []

module _ (width : ℕ) (words prefixes list_before list map_before map : List ℕ) (r : Counts) (answers : Answers width words prefixes list_before list map_before map (Ok r))
    (no_expectation : list_any is_expectation (operations_of words) ≡ false) where
  -- the outcome is that of the segments
  is_optimized : outcome_of width words prefixes (length list_before) (length map_before) ≡ completed (in_segments (operations_of words) prefixes)
  is_optimized =
      let here = is_decided width words prefixes (length list_before) (length map_before)
      ∙ ap (λ (e : Bool). decided words prefixes (form width words prefixes (length list_before) (length map_before)) e (beyond width words prefixes (length list_before) (length map_before)) (odd width words prefixes (length list_before) (length map_before))) no_expectation in
      here ∙ by_segments words prefixes (counts_list r) _ _ _ (answers.answer ∙ ap told_in here)

  counts_are : counts_list r ≡ (in_segments (operations_of words) prefixes).counts
  unfolding counts_of
  counts_are = ap counts_of (answers.answer ∙ ap told_in is_optimized)

  left_is : r.output ≡ length (output (operations_of words) prefixes)
  unfolding in_segments
  left_is = ap (λ (cs : List ℕ). get_or cs 1 0) counts_are

  list_is : list ≡ held (length list_before) (concat (bare (output (operations_of words) prefixes)))
  unfolding in_segments
  list_is = answers.list ∙ ap (list_in (length list_before)) is_optimized

  map_is : map ≡ held (length map_before) (Prelude.map (boundary_of (operations_of words) prefixes) (range_with_len 0 (suc (length (operations_of words)))))
  unfolding in_segments
  map_is = answers.map ∙ ap (map_in (length map_before)) is_optimized

  operations_are : operations_of (take (32 * r.output) list) ≡ bare (output (operations_of words) prefixes)
  operations_are =
      let out = bare (output (operations_of words) prefixes) in
      let long : length (concat out) ≡ 32 * r.output =
      omega (arith, words_count out (whole words prefixes), length-map (output (operations_of words) prefixes) (λ o. o.operation), left_is) in
      ap (λ (ws : List ℕ). operations_of (take (32 * r.output) ws)) list_is
      ∙ ap operations_of (take_at (concat out) (replicate (length list_before - length (concat out)) 0) (32 * r.output) long)
      ∙ operations_joined out (whole words prefixes)

  boundaries_are : (p : ℕ) → p ≤ length (operations_of words) → get_or map p 0 ≡ boundary_of (operations_of words) prefixes p
  boundaries_are p small =
      let f = boundary_of (operations_of words) prefixes in
      let range = range_with_len 0 (suc (length (operations_of words))) in
      let long : length (Prelude.map f range) ≡ suc (length (operations_of words)) = length-map range f ∙ length-range_with_len 0 (suc (length (operations_of words))) in
      ap (λ (ws : List ℕ). get_or ws p 0) map_is
      ∙ get_or_append_left (Prelude.map f range) (replicate (length map_before - length (Prelude.map f range)) 0) 0 p (omega arith)
      ∙ get_or_default (Prelude.map f range) p 0 (f 0) (omega arith)
      ∙ get_or-map f range p 0
      ∙ ap f (let e = get_or-range_with_len 0 (suc (length (operations_of words))) p 0 (omega arith) in omega arith)

  -- all that is claimed of the list holds of what the call leaves
  pub left : Left words prefixes list map r
  unfolding in_segments
  left = record {
    operations = operations_are;
    boundaries = boundaries_are;
    input = ap (λ (cs : List ℕ). get_or cs 0 0) counts_are;
    left = left_is;
    fused = ap (λ (cs : List ℕ). get_or cs 2 0) counts_are;
    cancelled = ap (λ (cs : List ℕ). get_or cs 3 0) counts_are;
    claims = claimed (operations_of words) prefixes;
    further = further (operations_of words) prefixes;
  }
