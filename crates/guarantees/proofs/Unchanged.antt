-- An optimizing call leaves a list with an expectation value as it is: its contract says that the words are those of the list, whose operations have 32 words each.
use Rattle.std.specs.Prelude.{Ok, Option, take, replicate}
use Rattle.std.specs.List.{list_any, concat, range_with_len}
use mathlib.Core.Path.{◌≡◌, refl, ap, ◌∙◌}
use mathlib.Core.Bool.{Bool, true, false}
use mathlib.Core.List.{List, []}
use Prim.Native.Nat.{ℕ, suc, ◌-◌, ◌*◌, ◌≤◌, ◌<◌}
use native.Mathlib.Omega.{arith}
use lib.ListN.{length, get_or}
use Rattle.std.proofs.lemmas.List.{take_at, get_or_append_left}
use Rattle.std.proofs.lemmas.List.FromFn.{length-range_with_len, get_or-range_with_len}
use Rattle.refusals.specs.Answer.{Outcome, completed, refused_at}
use Rattle.pending.specs.Operation.{Operation, operations_of, is_expectation}
use Rattle.pending.proofs.Chunks.{count, operation_length, words_count, operations_joined}
use Rattle.optimizer_spec.specs.Optimizing.{as_it_is, outcome_of}
use Rattle.optimizer.specs.declared.Counts.{Counts}
use Rattle.optimizer.specs.Answer.{Answers, told_in, held, list_in, map_in, counts_list}
use Rattle.optimizer.proofs.Judging.{decided, form, beyond, odd, is_decided}
use Rattle.guarantees.specs.Promises.{IsUnchanged}

-- an answer with counts is that of the list as it is
by_expectation : (words prefixes counts : List ℕ) (f b : Bool) (o : Option ℕ) → completed counts ≡ told_in (decided words prefixes f true b o)
    → decided words prefixes f true b o ≡ completed (as_it_is (operations_of words))
by_expectation words prefixes counts false b o e = let z : ◌≡◌ {A = ℕ} 0 1 = cc in absurd (omega arith)
by_expectation words prefixes counts true b o e = refl

-- the counts that a call tells
counts_of : (Outcome (List ℕ)) → List ℕ
counts_of (completed counts) = counts
counts_of (refused_at number index) = []

module _ (width : ℕ) (words prefixes list_before list map_before map : List ℕ) (r : Counts) (answers : Answers width words prefixes list_before list map_before map (Ok r))
    (has : list_any is_expectation (operations_of words) ≡ true) where
  abbrev os : List Operation
  os = operations_of words

  as_it_was : outcome_of width words prefixes (length list_before) (length map_before) ≡ completed (as_it_is os)
  as_it_was =
      let f = form width words prefixes (length list_before) (length map_before) in
      let b = beyond width words prefixes (length list_before) (length map_before) in
      let o = odd width words prefixes (length list_before) (length map_before) in
      let here = is_decided width words prefixes (length list_before) (length map_before) ∙ ap (λ (e : Bool). decided words prefixes f e b o) has in
      here ∙ by_expectation words prefixes (counts_list r) f b o (answers.answer ∙ ap told_in here)

  counts_are : counts_list r ≡ (as_it_is os).counts
  unfolding counts_of
  counts_are = ap counts_of (answers.answer ∙ ap told_in as_it_was)

  output_is : r.output ≡ length os
  output_is = ap (λ (cs : List ℕ). get_or cs 1 0) counts_are

  list_is : list ≡ held (length list_before) (concat os)
  list_is = answers.list ∙ ap (list_in (length list_before)) as_it_was

  map_is : map ≡ held (length map_before) (range_with_len 0 (suc (length os)))
  map_is = answers.map ∙ ap (map_in (length map_before)) as_it_was

  each_whole : (k : ℕ) → k < length os → length (get_or os k []) ≡ 32
  each_whole k small = operation_length words k (omega (arith, count words))

  operations_are : operations_of (take (32 * r.output) list) ≡ os
  operations_are =
      let long : length (concat os) ≡ 32 * r.output = omega (arith, words_count os each_whole, output_is) in
      ap (λ (ws : List ℕ). operations_of (take (32 * r.output) ws)) list_is
      ∙ ap operations_of (take_at (concat os) (replicate (length list_before - length (concat os)) 0) (32 * r.output) long)
      ∙ operations_joined os each_whole

  boundaries_are : (p : ℕ) → p ≤ length os → get_or map p 0 ≡ p
  boundaries_are p small =
      let range = range_with_len 0 (suc (length os)) in
      let long : length range ≡ suc (length os) = length-range_with_len 0 (suc (length os)) in
      ap (λ (ws : List ℕ). get_or ws p 0) map_is
      ∙ get_or_append_left range (replicate (length map_before - length range) 0) 0 p (omega arith)
      ∙ (let e = get_or-range_with_len 0 (suc (length os)) p 0 (omega arith) in omega arith)

  pub list_unchanged : IsUnchanged words list map r
  list_unchanged = record {
    operations = operations_are;
    boundaries = boundaries_are;
    input = ap (λ (cs : List ℕ). get_or cs 0 0) counts_are;
    output = output_is;
    fused = ap (λ (cs : List ℕ). get_or cs 2 0) counts_are;
    cancelled = ap (λ (cs : List ℕ). get_or cs 3 0) counts_are;
    swaps = ap (λ (cs : List ℕ). get_or cs 4 0) counts_are;
  }
