-- What the reply of an optimizing call tells is what an answer says: its words are the definition's counts.
use Rattle.std.specs.Prelude.{Ok, Option, Some, None}
use mathlib.Core.Path.{◌≡◌, refl, sym, ap, ◌∙◌, subst}
use mathlib.Core.Bool.{Bool, true, false}
use mathlib.Core.List.{List, [], ◌∷◌}
use Prim.Native.Nat.{ℕ, ◌≤◌}
use native.Mathlib.Omega.{arith}
use lib.ListN.{length}
use Rattle.refusals.specs.Answer.{Outcome, completed}
use Rattle.pending.specs.Operation.{operations_of}
use Rattle.optimizer_spec.specs.Optimizing.{Optimized, as_it_is, in_segments, outcome_of}
use Rattle.optimizer.specs.declared.Counts.{Counts}
use Rattle.optimizer.specs.Answer.{Answers, told_in, counts_list}
use Rattle.optimizer.proofs.Judging.{decided, is_decided}
use Rattle.midvokt.specs.Reply.{laid_out}
use Rattle.midvokt.specs.Optimized.{optimize_number, optimize_words}
use Rattle.guarantees.specs.Calls.{counts_told, LeavesList}
use Rattle.guarantees.proofs.Leaving.{word_there}

-- an outcome with the number 0 has five counts
record Counted (o : (Outcome Optimized)) : Type 0 where
  optimized_list : Optimized
  counts : Counts
  is : o ≡ completed optimized_list
  five : optimized_list.counts ≡ counts_list counts

by_counts : (o : Optimized) (a b c d e : ℕ) → o.counts ≡ a ∷ b ∷ c ∷ d ∷ e ∷ [] → Counted (completed o)
by_counts o a b c d e same = record { optimized_list = o; counts = record { input = a; output = b; fused = c; cancelled = d; swaps = e }; is = refl; five = same }

by_tests : (words prefixes : List ℕ) (f e b : Bool) (o : Option ℕ) → 0 ≡ optimize_number (told_in (decided words prefixes f e b o)) → Counted (decided words prefixes f e b o)
unfolding in_segments
by_tests words prefixes false e b o z = absurd (omega arith)
by_tests words prefixes true true b o z = by_counts (as_it_is (operations_of words)) _ _ _ _ _ refl
by_tests words prefixes true false true o z = absurd (omega arith)
by_tests words prefixes true false false (Some i) z = absurd (omega arith)
by_tests words prefixes true false false None z = by_counts (in_segments (operations_of words) prefixes) _ _ _ _ _ refl

module _ (width : ℕ) (words prefixes list_before list map_before map : List ℕ) where
  abbrev outcome : (Outcome Optimized)
  outcome = outcome_of width words prefixes (length list_before) (length map_before)

  counted_outcome : 0 ≡ optimize_number (told_in outcome) → Counted outcome
  counted_outcome z =
      let i = is_decided width words prefixes (length list_before) (length map_before) in
      subst Counted (sym i) (by_tests words prefixes _ _ _ _ (z ∙ ap (λ (o : (Outcome Optimized)). optimize_number (told_in o)) i))

  -- the counts of a reply
  told_counts : (c : Counts) (n : ℕ) → 6 ≤ n → counts_told (laid_out n (optimize_words (completed (counts_list c)))) ≡ c
  told_counts c n room j =
      let ws = optimize_words (completed (counts_list c)) in record {
        input = word_there n ws 1 (omega arith) j;
        output = word_there n ws 2 (omega arith) j;
        fused = word_there n ws 3 (omega arith) j;
        cancelled = word_there n ws 4 (omega arith) j;
        swaps = word_there n ws 5 (omega arith) j;
      }

  -- what a call leaves is what an answer says
  pub list_answer : (r : Counts) → LeavesList width words prefixes list_before list map_before map r
      → Answers width words prefixes list_before list map_before map (Ok r)
  list_answer r (LeavesList.answer c a) = a
  list_answer r (LeavesList.reply res told room a) =
      let found = counted_outcome a.number in
      let is_told : told_in outcome ≡ completed (counts_list found.counts) = ap told_in found.is ∙ ap completed found.five in
      let same : counts_told told ≡ found.counts =
      ap counts_told (a.result ∙ ap (λ (t : (Outcome (List ℕ))). laid_out (length res) (optimize_words t)) is_told) ∙ told_counts found.counts (length res) room in
      record {
        answer = ap (λ (c : Counts). completed (counts_list c)) same ∙ sym is_told;
        list = a.list;
        map = a.map;
      }
