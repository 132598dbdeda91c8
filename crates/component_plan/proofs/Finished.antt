-- A program that refusals 2 to 10 let through and whose walk has finished: what the walk leaves fits what is asked of it, and with the words behind the used ones
-- zeroed the answer is the definition's plan.
use Rattle.std.specs.Prelude.{Ok}
use Prim.Native.Nat.{ℕ, ◌/◌, ◌≤◌}
use native.Mathlib.Omega.{arith}
use mathlib.Core.Path.{◌≡◌, refl, sym, ap, ◌∙◌, subst}
use mathlib.Core.List.{List}
use lib.ListN.{length, take}
use Rattle.refusals.specs.Answer.{completed}
use Rattle.words.specs.Words.{AreBelow}
use Rattle.words.proofs.Patches.{begins_length}
use Rattle.words.proofs.Words.{below_each}
use Rattle.records.specs.Record.{instructions_of}
use Rattle.records.specs.Pass.{Passed, record_pass}
use Rattle.records.specs.declared.Head.{Head}
use Rattle.plan_spec.specs.Components.{allocated_for}
use Rattle.plan_spec.specs.Walk.{Walk, start, walk_from}
use Rattle.plan_spec.specs.Plan.{plan_from, plan_read, buffers_refused, after_walk}
use Rattle.plan_spec.proofs.Steps.{Run, run_of_walk}
use Rattle.plan_spec.proofs.Sizes.{reached_longest}
use Rattle.plan_buffers.specs.SevenBuffers.{Buffers, lengths_of, SameLengths, padded_buffers, first_words}
use Rattle.walk.specs.declared.Summary.{Summary}
use Rattle.walk.specs.Walking.{Ended, WalkEnds}
use Rattle.answer.specs.declared.ActiveComponentPlan.{ActiveComponentPlan}
use Rattle.answer.specs.Outcome.{Fields, outcome_of, finished_outcome, used_by, UsedFit}
use Rattle.answer.proofs.Told.{fields_same}
use Rattle.component_plan.specs.Answer.{Filled}
use Rattle.component_plan.specs.Refusing.{lent_number}
use Rattle.component_plan.proofs.Filled.{front_is, used_fit, used_same, whole_same, size_words, walk_held}
use Rattle.component_plan.proofs.Refusals.{lent_few, lent_passed, walk_finishes, filled_planned, plan_same}

module _ (h : Head) (dense_peak : ℕ) (ws : List ℕ) (before : Buffers) (lent : 0 ≡ lent_number h.initial_k (length ws) (buffers_refused (length ws / 8) (lengths_of before)))
    (passed : record_pass h.initial_k ws ≡ Passed) where
  -- and decides
  pub read_walk : plan_read h ws (lengths_of before) dense_peak ≡ after_walk h.initial_k dense_peak (walk_from h.ceiling 0 (start h.initial_k) (instructions_of ws))
  read_walk = lent_passed h ws (lengths_of before) dense_peak 0 lent refl Passed passed

  module _ (walked : Buffers) (done : Summary) (ends : WalkEnds (walk_from h.ceiling 0 (start h.initial_k) (instructions_of ws)) (Ok done) walked) where
    ended : (w : Walk) × (walk_from h.ceiling 0 (start h.initial_k) (instructions_of ws) ≡ completed w) × Ended w done walked
    ended = walk_finishes (walk_from h.ceiling 0 (start h.initial_k) (instructions_of ws)) done walked ends

    run : Run h.ceiling (start h.initial_k) (instructions_of ws) ended.0
    run = run_of_walk h.ceiling 0 (start h.initial_k) ended.0 (instructions_of ws) ended.1

    few : length ws ≤ 8192
    few = lent_few h ws (lengths_of before) dense_peak 0 lent refl

    -- the used words can be counted
    pub counts_fit : UsedFit done (length ws / 8)
    counts_fit = used_fit h.initial_k ws ended.0 run done walked ended.2 few

    sizes_counted : done.count ≡ length ended.0.longest
    sizes_counted = size_words h.initial_k ws ended.0 run done walked ended.2

    -- the sizes that are used lie in their buffer
    pub sizes_inside : done.count ≤ length walked.sizes
    sizes_inside = let front = begins_length ended.0.longest walked.sizes ended.2.sizes in omega (arith, sizes_counted)

    sizes_front : take done.count walked.sizes ≡ ended.0.longest
    sizes_front = front_is done.count ended.0.longest walked.sizes sizes_counted ended.2.sizes

    -- no size reaches 64
    pub sizes_below : AreBelow 64 (take done.count walked.sizes)
    sizes_below = subst (AreBelow 64) (sym sizes_front) (below_each ended.0.longest λ i l. reached_longest 64 (omega arith) (omega arith) h.initial_k run i)

    module _ (all : ℕ) (r : ActiveComponentPlan) (sum : all ≡ allocated_for (take done.count walked.sizes))
        (made : outcome_of (Ok r) ≡ finished_outcome h.initial_k dense_peak done (length ws / 8) all) where
      used_counted : r.used ≡ used_by done (length ws / 8)
      used_counted = ap (λ (f : Fields). f.used) (fields_same made)

      -- the answer is the definition's plan
      pub filled : (cleared : Buffers) → SameLengths before walked
          → cleared ≡ padded_buffers (lengths_of walked) (first_words r.used done.groups walked)
          → Filled (plan_read h ws (lengths_of before) dense_peak) before cleared (Ok r)
      filled cleared same rest =
          filled_planned (plan_read h ws (lengths_of before) dense_peak) before cleared (plan_from h.initial_k dense_peak ended.0) (Ok r)
          (read_walk ∙ ap (after_walk h.initial_k dense_peak) ended.1)
          (plan_same h.initial_k dense_peak ended.0 done walked all _ _ r ended.2 (sum ∙ ap allocated_for sizes_front)
          (whole_same h.initial_k ws ended.0 run done walked ended.2 few) (used_same h.initial_k ws ended.0 run done walked ended.2 dense_peak) made)
          (walk_held h.initial_k ws ended.0 run done walked ended.2 dense_peak before cleared r.used same used_counted rest)
