-- What an accepted plan that was read comes from: every test of "Where planning stops" was passed, so the record pass let all records through and the walk
-- finished; the plan is that of its last state.
use Rattle.std.specs.Prelude.{Option, Some, None}
use mathlib.Core.Path.{◌≡◌, refl, sym, ◌∙◌}
use mathlib.Core.Bool.{Bool, true, false}
use mathlib.Core.List.{List}
use Prim.Native.Nat.{ℕ, ◌/◌, ◌≤◌}
use native.Mathlib.Omega.{arith}
use lib.Dec.{ltb}
use lib.ListN.{length}
use Rattle.refusals.specs.Answer.{completed, refused_at}
use borrow.Author.Tests.{ltb-false}
use Rattle.records.specs.Record.{instructions_of}
use Rattle.records.specs.declared.Head.{Head}
use Rattle.records.specs.Pass.{Checked, Passed}
use Rattle.plan_spec.specs.Walk.{Walk, Walked, start, walk_from}
use Rattle.plan_spec.specs.Plan.{Lengths, Plan, Result, unread, plan_from, words_refused, buffers_refused, refuse_all, after_walk, after_pass, pass_of, plan_read, max_dimension, for_dense_peak, ceiling_refused, plan_of}
use Rattle.plan_spec.proofs.Steps.{Run, run_of_walk, cond_no}

pub record Accepted (h : Head) (ws : List ℕ) (l : Lengths) (p : Plan) : Type 0 where
  pub dense_peak : ℕ
  pub last : Walk
  pub dimension_given : max_dimension h ≡ Some dense_peak
  pub words : words_refused ws ≡ false
  pub buffers : buffers_refused (length ws / 8) l ≡ false
  pub initial_small : h.initial_k ≤ 512
  pub passed : pass_of h ws ≡ Passed
  pub walked : walk_from h.ceiling 0 (start h.initial_k) (instructions_of ws) ≡ completed last
  pub run : Run h.ceiling (start h.initial_k) (instructions_of ws) last
  pub plan_is : p ≡ plan_from h.initial_k dense_peak last

refuse_planned : (t : Bool) (n : ℕ) (rest : Result) (p : Plan) → refuse_all t n rest ≡ completed p → (t ≡ false) × (rest ≡ completed p)
refuse_planned true n rest p e = let z : ◌≡◌ {A = ℕ} 0 1 = cc in absurd (omega arith)
refuse_planned false n rest p e = (refl, e)

pass_planned : (limit initial d : ℕ) (ws : List ℕ) (c : Checked) (p : Plan) → after_pass limit initial d ws c ≡ completed p
    → (c ≡ Passed) × (after_walk initial d (walk_from limit 0 (start initial) (instructions_of ws)) ≡ completed p)
pass_planned limit initial d ws (completed passed) p e = (refl, e)
pass_planned limit initial d ws (refused_at n i) p e = let z : ◌≡◌ {A = ℕ} 0 1 = cc in absurd (omega arith)

walk_planned : (initial d : ℕ) (x : Walked) (p : Plan) → after_walk initial d x ≡ completed p → (u : Walk) × (x ≡ completed u) × (p ≡ plan_from initial d u)
walk_planned initial d (completed u) p e = let same : p ≡ plan_from initial d u = cc in (u, refl, same)
walk_planned initial d (refused_at n i) p e = let z : ◌≡◌ {A = ℕ} 0 1 = cc in absurd (omega arith)

peak_planned : (h : Head) (ws : List ℕ) (l : Lengths) (o : Option ℕ) (p : Plan) → unread h ≡ false → for_dense_peak h ws l o ≡ completed p
    → (d : ℕ) × (o ≡ Some d) × (plan_read h ws l d ≡ completed p)
peak_planned h ws l None p read e = let z : ◌≡◌ {A = ℕ} 0 1 = cc in absurd (omega arith)
peak_planned h ws l (Some d) p read e = (d, refl, sym (cond_no (unread h) _ _ read) ∙ e)

-- a plan's ceiling is one of 1 to 62, and the plan is that of the tests behind it
pub ceiling_passed : (h : Head) (ws : List ℕ) (l : Lengths) (p : Plan) → plan_of h ws l ≡ completed p
    → (ceiling_refused h ≡ false) × (for_dense_peak h ws l (max_dimension h) ≡ completed p)
unfolding plan_of
ceiling_passed h ws l p e = refuse_planned (ceiling_refused h) 24 _ p e

pub accepted : (h : Head) (ws : List ℕ) (l : Lengths) (p : Plan) → unread h ≡ false → plan_of h ws l ≡ completed p → Accepted h ws l p
unfolding plan_read
accepted h ws l p read e =
    let peak = peak_planned h ws l (max_dimension h) p read (ceiling_passed h ws l p e).1 in
    let second = refuse_planned (words_refused ws) 2 _ p peak.2 in
    let third = refuse_planned (buffers_refused (length ws / 8) l) 3 _ p second.1 in
    let fourth = refuse_planned (ltb 512 h.initial_k) 4 _ p third.1 in
    let pass = pass_planned h.ceiling h.initial_k peak.0 ws (pass_of h ws) p fourth.1 in
    let walk = walk_planned h.initial_k peak.0 (walk_from h.ceiling 0 (start h.initial_k) (instructions_of ws)) p pass.1 in record {
      dense_peak = peak.0;
      last = walk.0;
      dimension_given = peak.1;
      words = second.0;
      buffers = third.0;
      initial_small = ltb-false 512 h.initial_k fourth.0;
      passed = pass.0;
      walked = walk.1;
      run = run_of_walk h.ceiling 0 (start h.initial_k) walk.0 (instructions_of ws) walk.1;
      plan_is = walk.2;
    }
