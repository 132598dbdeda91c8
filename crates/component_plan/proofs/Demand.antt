-- Demand 3, the sources of each join, the group list, and the laws of the whole works, of the ceiling and of a rotation's squares, of what a call leaves: its contract says that the answer's fields are those of the definition's plan and that each buffer holds that plan's words and
-- zeros behind them, and the claims that hold of a plan hold of its words followed by zeros.
use Rattle.std.specs.Prelude.{Result as Answered, Ok}
use Prim.Native.Nat.{ℕ, ◌-◌, ◌/◌, ◌≤◌, ◌<◌}
use native.Mathlib.Omega.{arith}
use mathlib.Core.Path.{◌≡◌, refl, sym, ap, ◌∙◌, subst, subst₂}
use mathlib.Core.List.{List}
use lib.ListN.{length}
use lib.Ieee.{Float}
use Rattle.refusals.specs.Answer.{completed, refused_at}
use Rattle.words.proofs.Padded.{zeroed_at}
use Rattle.records.specs.Record.{kind, sine, cosine, record_at, instructions_of}
use Rattle.records.specs.Sound.{IsUnitPair}
use Rattle.records.specs.declared.Head.{Head}
use Rattle.plan_spec.specs.WholeWorks.{WholeWorks}
use Rattle.plan_spec.specs.Plan.{Lengths, Plan, Result, plan_of}
use Rattle.plan_spec.specs.Connectivity.{Connected, replay_after}
use Rattle.plan_spec.specs.Sources.{SourcesListed}
use Rattle.plan_spec.specs.Groups.{GroupsListed}
use Rattle.plan_spec.specs.Laws.{Agree, TooWideExactly, HasDimensions, under, HoldsPlan}
use Rattle.plan_spec.proofs.Accepted.{accepted}
use Rattle.plan_spec.proofs.Squares.{rotation_squares}
use Rattle.plan_spec.proofs.Connected.{read_head, connected}
use Rattle.plan_spec.proofs.Padded.{Pads, connected_padded}
use Rattle.plan_spec.proofs.Listed.{listed_padded}
use Rattle.plan_spec.proofs.Groups.{groups_padded}
use Rattle.plan_spec.proofs.WholeWorks.{works_agree, too_wide_exactly}
use Rattle.plan_spec.proofs.Under.{plan_dimensions, dimensions_padded, same_plan}
use Rattle.work_sums.specs.Tally.{works_of}
use Rattle.plan_buffers.specs.declared.WordCounts.{WordCounts}
use Rattle.plan_buffers.specs.SevenBuffers.{Buffers, lengths_of, padded_buffers, result_words, Held}
use Rattle.answer.specs.declared.ActiveComponentPlan.{ActiveComponentPlan}
use Rattle.refusals.specs.declared.Refusal.{Refusal}
use Rattle.answer.specs.Outcome.{Fields, used_in, outcome_of, outcome_in}
use Rattle.answer.proofs.Told.{fields_same}
use Rattle.component_plan.specs.Answer.{Answers}
use Rattle.component_plan.specs.Demand.{plan_in}

-- an answer that is a plan is the definition's plan: its fields, and its words followed by zeros
pub planned_pads : (result : Result) (before after : Buffers) (r : ActiveComponentPlan) → outcome_of (Ok r) ≡ outcome_in result → Held result before after
    → (p : Plan) × (result ≡ completed p) × Pads p (plan_in r after)
planned_pads (completed p) before after r e held =
    let same = fields_same e in (
      p,
      refl,
      record {
        initial_components = ap (λ (f : Fields). f.initial_components) same;
        component_count = ap (λ (f : Fields). f.component_count) same;
        peak = ap (λ (f : Fields). f.peak) same;
        allocated = ap (λ (f : Fields). f.allocated) same;
        steps = (length before.steps, ap (λ (b : Buffers). b.steps) held);
        merges = (length before.merges, ap (λ (b : Buffers). b.merges) held);
        sizes = (length before.sizes, ap (λ (b : Buffers). b.sizes) held);
        rotations = (length before.rotations, ap (λ (b : Buffers). b.rotations) held);
        promotions = (length before.promotions, ap (λ (b : Buffers). b.promotions) held);
        measurements = (length before.measurements, ap (λ (b : Buffers). b.measurements) held);
      },
    )
planned_pads (refused_at number index) before after r e held = let z : ◌≡◌ {A = ℕ} 0 1 = cc in absurd (omega arith)

-- Demand 3 of the answer and the buffers that a call leaves
pub call_connected : (h : Head) (ws : List ℕ) (before after : Buffers) (r : ActiveComponentPlan)
    → Answers h ws before after (Ok r) → 8 ≤ h.max_k → h.nexpvals ≡ 0
    → (m : ℕ) → m ≤ length (instructions_of ws) → Connected h.initial_k (instructions_of ws) (plan_in r after) m
call_connected h ws before after r a wide none m within =
    let found = planned_pads (plan_of h ws (lengths_of before)) before after r a.answer a.held in
    let p = found.0 in
    let plan = accepted h ws (lengths_of before) p (read_head h wide none) found.1 in
    connected_padded h ws (lengths_of before) p (plan_in r after) plan found.2 m within
    (connected h ws (lengths_of before) p found.1 wide none m within)

-- an answer that is a plan counts the definition's words
planned_used : (result : Result) (r : ActiveComponentPlan) → outcome_of (Ok r) ≡ outcome_in result → (p : Plan) → result ≡ completed p → used_in p ≡ r.used
planned_used result r e p same = ap (λ (f : Fields). f.used) (sym (fields_same (e ∙ ap outcome_in same)))

-- 02, CR 3, of the answer and the buffers that a call leaves: each row's part of the merge list, by the numbers of used words
pub call_sources : (h : Head) (ws : List ℕ) (before after : Buffers) (r : ActiveComponentPlan)
    → Answers h ws before after (Ok r) → 8 ≤ h.max_k → h.nexpvals ≡ 0
    → SourcesListed h.initial_k (instructions_of ws) (plan_in r after) (r.used.rotations / 21) (r.used.measurements / 19)
call_sources h ws before after r a wide none =
    let result = plan_of h ws (lengths_of before) in
    let found = planned_pads result before after r a.answer a.held in
    let p = found.0 in
    let used = planned_used result r a.answer p found.1 in
    subst (λ (n : WordCounts). SourcesListed h.initial_k (instructions_of ws) (plan_in r after) (n.rotations / 21) (n.measurements / 19)) used
    (listed_padded h ws (lengths_of before) p (plan_in r after) (accepted h ws (lengths_of before) p (read_head h wide none) found.1) found.2)

-- 02, CR 7, of the answer and the buffers that a call leaves: the lent groups hold the group list of the components that initial_components, steps, rows and merge
-- list give back, and zeros behind it
pub call_groups : (h : Head) (ws : List ℕ) (before after : Buffers) (r : ActiveComponentPlan)
    → Answers h ws before after (Ok r) → 8 ≤ h.max_k → h.nexpvals ≡ 0
    → (zeros : ℕ) × GroupsListed (replay_after (plan_in r after) (length (instructions_of ws))) zeros after.groups
call_groups h ws before after r a wide none =
    let result = plan_of h ws (lengths_of before) in
    let found = planned_pads result before after r a.answer a.held in
    let p = found.0 in
    let held = subst (λ (x : Result). Held x before after) found.1 a.held in
    let zeros = length before.groups - length p.groups in
    (zeros, groups_padded h ws (lengths_of before) p (plan_in r after) (accepted h ws (lengths_of before) p (read_head h wide none) found.1) found.2 zeros (ap (λ (b : Buffers). b.groups) held))

-- an answer that is a plan has the definition's works
planned_works : (result : Result) (r : ActiveComponentPlan) → outcome_of (Ok r) ≡ outcome_in result
    → (p : Plan) × (result ≡ completed p) × (p.whole_works ≡ works_of r.whole_works) × (p.dense_work ≡ r.estimated_dense_work)
    × (p.component_work ≡ r.estimated_component_work)
planned_works (completed p) r e =
    let same = sym (fields_same e) in
    (p, refl, ap (λ (f : Fields). f.whole_works) same, ap (λ (f : Fields). f.dense_work) same, ap (λ (f : Fields). f.component_work) same)
planned_works (refused_at number index) r e = let z : ◌≡◌ {A = ℕ} 0 1 = cc in absurd (omega arith)

-- wherever a call gives whole works, its float works are these numbers
pub call_works_agree : (h : Head) (ws : List ℕ) (before after : Buffers) (r : ActiveComponentPlan) → Answers h ws before after (Ok r)
    → Agree (works_of r.whole_works) r.estimated_dense_work r.estimated_component_work
call_works_agree h ws before after r a =
    let found = planned_works (plan_of h ws (lengths_of before)) r a.answer in
    let p = found.0 in
    subst (λ (x : WholeWorks). Agree x r.estimated_dense_work r.estimated_component_work) found.2
    (subst₂ (λ (d c : Float). Agree p.whole_works d c) found.3 found.4 (works_agree h ws (lengths_of before) p found.1))

-- and it says too wide exactly where the roll's width passes 38
pub call_too_wide : (h : Head) (ws : List ℕ) (before after : Buffers) (r : ActiveComponentPlan) → Answers h ws before after (Ok r)
    → 8 ≤ h.max_k → h.nexpvals ≡ 0 → TooWideExactly h.initial_k (instructions_of ws) (works_of r.whole_works)
call_too_wide h ws before after r a wide none =
    let found = planned_works (plan_of h ws (lengths_of before)) r a.answer in
    subst (λ (x : WholeWorks). TooWideExactly h.initial_k (instructions_of ws) x) found.2
    (too_wide_exactly h ws (lengths_of before) found.0 (read_head h wide none) found.1)

-- 02, CR 4, of the answer and the buffers that a call leaves: every dimension that is asked for is there
pub call_dimensions : (h : Head) (ws : List ℕ) (before after : Buffers) (r : ActiveComponentPlan) → Answers h ws before after (Ok r)
    → 8 ≤ h.max_k → h.nexpvals ≡ 0 → HasDimensions h.ceiling (length (instructions_of ws)) (plan_in r after)
call_dimensions h ws before after r a wide none =
    let found = planned_pads (plan_of h ws (lengths_of before)) before after r a.answer a.held in
    let p = found.0 in
    dimensions_padded h ws (lengths_of before) p (plan_in r after) (accepted h ws (lengths_of before) p (read_head h wide none) found.1) found.2
    (plan_dimensions h ws (lengths_of before) p found.1 wide none)

-- 02, CR 5, of the records of a call that gives a plan: no rotation's sine and cosine are both zero
pub call_squares : (h : Head) (ws : List ℕ) (before after : Buffers) (r : ActiveComponentPlan) → Answers h ws before after (Ok r)
    → 8 ≤ h.max_k → h.nexpvals ≡ 0
    → (i : ℕ) → i < length ws / 8 → kind (record_at ws i) ≡ 0 → IsUnitPair (sine (record_at ws i)) (cosine (record_at ws i))
call_squares h ws before after r a wide none =
    let found = planned_works (plan_of h ws (lengths_of before)) r a.answer in
    rotation_squares h ws (lengths_of before) found.0 (read_head h wide none) found.1

-- buffers of the same lengths hold the same after the same plan
held_same : (p : Plan) (before after before' after' : Buffers) → lengths_of before' ≡ lengths_of before
    → Held (completed p) before after → Held (completed p) before' after' → after' ≡ after
held_same p before after before' after' same held held' =
    held' ∙ ap (λ (l : Lengths). padded_buffers l (result_words (completed p))) same ∙ sym held

-- and under every other ceiling that is above max_k and above each size, a call gives the same answer and leaves the same words
pub call_under : (h : Head) (ws : List ℕ) (before after : Buffers) (r : ActiveComponentPlan) → Answers h ws before after (Ok r)
    → (ceiling : ℕ) → HoldsPlan ceiling h (plan_in r after)
    → (before' after' : Buffers) (r' : Answered ActiveComponentPlan Refusal) → lengths_of before' ≡ lengths_of before → Answers (under ceiling h) ws before' after' r'
    → (outcome_of r' ≡ outcome_of (Ok r)) × (after' ≡ after)
call_under h ws before after r a ceiling holds before' after' r' same a' =
    let found = planned_pads (plan_of h ws (lengths_of before)) before after r a.answer a.held in
    let p = found.0 in
    let there = same_plan h ws (lengths_of before) p found.1 ceiling (record {
      least = holds.least;
      most = holds.most;
      max_below = holds.max_below;
      sizes_below = λ c. subst (λ (n : ℕ). n < ceiling) (zeroed_at p.sizes after.sizes c found.2.sizes) (holds.sizes_below c);
    }) in
    let other : plan_of (under ceiling h) ws (lengths_of before') ≡ completed p = ap (plan_of (under ceiling h) ws) same ∙ there in (
      a'.answer ∙ ap outcome_in (other ∙ sym found.1) ∙ sym a.answer,
      held_same p before after before' after' same (subst (λ (x : Result). Held x before after) found.1 a.held) (subst (λ (x : Result). Held x before' after') other a'.held),
    )
