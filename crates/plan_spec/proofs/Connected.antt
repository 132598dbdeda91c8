-- Demand 3: for every accepted program that was read, every list of records and every m, all claims of 01, section 5, hold of its plan. The walk's run is cut
-- after m records; there the invariant of the walk and the agreement of the replay with it give each claim.
use mathlib.Core.Path.{◌≡◌, refl, sym, ap, ap₂, ◌∙◌, subst}
use mathlib.Core.Logic.{◌↔◌}
use mathlib.Core.Bool.{Bool, false, not, ◌||◌}
use mathlib.Core.List.{List, [], ◌∷◌, map}
use Prim.Native.Nat.{ℕ, suc, ◌+◌, ◌-◌, ◌*◌, ◌^◌, ◌≤◌, ◌<◌, min, max}
use native.Mathlib.Omega.{arith}
use lib.ListN.{length, get_or, take, drop, length-take, get_or-eq_default}
use lib.Seq.{drop-cons}
use Rattle.refusals.specs.Answer.{completed}
use borrow.Author.Tests.{eq-eqb, le-ltb}
use Rattle.words.specs.Lists.{numbers_from}
use Rattle.records.specs.Record.{instructions_of}
use Rattle.records.specs.declared.Head.{Head}
use Rattle.records.specs.declared.Instruction.{Instruction}
use Rattle.records.specs.declared.Instruction.TheVariants.{DormantBranch}
use Rattle.plan_spec.specs.Lists.{total, concat}
use Rattle.plan_spec.specs.Components.{allocated_for}
use Rattle.plan_spec.specs.Walk.{Walk, start}
use Rattle.plan_spec.specs.Plan.{Lengths, Plan, unread, plan_from, plan_of}
use Rattle.plan_spec.specs.Connectivity.{occurrences, Member, NoRepeats, Rearranged, greatest, ActiveOrder, active_start, active_after, Linked, live_at, moments, replay_after, replay_members, AreInOneComponent, longest_of, JoinClaim, promotions_in, measurements_in, Connected}
use Rattle.plan_spec.proofs.Steps.{Stepped, Run, more, run_split}
use Rattle.plan_spec.proofs.Classes.{class_linked}
use Rattle.plan_spec.proofs.Live.{rearranged_length}
use Rattle.plan_spec.proofs.Invariant.{holds_start, listed_below}
use Rattle.plan_spec.proofs.Growth.{AllOf, Grown, grown_refl, run_grown, run_steps, run_rotations, run_measurements, start_wide}
use Rattle.plan_spec.proofs.Tracking.{Tracked, live_same, start_tracked, run_tracked, run_peak}
use Rattle.plan_spec.proofs.Replay.{ReplayIs, run_replay, start_replay}
use Rattle.plan_spec.proofs.Longest.{start_long}
use Rattle.plan_spec.proofs.Claims.{map_same, concat_numbers, map_entries, start_order, run_count, next_grows, step_claim, run_long, start_is_long, peak_total}
use Rattle.plan_spec.proofs.Gathering.{all_gather}
use Rattle.plan_spec.proofs.Room.{component_count, plan_fits}
use Rattle.plan_spec.proofs.Accepted.{accepted}

start_peak : (k : ℕ) → (start k).peak ≡ live_at (active_start k)
unfolding start
start_peak k = live_same (map (λ c. c ∷ []) (numbers_from 0 k)) (active_start k) (holds_start k)

module _ (limit k dense_peak : ℕ) (is : List Instruction) (u : Walk) (run : Run limit (start k) is u) where
  abbrev plan : Plan
  plan = plan_from k dense_peak u

  pub rotations_wide : AllOf 21 u.written.rotations
  rotations_wide = run_rotations run (start_wide k 21).0

  pub measurements_wide : AllOf 19 u.written.measurements
  measurements_wide = run_measurements run (start_wide k 19).1

  abbrev pub Follows : ℕ → Walk → Type 0
  Follows m w = ReplayIs k dense_peak u rotations_wide measurements_wide m w

  pub start_steps : length (start k).written.steps ≡ 2 * 0
  unfolding start
  start_steps = refl

  -- the walk after m records
  pub record At (m : ℕ) : Type 0 where
    pub state : Walk
    pub front : Run limit (start k) (take m is) state
    pub back : Run limit state (drop m is) u
    pub tracked : Tracked state (active_after (active_start k) (take m is))
    pub follows : Follows m state
    pub steps_same : length state.written.steps ≡ 2 * m
    pub components_within : length state.components ≤ length u.components

  pub cut : (m : ℕ) → m ≤ length is → At m
  cut m h =
      let parts = run_split m run in
      let taken : length (take m is) ≡ m = let e = length-take m is in omega arith in
      let t = run_tracked (active_start k) parts.1 (start_tracked k) in
      let last = run_tracked (active_after (active_start k) (take m is)) parts.2 t in
      let replay = run_replay k dense_peak u rotations_wide measurements_wide 0 (active_start k) parts.1 (run_grown parts.2) start_steps (start_tracked k)
      (start_replay k dense_peak u rotations_wide measurements_wide) in
      let steps = run_steps parts.1 in
      let zero_steps = start_steps in
      let grows = next_grows (active_after (active_start k) (take m is)) (drop m is) in
      let a = t.holds.next_same in
      let b = last.holds.next_same in record {
        state = parts.0;
        front = parts.1;
        back = parts.2;
        tracked = t;
        follows = λ i. let e : 0 + length (take m is) ≡ m = omega arith in ap (λ (n : ℕ). replay_after plan n i) (sym e) ∙ replay i;
        steps_same = omega arith;
        components_within = omega arith;
      }

  module _ (m : ℕ) (at : At m) where
    abbrev now_active : ActiveOrder
    now_active = active_after (active_start k) (take m is)

    abbrev components : List (List ℕ)
    components = at.state.components

    -- the bins' members are the components', one after the other
    members_are : replay_members plan (replay_after plan m) ≡ concat components
    unfolding plan_from
    members_are =
        ap concat (map_same (replay_after plan m) (λ i. get_or components i []) at.follows (numbers_from 0 (length u.components)))
        ∙ concat_numbers components (length u.components) at.components_within

    beyond : (i : ℕ) → plan.component_count ≤ i → replay_after plan m i ≡ []
    unfolding plan_from
    beyond i h = at.follows i ∙ get_or-eq_default components [] (let w = at.components_within in omega arith)

    rearranged : Rearranged (replay_members plan (replay_after plan m)) now_active.order
    rearranged a = ap (occurrences a) members_are ∙ at.tracked.holds.held a

    once : NoRepeats (replay_members plan (replay_after plan m))
    once a = let e = rearranged a in let o = at.tracked.holds.once a in omega arith

    counted : length (replay_members plan (replay_after plan m)) + total (map measurements_in (take m is)) ≡ k + total (map promotions_in (take m is))
    counted =
        let e = rearranged_length (replay_members plan (replay_after plan m)) now_active.order rearranged in
        let o = ap length at.tracked.order_same in
        let c = run_count at.front in
        let s = start_order k in omega arith

    same_components : (a b : ℕ) → Member a now_active.order → Member b now_active.order → AreInOneComponent plan (replay_after plan m) a b ↔ Linked now_active.links a b
    unfolding plan_from
    same_components a b ma mb =
        let h = at.tracked.holds in
        let c = h.classes a b ma mb in
        let l = class_linked now_active.links a b in (
          λ s. l.0 (c.0 (s.component, subst (λ (xs : List ℕ). Member a xs) (at.follows s.component) s.first, subst (λ (xs : List ℕ). Member b xs) (at.follows s.component) s.second)),
          λ x. let s = c.1 (l.1 x) in record {
            component = s.0;
            listed = let i = listed_below components s.0 a s.1 in let w = at.components_within in omega arith;
            first = subst (λ (xs : List ℕ). Member a xs) (sym (at.follows s.0)) s.1;
            second = subst (λ (xs : List ℕ). Member b xs) (sym (at.follows s.0)) s.2;
          },
        )

    -- what holds of the step that the walk takes after m records holds of record m
    pub next_step : (claim : Instruction → Type 0) → ((v : Walk) (i : Instruction) → Stepped limit at.state i v → Grown v.written u.written → claim i)
        → m < length is → claim (get_or is m DormantBranch)
    next_step claim of-step h = first (drop m is) at.back (drop-cons is m DormantBranch h)
      where
        first : (rest : List Instruction) → Run limit at.state rest u → rest ≡ get_or is m DormantBranch ∷ drop (suc m) is → claim (get_or is m DormantBranch)
        first [] r e = let z : ◌≡◌ {A = ℕ} 0 1 = cc in absurd (omega arith)
        first (i ∷ rest) r e =
            let same : i ≡ get_or is m DormantBranch = cc in
            subst claim same (of_run i rest r)
          where
            of_run : (i : Instruction) (rest : List Instruction) → Run limit at.state (i ∷ rest) u → claim i
            of_run i rest (more {v = v} s later) = of-step v i s (run_grown later)

    claims : m < length is → JoinClaim plan m now_active (get_or is m DormantBranch)
    claims h =
        next_step (JoinClaim plan m now_active)
        (λ v i s g. step_claim k dense_peak u rotations_wide measurements_wide m now_active s at.steps_same g at.tracked at.follows) h

  -- the components are those at the start and one for each promotion
  made : plan.component_count ≡ k + total (map promotions_in is)
  unfolding plan_from
  made = component_count k run

  -- the plan's peak is the greatest live dimension over all moments
  peak_is : plan.peak ≡ greatest (map live_at (active_start k ∷ moments (active_start k) is))
  unfolding plan_from
  peak_is = run_peak (active_start k) run (start_tracked k) ∙ ap (λ (n : ℕ). max n (greatest (map live_at (moments (active_start k) is)))) (start_peak k)

  -- the longest sizes are the greatest lengths of the bins
  pub longest_is : (c : ℕ) → longest_of plan (length is) c ≡ get_or u.longest c 0
  longest_is c =
      let e : length is ≡ 0 + length is = omega arith in
      ap (λ (n : ℕ). longest_of plan n c) e
      ∙ run_long k dense_peak u rotations_wide measurements_wide 0 (active_start k) run (grown_refl u.written) start_steps (start_tracked k)
      (start_replay k dense_peak u rotations_wide measurements_wide) (start_is_long k)
      (λ d. ap length (start_replay k dense_peak u rotations_wide measurements_wide d) ∙ sym (start_long k d)) c

  allocated_is : plan.allocated ≡ min (2 ^ 64 - 1) (total (map (λ c. 2 ^ longest_of plan (length is) c) (numbers_from 0 plan.component_count)))
  unfolding plan_from allocated_for
  allocated_is =
      let last = run_tracked (active_start k) run (start_tracked k) in
      ap (λ (l : List ℕ). min (2 ^ 64 - 1) (total l))
      (sym (map_same (λ c. 2 ^ longest_of plan (length is) c) (λ c. 2 ^ get_or u.longest c 0) (λ c. ap (λ (n : ℕ). 2 ^ n) (longest_is c)) (numbers_from 0 (length u.components))
      ∙ map_entries (λ n. 2 ^ n) u.longest (length u.components) last.longest_same))

  peak_below : plan.peak < 2 ^ 63 → plan.peak ≤ plan.allocated
  unfolding plan_from allocated_for
  peak_below small = let e = peak_total k run in omega arith

  pub run_connected : plan.peak < 2 ^ 63 → (m : ℕ) → m ≤ length is → Connected k is plan m
  run_connected small m h =
      let at = cut m h in record {
        rearrangement = rearranged m at;
        no_repeats = once m at;
        none_beyond = beyond m at;
        all_made = made;
        count = counted m at;
        same_component = same_components m at;
        joins = claims m at;
        gathered = all_gather k run (start_tracked k);
        peak = peak_is;
        allocated = allocated_is;
        peak_fits = peak_below small;
      }

-- a head with max_k of at least 8 and no expectation values has its records read
pub read_head : (h : Head) → 8 ≤ h.max_k → h.nexpvals ≡ 0 → unread h ≡ false
read_head h wide none = ap₂ (λ (a b : Bool). a || not b) (le-ltb h.max_k 8 wide) (eq-eqb h.nexpvals 0 none)

-- Demand 3
pub connected : (h : Head) (ws : List ℕ) (l : Lengths) (p : Plan) → plan_of h ws l ≡ completed p → 8 ≤ h.max_k → h.nexpvals ≡ 0
    → (m : ℕ) → m ≤ length (instructions_of ws) → Connected h.initial_k (instructions_of ws) p m
connected h ws l p e wide none m within =
    let a = accepted h ws l p (read_head h wide none) e in
    let small = subst (λ (q : Plan). q.peak < 2 ^ 63) a.plan_is (plan_fits h ws l p e).peak in
    subst (λ (q : Plan). Connected h.initial_k (instructions_of ws) q m) (sym a.plan_is)
    (run_connected h.ceiling h.initial_k a.dense_peak (instructions_of ws) a.last a.run small m within)
