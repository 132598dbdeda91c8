-- Section 5's claims for the plan of a finished walk, one lemma for each: what the invariant says of the walk's components after m records holds of the
-- replayed ones, since the replay has the same components.
use mathlib.Core.Path.{◌≡◌, refl, sym, ap, ap₂, ◌∙◌, subst}
use mathlib.Core.Logic.{inl, inr, ⊎_elim}
use mathlib.Core.List.{List, [], ◌∷◌, ◌++◌, map}
use Prim.Native.Nat.{ℕ, zero, suc, ◌+◌, ◌*◌, ◌^◌, ◌≤◌, ◌<◌, max}
use native.Mathlib.Omega.{arith}
use lib.ListN.{length, get_or, length-append}
use native.Mathlib.Nat.{le_trans, le_refl}
use lib.Pow.{pow_mono}
use Rattle.words.specs.Lists.{numbers_from}
use Rattle.words.proofs.Numbers.{length-numbers}
use Rattle.kernels.specs.Bits.{bit_at}
use Rattle.kernels.specs.declared.active.ActivePauliAction.{ActivePauliAction}
use Rattle.records.specs.declared.Instruction.{Instruction}
use Rattle.records.specs.declared.Instruction.TheVariants.{Rotation, Promotion, RecordMeasurement, RecordDetector, Measurement, Expectation, DormantBranch}
use Rattle.plan_spec.specs.Lists.{place_of, total, concat}
use Rattle.plan_spec.specs.Rows.{row_component, row_width, row_x, row_z, measurement_pivot}
use Rattle.plan_spec.specs.Components.{support, local_mask, live_dimension, amplitudes}
use Rattle.plan_spec.specs.Walk.{Walk, join_of, local_action, start, no_step, ignored_step, promotion_step, rotation_step, measurement_step, row_head, rotation_row, measurement_row}
use Rattle.plan_spec.specs.Plan.{Plan, plan_from}
use Rattle.plan_spec.specs.Connectivity.{Member, ActiveOrder, active_start, active_step, active_after, with_links, advanced, support_of, rotation_at, measurement_at, replay_joined, replay_after, longest_of, AreLocalBits, JoinHolds, JoinClaim, promotions_in, measurements_in}
use Rattle.plan_spec.proofs.Counting.{place_below, place_holds, member_at, length_remove_at}
use Rattle.plan_spec.proofs.Steps.{Stepped, ignored, rotated, promoted, measured, recorded, detected, expected, branched, Run, done, more}
use Rattle.plan_spec.proofs.Joins.{gathered_from, gathered_holds}
use Rattle.plan_spec.proofs.LocalBits.{local_bit, local_clear, support_same, support_member}
use Rattle.plan_spec.proofs.Invariant.{listed_active, active_listed, holds_source, anchored_cases}
use Rattle.plan_spec.proofs.Growth.{Grown, AllOf, grown_trans, run_grown, step_steps}
use Rattle.plan_spec.proofs.Tracking.{Tracked, active_of, tracked_here, target_members, join_length, rotation_action, measurement_keeps, start_tracked, step_tracked}
use Rattle.plan_spec.proofs.Replay.{joined_components, ReplayIs, rotation_kind, rotation_row_lem, measurement_kind, measurement_row_lem, measurement_named, step_joined, step_replay}
use Rattle.plan_spec.proofs.Longest.{size_at, Long, start_long, step_long, long_after}

-- ---- the bins' members are the components'

pub map_same : {A : Type 0} (f g : ℕ → A) → ((i : ℕ) → f i ≡ g i) → (xs : List ℕ) → map f xs ≡ map g xs
map_same f g e [] = refl
map_same f g e (x ∷ xs) = ap₂ (λ (a : _) (l : List _). a ∷ l) (e x) (map_same f g e xs)

map_numbers : {A : Type 0} (f : ℕ → A) (a n : ℕ) → map f (numbers_from (suc a) n) ≡ map (λ i. f (suc i)) (numbers_from a n)
map_numbers f a zero = refl
map_numbers f a (suc n) = ap (λ (l : List _). f (suc a) ∷ l) (map_numbers f (suc a) n)

-- beyond the last list there is nothing
concat_nothing : (n a : ℕ) → concat (map (λ (i : ℕ). ◌++◌ {A = ℕ} [] []) (numbers_from a n)) ≡ []
concat_nothing zero a = refl
concat_nothing (suc n) a = concat_nothing n (suc a)

pub concat_numbers : (cs : List (List ℕ)) (n : ℕ) → length cs ≤ n → concat (map (λ i. get_or cs i []) (numbers_from 0 n)) ≡ concat cs
concat_numbers [] n h = concat_nothing n 0
concat_numbers (x ∷ cs) zero h = absurd (omega arith)
concat_numbers (x ∷ cs) (suc n) h =
    ap (λ (l : List (List ℕ)). x ++ concat l) (map_numbers (λ i. get_or (x ∷ cs) i []) 0 n) ∙ ap (λ (l : List ℕ). x ++ l) (concat_numbers cs n (omega arith))

-- ---- how many are active

step_count : {limit : ℕ} {w v : Walk} {i : Instruction} → Stepped limit w i v → length v.order + measurements_in i ≡ length w.order + promotions_in i
unfolding no_step ignored_step promotion_step rotation_step measurement_step
step_count (ignored x z phase angle sine cosine empty) = refl
step_count (rotated width x z phase angle sine cosine k wide active small fits made) = refl
step_count {w = w} promoted = let e = length-append w.order (length w.components ∷ []) in omega arith
step_count {w = w} (measured width x z phase pivot k wide active small fits below inside made) = let e = length_remove_at pivot w.order below in omega arith
step_count recorded = refl
step_count detected = refl
step_count expected = refl
step_count branched = refl

pub start_order : (k : ℕ) → length (start k).order ≡ k
unfolding start
start_order k = length-numbers 0 k

pub run_count : {limit : ℕ} {w u : Walk} {is : List Instruction} → Run limit w is u
    → length u.order + total (map measurements_in is) ≡ length w.order + total (map promotions_in is)
run_count (done w) = refl
run_count (more s rest) = let e = step_count s in let f = run_count rest in omega arith

-- the next coordinate's number only grows
step_next : (r : ActiveOrder) (i : Instruction) → r.next ≤ (active_step r i).next
unfolding with_links advanced
step_next r (Rotation width x z phase angle sine cosine) = omega arith
step_next r Promotion = omega arith
step_next r (Measurement width x z phase pivot) = omega arith
step_next r RecordMeasurement = omega arith
step_next r RecordDetector = omega arith
step_next r Expectation = omega arith
step_next r DormantBranch = omega arith

pub next_grows : (r : ActiveOrder) (is : List Instruction) → r.next ≤ (active_after r is).next
next_grows r [] = omega arith
next_grows r (i ∷ is) = let e = step_next r i in let f = next_grows (active_step r i) is in omega arith

-- ---- just after a join

module _ (w : Walk) (r : ActiveOrder) (t : Tracked w r) (width x z : ℕ) (wide : width ≡ length w.order) where
  abbrev members : List ℕ
  members = (join_of x z w).members

  -- a join's members are active, and hold the support
  member_active : (a : ℕ) → Member a members → Member a r.order
  unfolding join_of
  member_active a m =
      let g = gathered_from w.components (join_of x z w).sources a m in
      subst (λ (o : List ℕ). Member a o) t.order_same (listed_active w.components (active_of w r) (tracked_here w r t) a g.0 g.2)

  support_held : (a : ℕ) → Member a (support_of width x z r.order) → Member a members
  unfolding join_of
  support_held a m =
      let same : support_of width x z r.order ≡ support x z w.order =
      ap₂ (λ (n : ℕ) (o : List ℕ). support_of n x z o) wide (sym t.order_same) ∙ sym (support_same x z w.order) in
      let s : Member a (support x z w.order) = subst (λ (l : List ℕ). Member a l) same m in
      let h = tracked_here w r t in
      let l = active_listed w.components (active_of w r) h a (support_member x z w.order a s) in
      let coordinate =
      ⊎_elim
      (λ e. let n : Member a [] = subst (λ (k : List ℕ). Member a k) e s in absurd (omega arith))
      (λ e. subst (λ (k : List ℕ). Member a k) (sym e) s)
      (anchored_cases w.order (support x z w.order)) in
      gathered_holds w.components (join_of x z w).sources a l.0
      (holds_source w.components (active_of w r) h x z l.0 a l.1 coordinate l.2) l.2

  pub join_holds : (component row : List ℕ) → component ≡ members → row_width row ≡ length members → row_x row ≡ local_mask x w.order members
      → row_z row ≡ local_mask z w.order members → JoinHolds r.order (support_of width x z r.order) component row x z
  join_holds component row same size xs zs = record {
    whole_support = λ a m. subst (λ (l : List ℕ). Member a l) (sym same) (support_held a m);
    local_width = ap length same ∙ sym size;
    bits = λ j h. local j (subst (λ (n : ℕ). j < n) size h);
    x_clear = λ j h. ap (λ (n : ℕ). bit_at n j) xs ∙ local_clear x w.order members j (subst (λ (n : ℕ). n ≤ j) size h);
    z_clear = λ j h. ap (λ (n : ℕ). bit_at n j) zs ∙ local_clear z w.order members j (subst (λ (n : ℕ). n ≤ j) size h);
  }
    where
      local : (j : ℕ) → j < length members → AreLocalBits r.order component x z (row_x row) (row_z row) j
      local j h =
          let a = get_or members j 0 in
          let on = member_active a (member_at members j h) in
          let order = t.order_same in record {
            position = place_of a r.order;
            on_order = place_below a r.order on;
            same = place_holds a r.order on ∙ sym (ap (λ (l : List ℕ). get_or l j 0) same);
            x_bit = ap (λ (n : ℕ). bit_at n j) xs ∙ local_bit x w.order members j h ∙ ap (λ (o : List ℕ). bit_at x (place_of a o)) order;
            z_bit = ap (λ (n : ℕ). bit_at n j) zs ∙ local_bit z w.order members j h ∙ ap (λ (o : List ℕ). bit_at z (place_of a o)) order;
          }

-- ---- the rows' claims, and the longest sizes, along the replay

-- component, local width and masks in a row of either kind
head_entries : (row tail : List ℕ) (component offset count : ℕ) (a b : ActivePauliAction) → row ≡ row_head component offset count a ++ tail → a ≡ b
    → (row_component row ≡ component) × (row_width row ≡ b.nqubits) × (row_x row ≡ b.xmask) × (row_z row ≡ b.zmask)
unfolding row_head
head_entries row tail component offset count a b e same = (
  ap row_component e,
  ap row_width e ∙ ap (λ (c : ActivePauliAction). c.nqubits) same,
  ap row_x e ∙ ap (λ (c : ActivePauliAction). c.xmask) same,
  ap row_z e ∙ ap (λ (c : ActivePauliAction). c.zmask) same,
)

module _ (initial dense_peak : ℕ) (u : Walk) (rotations_wide : AllOf 21 u.written.rotations) (measurements_wide : AllOf 19 u.written.measurements) where
  abbrev plan : Plan
  plan = plan_from initial dense_peak u

  abbrev Follows : ℕ → Walk → Type 0
  Follows m w = ReplayIs initial dense_peak u rotations_wide measurements_wide m w

  pub step_claim : {limit : ℕ} {w v : Walk} {i : Instruction} (m : ℕ) (r : ActiveOrder) → Stepped limit w i v → length w.written.steps ≡ 2 * m → Grown v.written u.written
      → Tracked w r → Follows m w → JoinClaim plan m r i
  unfolding JoinClaim joined_components rotation_row measurement_row
  step_claim m r (ignored x z phase angle sine cosine empty) l g t replay = inl (sym t.order_same ∙ empty)
  step_claim {limit = limit} {w = w} m r (rotated width x z phase angle sine cosine k wide active small fits made) l g t replay =
      let j = join_of x z w in
      let row = head_entries (rotation_at plan m) _ j.component _ _ k.action (local_action x z phase w j)
      (rotation_row_lem initial dense_peak u rotations_wide measurements_wide m w j k l g)
      (rotation_action limit (local_action x z phase w j) phase angle sine cosine k made) in
      let component = step_joined initial dense_peak u rotations_wide measurements_wide {limit = limit} m r (rotated width x z phase angle sine cosine k wide active small fits made) l g t replay
      (row_component (rotation_at plan m)) in
      inr record {
        kind = rotation_kind initial dense_peak u rotations_wide measurements_wide m w j k l g;
        holds = join_holds w r t width x z wide (replay_joined plan m (replay_after plan m) (row_component (rotation_at plan m))) (rotation_at plan m)
            (component ∙ ap (λ (c : ℕ). get_or j.components c []) row.0 ∙ target_members w r t x z active) row.1 row.2 row.3;
      }
  step_claim m r promoted l g t replay = tt
  step_claim {limit = limit} {w = w} m r (measured width x z phase pivot k wide active small fits below inside made) l g t replay =
      let j = join_of x z w in
      let kept = measurement_keeps limit (local_action x z phase w j) phase (place_of (get_or w.order pivot 0) j.members) k made in
      let row = head_entries (measurement_at plan m) _ j.component _ _ k.action (local_action x z phase w j)
      (measurement_row_lem initial dense_peak u rotations_wide measurements_wide m w j pivot k l g) kept.0 in
      let named = measurement_named initial dense_peak u rotations_wide measurements_wide m w j pivot k l g in
      let component = step_joined initial dense_peak u rotations_wide measurements_wide {limit = limit} m r (measured width x z phase pivot k wide active small fits below inside made) l g t replay
      (row_component (measurement_at plan m)) in
      let same = component ∙ ap (λ (c : ℕ). get_or j.components c []) row.0 ∙ target_members w r t x z active in
      let local = named.1 ∙ kept.1 in record {
        kind = measurement_kind initial dense_peak u rotations_wide measurements_wide m w j pivot k l g;
        holds = join_holds w r t width x z wide (replay_joined plan m (replay_after plan m) (row_component (measurement_at plan m))) (measurement_at plan m) same row.1 row.2 row.3;
        pivot_active = subst (λ (o : List ℕ). pivot < length o) t.order_same below;
        pivot_local = subst (λ (n : ℕ). measurement_pivot (measurement_at plan m) < n) (sym row.1)
            (subst (λ (q : ℕ). q < length j.members) (sym local) (place_below (get_or w.order pivot 0) j.members inside));
        pivot_same =
            ap₂ (λ (l : List ℕ) (q : ℕ). get_or l q 0) same local ∙ place_holds (get_or w.order pivot 0) j.members inside
            ∙ ap (λ (o : List ℕ). get_or o pivot 0) t.order_same;
      }
  step_claim m r recorded l g t replay = tt
  step_claim m r detected l g t replay = tt
  step_claim m r expected l g t replay = tt
  step_claim m r branched l g t replay = tt

  -- the longest size of bin c so far is what the walk has
  abbrev LongIs : ℕ → Walk → Type 0
  LongIs m w = (c : ℕ) → longest_of plan m c ≡ get_or w.longest c 0

  pub run_long : {limit : ℕ} {w v : Walk} {is : List Instruction} (m : ℕ) (r : ActiveOrder) → Run limit w is v → Grown v.written u.written → length w.written.steps ≡ 2 * m
      → Tracked w r → Follows m w → Long w → LongIs m w → LongIs (m + length is) v
  run_long m r (done w) g l t replay long so_far c =
      let e : m + 0 ≡ m = omega arith in ap (λ (n : ℕ). longest_of plan n c) e ∙ so_far c
  run_long m r (more {w = w} {v = v} {i = i} {is = is} s rest) g l t replay long so_far c =
      let mid = grown_trans (run_grown rest) g in
      let steps = step_steps s in
      let next = step_long r s t long in
      let joined = step_joined initial dense_peak u rotations_wide measurements_wide m r s l mid t replay in
      let after = step_replay initial dense_peak u rotations_wide measurements_wide m r s l mid t replay in
      let e : m + suc (length is) ≡ suc m + length is = omega arith in
      ap (λ (n : ℕ). longest_of plan n c) e
      ∙ run_long (suc m) (active_step r i) rest g (omega arith) (step_tracked r s t) after (long_after w v (joined_components s) next)
      (λ d. ap₂ (λ (a b : ℕ). max a b) (so_far d) (ap₂ (λ (x y : List ℕ). max (length x) (length y)) (joined d) (after d)) ∙ sym (next d)) c

-- ---- the peak is at most the sum of the longest sizes' powers

-- a live dimension is at most that sum where no size is above its longest
live_total : (cs : List (List ℕ)) (longest : List ℕ) → length cs ≤ length longest → ((i : ℕ) → size_at cs i ≤ get_or longest i 0)
    → total (map amplitudes cs) ≤ total (map (λ l. 2 ^ l) longest)
live_total [] longest h e = omega arith
live_total (m ∷ cs) [] h e = absurd (omega arith)
live_total (m ∷ cs) (l ∷ longest) h e =
    let rest = live_total cs longest (omega arith) (λ i. e (suc i)) in
    let here = le_trans (amplitudes_most m) (pow_mono {i = length m} {j = l} (e 0)) in omega arith
  where
    amplitudes_most : (m : List ℕ) → amplitudes m ≤ 2 ^ length m
    amplitudes_most [] = omega arith
    amplitudes_most (a ∷ m) = le_refl (2 ^ suc (length m))

-- and the sum only grows
total_grows : (xs ys : List ℕ) → length xs ≤ length ys → ((i : ℕ) → get_or xs i 0 ≤ get_or ys i 0) → total (map (λ l. 2 ^ l) xs) ≤ total (map (λ l. 2 ^ l) ys)
total_grows [] ys h e = omega arith
total_grows (x ∷ xs) [] h e = absurd (omega arith)
total_grows (x ∷ xs) (y ∷ ys) h e =
    let rest = total_grows xs ys (omega arith) (λ i. e (suc i)) in
    let here = pow_mono {i = x} {j = y} (e 0) in omega arith

abbrev pub PeakFits : Walk → Type 0
PeakFits w = w.peak ≤ total (map (λ l. 2 ^ l) w.longest)

-- a step raises the peak at most to the live dimensions of its joined and its last components
step_raises : {limit : ℕ} {w v : Walk} {i : Instruction} (s : Stepped limit w i v) → v.peak ≤ max w.peak (max (live_dimension (joined_components s)) (live_dimension v.components))
unfolding joined_components join_of no_step ignored_step promotion_step rotation_step measurement_step
step_raises (ignored x z phase angle sine cosine empty) = omega arith
step_raises (rotated width x z phase angle sine cosine k wide active small fits made) = omega arith
step_raises promoted = omega arith
step_raises (measured width x z phase pivot k wide active small fits below inside made) = omega arith
step_raises recorded = omega arith
step_raises detected = omega arith
step_raises expected = omega arith
step_raises branched = omega arith

joined_shorter : {limit : ℕ} {w v : Walk} {i : Instruction} (r : ActiveOrder) (s : Stepped limit w i v) → Tracked w r → length (joined_components s) ≡ length w.components
unfolding joined_components
joined_shorter r (ignored x z phase angle sine cosine empty) t = refl
joined_shorter {w = w} r (rotated width x z phase angle sine cosine k wide active small fits made) t = join_length w r t x z active
joined_shorter r promoted t = refl
joined_shorter {w = w} r (measured width x z phase pivot k wide active small fits below inside made) t = join_length w r t x z active
joined_shorter r recorded t = refl
joined_shorter r detected t = refl
joined_shorter r expected t = refl
joined_shorter r branched t = refl

live_fits : (cs : List (List ℕ)) (longest : List ℕ) → length cs ≤ length longest → ((i : ℕ) → size_at cs i ≤ get_or longest i 0)
    → live_dimension cs ≤ total (map (λ l. 2 ^ l) longest)
unfolding live_dimension
live_fits cs longest h e = live_total cs longest h e

step_fits : {limit : ℕ} {w v : Walk} {i : Instruction} (r : ActiveOrder) (s : Stepped limit w i v) → Tracked w r → Long w → PeakFits w → PeakFits v
step_fits {w = w} {v = v} {i = i} r s t long fits =
    let after = step_tracked r s t in
    let next = step_long r s t long in
    let grows = step_next r i in
    let a = t.longest_same in
    let b = t.holds.next_same in
    let c = after.longest_same in
    let d = after.holds.next_same in
    let e = joined_shorter r s t in
    let raised = step_raises s in
    let old = total_grows w.longest v.longest (omega arith) (λ k. let n = next k in omega arith) in
    let joined = live_fits (joined_components s) v.longest (omega arith) (λ k. let n = next k in omega arith) in
    let last = live_fits v.components v.longest (omega arith) (λ k. let n = next k in omega arith) in omega arith

run_fits : {limit : ℕ} {w u : Walk} {is : List Instruction} (r : ActiveOrder) → Run limit w is u → Tracked w r → Long w → PeakFits w → PeakFits u
run_fits r (done w) t long fits = fits
run_fits r (more {w = w} {v = v} {i = i} s rest) t long fits =
    run_fits (active_step r i) rest (step_tracked r s t) (long_after w v (joined_components s) (step_long r s t long)) (step_fits r s t long fits)

pub start_is_long : (k : ℕ) → Long (start k)
start_is_long k i = let e = start_long k i in omega arith

start_fits : (k : ℕ) → PeakFits (start k)
unfolding start
start_fits k =
    live_fits (map (λ c. c ∷ []) (numbers_from 0 k)) (start k).longest (let e = (start_tracked k).longest_same in omega arith)
    (λ i. let e = start_long k i in omega arith)

pub peak_total : {limit : ℕ} (k : ℕ) {u : Walk} {is : List Instruction} → Run limit (start k) is u → PeakFits u
peak_total k run = run_fits (active_start k) run (start_tracked k) (start_is_long k) (start_fits k)

-- ---- the sum over the bins is the sum over the longest sizes

pub map_entries : (f : ℕ → ℕ) (xs : List ℕ) (n : ℕ) → length xs ≡ n → map (λ i. f (get_or xs i 0)) (numbers_from 0 n) ≡ map f xs
map_entries f [] zero h = refl
map_entries f [] (suc n) h = absurd (omega arith)
map_entries f (x ∷ xs) zero h = absurd (omega arith)
map_entries f (x ∷ xs) (suc n) h =
    ap (λ (l : List ℕ). f x ∷ l) (map_numbers (λ i. f (get_or (x ∷ xs) i 0)) 0 n ∙ map_entries f xs n (omega arith))
