-- What always suffices. Merges: a join lists s sources, writes one row and leaves s - 1 components fewer with members, so that merges and components with
-- members together grow by one a row. Peak: a record's width is the number of members, at most 62, and sizes that add up to 62 give powers of two that add up
-- to 2 ^ 62 at most; a promotion adds 2. Groups: a count for each component with members, and the members.
use Rattle.std.specs.Prelude.{Option, Some, None}
use mathlib.Core.Path.{◌≡◌, refl, sym, ap, ap₂, ◌∙◌, subst, subst₂}
use mathlib.Core.Logic.{⊎_elim}
use mathlib.Core.Bool.{Bool, true, false, cond, ◌||◌}
use mathlib.Core.List.{List, [], ◌∷◌, ◌++◌, map}
use Prim.Native.Nat.{ℕ, zero, suc, ◌+◌, ◌-◌, ◌*◌, ◌/◌, ◌^◌, ◌≤◌, ◌<◌}
use native.Mathlib.Nat.{mul-le-mul_left, mul-le-mul_right, eq-zero-or-pos}
use native.Mathlib.Omega.{arith}
use lib.Dec.{eqb, ltb}
use lib.Ieee.{fin}
use lib.IntN.{pos}
use lib.ListN.{length, get_or, set, length-set, length-append, length-map}
use lib.Seq.{get_or-set_other, take-length}
use lib.Pow.{pow_mono, pow-add}
use Rattle.refusals.specs.Answer.{completed, refused_at}
use borrow.Author.Tests.{ltb-false, ne_eqb}
use Rattle.words.specs.Lists.{numbers_from}
use Rattle.words.proofs.Numbers.{same_or_not, length-numbers}
use Rattle.records.specs.Record.{kind, width, x_mask, z_mask, phase, pivot, flag, measurement_of, instructions_by_kind, instruction_of, record_at, records_of, instructions_of}
use Rattle.records.specs.Pass.{Passed, coordinates_after, record_pass}
use Rattle.records.specs.Sound.{IsSound, coordinates_through}
use Rattle.records.specs.declared.Head.{Head}
use Rattle.records.specs.declared.Instruction.{Instruction}
use Rattle.records.specs.declared.Instruction.TheVariants.{Rotation, Promotion, RecordMeasurement, RecordDetector, Measurement, Expectation, DormantBranch}
use Rattle.records.proofs.Laws.{passed_sound, passed_coordinates, instructions_length, instruction_at}
use Rattle.plan_spec.specs.Lists.{remove_at, total, concat}
use Rattle.plan_spec.specs.Components.{gathered, emptied, joined, amplitudes, live_dimension}
use Rattle.plan_spec.specs.WholeWorks.{without_quotient}
use Rattle.plan_spec.specs.Walk.{Written, Walk, Join, join_of, rotation_row, measurement_row, start, no_step, ignored_step, promotion_step, rotation_step, measurement_step}
use Rattle.plan_spec.specs.Plan.{Lengths, Plan, unread, unread_plan, groups_of, plan_from, buffers_refused, max_dimension, for_dense_peak, plan_of, Result, held_after}
use Rattle.plan_spec.specs.Connectivity.{occurrences, Member, NoRepeats, ActiveOrder, active_start, active_step, active_after, promotions_in}
use Rattle.plan_spec.specs.Laws.{Fits, FitsIn}
use Rattle.plan_spec.proofs.Counting.{one_here, none_here, member_head, member_tail, length_remove_at}
use Rattle.plan_spec.proofs.Steps.{cond_yes, cond_no, Stepped, ignored, rotated, promoted, measured, recorded, detected, expected, branched, Run, done, more}
use Rattle.plan_spec.proofs.Joins.{length_emptied, length_joined, emptied_out, gathered_holds}
use Rattle.plan_spec.proofs.Live.{rearranged_length}
use Rattle.plan_spec.proofs.Invariant.{Holds, sources_once, source_below, source_holds}
use Rattle.plan_spec.proofs.Tracking.{join_peak_is, Tracked, active_of, tracked_here, tracked_join, target_source, target_below, target_members, start_tracked, step_tracked, run_tracked}
use Rattle.plan_spec.proofs.Accepted.{Accepted, ceiling_passed, accepted}
use Rattle.plan_spec.proofs.Growth.{row_count, run_rows, run_steps, run_rotations, run_measurements, start_wide, length_concat}
use Rattle.words.proofs.Padded.{padded_length}

-- ---- sums over a collection of lists

-- a list of the collection replaced: its share goes, and the new one's comes
pub total-set : (f : List ℕ → ℕ) (cs : List (List ℕ)) (c : ℕ) (m : List ℕ) → c < length cs
    → total (map f (set cs c m)) + f (get_or cs c []) ≡ total (map f cs) + f m
total-set f [] c m h = absurd (omega arith)
total-set f (x ∷ cs) zero m h = omega arith
total-set f (x ∷ cs) (suc c) m h = let r = total-set f cs c m (omega arith) in omega arith

-- the shares of two collections add up
pub total-append : (f : List ℕ → ℕ) (cs ds : List (List ℕ)) → total (map f (cs ++ ds)) ≡ total (map f cs) + total (map f ds)
total-append f [] ds = omega arith
total-append f (x ∷ cs) ds = let r = total-append f cs ds in omega arith

-- the shares of the listed components
abbrev pub shares : (List ℕ → ℕ) → List (List ℕ) → List ℕ → ℕ
shares f cs ss = total (map (λ s. f (get_or cs s [])) ss)

-- one that is not listed may be emptied
shares_set : (f : List ℕ → ℕ) (cs : List (List ℕ)) (s : ℕ) (ss : List ℕ) → occurrences s ss ≡ 0 → shares f (set cs s []) ss ≡ shares f cs ss
shares_set f cs s [] e = refl
shares_set f cs s (c ∷ ss) e =
    ⊎_elim
    (λ d. let o = one_here s c ss d in absurd (omega arith))
    (λ n. let o = none_here s c ss n in
    ap₂ (λ (m : List ℕ) (k : ℕ). f m + k) (get_or-set_other cs s c [] [] (λ d. n (sym d))) (shares_set f cs s ss (omega arith)))
    (same_or_not s c)

-- what components lose when sources are emptied, where an empty list has no share
pub emptied_total : (f : List ℕ → ℕ) → f [] ≡ 0 → (ss : List ℕ) (cs : List (List ℕ)) → NoRepeats ss → ((c : ℕ) → Member c ss → c < length cs)
    → total (map f (emptied ss cs)) + shares f cs ss ≡ total (map f cs)
emptied_total f z [] cs once small = omega arith
emptied_total f z (s ∷ ss) cs once small =
    let absent : occurrences s ss ≡ 0 = let o = once s in let g = one_here s s ss refl in omega arith in
    let later : NoRepeats ss = λ c. let o = once c in omega arith in
    let bound : (c : ℕ) → Member c ss → c < length (set cs s []) = λ c h. subst (λ (n : ℕ). c < n) (sym (length-set cs s [])) (small c (member_tail c s ss h)) in
    let rest = emptied_total f z ss (set cs s []) later bound in
    let same = shares_set f cs s ss absent in
    let out = total-set f cs s [] (small s (member_head s ss)) in omega arith

-- and when they are joined: the sources' shares go, and the share of all their members comes
pub joined_total : (f : List ℕ → ℕ) → f [] ≡ 0 → (cs : List (List ℕ)) (ss : List ℕ) → NoRepeats ss → ((c : ℕ) → Member c ss → c < length cs)
    → total (map f (joined cs ss)) + shares f cs ss ≡ total (map f cs) + f (gathered cs ss)
unfolding joined
joined_total f z cs [] once small = omega arith
joined_total f z cs (t ∷ others) once small =
    let absent : occurrences t others ≡ 0 = let o = once t in let g = one_here t t others refl in omega arith in
    let later : NoRepeats others = λ c. let o = once c in omega arith in
    let rest = emptied_total f z others cs later (λ c h. small c (member_tail c t others h)) in
    let kept = ap f (emptied_out others cs t absent) in
    let in_range : t < length (emptied others cs) = subst (λ (n : ℕ). t < n) (sym (length_emptied others cs)) (small t (member_head t others)) in
    let put = total-set f (emptied others cs) t (gathered cs (t ∷ others)) in_range in omega arith

-- ---- components with members

-- 1 for a list with members
abbrev pub filled : List ℕ → ℕ
filled [] = 0
filled (a ∷ m) = 1

-- how many have members
abbrev pub occupied : List (List ℕ) → ℕ
occupied cs = total (map filled cs)

-- at most 1
filled_most : (m : List ℕ) → filled m ≤ 1
filled_most [] = omega arith
filled_most (a ∷ m) = omega arith

-- a list that holds something has members
member_filled : (a : ℕ) (m : List ℕ) → Member a m → filled m ≡ 1
member_filled a [] h = absurd (omega arith)
member_filled a (b ∷ m) h = refl

-- no more than there are
pub occupied_most : (cs : List (List ℕ)) → occupied cs ≤ length cs
occupied_most [] = omega arith
occupied_most (m ∷ cs) = let r = occupied_most cs in let h = filled_most m in omega arith

-- sources that all have members
shares_filled : (cs : List (List ℕ)) (ss : List ℕ) → ((c : ℕ) → Member c ss → filled (get_or cs c []) ≡ 1) → shares filled cs ss ≡ length ss
shares_filled cs [] h = refl
shares_filled cs (s ∷ ss) h =
    let r = shares_filled cs ss (λ c m. h c (member_tail c s ss m)) in
    let e = h s (member_head s ss) in omega arith

-- "each a member count and its members"
pub groups_length : (cs : List (List ℕ)) → length (groups_of cs) ≡ occupied cs + length (concat cs)
groups_length [] = refl
groups_length ([] ∷ cs) = groups_length cs ∙ omega arith
groups_length ((a ∷ m) ∷ cs) =
    let r = groups_length cs in
    let e = length-append m (groups_of cs) in
    let f = length-append m (concat cs) in omega arith

-- ---- the live dimension of so many members

-- 2 ^ a + 2 ^ b ≤ 2 ^ (a + b) from 1 on
powers_below : (a b : ℕ) → 0 < a → 0 < b → 2 ^ a + 2 ^ b ≤ 2 ^ (a + b)
powers_below a b h k =
    let p : 2 ≤ 2 ^ a = pow_mono {i = 1} {j = a} h in
    let q : 2 ≤ 2 ^ b = pow_mono {i = 1} {j = b} k in
    let e = mul-le-mul_left (2 ^ a) q in
    let f = mul-le-mul_right (2 ^ b) p in
    let s = pow-add 2 a b in omega arith

-- members in all so many, live dimension at most 2 to that power; no members, none
pub live_below : (cs : List (List ℕ)) → (total (map amplitudes cs) ≤ 2 ^ length (concat cs)) × (length (concat cs) ≡ 0 → total (map amplitudes cs) ≡ 0)
live_below [] = (omega arith, λ e. refl)
live_below ([] ∷ cs) = let r = live_below cs in (omega (arith, r.0), λ e. let f = r.1 e in omega arith)
live_below ((a ∷ m) ∷ cs) =
    let r = live_below cs in
    let size = length-append m (concat cs) in
    let most : 2 ^ suc (length m) + total (map amplitudes cs) ≤ 2 ^ suc (length (m ++ concat cs)) =
    ⊎_elim
    (λ alone. let same : suc (length (m ++ concat cs)) ≡ suc (length m) = omega arith in
    let p = ap (λ (n : ℕ). 2 ^ n) same in
    let z = r.1 alone in omega arith)
    (λ others. let same : suc (length (m ++ concat cs)) ≡ suc (length m) + length (concat cs) = omega arith in
    let p = ap (λ (n : ℕ). 2 ^ n) same in
    let b = powers_below (suc (length m)) (length (concat cs)) (omega arith) others in omega (arith, r.0))
    (eq-zero-or-pos (length (concat cs))) in
    (most, λ e. absurd (omega arith))

-- where the components hold the active coordinates
pub holds_live : (cs : List (List ℕ)) (r : ActiveOrder) → Holds cs r → live_dimension cs ≤ 2 ^ length r.order
unfolding live_dimension
holds_live cs r h = subst (λ (n : ℕ). total (map amplitudes cs) ≤ 2 ^ n) (rearranged_length (concat cs) r.order h.held) (live_below cs).0

-- at most 62 of them
narrow_live : (cs : List (List ℕ)) (r : ActiveOrder) → Holds cs r → length r.order ≤ 62 → live_dimension cs ≤ 2 ^ 62
narrow_live cs r h narrow = let l = holds_live cs r h in let p = pow_mono narrow in omega arith

-- in a state of the walk
tracked_live : (w : Walk) (r : ActiveOrder) → Tracked w r → length w.order ≤ 62 → live_dimension w.components ≤ 2 ^ 62
tracked_live w r t narrow = narrow_live w.components r t.holds (let e = ap length t.order_same in omega arith)

-- ---- what a join keeps

-- rows that list sources
abbrev pub join_rows : Written → ℕ
join_rows o = length o.rotations + length o.measurements

-- no more active coordinates than components; merges and components with members within rows and components; one to spare; the peak
pub record Kept (w : Walk) : Type 0 where
  pub active : length w.order ≤ length w.components
  pub merges : length w.written.merges + occupied w.components ≤ join_rows w.written + length w.components
  pub spare : length w.written.merges ≤ join_rows w.written + length w.components - 1
  pub peak : w.peak ≤ 2 ^ 62 + 2 * length w.components

-- the same just after a join, before its row is written
pub record JoinKept (w : Walk) (j : Join) : Type 0 where
  pub size : length j.components ≡ length w.components
  pub merges : length w.written.merges + length j.sources + occupied j.components ≤ suc (join_rows w.written) + length w.components
  pub spare : length w.written.merges + length j.sources ≤ join_rows w.written + length w.components
  pub peak : j.peak ≤ 2 ^ 62 + 2 * length w.components

-- a join makes no component
join_size : (x z : ℕ) (w : Walk) → length (join_of x z w).components ≡ length w.components
unfolding join_of
join_size x z w = length_joined w.components (join_of x z w).sources

-- its peak counts the joined components
module _ (w : Walk) (r : ActiveOrder) (t : Tracked w r) (x z : ℕ) (active : 0 < length w.order) where
  -- a source has members
  source_filled : (c : ℕ) → Member c (join_of x z w).sources → filled (get_or w.components c []) ≡ 1
  unfolding join_of
  source_filled c m =
      let s = (source_holds w.components (active_of w r) (tracked_here w r t) x z c m).1 in member_filled s.0 (get_or w.components c []) s.2

  -- so has the target then
  pub members_filled : filled (join_of x z w).members ≡ 1
  unfolding join_of
  members_filled =
      let m = target_source w r t x z active in
      let s = (source_holds w.components (active_of w r) (tracked_here w r t) x z (join_of x z w).component m).1 in
      member_filled s.0 (join_of x z w).members (gathered_holds w.components (join_of x z w).sources s.0 (join_of x z w).component m s.2)

  -- of the sources one is left with members
  pub join_occupied : occupied (join_of x z w).components + length (join_of x z w).sources ≡ suc (occupied w.components)
  unfolding join_of
  join_occupied =
      let h = tracked_here w r t in
      let e = joined_total filled refl w.components (join_of x z w).sources (sources_once w.components (active_of w r) h x z) (source_below w.components (active_of w r) h x z) in
      let f = shares_filled w.components (join_of x z w).sources source_filled in
      let g = members_filled in omega arith

  -- some component has members then
  pub join_some : 0 < occupied (join_of x z w).components
  unfolding join_of
  join_some =
      let h = tracked_here w r t in
      let e = emptied_total filled refl (join_of x z w).sources w.components (sources_once w.components (active_of w r) h x z) (source_below w.components (active_of w r) h x z) in
      let f = shares_filled w.components (join_of x z w).sources source_filled in
      let g = join_occupied in omega arith

  -- the live dimension just after it
  pub join_live : (width : ℕ) → width ≡ length w.order → width ≤ 62 → live_dimension (join_of x z w).components ≤ 2 ^ 62
  join_live width wide narrow = narrow_live (join_of x z w).components _ (tracked_join w r width x z t wide) (let e = ap length t.order_same in omega arith)

  -- so a join keeps the bounds
  pub join_kept : (width : ℕ) → width ≡ length w.order → width ≤ 62 → Kept w → JoinKept w (join_of x z w)
  join_kept width wide narrow p =
      let same = join_size x z w in
      let left = join_occupied in
      let target = join_some in
      let live = join_live width wide narrow in
      let most = join_peak_is x z w in
      record { size = same; merges = omega (arith, p.merges); spare = omega (arith, p.merges); peak = omega (arith, p.peak) }

-- ---- what every step keeps

-- the width that a rotation or a flag-0 measurement has
abbrev pub width_of : Instruction → ℕ
width_of (Rotation width x z phase angle sine cosine) = width
width_of (Measurement width x z phase pivot) = width
width_of Promotion = 0
width_of RecordMeasurement = 0
width_of RecordDetector = 0
width_of Expectation = 0
width_of DormantBranch = 0

-- each component alone has dimension 2
pub alone_live : (xs : List ℕ) → total (map amplitudes (map (λ c. c ∷ []) xs)) ≡ 2 * length xs
alone_live [] = refl
alone_live (x ∷ xs) = let r = alone_live xs in omega arith

-- the bounds hold at the start
pub start_kept : (k : ℕ) → Kept (start k)
unfolding start live_dimension
start_kept k =
    let alone = map (λ c. c ∷ []) (numbers_from 0 k) in
    let size = length-map (numbers_from 0 k) (λ c. c ∷ []) in record {
      active = omega arith;
      merges = let o = occupied_most alone in omega arith;
      spare = omega arith;
      peak = let l = alone_live (numbers_from 0 k) in omega arith;
    }

-- an accepted step keeps them
pub step_kept : {limit : ℕ} {w v : Walk} {i : Instruction} (r : ActiveOrder) → Stepped limit w i v → Tracked w r → width_of i ≤ 62 → Kept w → Kept v
unfolding no_step ignored_step promotion_step rotation_step measurement_step live_dimension
step_kept r (ignored x z phase angle sine cosine e) t narrow p = record { active = p.active; merges = p.merges; spare = p.spare; peak = p.peak }
step_kept {w = w} r (rotated width x z phase angle sine cosine k wide active small fits made) t narrow p =
    let o = w.written in
    let j = join_of x z w in
    let q = join_kept w r t x z active width wide narrow p in
    let listed = length-append o.merges j.sources in
    let rows = length-append o.rotations (rotation_row j.component (length o.merges) (length j.sources) k ∷ []) in
    record { active = omega (arith, p.active); merges = omega (arith, q.merges); spare = omega (arith, q.spare); peak = omega (arith, q.peak) }
step_kept {w = w} r promoted t narrow p =
    let new = (length w.components ∷ []) ∷ [] in
    let longer = length-append w.order (length w.components ∷ []) in
    let size = length-append w.components new in
    let one_more = total-append filled w.components new in
    let two_more = total-append amplitudes w.components new in
    let live = t.live_peak in
    record { active = omega (arith, p.active); merges = omega (arith, p.merges); spare = omega (arith, p.spare); peak = omega (arith, p.peak) }
step_kept {w = w} r (measured width x z phase pivot k wide active small fits below inside made) t narrow p =
    let o = w.written in
    let j = join_of x z w in
    let q = join_kept w r t x z active width wide narrow p in
    let left = remove_at k.pivot j.members in
    let listed = length-append o.merges j.sources in
    let rows = length-append o.measurements (measurement_row j.component (length o.merges) (length j.sources) k (eqb (length left) 0) ∷ []) in
    let shorter = length_remove_at pivot w.order below in
    let same = length-set j.components j.component left in
    let there = subst (λ (n : ℕ). j.component < n) (sym q.size) (target_below w r t x z active) in
    let members = ap filled (target_members w r t x z active) ∙ members_filled w r t x z active in
    let fewer = total-set filled j.components j.component left there in
    let one = filled_most left in
    let live = tracked_live (measurement_step w j pivot k) (active_step r (Measurement width x z phase pivot))
    (step_tracked r (measured width x z phase pivot k wide active small fits below inside made) t) (omega arith) in
    record { active = omega (arith, p.active); merges = omega (arith, q.merges); spare = omega (arith, q.spare); peak = omega (arith, q.peak) }
step_kept r recorded t narrow p = record { active = p.active; merges = p.merges; spare = p.spare; peak = p.peak }
step_kept r detected t narrow p = record { active = p.active; merges = p.merges; spare = p.spare; peak = p.peak }
step_kept r expected t narrow p = record { active = p.active; merges = p.merges; spare = p.spare; peak = p.peak }
step_kept r branched t narrow p = record { active = p.active; merges = p.merges; spare = p.spare; peak = p.peak }

-- ---- the laws of a run

-- "6: width > 62" was not met
abbrev pub Narrow : List Instruction → Type 0
Narrow is = (i : ℕ) → i < length is → width_of (get_or is i DormantBranch) ≤ 62

-- so does a run
pub run_kept : {limit : ℕ} {w u : Walk} {is : List Instruction} (r : ActiveOrder) → Run limit w is u → Tracked w r → Narrow is → Kept w → Kept u
run_kept r (done w) t narrow p = p
run_kept r (more {i = i} s rest) t narrow p =
    run_kept (active_step r i) rest (step_tracked r s t) (λ j h. narrow (suc j) (omega arith)) (step_kept r s t (narrow zero (omega arith)) p)

-- a promotion makes one component, and nothing else does
pub step_components : {limit : ℕ} {w v : Walk} {i : Instruction} → Stepped limit w i v → length v.components ≡ length w.components + promotions_in i
unfolding no_step ignored_step promotion_step rotation_step measurement_step
step_components (ignored x z phase angle sine cosine e) = omega arith
step_components {w = w} (rotated width x z phase angle sine cosine k e a b c d) = join_size x z w ∙ omega arith
step_components {w = w} promoted = length-append w.components ((length w.components ∷ []) ∷ [])
step_components {w = w} (measured width x z phase pivot k e a b c d f g) =
    let j = join_of x z w in length-set j.components j.component (remove_at k.pivot j.members) ∙ join_size x z w ∙ omega arith
step_components recorded = omega arith
step_components detected = omega arith
step_components expected = omega arith
step_components branched = omega arith

-- so many in a run
pub run_components : {limit : ℕ} {w u : Walk} {is : List Instruction} → Run limit w is u → length u.components ≡ length w.components + total (map promotions_in is)
run_components (done w) = omega arith
run_components (more s rest) = let e = step_components s in let f = run_components rest in omega arith

-- at the start there are k
pub start_components : (k : ℕ) → length (start k).components ≡ k
unfolding start
start_components k = length-map (numbers_from 0 k) (λ c. c ∷ []) ∙ length-numbers 0 k

-- and no words are written
start_written : (k : ℕ) → (row_count (start k).written ≡ 0) × (length (start k).written.steps ≡ 0)
unfolding start
start_written k = (refl, refl)

module _ {limit : ℕ} {is : List Instruction} {u : Walk} (k : ℕ) (run : Run limit (start k) is u) where
  -- as many components as coordinates ever made
  pub component_count : length u.components ≡ k + total (map promotions_in is)
  component_count = let e = run_components run in let f = start_components k in omega arith

  -- the state and the roll go together
  run_tracks : Tracked u (active_after (active_start k) is)
  run_tracks = run_tracked (active_start k) run (start_tracked k)

  -- a longest size for each
  pub longest_count : length u.longest ≡ length u.components
  longest_count = run_tracks.longest_same

  -- two words of steps a record
  pub steps_count : length u.written.steps ≡ 2 * length is
  steps_count = let e = run_steps run in let z = (start_written k).1 in omega arith

  -- at most one row a record
  pub rows_most : row_count u.written ≤ length is
  rows_most = let r = run_rows run in let z = (start_written k).0 in omega arith

  module _ (narrow : Narrow is) (few : length u.components ≤ 512) where
    run_keeps : Kept u
    run_keeps = run_kept (active_start k) run (start_tracked k) narrow (start_kept k)

    -- what always suffices for the merge list
    pub merges_most : length u.written.merges ≤ length is + 511
    merges_most = let r = rows_most in omega (arith, run_keeps.spare)

    -- the peak fits a word
    pub peak_below : u.peak < 2 ^ 63
    peak_below = omega (arith, run_keeps.peak)

    -- the live dimension is at most the peak
    pub live_dimension_below : live_dimension u.components < 2 ^ 63
    live_dimension_below = let p = peak_below in omega (arith, run_tracks.live_peak)

    -- at most 512 counts and 512 members
    pub groups_most : length (groups_of u.components) ≤ 1024
    groups_most =
        let e = groups_length u.components in
        let o = occupied_most u.components in
        let t = run_tracks in
        let m = rearranged_length (concat u.components) (active_after (active_start k) is).order t.holds.held in
        let s = ap length t.order_same in omega (arith, run_keeps.active)

    -- all outputs of the plan made from the state
    pub run_fits : (dense_peak : ℕ) → Fits (plan_from k dense_peak u) (length is)
    unfolding plan_from
    run_fits dense_peak =
        let o = u.written in
        let rows = rows_most in record {
          steps = let e = steps_count in omega arith;
          merges = merges_most;
          sizes = let e = longest_count in omega arith;
          rotations = let e = length_concat 21 o.rotations (run_rotations run (start_wide k 21).0) in omega arith;
          promotions = omega arith;
          measurements = let e = length_concat 19 o.measurements (run_measurements run (start_wide k 19).1) in omega arith;
          groups = groups_most;
          peak = peak_below;
        }

-- ---- the records that passed

-- refusal 6: a record that passed has a width of at most 62
sound_narrow : (r : List ℕ) → IsSound r → width_of (instruction_of r) ≤ 62
unfolding instruction_of measurement_of
sound_narrow r s = by_kind (kind r) refl
  where
    by_flag : (f : ℕ) → flag r ≡ f → kind r ≡ 4 → width_of (get_or (Measurement (width r) (x_mask r) (z_mask r) (phase r) (pivot r) ∷ []) f Expectation) ≤ 62
    by_flag zero e four = ((s.measurement four).action e).width_small
    by_flag (suc f) e four = omega arith

    by_kind : (n : ℕ) → kind r ≡ n → width_of (get_or (instructions_by_kind r) n DormantBranch) ≤ 62
    by_kind zero e = (s.rotation e).action.width_small
    by_kind (suc zero) e = omega arith
    by_kind (suc (suc zero)) e = omega arith
    by_kind (suc (suc (suc zero))) e = omega arith
    by_kind (suc (suc (suc (suc zero)))) e = by_flag (flag r) refl e
    by_kind (suc (suc (suc (suc (suc zero))))) e = omega arith
    by_kind (suc (suc (suc (suc (suc (suc n)))))) e = omega arith

-- so have all instructions of words that passed
pub passed_narrow : (k : ℕ) (ws : List ℕ) → record_pass k ws ≡ Passed → Narrow (instructions_of ws)
passed_narrow k ws e i h =
    let there : i < length ws / 8 = let l = instructions_length ws in omega arith in
    subst (λ (x : Instruction). width_of x ≤ 62) (sym (instruction_at ws i DormantBranch there)) (sound_narrow (record_at ws i) (passed_sound k ws e i there))

-- a record counts as a coordinate exactly where its instruction is a promotion
kind_promotion : (c : ℕ) (r : List ℕ) → coordinates_after c r ≡ c + promotions_in (instruction_of r)
unfolding instruction_of measurement_of
kind_promotion c r = by_kind (kind r)
  where
    by_flag : (f : ℕ) → promotions_in (get_or (Measurement (width r) (x_mask r) (z_mask r) (phase r) (pivot r) ∷ []) f Expectation) ≡ 0
    by_flag zero = refl
    by_flag (suc f) = refl

    by_kind : (n : ℕ) → cond (eqb n 1) (suc c) c ≡ c + promotions_in (get_or (instructions_by_kind r) n DormantBranch)
    by_kind zero = omega arith
    by_kind (suc zero) = omega arith
    by_kind (suc (suc zero)) = omega arith
    by_kind (suc (suc (suc zero))) = omega arith
    by_kind (suc (suc (suc (suc zero)))) = let z = by_flag (flag r) in omega arith
    by_kind (suc (suc (suc (suc (suc zero))))) = omega arith
    by_kind (suc (suc (suc (suc (suc (suc n)))))) =
        let m = suc (suc (suc (suc (suc (suc n))))) in cond_no (eqb m 1) (suc c) c (ne_eqb m 1 (λ e. omega arith)) ∙ omega arith

-- so the coordinates that the pass counts are the start's and the promotions
through_promotions : (c : ℕ) (rs : List (List ℕ)) → coordinates_through c rs ≡ c + total (map promotions_in (map instruction_of rs))
through_promotions c [] = omega arith
through_promotions c (r ∷ rs) = let e = kind_promotion c r in let f = through_promotions (coordinates_after c r) rs in omega arith

-- refusal 10: words that passed make no more than 512
pub passed_promotions : (k : ℕ) (ws : List ℕ) → k ≤ 512 → record_pass k ws ≡ Passed → k + total (map promotions_in (instructions_of ws)) ≤ 512
unfolding instructions_of
passed_promotions k ws h e =
    let c = passed_coordinates k ws h e (length (records_of ws)) in
    let a = ap (coordinates_through k) (take-length (records_of ws)) in
    let t = through_promotions k (records_of ws) in omega arith

-- ---- plans

-- a plan that reads nothing is the empty one
pub unread_planned : (h : Head) (ws : List ℕ) (l : Lengths) (p : Plan) → unread h ≡ true → plan_of h ws l ≡ completed p
    → (dense_peak : ℕ) × (p ≡ unread_plan h.initial_k dense_peak)
unread_planned h ws l p u e = go (max_dimension h) (ceiling_passed h ws l p e).1
  where
    go : (d : Option ℕ) → for_dense_peak h ws l d ≡ completed p → (dense_peak : ℕ) × (p ≡ unread_plan h.initial_k dense_peak)
    go None e = let z : ◌≡◌ {A = ℕ} 0 1 = cc in absurd (omega arith)
    go (Some dense_peak) e =
        let f : completed (unread_plan h.initial_k dense_peak) ≡ completed p = sym (cond_yes (unread h) _ _ u) ∙ e in
        let same : p ≡ unread_plan h.initial_k dense_peak = cc in (dense_peak, same)

-- a plan that read nothing, field by field: unselected, all zero but the two given, and no quotient
pub unread_is : (initial dense_peak : ℕ)
    → unread_plan initial dense_peak
    ≡ record {
      selected = false;
      initial_components = initial;
      component_count = 0;
      dense_work = fin false 0 (pos 0);
      component_work = fin false 0 (pos 0);
      dense_peak = dense_peak;
      peak = 0;
      allocated = 0;
      whole_works = without_quotient 0;
      steps = [];
      merges = [];
      sizes = [];
      rotations = [];
      promotions = [];
      measurements = [];
      groups = [];
    }
unfolding unread_plan
unread_is initial dense_peak = refl

-- the outputs of a plan that read nothing are empty
unread_fits : (initial dense_peak n : ℕ) → Fits (unread_plan initial dense_peak) n
unfolding unread_plan
unread_fits initial dense_peak n = omega arith

-- so they fit any buffers
unread_fits_in : (initial dense_peak : ℕ) (l : Lengths) → FitsIn (unread_plan initial dense_peak) l
unfolding unread_plan
unread_fits_in initial dense_peak l = omega arith

-- a plan that was made from the records
accepted_fits : (h : Head) (ws : List ℕ) (l : Lengths) (p : Plan) → Accepted h ws l p → Fits p (length ws / 8)
accepted_fits h ws l p a =
    let k = h.initial_k in
    let count = component_count k a.run in
    let most = passed_promotions k ws a.initial_small a.passed in
    let fits = run_fits k a.run (passed_narrow k ws a.passed) (omega arith) a.dense_peak in
    subst₂ (λ (q : Plan) (n : ℕ). Fits q n) (sym a.plan_is) (instructions_length ws) fits

-- refusal 3 was not met
pub or-false : (a b : Bool) → a || b ≡ false → (a ≡ false) × (b ≡ false)
or-false true b e = let z : ◌≡◌ {A = ℕ} 0 1 = cc in absurd (omega arith)
or-false false b e = (refl, e)

-- the lengths that refusal 3 lets through, with n records
pub record Enough (n : ℕ) (l : Lengths) : Type 0 where
  pub steps : 2 * n ≤ l.steps
  pub merges : n + 512 ≤ l.merges
  pub sizes : 512 ≤ l.sizes
  pub rotations : 21 * n ≤ l.rotations
  pub promotions : n ≤ l.promotions
  pub measurements : 19 * n ≤ l.measurements
  pub groups : 1024 ≤ l.groups

pub enough : (n : ℕ) (l : Lengths) → buffers_refused n l ≡ false → Enough n l
enough n l e =
    let groups = or-false _ (ltb l.groups 1024) e in
    let measurements = or-false _ (ltb l.measurements (19 * n)) groups.0 in
    let promotions = or-false _ (ltb l.promotions n) measurements.0 in
    let rotations = or-false _ (ltb l.rotations (21 * n)) promotions.0 in
    let sizes = or-false _ (ltb l.sizes 512) rotations.0 in
    let merges = or-false (ltb l.steps (2 * n)) (ltb l.merges (n + 512)) sizes.0 in record {
      steps = ltb-false l.steps (2 * n) merges.0;
      merges = ltb-false l.merges (n + 512) merges.1;
      sizes = ltb-false l.sizes 512 sizes.1;
      rotations = ltb-false l.rotations (21 * n) rotations.1;
      promotions = ltb-false l.promotions n promotions.1;
      measurements = ltb-false l.measurements (19 * n) measurements.1;
      groups = ltb-false l.groups 1024 groups.1;
    }

-- they hold a plan that fits
lent_enough : (n : ℕ) (l : Lengths) (p : Plan) → buffers_refused n l ≡ false → Fits p n → FitsIn p l
lent_enough n l p e f =
    let m = enough n l e in record {
      steps = omega (arith, f.steps, m.steps);
      merges = omega (arith, f.merges, m.merges);
      sizes = omega (arith, f.sizes, m.sizes);
      rotations = omega (arith, f.rotations, m.rotations);
      promotions = omega (arith, f.promotions, m.promotions);
      measurements = omega (arith, f.measurements, m.measurements);
      groups = omega (arith, f.groups, m.groups);
    }

module _ (h : Head) (ws : List ℕ) (l : Lengths) (p : Plan) (e : plan_of h ws l ≡ completed p) where
  either : (t : Bool) → unread h ≡ t → Fits p (length ws / 8) × FitsIn p l
  either true u =
      let q = unread_planned h ws l p u e in
      subst (λ (plan : Plan). Fits plan (length ws / 8) × FitsIn plan l) (sym q.1) (
        unread_fits h.initial_k q.0 (length ws / 8),
        unread_fits_in h.initial_k q.0 l,
      )
  either false u =
      let a = accepted h ws l p u e in
      let f = accepted_fits h ws l p a in
      (f, lent_enough (length ws / 8) l p a.buffers f)

  -- what a plan's outputs take, with the number of records
  pub plan_fits : Fits p (length ws / 8)
  plan_fits = (either (unread h) refl).0

  -- so they fit the lent buffers
  pub plan_fits_in : FitsIn p l
  plan_fits_in = (either (unread h) refl).1

pub held_length : (n : ℕ) (output : Plan → List ℕ) (r : Result) → ((p : Plan) → r ≡ completed p → length (output p) ≤ n) → length (held_after n output r) ≡ n
held_length n output (completed p) h = let all = padded_length n (output p) in let few = h p refl in omega arith
held_length n output (refused_at number index) h = let all = padded_length n [] in omega arith
