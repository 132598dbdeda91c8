-- The walk's state and the roll go together: each accepted step keeps the invariant of the components, raises the peak to the live dimensions of its moments,
-- and raises a component's longest size to the sizes that the step gives it.
use Rattle.std.specs.Prelude.{Option, Some, None}
use mathlib.Core.Path.{◌≡◌, refl, sym, ap, ap₂, ◌∙◌, subst}
use mathlib.Core.Logic.{◌⊎◌, inl, inr}
use mathlib.Core.Bool.{Bool, true, false, cond, not}
use mathlib.Core.List.Memᴰ
use mathlib.Core.List.{List, [], ◌∷◌, ◌++◌, map, Memᴰ}
use Prim.Native.Nat.{ℕ, ◌+◌, ◌/◌, ◌%◌, ◌≤◌, ◌<◌, max}
use native.Mathlib.Omega.{arith}
use lib.Dec.{eqb}
use lib.ListN.{length, get_or, set, length-set, length-append, length-replicate}
use lib.Ieee.{Float}
use Rattle.kernels.specs.Bits.{dimension, bit_at, without_bit}
use Rattle.refusals.specs.Answer.{Answer, given, refused}
use Rattle.kernels.specs.Active.{rotation, rotation_kernel, measurement, measurement_kernel, nondiagonal, diagonal, of_dimension, imaginary}
use Rattle.kernels.specs.declared.active.ActivePauliAction.{ActivePauliAction}
use Rattle.kernels.specs.declared.active.PrecomputedActivePauliRotationKernel.{PrecomputedActivePauliRotationKernel}
use Rattle.kernels.specs.declared.active.PrecomputedActivePauliMeasurementKernel.{PrecomputedActivePauliMeasurementKernel}
use Rattle.records.specs.declared.Instruction.{Instruction}
use Rattle.plan_spec.specs.Lists.{place_of, remove_at}
use Rattle.plan_spec.specs.Components.{support, touched, sources_of, joined, live_dimension}
use Rattle.plan_spec.specs.Walk.{Walk, join_of, local_action, start, no_step, ignored_step, promotion_step, rotation_step, measurement_step}
use Rattle.plan_spec.specs.Connectivity.{Member, greatest, ActiveOrder, active_start, active_step, active_after, with_links, advanced, support_of, merged, class_of, live_at, moments, moments_of}
use Rattle.plan_spec.proofs.Counting.{place_below, place_holds, member_head}
use Rattle.plan_spec.proofs.Steps.{given_same, Stepped, ignored, rotated, promoted, measured, recorded, detected, expected, branched, Run, done, more}
use Rattle.plan_spec.proofs.Joins.{length_joined, gathered_joined, join_target}
use Rattle.plan_spec.proofs.LocalBits.{support_member}
use Rattle.plan_spec.proofs.Classes.{class_append}
use Rattle.plan_spec.proofs.Live.{live_is}
use Rattle.plan_spec.proofs.Invariant.{class_in, anchored_some, anchored_member, active_listed, holds_source, source_below, after_join, Holds, holds_start, holds_join, holds_promote, holds_remove}

-- ---- what a kernel keeps of what it was made from

dimension_given : {A : Type 0} (d : Option ℕ) (f : ℕ → Answer A) (k : A) → of_dimension d f ≡ given k → (n : ℕ) × (f n ≡ given k)
dimension_given None f k e = let z : ◌≡◌ {A = ℕ} 0 1 = cc in absurd (omega arith)
dimension_given (Some n) f k e = (n, e)

pub rotation_action : (limit : ℕ) (a : ActivePauliAction) (p : ℕ) (angle sine cosine : Float) (k : PrecomputedActivePauliRotationKernel)
    → rotation limit a p angle sine cosine ≡ given k → k.action ≡ a
rotation_action limit a p angle sine cosine k e =
    let g = dimension_given (dimension limit a.nqubits) (λ n. given (rotation_kernel n a p angle sine cosine)) k e in
    sym (ap (λ (q : PrecomputedActivePauliRotationKernel). q.action) (given_same g.1))

-- a kernel keeps the action and the pivot
abbrev Keeps : ActivePauliAction → ℕ → Answer PrecomputedActivePauliMeasurementKernel → Type 0
Keeps a pivot x = (k : PrecomputedActivePauliMeasurementKernel) → x ≡ given k → (k.action ≡ a) × (k.pivot ≡ pivot)

keeps_cond : (a : ActivePauliAction) (pivot : ℕ) (t : Bool) (x y : Answer PrecomputedActivePauliMeasurementKernel) → Keeps a pivot x → Keeps a pivot y → Keeps a pivot (cond t x y)
keeps_cond a pivot true x y p q = p
keeps_cond a pivot false x y p q = q

keeps_refused : (a : ActivePauliAction) (pivot n : ℕ) → Keeps a pivot (refused n)
keeps_refused a pivot n k e = let z : ◌≡◌ {A = ℕ} 0 1 = cc in absurd (omega arith)

keeps_given : (a : ActivePauliAction) (n pivot : ℕ) (diag : Bool) (bit rest : ℕ) → Keeps a pivot (given (measurement_kernel n a pivot diag bit rest))
keeps_given a n pivot diag bit rest k e = (
  sym (ap (λ (q : PrecomputedActivePauliMeasurementKernel). q.action) (given_same e)),
  sym (ap (λ (q : PrecomputedActivePauliMeasurementKernel). q.pivot) (given_same e)),
)

pub measurement_keeps : (limit : ℕ) (a : ActivePauliAction) (p pivot : ℕ) → Keeps a pivot (measurement limit a p pivot)
measurement_keeps limit a p pivot k e =
    let g = dimension_given (dimension limit a.nqubits) _ k e in
    keeps_cond a pivot (not (eqb a.xmask 0)) (nondiagonal g.0 a pivot) _
    (keeps_cond a pivot (eqb (bit_at a.xmask pivot) 0) (refused 17) _ (keeps_refused a pivot 17) (keeps_given a g.0 pivot false 0 0))
    (keeps_cond a pivot (not (eqb a.zmask 0)) (diagonal g.0 a p pivot) (refused 20)
    (keeps_cond a pivot (eqb (bit_at a.zmask pivot) 0) (refused 18) _ (keeps_refused a pivot 18)
    (keeps_cond a pivot (imaginary p) (refused 19) _ (keeps_refused a pivot 19) (keeps_given a g.0 pivot true (p % 4 / 2) (without_bit a.zmask pivot))))
    (keeps_refused a pivot 20))
    k g.1

pub record Tracked (w : Walk) (r : ActiveOrder) : Type 0 where
  pub order_same : w.order ≡ r.order
  pub holds : Holds w.components r
  pub longest_same : length w.longest ≡ length w.components
  pub live_peak : live_dimension w.components ≤ w.peak

-- the live dimension from the components is that from the instructions
pub live_same : (cs : List (List ℕ)) (r : ActiveOrder) → Holds cs r → live_dimension cs ≡ live_at r
live_same cs r h = live_is r cs h.held h.once (class_in cs r h) h.classes

-- ---- a join, in the walk

-- the joined components hold what the roll with the new links says
pub tracked_join : (w : Walk) (r : ActiveOrder) (width x z : ℕ) → Tracked w r → width ≡ length w.order
    → Holds (join_of x z w).components (record { order = r.order; next = r.next; links = r.links ++ (support_of width x z r.order ∷ []) })
unfolding join_of
tracked_join w r width x z t wide =
    subst (λ (o : List ℕ). Holds (joined w.components (sources_of w.components (touched x z o w.components)))
    (record { order = r.order; next = r.next; links = r.links ++ (support_of width x z r.order ∷ []) })) (sym t.order_same)
    (holds_join w.components r width x z (wide ∙ ap length t.order_same) t.holds)

-- the roll with the walk's own order
abbrev pub active_of : Walk → ActiveOrder → ActiveOrder
active_of w r = record { order = w.order; next = r.next; links = r.links }

pub tracked_here : (w : Walk) (r : ActiveOrder) → Tracked w r → Holds w.components (active_of w r)
tracked_here w r t = subst (λ (o : List ℕ). Holds w.components (record { order = o; next = r.next; links = r.links })) (sym t.order_same) t.holds

module _ (w : Walk) (r : ActiveOrder) (t : Tracked w r) (x z : ℕ) (some_active : 0 < length w.order) where
  -- a join has a source
  source_some : (c : ℕ) × Member c (join_of x z w).sources
  unfolding join_of
  source_some =
      let h = tracked_here w r t in
      let a = anchored_some w.order (support x z w.order) some_active in
      let active = anchored_member w.order (support x z w.order) (support_member x z w.order) a.0 a.1 in
      let l = active_listed w.components (active_of w r) h a.0 active in
      (l.0, holds_source w.components (active_of w r) h x z l.0 a.0 l.1 a.1 l.2)

  first_in : (xs : List ℕ) (c : ℕ) → Member c xs → Member (get_or xs 0 0) xs
  first_in [] c m = m
  first_in (y ∷ xs) c m = member_head y xs

  pub target_source : Member (join_of x z w).component (join_of x z w).sources
  unfolding join_of
  target_source = first_in (join_of x z w).sources source_some.0 source_some.1

  pub target_below : (join_of x z w).component < length w.components
  unfolding join_of
  target_below = source_below w.components (active_of w r) (tracked_here w r t) x z (join_of x z w).component target_source

  -- the target's members are the join's
  pub target_members : get_or (join_of x z w).components (join_of x z w).component [] ≡ (join_of x z w).members
  unfolding join_of
  target_members =
      after_join w.components (active_of w r) (tracked_here w r t) x z (join_of x z w).component
      ∙ join_target (λ c. get_or w.components c []) (join_of x z w).sources source_some.0 source_some.1
      ∙ sym (gathered_joined w.components (join_of x z w).sources)

  pub join_length : length (join_of x z w).components ≡ length w.components
  unfolding join_of
  join_length = length_joined w.components (join_of x z w).sources

-- ---- each step keeps the walk and the roll together

-- the live dimension after a join is at most the join's peak
join_peak : (x z : ℕ) (w : Walk) → live_dimension (join_of x z w).components ≤ (join_of x z w).peak
unfolding join_of
join_peak x z w = omega arith

pub join_peak_is : (x z : ℕ) (w : Walk) → (join_of x z w).peak ≡ max w.peak (live_dimension (join_of x z w).components)
unfolding join_of
join_peak_is x z w = refl

join_longest : (x z : ℕ) (w : Walk) → length (join_of x z w).longest ≡ length w.longest
unfolding join_of
join_longest x z w = length-set w.longest _ _

no_links : (x z : ℕ) (order : List ℕ) → support_of 0 x z order ≡ []
unfolding support_of
no_links x z order = refl

-- a link of nobody changes nothing
pub holds_unlinked : (cs : List (List ℕ)) (r : ActiveOrder) (x z : ℕ) → Holds cs r → Holds cs (record { order = r.order; next = r.next; links = r.links ++ (support_of 0 x z r.order ∷ []) })
holds_unlinked cs r x z h = record {
  next_same = h.next_same;
  held = h.held;
  once = h.once;
  below = h.below;
  links_below = λ s m a n. nobody s (Memᴰ.append_cases r.links m) a n;
  classes = λ a b ma mb. (
    λ s. class_is a ∙ (h.classes a b ma mb).0 s ∙ sym (class_is b),
    λ e. (h.classes a b ma mb).1 (sym (class_is a) ∙ e ∙ class_is b),
  );
}
  where
    class_is : (c : ℕ) → class_of (r.links ++ (support_of 0 x z r.order ∷ [])) c ≡ class_of r.links c
    class_is c = class_append r.links (support_of 0 x z r.order) c ∙ ap (λ (s : List ℕ). merged (class_of r.links) s c) (no_links x z r.order)

    nobody : (s : List ℕ) → Memᴰ s r.links ⊎ Memᴰ s (support_of 0 x z r.order ∷ []) → (a : ℕ) → Member a s → a < r.next
    nobody s (inl m) a n = h.links_below s m a n
    nobody s (inr m) a n =
        let z : Member a [] = subst (λ (l : List ℕ). Member a l) (Memᴰ.eq_of_singleton m ∙ no_links x z r.order) n in absurd (omega arith)

-- a measurement removes the coordinate at the pivot from the order and from the target
pub tracked_removal : (w : Walk) (r : ActiveOrder) (width x z pivot local : ℕ) → Tracked w r → width ≡ length w.order → 0 < length w.order → pivot < length w.order
    → Member (get_or w.order pivot 0) (join_of x z w).members → local ≡ place_of (get_or w.order pivot 0) (join_of x z w).members
    → Holds (set (join_of x z w).components (join_of x z w).component (remove_at local (join_of x z w).members))
    (record { order = remove_at pivot r.order; next = r.next; links = r.links ++ (support_of width x z r.order ∷ []) })
tracked_removal w r width x z pivot local t wide active below inside at =
    let j = join_of x z w in
    let coordinate = get_or w.order pivot 0 in
    let members = target_members w r t x z active in
    subst (λ (m : List ℕ). Holds (set j.components j.component (remove_at local m))
    (record { order = remove_at pivot r.order; next = r.next; links = r.links ++ (support_of width x z r.order ∷ []) })) members
    (holds_remove j.components (record { order = r.order; next = r.next; links = r.links ++ (support_of width x z r.order ∷ []) }) j.component pivot local
    (tracked_join w r width x z t wide)
    (subst (λ (n : ℕ). j.component < n) (sym (join_length w r t x z active)) (target_below w r t x z active))
    (subst (λ (m : List ℕ). local < length m) (sym members) (subst (λ (q : ℕ). q < length j.members) (sym at) (place_below coordinate j.members inside)))
    (subst (λ (o : List ℕ). pivot < length o) t.order_same below)
    (ap (λ (m : List ℕ). get_or m local 0) members ∙ ap (λ (q : ℕ). get_or j.members q 0) at ∙ place_holds coordinate j.members inside
    ∙ ap (λ (o : List ℕ). get_or o pivot 0) t.order_same))

pub step_tracked : {limit : ℕ} {w v : Walk} {i : Instruction} (r : ActiveOrder) → Stepped limit w i v → Tracked w r → Tracked v (active_step r i)
unfolding with_links advanced no_step ignored_step promotion_step rotation_step measurement_step
step_tracked {w = w} r (ignored x z phase angle sine cosine empty) t = record {
  order_same = t.order_same;
  holds = holds_unlinked w.components r x z t.holds;
  longest_same = t.longest_same;
  live_peak = t.live_peak;
}
step_tracked {w = w} r (rotated width x z phase angle sine cosine k wide active small fits made) t = record {
  order_same = t.order_same;
  holds = tracked_join w r width x z t wide;
  longest_same = join_longest x z w ∙ t.longest_same ∙ sym (join_length w r t x z active);
  live_peak = join_peak x z w;
}
step_tracked {w = w} r promoted t = record {
  order_same = ap₂ (λ (o : List ℕ) (n : ℕ). o ++ (n ∷ [])) t.order_same t.holds.next_same;
  holds = holds_promote w.components r t.holds;
  longest_same =
      length-append w.longest (1 ∷ []) ∙ ap (λ (n : ℕ). n + 1) t.longest_same
      ∙ sym (length-append w.components ((length w.components ∷ []) ∷ []));
  live_peak = omega arith;
}
step_tracked {limit = limit} {w = w} r (measured width x z phase pivot k wide active small fits below inside made) t =
    let j = join_of x z w in
    let kept = measurement_keeps limit (local_action x z phase w j) phase (place_of (get_or w.order pivot 0) j.members) k made in record {
      order_same = ap (remove_at pivot) t.order_same;
      holds = tracked_removal w r width x z pivot k.pivot t wide active below inside kept.1;
      longest_same =
          join_longest x z w ∙ t.longest_same ∙ sym (join_length w r t x z active)
          ∙ sym (length-set j.components j.component (remove_at k.pivot j.members));
      live_peak = omega arith;
    }
step_tracked r recorded t = record { order_same = t.order_same; holds = t.holds; longest_same = t.longest_same; live_peak = t.live_peak }
step_tracked r detected t = record { order_same = t.order_same; holds = t.holds; longest_same = t.longest_same; live_peak = t.live_peak }
step_tracked r expected t = record { order_same = t.order_same; holds = t.holds; longest_same = t.longest_same; live_peak = t.live_peak }
step_tracked r branched t = record { order_same = t.order_same; holds = t.holds; longest_same = t.longest_same; live_peak = t.live_peak }

pub start_tracked : (k : ℕ) → Tracked (start k) (active_start k)
unfolding start
start_tracked k = record {
  order_same = refl;
  holds = holds_start k;
  longest_same = length-replicate k 1 ∙ sym (holds_start k).next_same;
  live_peak = omega arith;
}

pub run_tracked : {limit : ℕ} {w u : Walk} {is : List Instruction} (r : ActiveOrder) → Run limit w is u → Tracked w r → Tracked u (active_after r is)
run_tracked r (done w) t = t
run_tracked r (more {i = i} s rest) t = run_tracked (active_step r i) rest (step_tracked r s t)

-- ---- the peak is the greatest live dimension

pub step_peak : {limit : ℕ} {w v : Walk} {i : Instruction} (r : ActiveOrder) → Stepped limit w i v → Tracked w r
    → v.peak ≡ max w.peak (greatest (map live_at (moments_of r i)))
unfolding moments_of with_links advanced no_step ignored_step promotion_step rotation_step measurement_step
step_peak {w = w} r (ignored x z phase angle sine cosine empty) t =
    let e = live_same w.components _ (holds_unlinked w.components r x z t.holds) in
    let l = t.live_peak in omega arith
step_peak {w = w} r (rotated width x z phase angle sine cosine k wide active small fits made) t =
    let e = live_same (join_of x z w).components _ (tracked_join w r width x z t wide) in
    let p = join_peak_is x z w in omega arith
step_peak {w = w} r promoted t =
    let e = live_same (w.components ++ ((length w.components ∷ []) ∷ [])) _ (holds_promote w.components r t.holds) in omega arith
step_peak {limit = limit} {w = w} r (measured width x z phase pivot k wide active small fits below inside made) t =
    let j = join_of x z w in
    let kept = measurement_keeps limit (local_action x z phase w j) phase (place_of (get_or w.order pivot 0) j.members) k made in
    let e = live_same j.components _ (tracked_join w r width x z t wide) in
    let f = live_same (set j.components j.component (remove_at k.pivot j.members)) _
    (tracked_removal w r width x z pivot k.pivot t wide active below inside kept.1) in
    let p = join_peak_is x z w in omega arith
step_peak r recorded t = omega arith
step_peak r detected t = omega arith
step_peak r expected t = omega arith
step_peak r branched t = omega arith

greatest_append : (xs ys : List ℕ) → greatest (xs ++ ys) ≡ max (greatest xs) (greatest ys)
greatest_append [] ys = omega arith
greatest_append (x ∷ xs) ys = let e = greatest_append xs ys in omega arith

map-append : {A B : Type 0} (f : A → B) (xs ys : List A) → map f (xs ++ ys) ≡ map f xs ++ map f ys
map-append f [] ys = refl
map-append f (x ∷ xs) ys = ap (λ (l : List _). f x ∷ l) (map-append f xs ys)

pub run_peak : {limit : ℕ} {w u : Walk} {is : List Instruction} (r : ActiveOrder) → Run limit w is u → Tracked w r
    → u.peak ≡ max w.peak (greatest (map live_at (moments r is)))
run_peak r (done w) t = omega arith
run_peak r (more {i = i} {is = is} s rest) t =
    let e = step_peak r s t in
    let f = run_peak (active_step r i) rest (step_tracked r s t) in
    let g = ap greatest (map-append live_at (moments_of r i) (moments (active_step r i) is)) ∙ greatest_append (map live_at (moments_of r i)) (map live_at (moments (active_step r i) is)) in
    omega arith
