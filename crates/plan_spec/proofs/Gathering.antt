-- The sets of every moment are those that the chains gather: at each moment the invariant holds of some components, so every entry's class is one of those that
-- are looked through, and two entries have one class exactly when they are linked.
use mathlib.Core.Path.{◌≡◌, refl, sym, ◌∙◌, subst}
use mathlib.Core.Logic.{⊎_elim}
use mathlib.Core.List.Memᴰ
use mathlib.Core.List.{List, [], ◌∷◌, Memᴰ}
use Prim.Native.Nat.{ℕ, ◌+◌, ◌<◌}
use native.Mathlib.Omega.{arith}
use lib.ListN.{get_or}
use Rattle.records.specs.declared.Instruction.{Instruction}
use Rattle.plan_spec.specs.Lists.{place_of}
use Rattle.plan_spec.specs.Walk.{Walk, join_of, local_action, start}
use Rattle.plan_spec.specs.Connectivity.{Member, ActiveOrder, active_start, active_step, with_links, advanced, class_of, sets_of, Gathers, moments_of, moments}
use Rattle.plan_spec.proofs.Counting.{member_or_not}
use Rattle.plan_spec.proofs.Steps.{Stepped, ignored, rotated, promoted, measured, recorded, detected, expected, branched, Run, done, more}
use Rattle.plan_spec.proofs.Classes.{class_linked}
use Rattle.plan_spec.proofs.Live.{classes_from, class_holds, classes_hold, classes_within, classes_at, classes_member}
use Rattle.plan_spec.proofs.Invariant.{Holds, class_in, holds_start, holds_promote}
use Rattle.plan_spec.proofs.Tracking.{Tracked, tracked_join, tracked_removal, holds_unlinked, measurement_keeps, step_tracked}

pub holds_gathers : (cs : List (List ℕ)) (r : ActiveOrder) → Holds cs r → Gathers r
unfolding sets_of
holds_gathers cs r h = record {
  whole = λ a.
      ⊎_elim
      (λ m. classes_hold (class_of r.links) r.order a 0 r.next (omega arith) (let b = class_in cs r h a m in omega arith))
      (λ z. classes_within (class_of r.links) r.order a 0 r.next z ∙ sym z)
      (member_or_not a r.order);
  together = λ a b ma mb. (
    λ s.
        let p = classes_member (class_of r.links) r.order a 0 r.next s.0 s.1 in
        let q = classes_member (class_of r.links) r.order b 0 r.next s.0 s.2 in
        (class_linked r.links a b).0 (p.0 ∙ sym q.0),
    λ l. (class_of r.links a, inside a a ma ma refl, inside a b ma mb (sym ((class_linked r.links a b).1 l))),
  );
}
  where
    -- b stands in the set of its class, which is a's
    inside : (a b : ℕ) → Member a r.order → Member b r.order → class_of r.links b ≡ class_of r.links a
        → Member b (get_or (classes_from (class_of r.links) r.order 0 r.next) (class_of r.links a) [])
    inside a b ma mb same =
        let at = classes_at (class_of r.links) r.order 0 r.next (class_of r.links a) (class_in cs r h a ma) in
        let first : class_of r.links b ≡ 0 + class_of r.links a = omega arith in
        subst (λ (xs : List ℕ). Member b xs) (sym at)
        (subst (λ (n : ℕ). 0 < n) (sym (class_holds (class_of r.links) r.order b (0 + class_of r.links a) first)) mb)

-- the moments of one step
only : {q m : ActiveOrder} → Memᴰ q (m ∷ []) → Gathers m → Gathers q
only i g = subst Gathers (sym (Memᴰ.eq_of_singleton i)) g

step_gathers : {limit : ℕ} {w v : Walk} {i : Instruction} (r : ActiveOrder) → Stepped limit w i v → Tracked w r → (q : ActiveOrder) → Memᴰ q (moments_of r i) → Gathers q
unfolding moments_of with_links advanced
step_gathers {w = w} r (ignored x z phase angle sine cosine empty) t q i = only i (holds_gathers w.components _ (holds_unlinked w.components r x z t.holds))
step_gathers {w = w} r (rotated width x z phase angle sine cosine k wide active small fits made) t q i =
    only i (holds_gathers (join_of x z w).components _ (tracked_join w r width x z t wide))
step_gathers {w = w} r promoted t q i = only i (holds_gathers _ _ (holds_promote w.components r t.holds))
step_gathers {limit = limit} {w = w} r (measured width x z phase pivot k wide active small fits below inside made) t q i =
    let j = join_of x z w in
    let kept = measurement_keeps limit (local_action x z phase w j) phase (place_of (get_or w.order pivot 0) j.members) k made in
    ⊎_elim
    (λ e. subst Gathers (sym e) (holds_gathers j.components _ (tracked_join w r width x z t wide)))
    (λ n. only n (holds_gathers _ _ (tracked_removal w r width x z pivot k.pivot t wide active below inside kept.1)))
    (Memᴰ.cases_cons i)
step_gathers r recorded t q i = absurd (Memᴰ.not-nil i)
step_gathers r detected t q i = absurd (Memᴰ.not-nil i)
step_gathers r expected t q i = absurd (Memᴰ.not-nil i)
step_gathers r branched t q i = absurd (Memᴰ.not-nil i)

-- the moments of a run
pub run_gathers : {limit : ℕ} {w u : Walk} {is : List Instruction} (r : ActiveOrder) → Run limit w is u → Tracked w r → (q : ActiveOrder) → Memᴰ q (moments r is) → Gathers q
run_gathers r (done w) t q i = absurd (Memᴰ.not-nil i)
run_gathers r (more {i = i} s rest) t q m =
    ⊎_elim (λ a. step_gathers r s t q a) (λ b. run_gathers (active_step r i) rest (step_tracked r s t) q b) (Memᴰ.append_cases (moments_of r i) m)

-- and the start
pub all_gather : {limit : ℕ} (k : ℕ) {u : Walk} {is : List Instruction} → Run limit (start k) is u → Tracked (start k) (active_start k)
    → (q : ActiveOrder) → Memᴰ q (active_start k ∷ moments (active_start k) is) → Gathers q
all_gather k run t q i =
    ⊎_elim (λ e. subst Gathers (sym e) (holds_gathers _ _ (holds_start k))) (λ m. run_gathers (active_start k) run t q m) (Memᴰ.cases_cons i)
