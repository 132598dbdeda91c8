-- The sources of a join are the touched components in 01's own terms: what the masks reach are the entries at the set positions, or the first where none is set, and a
-- component is touched exactly when it holds one of these. The list is ascending, its largest stands in front and is left out behind.
use mathlib.Core.Path.{◌≡◌, refl, sym, ap₂, ◌∙◌, subst}
use mathlib.Core.Logic.{⊎_elim}
use mathlib.Core.List.{List, [], ◌∷◌}
use Prim.Native.Nat.{ℕ, ◌<◌}
use native.Mathlib.Omega.{arith}
use lib.ListN.{length, get_or, take}
use Rattle.refusals.specs.Answer.{completed}
use Rattle.records.specs.declared.Instruction.{Instruction}
use Rattle.plan_spec.specs.Lists.{without}
use Rattle.plan_spec.specs.Components.{members_of, support, or_first, reached, touched, largest, sources_of}
use Rattle.plan_spec.specs.Walk.{Walk, start, walk_from, join_of}
use Rattle.plan_spec.specs.Connectivity.{Member, NoRepeats, ActiveOrder, active_start, Replayed}
use Rattle.plan_spec.specs.Sources.{IsTouched, position, first, IsAscending, AreSources, JoinsListed}
use Rattle.plan_spec.proofs.Counting.{one_here, member_head, member_tail, member_cons}
use Rattle.plan_spec.proofs.Steps.{run_of_walk}
use Rattle.plan_spec.proofs.Joins.{largest_member}
use Rattle.plan_spec.proofs.Ascending.{ascending_same, meeting_ascending, without_from, without_ascending, Ahead, largest_ahead}
use Rattle.plan_spec.proofs.LocalBits.{support_at, at_support}
use Rattle.plan_spec.proofs.Invariant.{listed_below, first_at, anchored_cases, sources_once, source_holds, holds_source}
use Rattle.plan_spec.proofs.Tracking.{Tracked, active_of, tracked_here, target_source, start_tracked, run_tracked}

-- ---- what the masks reach

-- the first entry
at_first : (order : List ℕ) → 0 < length order → Member (get_or order 0 0) (take 1 order)
at_first [] h = absurd (omega arith)
at_first (c ∷ order) h = member_head c []

-- a list without members is empty
no_members : (xs : List ℕ) → ((a : ℕ) → Member a xs → ⊥) → xs ≡ []
no_members [] none = refl
no_members (x ∷ xs) none = absurd (none x (member_head x xs))

module _ (order : List ℕ) (components : Replayed) (x z c : ℕ) where
  -- a component that holds a reached coordinate is touched
  reached_touched : (a : ℕ) → Member a (reached x z order) → Member a (components c) → IsTouched order components x z c
  reached_touched a m held =
      ⊎_elim
      (λ e. let at = first_at order a (subst (λ (s : List ℕ). Member a (or_first order s)) e m) in
      first (λ p s. let n : Member (get_or order p 0) [] = subst (λ (l : List ℕ). Member (get_or order p 0) l) e (at_support x z order p s) in omega arith)
      at.0 (subst (λ (d : ℕ). Member d (components c)) (sym at.1) held))
      (λ e. let at = support_at x z order a (subst (λ (l : List ℕ). Member a l) e m) in
      position at.0 at.1 (subst (λ (d : ℕ). Member d (components c)) (sym at.2) held))
      (anchored_cases order (support x z order))

  -- and a touched one holds such a coordinate
  touched_reached : IsTouched order components x z c → (a : ℕ) × Member a (reached x z order) × Member a (components c)
  touched_reached (position p s held) =
      let m = at_support x z order p s in
      let here =
      ⊎_elim
      (λ e. let n : Member (get_or order p 0) [] = subst (λ (l : List ℕ). Member (get_or order p 0) l) e m in absurd (omega arith))
      (λ e. subst (λ (l : List ℕ). Member (get_or order p 0) l) (sym e) m)
      (anchored_cases order (support x z order)) in
      (get_or order p 0, here, held)
  touched_reached (first none active held) =
      let empty : support x z order ≡ [] = no_members (support x z order) (λ a m. let at = support_at x z order a m in none at.0 at.1) in
      (get_or order 0 0, subst (λ (s : List ℕ). Member (get_or order 0 0) (or_first order s)) (sym empty) (at_first order active), held)

-- ---- the sources of a join

-- Touched components that are listed ascending: their sources
touched_sources : (cs : List (List ℕ)) (order : List ℕ) (x z : ℕ) (ts : List ℕ) (c : ℕ) → Member c (sources_of cs ts) → IsAscending ts → NoRepeats (sources_of cs ts)
    → ((d : ℕ) → Member d (sources_of cs ts) → IsTouched order (members_of cs) x z d) → ((d : ℕ) → IsTouched order (members_of cs) x z d → Member d (sources_of cs ts))
    → AreSources order (members_of cs) x z (sources_of cs ts)
unfolding sources_of
touched_sources cs order x z [] c some a once from all = absurd (omega arith)
touched_sources cs order x z (t ∷ ts) c some a once from all = record {
  target = target;
  others = others;
  parts = refl;
  chosen = record {
    touched = from target (member_head target others);
    largest = λ d h. (ahead d h).0;
    smallest = λ d h e. (ahead d h).1 e;
  };
  all = all;
  once = once;
  ascending = without_ascending target (t ∷ ts) a;
  nothing_else = from;
}
  where
    target : ℕ
    target = largest cs t ts

    others : List ℕ
    others = without target (t ∷ ts)

    ahead : (d : ℕ) → IsTouched order (members_of cs) x z d → Ahead cs target d
    ahead d h =
        largest_ahead cs t ts a d
        (⊎_elim (λ e. subst (λ (k : ℕ). Member k (t ∷ ts)) (sym e) (largest_member cs t ts)) (λ m. (without_from target d (t ∷ ts) m).0) (member_cons d target others (all d h)))

-- in a state that goes with the roll
pub tracked_sources : (w : Walk) (r : ActiveOrder) → Tracked w r → JoinsListed w
unfolding join_of touched
tracked_sources w r t x z active =
    let cs = w.components in
    let h = tracked_here w r t in
    touched_sources cs w.order x z (touched x z w.order cs) (join_of x z w).component (target_source w r t x z active)
    (meeting_ascending 0 (reached x z w.order) cs)
    (sources_once cs (active_of w r) h x z)
    (λ c m. let s = source_holds cs (active_of w r) h x z c m in reached_touched w.order (members_of cs) x z c s.1.0 s.1.1 s.1.2)
    (λ c m. let s = touched_reached w.order (members_of cs) x z c m in holds_source cs (active_of w r) h x z c s.0 (listed_below cs c s.0 s.2) s.1 s.2)

-- CR 3 for every join of the walk: in each state that it reaches, whatever the next record's masks are
pub walk_sources : (limit k : ℕ) (is : List Instruction) (w : Walk) → walk_from limit 0 (start k) is ≡ completed w → JoinsListed w
walk_sources limit k is w e = tracked_sources w _ (run_tracked (active_start k) (run_of_walk limit 0 (start k) w is e) (start_tracked k))

-- ---- one list only

module _ {order : List ℕ} {components : Replayed} {x z : ℕ} {l m : List ℕ} (s : AreSources order components x z l) (t : AreSources order components x z m) where
  -- both have the same target
  same_target : s.target ≡ t.target
  same_target =
      let a = s.chosen.largest t.target t.chosen.touched in
      let b = t.chosen.largest s.target s.chosen.touched in
      let p = s.chosen.smallest t.target t.chosen.touched (omega arith) in
      let q = t.chosen.smallest s.target s.chosen.touched (omega arith) in omega arith

  -- what stands behind the one's target stands behind the other's
  other_there : (c : ℕ) → Member c s.others → Member c t.others
  other_there c h =
      let listed : Member c l = subst (λ (k : List ℕ). Member c k) (sym s.parts) (member_tail c s.target s.others h) in
      let there : Member c (t.target ∷ t.others) = subst (λ (k : List ℕ). Member c k) t.parts (t.all c (s.nothing_else c listed)) in
      ⊎_elim
      (λ e. let twice = one_here c s.target s.others (e ∙ sym same_target) in
      let o = subst (λ (k : List ℕ). NoRepeats k) s.parts s.once c in absurd (omega arith))
      (λ n. n)
      (member_cons c t.target t.others there)

-- no other list is the sources of the same join
pub sources_unique : {order : List ℕ} {components : Replayed} {x z : ℕ} {l m : List ℕ} → AreSources order components x z l → AreSources order components x z m → l ≡ m
sources_unique s t =
    s.parts
    ∙ ap₂ (λ (a : ℕ) (k : List ℕ). a ∷ k) (same_target s t)
    (ascending_same s.others t.others s.ascending t.ascending (other_there s t) (other_there t s))
    ∙ sym t.parts
