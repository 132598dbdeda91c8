-- A component's longest size is the greatest size that it had: a join writes the target's new size where that is larger, and no other step makes a
-- component larger than it was, but a promotion, which writes 1 for the new one.
use mathlib.Core.Path.{◌≡◌, refl, sym, ap, ◌∙◌, subst}
use mathlib.Core.Logic.{⊎_elim}
use mathlib.Core.List.{List, [], ◌∷◌, map}
use Prim.Native.Nat.{ℕ, zero, suc, ◌≤◌, ◌<◌, max}
use native.Mathlib.Omega.{arith}
use lib.ListN.{length, get_or, set, replicate, get_or-eq_default}
use lib.Seq.{get_or-set_same, get_or-set_other}
use Rattle.words.specs.Lists.{numbers_from}
use Rattle.words.proofs.Numbers.{same_or_not}
use Rattle.records.specs.declared.Instruction.{Instruction}
use Rattle.plan_spec.specs.Lists.{remove_at, place_of}
use Rattle.plan_spec.specs.Walk.{Walk, join_of, local_action, start, no_step, ignored_step, promotion_step, rotation_step, measurement_step}
use Rattle.plan_spec.specs.Connectivity.{ActiveOrder}
use Rattle.plan_spec.proofs.Counting.{length_remove_at, place_below}
use Rattle.plan_spec.proofs.Steps.{Stepped, ignored, rotated, promoted, measured, recorded, detected, expected, branched}
use Rattle.plan_spec.proofs.Joins.{join_cases}
use Rattle.plan_spec.proofs.Invariant.{after_join, snoc_at}
use Rattle.plan_spec.proofs.Tracking.{Tracked, active_of, tracked_here, target_below, target_members, join_length, measurement_keeps}
use Rattle.plan_spec.proofs.Replay.{joined_components}

abbrev pub size_at : List (List ℕ) → ℕ → ℕ
size_at cs i = length (get_or cs i [])

-- no component is larger than its longest size
abbrev pub Long : Walk → Type 0
Long w = (i : ℕ) → size_at w.components i ≤ get_or w.longest i 0

-- what a step writes for each component
abbrev pub LongStep : Walk → List (List ℕ) → Walk → Type 0
LongStep w joined v = (i : ℕ) → get_or v.longest i 0 ≡ max (get_or w.longest i 0) (max (size_at joined i) (size_at v.components i))

pub start_long : (k : ℕ) (i : ℕ) → get_or (start k).longest i 0 ≡ size_at (start k).components i
unfolding start
start_long k i = alone 0 k i
  where
    alone : (a n c : ℕ) → get_or (replicate n 1) c 0 ≡ length (get_or (map (λ d. d ∷ []) (numbers_from a n)) c [])
    alone a zero c = refl
    alone a (suc n) zero = refl
    alone a (suc n) (suc c) = alone (suc a) n c

module _ (w : Walk) (r : ActiveOrder) (t : Tracked w r) (long : Long w) (x z : ℕ) (active : 0 < length w.order) where
  -- a component that is not the target does not grow by a join
  join_small : (i : ℕ) → (i ≡ (join_of x z w).component → ⊥) → size_at (join_of x z w).components i ≤ size_at w.components i
  unfolding join_of
  join_small i n =
      let e = after_join w.components (active_of w r) (tracked_here w r t) x z i in
      ⊎_elim
      (λ c. absurd (n c.0.1))
      (λ rest. ⊎_elim
      (λ c. let f = ap length (e ∙ c.1) in omega (arith, f))
      (λ c. let f = ap length (e ∙ c.1) in omega (arith, f))
      rest)
      (join_cases (λ c. get_or w.components c []) (join_of x z w).sources i)

  join_writes : (join_of x z w).longest ≡ set w.longest (join_of x z w).component (max (get_or w.longest (join_of x z w).component 0) (length (join_of x z w).members))
  unfolding join_of
  join_writes = refl

  pub join_long : (i : ℕ) → get_or (join_of x z w).longest i 0 ≡ max (get_or w.longest i 0) (size_at (join_of x z w).components i)
  join_long i =
      let j = join_of x z w in
      let grown = max (get_or w.longest j.component 0) (length j.members) in
      let in_range : j.component < length w.longest = subst (λ (n : ℕ). j.component < n) (sym t.longest_same) (target_below w r t x z active) in
      ap (λ (l : List ℕ). get_or l i 0) join_writes
      ∙ ⊎_elim
      (λ e. ap (λ (c : ℕ). get_or (set w.longest j.component grown) c 0) e ∙ get_or-set_same w.longest j.component grown 0 in_range
      ∙ ap (λ (n : ℕ). max (get_or w.longest j.component 0) n) (sym (ap length (target_members w r t x z active)))
      ∙ ap (λ (c : ℕ). max (get_or w.longest c 0) (size_at j.components c)) (sym e))
      (λ n. get_or-set_other w.longest j.component i grown 0 n
      ∙ (let s = join_small i n in let l = long i in omega arith))
      (same_or_not i j.component)

pub step_long : {limit : ℕ} {w v : Walk} {i : Instruction} (r : ActiveOrder) (s : Stepped limit w i v) → Tracked w r → Long w → LongStep w (joined_components s) v
unfolding joined_components no_step ignored_step promotion_step rotation_step measurement_step
step_long r (ignored x z phase angle sine cosine empty) t long c = let l = long c in omega arith
step_long {w = w} r (rotated width x z phase angle sine cosine k wide active small fits made) t long c =
    let e = join_long w r t long x z active c in omega arith
step_long {w = w} r promoted t long c =
    let l = long c in
    let same = t.longest_same in
    ⊎_elim
    (λ o. ⊎_elim
    (λ p. let f = ap length o.1 in let q = p.1 in omega arith)
    (λ rest. ⊎_elim (λ p. absurd (omega (arith, o.0, p.0))) (λ p. absurd (omega (arith, o.0, p.0))) rest)
    (snoc_at 0 w.longest 1 c))
    (λ new. ⊎_elim
    (λ o. let f = ap length o.1 in
    let d : size_at w.components c ≡ 0 = ap length (get_or-eq_default w.components [] (omega (arith, o.0))) in
    let b : get_or w.longest c 0 ≡ 0 = get_or-eq_default w.longest 0 (omega (arith, o.0)) in
    ⊎_elim
    (λ p. absurd (omega (arith, o.0, p.0)))
    (λ rest. ⊎_elim (λ p. let q = p.1 in omega arith) (λ p. absurd (omega (arith, o.0, p.0))) rest)
    (snoc_at 0 w.longest 1 c))
    (λ o. let f = ap length o.1 in
    let d : size_at w.components c ≡ 0 = ap length (get_or-eq_default w.components [] (omega (arith, o.0))) in
    let b : get_or w.longest c 0 ≡ 0 = get_or-eq_default w.longest 0 (omega (arith, o.0)) in
    ⊎_elim
    (λ p. absurd (omega (arith, o.0, p.0)))
    (λ rest. ⊎_elim (λ p. absurd (omega (arith, o.0, p.0))) (λ p. let q = p.1 in omega arith) rest)
    (snoc_at 0 w.longest 1 c))
    new)
    (snoc_at [] w.components (length w.components ∷ []) c)
step_long {limit = limit} {w = w} r (measured width x z phase pivot k wide active small fits below inside made) t long c =
    let j = join_of x z w in
    let e = join_long w r t long x z active c in
    let kept = measurement_keeps limit (local_action x z phase w j) phase (place_of (get_or w.order pivot 0) j.members) k made in
    let place = place_below (get_or w.order pivot 0) j.members inside in
    let shorter = length_remove_at k.pivot j.members (subst (λ (q : ℕ). q < length j.members) (sym kept.1) place) in
    let in_range : j.component < length j.components = subst (λ (n : ℕ). j.component < n) (sym (join_length w r t x z active)) (target_below w r t x z active) in
    ⊎_elim
    (λ d. let f = ap length (ap (λ (i : ℕ). get_or (set j.components j.component (remove_at k.pivot j.members)) i []) d
    ∙ get_or-set_same j.components j.component (remove_at k.pivot j.members) [] in_range) in
    let m = ap length (ap (λ (i : ℕ). get_or j.components i []) d ∙ target_members w r t x z active) in omega arith)
    (λ n. let f = ap length (get_or-set_other j.components j.component c (remove_at k.pivot j.members) [] n) in omega arith)
    (same_or_not c j.component)
step_long r recorded t long c = let l = long c in omega arith
step_long r detected t long c = let l = long c in omega arith
step_long r expected t long c = let l = long c in omega arith
step_long r branched t long c = let l = long c in omega arith

pub long_after : (w v : Walk) (joined : List (List ℕ)) → LongStep w joined v → Long v
long_after w v joined e c = let f = e c in omega arith
