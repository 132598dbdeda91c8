-- Wherever whole works are given, each float work is the float of its whole number. At width 38 a record adds less than 2 ^ 41 to either work: the joined components'
-- dimensions are at most 2 ^ 38, and a joining cost is below four times the dimension that it leads to, since each source has members and so doubles it at least.
-- So after 1,024 records both sums are at most 2 ^ 51, and no addition before that rounded.
use mathlib.Core.Path.{◌≡◌, refl, sym, ap, ◌∙◌, subst}
use mathlib.Core.Bool.{Bool, true, false, cond, not}
use mathlib.Core.Logic.{◌⊎◌, inl, inr, ⊎_elim}
use mathlib.Core.List.{List, [], ◌∷◌}
use Prim.Native.Nat.{ℕ, zero, suc, ◌+◌, ◌*◌, ◌/◌, ◌%◌, ◌^◌, ◌≤◌, ◌<◌, max}
use native.Mathlib.Omega.{arith}
use native.Mathlib.Nat.{add-zero, add-suc, suc-add, add_assoc, div-add-mod, mod-lt}
use lib.Dec.{ltb, eqb}
use lib.ListN.{length, get_or, take, length-append}
use lib.Pow.{pow_mono}
use lib.IntN.{pos}
use lib.Ieee.{Float, fin, binary64, add, mul, of_int, to_bits}
use Rattle.refusals.specs.Answer.{completed}
use borrow.Author.Tests.{ltb-true, ltb-false, lt-ltb, eqb-true, eqb-false}
use Rattle.kernels.specs.Bits.{exp2}
use Rattle.records.specs.Record.{instructions_of}
use Rattle.records.specs.declared.Head.{Head}
use Rattle.records.specs.declared.Instruction.{Instruction}
use Rattle.records.proofs.Laws.{instructions_length}
use Rattle.plan_spec.specs.Components.{size_of, float_two, gathered, amplitudes, live_dimension, joining_cost}
use Rattle.plan_spec.specs.WholeWorks.{WholeSums, whole_cost_from, whole_joining_cost, too_wide, without_quotient, with_quotient, quotient_of, whole_works_of}
use Rattle.plan_spec.specs.Walk.{Walk, join_of, start, no_step, ignored_step, promotion_step, rotation_step, measurement_step}
use Rattle.plan_spec.specs.Plan.{Lengths, Plan, unread, unread_plan, plan_from, plan_of}
use Rattle.plan_spec.specs.Connectivity.{Member, ActiveOrder, active_start, active_step, active_after}
use Rattle.plan_spec.specs.Laws.{IsWhole, Agree, TooWideExactly}
use Rattle.plan_spec.proofs.Counting.{member_head, member_tail}
use Rattle.plan_spec.proofs.Steps.{Stepped, ignored, rotated, promoted, measured, recorded, detected, expected, branched, Run, done, more}
use Rattle.plan_spec.proofs.Invariant.{sources_once, source_below}
use Rattle.plan_spec.proofs.Tracking.{Tracked, active_of, tracked_here, tracked_join, step_tracked, start_tracked}
use Rattle.plan_spec.proofs.Accepted.{Accepted, accepted}
use Rattle.plan_spec.proofs.Room.{or-false, emptied_total, joined_total, holds_live, unread_planned}
use Rattle.plan_spec.proofs.States.{tracked_whole}
use Rattle.plan_spec.proofs.WholeFloats.{whole_float, value_of, add_whole, power_value, double_value, joining_whole}

-- ---- what a join adds

-- a joining cost from a component of a size on: with four times that dimension, at most four times the dimension that is reached
cost_below : (cs : List (List ℕ)) (size : ℕ) (ss : List ℕ) → ((c : ℕ) → Member c ss → 0 < size_of cs c)
    → whole_cost_from cs size ss + 4 * 2 ^ size ≤ 4 * 2 ^ (size + length (gathered cs ss))
cost_below cs size [] f = let e = ap (λ (n : ℕ). 2 ^ n) (add-zero size) in omega arith
cost_below cs size (s ∷ ss) f =
    let more = size_of cs s in
    let r = cost_below cs (size + more) ss (λ c m. f c (member_tail c s ss m)) in
    let long : size + more + length (gathered cs ss) ≡ size + length (gathered cs (s ∷ ss)) =
    let e = length-append (get_or cs s []) (gathered cs ss) in omega arith in
    let p = ap (λ (n : ℕ). 2 ^ n) long in
    let d = pow_mono {i = suc size} {j = size + more} (let h = f s (member_head s ss) in omega arith) in
    let two : 2 ^ suc size ≡ 2 * 2 ^ size = omega arith in omega arith

amplitudes_most : (m : List ℕ) → 2 ^ length m ≤ suc (amplitudes m)
amplitudes_most [] = omega arith
amplitudes_most (a ∷ m) = omega arith

module _ (w : Walk) (r : ActiveOrder) (t : Tracked w r) (x z width : ℕ) (wide : width ≡ length w.order) where
  -- the joined component's dimension is part of the live one, which is at most that of all active coordinates
  size_most : length w.order ≤ 38 → 2 ^ length (join_of x z w).members ≤ 2 ^ 38 + 1
  unfolding join_of live_dimension
  size_most narrow =
      let h = tracked_here w r t in
      let once = sources_once w.components (active_of w r) h x z in
      let small = source_below w.components (active_of w r) h x z in
      let e = joined_total amplitudes refl w.components (join_of x z w).sources once small in
      let f = emptied_total amplitudes refl (join_of x z w).sources w.components once small in
      let live = holds_live (join_of x z w).components _ (tracked_join w r width x z t wide) in
      let order = ap length t.order_same in
      let p = pow_mono {i = length r.order} {j = 38} (omega arith) in
      let a = amplitudes_most (join_of x z w).members in omega arith

  -- so is the joining cost bounded by it
  cost_most : (join_of x z w).cost ≤ 4 * 2 ^ length (join_of x z w).members
  unfolding join_of whole_joining_cost
  cost_most = go (join_of x z w).sources (λ c m. ((tracked_whole w r t).source_live x z c m).1)
    where
      go : (ss : List ℕ) → ((c : ℕ) → Member c ss → 0 < size_of w.components c)
          → whole_joining_cost w.components ss ≤ 4 * 2 ^ length (gathered w.components ss)
      go [] f = omega arith
      go (s ∷ ss) f =
          let b = cost_below w.components (size_of w.components s) ss (λ c m. f c (member_tail c s ss m)) in
          let e = ap (λ (n : ℕ). 2 ^ n) (length-append (get_or w.components s []) (gathered w.components ss)) in omega arith

-- ---- what every state keeps

-- after b records: both sums are at most b · 2 ^ 41, and both floats are theirs
pub record Exactly (b : ℕ) (w : Walk) : Type 0 where
  pub dense_most : w.whole.dense ≤ b * 2 ^ 41
  pub component_most : w.whole.component ≤ b * 2 ^ 41
  pub dense : w.dense_work ≡ whole_float w.whole.dense
  pub component : w.component_work ≡ whole_float w.whole.component

pub start_exactly : (k : ℕ) → Exactly 0 (start k)
unfolding start of_int
start_exactly k = record { dense_most = omega arith; component_most = omega arith; dense = refl; component = refl }

-- a step's widest width is the one before it or the new one
step_widest_is : {limit : ℕ} {w v : Walk} {i : Instruction} → Stepped limit w i v → v.whole.widest ≡ max w.whole.widest (length v.order)
unfolding no_step ignored_step promotion_step rotation_step measurement_step
step_widest_is (ignored x z phase angle sine cosine e) = refl
step_widest_is (rotated width x z phase angle sine cosine k e a b c d) = refl
step_widest_is promoted = refl
step_widest_is (measured width x z phase pivot k e a b c d f g) = refl
step_widest_is recorded = refl
step_widest_is detected = refl
step_widest_is expected = refl
step_widest_is branched = refl

-- so it never falls
step_widest : {limit : ℕ} {w v : Walk} {i : Instruction} → Stepped limit w i v → w.whole.widest ≤ v.whole.widest
step_widest s = let e = step_widest_is s in omega arith

run_widest : {limit : ℕ} {w u : Walk} {is : List Instruction} → Run limit w is u → w.whole.widest ≤ u.whole.widest
run_widest (done w) = omega arith
run_widest (more s r) = let e = step_widest s in let f = run_widest r in omega arith

-- and the width is never above it: at the start, where it is the widest
start_widest : (k : ℕ) → (start k).whole.widest ≡ length (start k).order
unfolding start
start_widest k = refl

start_within : (k : ℕ) → length (start k).order ≤ (start k).whole.widest
start_within k = let e = start_widest k in omega arith

-- after a step
step_within : {limit : ℕ} {w v : Walk} {i : Instruction} → Stepped limit w i v → length v.order ≤ v.whole.widest
step_within s = let e = step_widest_is s in omega arith

run_within : {limit : ℕ} {w u : Walk} {is : List Instruction} → Run limit w is u → length w.order ≤ w.whole.widest → length u.order ≤ u.whole.widest
run_within (done w) h = h
run_within (more s r) h = run_within r (step_within s)

-- so in every state that the walk reaches
pub reached_within : {limit : ℕ} (k : ℕ) {is : List Instruction} {u : Walk} → Run limit (start k) is u → length u.order ≤ u.whole.widest
reached_within k run = run_within run (start_within k)

-- a sum of two parts on top of a work
joined_sum : (work join cost : Float) (w j c : ℕ) → work ≡ whole_float w → join ≡ whole_float j → cost ≡ whole_float c → w + (j + c) ≤ 2 ^ 53
    → add binary64 (add binary64 work join) cost ≡ whole_float (w + (j + c))
joined_sum work join cost w j c e f g small =
    let first = add_whole work join w j (value_of work w e (omega arith)) (value_of join j f (omega arith)) in
    add_whole (add binary64 work join) cost (w + j) c (value_of (add binary64 work join) (w + j) first (omega arith)) (value_of cost c g (omega arith))
    ∙ ap whole_float (add_assoc w j c)

thirty_two : fin false 1 (pos 5) ≡ whole_float 32
unfolding of_int
thirty_two = refl

thirty_four : fin false 17 (pos 1) ≡ whole_float 34
unfolding of_int
thirty_four = refl

-- a step that adds nothing to the works
plain_exactly : (b : ℕ) (w : Walk) → Exactly b w → Exactly (suc b) (no_step w)
unfolding no_step
plain_exactly b w p = record {
  dense_most = omega (arith, p.dense_most);
  component_most = omega (arith, p.component_most);
  dense = p.dense ∙ ap whole_float (sym (add-zero w.whole.dense));
  component = p.component ∙ ap whole_float (sym (add-zero w.whole.component));
}

-- at width 38 a coordinate's power is at most 2 ^ 38
power_most : (k : ℕ) → k ≤ 38 → 2 ^ k ≤ 2 ^ 38
power_most k h = pow_mono h

-- an accepted step that stays narrow keeps it, among the first 1,024
step_exactly : {limit : ℕ} {w v : Walk} {i : Instruction} (r : ActiveOrder) (b : ℕ) → Stepped limit w i v → Tracked w r → length w.order ≤ w.whole.widest → v.whole.widest ≤ 38
    → b < 1024 → Exactly b w → Exactly (suc b) v
unfolding no_step ignored_step promotion_step rotation_step measurement_step join_of
step_exactly {w = w} r b (ignored x z phase angle sine cosine e) t inside narrow few p = record {
  dense_most = omega (arith, p.dense_most);
  component_most = omega (arith, p.component_most);
  dense = add_whole w.dense_work (exp2 0) w.whole.dense 1 (value_of _ _ p.dense (omega (arith, p.dense_most))) (power_value 0 (omega arith));
  component = p.component ∙ ap whole_float (sym (add-zero w.whole.component));
}
step_exactly {w = w} r b (rotated width x z phase angle sine cosine k wide active small fits made) t inside narrow few p =
    let n = length w.order in
    let j = join_of x z w in
    let q = power_most n (omega arith) in
    let size = size_most w r t x z width wide (omega arith) in
    let cost = cost_most w r t x z width wide in
    let d = p.dense_most in
    let c = p.component_most in record {
      dense_most = omega arith;
      component_most = omega arith;
      dense = add_whole w.dense_work (exp2 n) w.whole.dense (2 ^ n) (value_of _ _ p.dense (omega arith)) (power_value n (omega arith));
      component =
          joined_sum w.component_work (joining_cost w.components j.sources) (add binary64 (exp2 (length j.members)) (fin false 1 (pos 5)))
          w.whole.component j.cost (2 ^ length j.members + 32)
          p.component (joining_whole w.components j.sources (omega arith))
          (add_whole (exp2 (length j.members)) (fin false 1 (pos 5)) (2 ^ length j.members) 32
          (power_value (length j.members) (omega arith)) (value_of _ 32 thirty_two (omega arith)))
          (omega arith);
    }
step_exactly {w = w} r b promoted t inside narrow few p =
    let n = length w.order in
    let q = power_most n (omega arith) in
    let d = p.dense_most in
    let c = p.component_most in record {
      dense_most = omega arith;
      component_most = omega arith;
      dense =
          add_whole w.dense_work (mul binary64 float_two (exp2 n)) w.whole.dense (2 * 2 ^ n) (value_of _ _ p.dense (omega arith)) (double_value n (omega arith));
      component =
          add_whole w.component_work (fin false 17 (pos 1)) w.whole.component 34 (value_of _ _ p.component (omega arith)) (value_of _ 34 thirty_four (omega arith));
    }
step_exactly {w = w} r b (measured width x z phase pivot k wide active small fits below member made) t inside narrow few p =
    let n = length w.order in
    let j = join_of x z w in
    let q = power_most n (omega arith) in
    let size = size_most w r t x z width wide (omega arith) in
    let cost = cost_most w r t x z width wide in
    let d = p.dense_most in
    let c = p.component_most in record {
      dense_most = omega arith;
      component_most = omega arith;
      dense =
          add_whole w.dense_work (mul binary64 float_two (exp2 n)) w.whole.dense (2 * 2 ^ n) (value_of _ _ p.dense (omega arith)) (double_value n (omega arith));
      component =
          joined_sum w.component_work (joining_cost w.components j.sources) (add binary64 (mul binary64 float_two (exp2 (length j.members))) (fin false 1 (pos 5)))
          w.whole.component j.cost (2 * 2 ^ length j.members + 32)
          p.component (joining_whole w.components j.sources (omega arith))
          (add_whole (mul binary64 float_two (exp2 (length j.members))) (fin false 1 (pos 5)) (2 * 2 ^ length j.members) 32
          (double_value (length j.members) (omega arith)) (value_of _ 32 thirty_two (omega arith)))
          (omega arith);
    }
step_exactly {w = w} r b recorded t inside narrow few p = plain_exactly b w p
step_exactly {w = w} r b detected t inside narrow few p = plain_exactly b w p
step_exactly {w = w} r b expected t inside narrow few p = plain_exactly b w p
step_exactly {w = w} r b branched t inside narrow few p = plain_exactly b w p

run_exactly : {limit : ℕ} {w u : Walk} {is : List Instruction} (r : ActiveOrder) (b : ℕ) → Run limit w is u → Tracked w r → length w.order ≤ w.whole.widest
    → u.whole.widest ≤ 38 → b + length is ≤ 1024 → Exactly b w → Exactly (b + length is) u
run_exactly r b (done w) t inside narrow few p = subst (λ (n : ℕ). Exactly n w) (sym (add-zero b)) p
run_exactly {u = u} r b (more {i = i} {is = is} s rest) t inside narrow few p =
    let later = run_widest rest in
    subst (λ (n : ℕ). Exactly n u) (suc-add b (length is) ∙ sym (add-suc b (length is)))
    (run_exactly (active_step r i) (suc b) rest (step_tracked r s t) (step_within s) narrow (omega arith) (step_exactly r b s t inside (omega arith) (omega arith) p))

-- so in every state that a narrow walk reaches
pub reached_exactly : {limit : ℕ} (k : ℕ) {is : List Instruction} {u : Walk} → Run limit (start k) is u → length is ≤ 1024 → u.whole.widest ≤ 38 → Exactly 1024 u
reached_exactly k {u = u} run few narrow =
    let e = run_exactly (active_start k) 0 run (start_tracked k) (start_within k) narrow (omega arith) (start_exactly k) in record {
      dense_most = omega (arith, e.dense_most);
      component_most = omega (arith, e.component_most);
      dense = e.dense;
      component = e.component;
    }

-- ---- the result

-- a work that is a float of a whole number
is_whole : (work : Float) (n : ℕ) → work ≡ whole_float n → n ≤ 2 ^ 53 → IsWhole work n
is_whole work n e h = record { float = e; bits = ap (to_bits binary64) e; exact = value_of work n e h }

-- the three cases of the whole works
agree : (s : WholeSums) (dense component : Float) → (s.widest ≤ 38 → IsWhole dense s.dense × IsWhole component s.component) → Agree (whole_works_of s) dense component
unfolding whole_works_of
agree s dense component f = by_width (ltb 38 s.widest) refl
  where
    by_work : (t : Bool) → eqb s.component 0 ≡ t → IsWhole dense s.dense → IsWhole component s.component
        → Agree (cond t (without_quotient s.dense) (with_quotient s.dense s.component (s.dense / s.component) (s.dense % s.component))) dense component
    by_work true e d c = (d, subst (IsWhole component) (eqb-true s.component 0 e) c)
    by_work false e d c =
        let some = eqb-false s.component 0 e in
        let above : 0 < s.component = omega (arith, some) in
        (d, c, let q = div-add-mod s.dense s.component in omega arith, mod-lt s.dense above)

    by_width : (t : Bool) → ltb 38 s.widest ≡ t → Agree (cond t too_wide (quotient_of s.dense s.component)) dense component
    by_width true e = tt
    by_width false e = let g = f (ltb-false 38 s.widest e) in by_work (eqb s.component 0) refl g.0 g.1

-- a plan from records: no more than 1,024
accepted_agree : (h : Head) (ws : List ℕ) (l : Lengths) (p : Plan) → Accepted h ws l p → Agree p.whole_works p.dense_work p.component_work
unfolding plan_from
accepted_agree h ws l p a =
    let k = h.initial_k in
    let u = a.last in
    let few : length (instructions_of ws) ≤ 1024 =
    let e = instructions_length ws in let f = ltb-false 8192 (length ws) (or-false (not (eqb (length ws % 8) 0)) (ltb 8192 (length ws)) a.words).1 in omega arith in
    subst (λ (q : Plan). Agree q.whole_works q.dense_work q.component_work) (sym a.plan_is)
    (agree u.whole u.dense_work u.component_work (λ narrow.
    let e = reached_exactly k a.run few narrow in (
      is_whole u.dense_work u.whole.dense e.dense (omega (arith, e.dense_most)),
      is_whole u.component_work u.whole.component e.component (omega (arith, e.component_most)),
    )))

-- a plan that read nothing: 0 and 0
unread_agree : (initial dense_peak : ℕ) → let p = unread_plan initial dense_peak in Agree p.whole_works p.dense_work p.component_work
unfolding unread_plan
unread_agree initial dense_peak =
    let none = is_whole (fin false 0 (pos 0)) 0 (start_exactly 0).dense (omega arith) in (none, none)

-- "The float works must equal these numbers wherever they are given": of every plan
pub works_agree : (h : Head) (ws : List ℕ) (l : Lengths) (p : Plan) → plan_of h ws l ≡ completed p → Agree p.whole_works p.dense_work p.component_work
works_agree h ws l p e = either (unread h) refl
  where
    either : (t : Bool) → unread h ≡ t → Agree p.whole_works p.dense_work p.component_work
    either true u =
        let q = unread_planned h ws l p u e in
        subst (λ (plan : Plan). Agree plan.whole_works plan.dense_work plan.component_work) (sym q.1) (unread_agree h.initial_k q.0)
    either false u = accepted_agree h ws l p (accepted h ws l p u e)

-- ---- which programs are too wide

-- the roll's width is never above the widest
run_reaches : {limit : ℕ} {w u : Walk} {is : List Instruction} (r : ActiveOrder) (m : ℕ) → Run limit w is u → Tracked w r → length w.order ≤ w.whole.widest
    → length (active_after r (take m is)).order ≤ u.whole.widest
run_reaches r zero run t inside = let e = ap length t.order_same in let f = run_widest run in omega arith
run_reaches r (suc m) (done w) t inside = let e = ap length t.order_same in omega arith
run_reaches r (suc m) (more {i = i} s rest) t inside = run_reaches (active_step r i) m rest (step_tracked r s t) (step_within s)

-- and where the widest passes a number, so did the first width or the roll's after some record
run_passes : {limit : ℕ} {w u : Walk} {is : List Instruction} (r : ActiveOrder) (n : ℕ) → Run limit w is u → Tracked w r → n < u.whole.widest
    → (n < w.whole.widest) ⊎ ((m : ℕ) × (m ≤ length is) × (n < length (active_after r (take m is)).order))
run_passes r n (done w) t h = inl h
run_passes r n (more {v = v} {i = i} {is = is} s rest) t h =
    ⊎_elim
    (λ wide. ⊎_elim
    (λ before. inl before)
    (λ now. inr (1, omega arith, let e = ap length (step_tracked r s t).order_same in omega arith))
    (either_passes n _ (length v.order) (let e = step_widest_is s in omega arith)))
    (λ later. inr (suc later.0, let l = later.1 in omega arith, later.2))
    (run_passes (active_step r i) n rest (step_tracked r s t) h)
  where
    either_passes : (n a b : ℕ) → n < max a b → (n < a) ⊎ (n < b)
    either_passes n a b h = go (ltb n a) refl
      where
        go : (t : Bool) → ltb n a ≡ t → (n < a) ⊎ (n < b)
        go true e = inl (ltb-true n a e)
        go false e = let l = ltb-false n a e in inr (omega arith)

-- the mark of the sums by the widest width
marked_wide : (s : WholeSums) → 38 < s.widest → whole_works_of s ≡ too_wide
unfolding whole_works_of
marked_wide s h = ap (λ (t : Bool). cond t too_wide (quotient_of s.dense s.component)) (lt-ltb 38 s.widest h)

wide_marked : (s : WholeSums) → whole_works_of s ≡ too_wide → 38 < s.widest
unfolding whole_works_of
wide_marked s = go (ltb 38 s.widest) refl (eqb s.component 0)
  where
    go : (t : Bool) → ltb 38 s.widest ≡ t → (z : Bool)
        → cond t too_wide (cond z (without_quotient s.dense) (with_quotient s.dense s.component (s.dense / s.component) (s.dense % s.component))) ≡ too_wide
        → 38 < s.widest
    go true e z f = ltb-true 38 s.widest e
    go false e true f = let y : ◌≡◌ {A = ℕ} 0 1 = cc in absurd (omega arith)
    go false e false f = let y : ◌≡◌ {A = ℕ} 0 1 = cc in absurd (omega arith)

-- "Where the active width, at the start and after each record, never passes 38": of every plan whose records are read
pub too_wide_exactly : (h : Head) (ws : List ℕ) (l : Lengths) (p : Plan) → unread h ≡ false → plan_of h ws l ≡ completed p
    → TooWideExactly h.initial_k (instructions_of ws) p.whole_works
unfolding plan_from
too_wide_exactly h ws l p read e =
    let a = accepted h ws l p read e in
    let k = h.initial_k in
    let u = a.last in
    let tracked = start_tracked k in
    subst (λ (q : Plan). TooWideExactly k (instructions_of ws) q.whole_works) (sym a.plan_is) (record {
      passes = λ f. ⊎_elim
          (λ first. (0, omega arith, let o = ap length tracked.order_same in let s = start_widest k in omega arith))
          (λ later. later)
          (run_passes (active_start k) 38 a.run tracked (wide_marked u.whole f));
      marked = λ m within wide. marked_wide u.whole (let r = run_reaches (active_start k) m a.run tracked (start_within k) in omega arith);
    })
