-- What the ceiling decides. A step reads it only through the dimension of the members it joins, and a join's members are counted among the longest sizes. So a walk that
-- finished under one ceiling has every longest size below it, and finishes in the same state under each ceiling that is above them all.
use Rattle.std.specs.Prelude.{Option, Some, None}
use mathlib.Core.Path.{◌≡◌, refl, sym, ap, ◌∙◌, subst}
use mathlib.Core.Logic.{⊎_elim}
use mathlib.Core.Bool.{Bool, true, false, cond, not}
use mathlib.Core.List.{List, [], ◌∷◌}
use Prim.Native.Nat.{ℕ, zero, suc, ◌^◌, ◌≤◌, ◌<◌, min}
use native.Mathlib.Omega.{arith}
use lib.Dec.{eqb, ltb}
use lib.ListN.{length, get_or}
use borrow.Author.Tests.{lt-ltb, le-ltb, ltb-false}
use Rattle.words.proofs.Numbers.{same_or_not}
use Rattle.words.proofs.Padded.{zeroed_at}
use Rattle.kernels.specs.Bits.{dimension}
use Rattle.refusals.specs.Answer.{Answer, given, refused, completed}
use Rattle.kernels.specs.Active.{of_dimension, rotation_kernel, nondiagonal, diagonal}
use Rattle.records.specs.Record.{instructions_of}
use Rattle.records.specs.declared.Head.{Head}
use Rattle.records.specs.declared.Instruction.{Instruction}
use Rattle.plan_spec.specs.Lists.{is_in, place_of}
use Rattle.plan_spec.specs.Walk.{Walk, join_of, local_action, refuse, when_given, is_none, start, ignored_step, rotation_step, measurement_step, rotate, measure, step, onward, walk_from}
use Rattle.plan_spec.specs.Plan.{Lengths, Plan, unread, plan_from, unread_plan, refuse_all, after_walk, plan_read, for_dense_peak, ceiling_refused, plan_of}
use Rattle.plan_spec.specs.Connectivity.{ActiveOrder, active_start, active_step, Replayed, replay_after, replay_joined, longest_of}
use Rattle.plan_spec.specs.Laws.{HasDimension, HasDimensions, under, HoldsPlan}
use Rattle.plan_spec.proofs.Steps.{cond_yes, cond_no, dimension_below, Stepped, ignored, rotated, promoted, measured, recorded, detected, expected, branched, Run, done, more, onward_finished, stepped, run_of_walk}
use Rattle.plan_spec.proofs.Tracking.{Tracked, target_members, start_tracked, step_tracked}
use Rattle.plan_spec.proofs.Replay.{joined_components}
use Rattle.plan_spec.proofs.Longest.{Long, LongStep, step_long, long_after}
use Rattle.plan_spec.proofs.Claims.{start_is_long}
use Rattle.plan_spec.proofs.Sizes.{reached_longest}
use Rattle.plan_spec.proofs.Accepted.{Accepted, ceiling_passed, accepted}
use Rattle.plan_spec.proofs.Room.{or-false, unread_planned}
use Rattle.plan_spec.proofs.Connected.{longest_is, read_head}
use Rattle.plan_spec.proofs.Padded.{Pads, after_same, joined_same, accepted_names}

-- below the ceiling the dimension is the power of two, whatever the ceiling is
dimension_at : (ceiling size : ℕ) → size < ceiling → size < 64 → dimension ceiling size ≡ Some (2 ^ size)
unfolding dimension
dimension_at ceiling size below small = cond_yes (ltb size (min ceiling 64)) _ _ (lt-ltb size (min ceiling 64) (omega arith))

-- ---- a step under another ceiling

-- where nothing is active a rotation is passed by
passed_by : (n : ℕ) (x y : Answer Walk) → n ≡ 0 → refuse (not (eqb 0 n)) 11 (cond (eqb n 0) x y) ≡ x
passed_by zero x y e = refl
passed_by (suc n) x y e = absurd (omega arith)

module _ (ceiling other : ℕ) where
  -- what a step joins is below the other ceiling too
  abbrev Joins : {w v : Walk} {i : Instruction} → Stepped ceiling w i v → Type 0
  Joins {w = w} (rotated width x z phase angle sine cosine k wide active small fits made) = length (join_of x z w).members < other
  Joins {w = w} (measured width x z phase pivot k wide active small fits below inside made) = length (join_of x z w).members < other
  Joins (ignored x z phase angle sine cosine empty) = Unit
  Joins promoted = Unit
  Joins recorded = Unit
  Joins detected = Unit
  Joins expected = Unit
  Joins branched = Unit

  -- both ceilings give what was joined the same dimension
  same_dimension : (n : ℕ) → n < ceiling → n < 64 → n < other → dimension other n ≡ dimension ceiling n
  same_dimension n small fits below = dimension_at other n below fits ∙ sym (dimension_at ceiling n small fits)

  step_same : {w v : Walk} {i : Instruction} (s : Stepped ceiling w i v) → Joins s → step other w i ≡ step ceiling w i
  unfolding step rotate measure
  step_same {w = w} (ignored x z phase angle sine cosine empty) below =
      passed_by (length w.order) _ _ (ap length empty) ∙ sym (passed_by (length w.order) _ _ (ap length empty))
  step_same {w = w} (rotated width x z phase angle sine cosine k wide active small fits made) below =
      let j = join_of x z w in
      let a = local_action x z phase w j in
      ap (λ (d : Option ℕ).
      refuse (not (eqb width (length w.order))) 11
      (cond (eqb (length w.order) 0) (given (ignored_step w))
      (refuse (is_none d) 14
      (when_given (of_dimension d (λ n. given (rotation_kernel n a phase angle sine cosine))) λ k. given (rotation_step w j k)))))
      (same_dimension (length j.members) small fits below)
  step_same promoted below = refl
  step_same {w = w} (measured width x z phase pivot k wide active small fits within inside made) below =
      let j = join_of x z w in
      let a = local_action x z phase w j in
      let coordinate = get_or w.order pivot 0 in
      let place = place_of coordinate j.members in
      ap (λ (d : Option ℕ).
      refuse (not (eqb width (length w.order))) 12
      (refuse (eqb (length w.order) 0) 13
      (refuse (is_none d) 14
      (refuse (not (ltb pivot (length w.order))) 15
      (refuse (not (is_in coordinate j.members)) 16
      (when_given (of_dimension d (λ n. cond (not (eqb a.xmask 0)) (nondiagonal n a place) (cond (not (eqb a.zmask 0)) (diagonal n a phase place) (refused 20)))) λ k. given (measurement_step w j pivot k)))))))
      (same_dimension (length j.members) small fits below)
  step_same recorded below = refl
  step_same detected below = refl
  step_same expected below = refl
  step_same branched below = refl

  -- ---- the walk under another ceiling

  -- what a join gathers is counted in the longest sizes behind it
  join_counted : (w v : Walk) (r : ActiveOrder) → Tracked w r → (x z : ℕ) → 0 < length w.order → LongStep w (join_of x z w).components v
      → ((c : ℕ) → get_or v.longest c 0 < other) → length (join_of x z w).members < other
  join_counted w v r t x z active long all =
      let c = (join_of x z w).component in
      let e = ap length (target_members w r t x z active) in
      let f = long c in
      let g = all c in omega arith

  joins_counted : {w v : Walk} {i : Instruction} (r : ActiveOrder) (s : Stepped ceiling w i v) → Tracked w r → LongStep w (joined_components s) v
      → ((c : ℕ) → get_or v.longest c 0 < other) → Joins s
  unfolding joined_components
  joins_counted r (ignored x z phase angle sine cosine empty) t long all = tt
  joins_counted {w = w} {v = v} r (rotated width x z phase angle sine cosine k wide active small fits made) t long all = join_counted w v r t x z active long all
  joins_counted r promoted t long all = tt
  joins_counted {w = w} {v = v} r (measured width x z phase pivot k wide active small fits within inside made) t long all = join_counted w v r t x z active long all
  joins_counted r recorded t long all = tt
  joins_counted r detected t long all = tt
  joins_counted r expected t long all = tt
  joins_counted r branched t long all = tt

  -- the longest sizes never shrink
  run_longer : {w u : Walk} {is : List Instruction} (r : ActiveOrder) → Run ceiling w is u → Tracked w r → Long w → (c : ℕ) → get_or w.longest c 0 ≤ get_or u.longest c 0
  run_longer r (done w) t long c = omega arith
  run_longer {w = w} r (more {v = v} {i = i} s rest) t long c =
      let next = step_long r s t long in
      let e = next c in
      let f = run_longer (active_step r i) rest (step_tracked r s t) (long_after w v (joined_components s) next) c in omega arith

  walk_same : (index : ℕ) (w u : Walk) (is : List Instruction) (r : ActiveOrder) → Tracked w r → Long w → walk_from ceiling index w is ≡ completed u
      → ((c : ℕ) → get_or u.longest c 0 < other) → walk_from other index w is ≡ completed u
  unfolding walk_from
  walk_same index w u [] r t long e all = e
  walk_same index w u (i ∷ is) r t long e all =
      let first = onward_finished (step ceiling w i) index (λ v. walk_from ceiling (suc index) v is) u e in
      let v = first.0 in
      let s = stepped ceiling w v i first.1 in
      let next = step_long r s t long in
      let tracked = step_tracked r s t in
      let longer = long_after w v (joined_components s) next in
      let rest = run_of_walk ceiling (suc index) v u is first.2 in
      let reach : (c : ℕ) → get_or v.longest c 0 < other =
      λ c. let f = run_longer (active_step r i) rest tracked longer c in let g = all c in omega arith in
      ap (λ (x : Answer Walk). onward x index (λ v. walk_from other (suc index) v is)) (step_same s (joins_counted r s t next reach) ∙ first.1)
      ∙ walk_same (suc index) v u is (active_step r i) tracked longer first.2 all

-- ---- plans under another ceiling

-- what has a dimension is below the ceiling
given_below : (ceiling k d : ℕ) → dimension ceiling k ≡ Some d → (k < ceiling) × (k < 64)
given_below ceiling k d e = dimension_below ceiling k (ap is_none e)

-- a longest size has its dimension, under a ceiling above 1
longest_below : {ceiling : ℕ} (k : ℕ) {is : List Instruction} {u : Walk} → 1 < ceiling → Run ceiling (start k) is u → (c : ℕ) → get_or u.longest c 0 < min ceiling 64
longest_below {ceiling = ceiling} k least run = reached_longest (min ceiling 64) (omega arith) (omega arith) k run

module _ (h : Head) (ws : List ℕ) (l : Lengths) (p : Plan) (e : plan_of h ws l ≡ completed p) where
  -- its ceiling is one of 1 to 62
  bounds : (1 ≤ h.ceiling) × (h.ceiling ≤ 62)
  bounds =
      let o = or-false (ltb h.ceiling 1) (ltb 62 h.ceiling) (ceiling_passed h ws l p e).0 in
      (ltb-false h.ceiling 1 o.0, ltb-false 62 h.ceiling o.1)

  -- max_k has its dimension, so it is below the ceiling
  peak_given : (d : ℕ) × (dimension h.ceiling h.max_k ≡ Some d)
  peak_given = go (dimension h.ceiling h.max_k) refl (ceiling_passed h ws l p e).1
    where
      go : (o : Option ℕ) → dimension h.ceiling h.max_k ≡ o → for_dense_peak h ws l o ≡ completed p → (d : ℕ) × (dimension h.ceiling h.max_k ≡ Some d)
      go None f g = let z : ◌≡◌ {A = ℕ} 0 1 = cc in absurd (omega arith)
      go (Some d) f g = (d, f)

  max_is_below : h.max_k < h.ceiling
  max_is_below = (given_below h.ceiling h.max_k peak_given.0 peak_given.1).0

  -- where records are read the ceiling is at least 9
  read_ceiling : unread h ≡ false → 8 < h.ceiling
  read_ceiling read =
      let o = or-false (ltb h.max_k 8) (not (eqb h.nexpvals 0)) read in
      let wide = ltb-false h.max_k 8 o.0 in
      let below = max_is_below in omega arith

  -- so is every longest size; a plan that read nothing has none
  sizes_are_below : (c : ℕ) → get_or p.sizes c 0 < h.ceiling
  unfolding plan_from unread_plan start
  sizes_are_below c = go (unread h) refl
    where
      go : (t : Bool) → unread h ≡ t → get_or p.sizes c 0 < h.ceiling
      go true u =
          let q = unread_planned h ws l p u e in
          let b = bounds in
          let f : get_or p.sizes c 0 ≡ 0 = ap (λ (x : Plan). get_or x.sizes c 0) q.1 in omega arith
      go false u =
          let a = accepted h ws l p u e in
          let f = ap (λ (x : Plan). get_or x.sizes c 0) a.plan_is in
          let w = read_ceiling u in
          let g = longest_below h.initial_k (omega arith) a.run c in omega arith

  -- a plan is one that its ceiling holds
  pub plan_held : HoldsPlan h.ceiling h p
  plan_held =
      let b = bounds in
      let m = max_is_below in record { least = omega arith; most = omega arith; max_below = omega arith; sizes_below = λ c. let s = sizes_are_below c in omega arith }

  -- and every ceiling that holds it gives it
  module _ (ceiling : ℕ) (holds : HoldsPlan ceiling h p) where
    not_refused : ceiling_refused (under ceiling h) ≡ false
    not_refused = simp (le-ltb ceiling 1 holds.least, le-ltb 62 ceiling holds.most)

    max_fits : h.max_k < 64
    max_fits = let b = bounds in let m = max_is_below in omega arith

    same_peak : dimension ceiling h.max_k ≡ dimension h.ceiling h.max_k
    same_peak = same_dimension h.ceiling ceiling h.max_k max_is_below max_fits holds.max_below

    -- the walk ends in the same state, so the same plan is read
    walks : (a : Accepted h ws l p) → walk_from ceiling 0 (start h.initial_k) (instructions_of ws) ≡ completed a.last
    unfolding plan_from
    walks a =
        walk_same h.ceiling ceiling 0 (start h.initial_k) a.last (instructions_of ws) (active_start h.initial_k) (start_tracked h.initial_k) (start_is_long h.initial_k) a.walked
        (λ c. subst (λ (x : Plan). get_or x.sizes c 0 < ceiling) a.plan_is (holds.sizes_below c))

    reads : (a : Accepted h ws l p) → plan_read (under ceiling h) ws l a.dense_peak ≡ completed p
    unfolding plan_read
    reads a =
        let few = le-ltb 512 h.initial_k a.initial_small in
        let over : plan_read (under ceiling h) ws l a.dense_peak ≡ after_walk h.initial_k a.dense_peak (walk_from ceiling 0 (start h.initial_k) (instructions_of ws)) =
        simp (a.words, a.buffers, few, a.passed) in
        over ∙ ap (after_walk h.initial_k a.dense_peak) (walks a) ∙ ap completed (sym a.plan_is)

    behind : for_dense_peak (under ceiling h) ws l (dimension h.ceiling h.max_k) ≡ completed p
    behind = go (unread h) refl
      where
        go : (t : Bool) → unread h ≡ t → for_dense_peak (under ceiling h) ws l (dimension h.ceiling h.max_k) ≡ completed p
        go true u =
            ap (for_dense_peak (under ceiling h) ws l) peak_given.1 ∙ cond_yes (unread h) _ _ u
            ∙ sym (cond_yes (unread h) _ _ u) ∙ sym (ap (for_dense_peak h ws l) peak_given.1) ∙ (ceiling_passed h ws l p e).1
        go false u =
            let a = accepted h ws l p u e in
            ap (for_dense_peak (under ceiling h) ws l) a.dimension_given ∙ cond_no (unread h) _ _ u ∙ reads a

    pub same_plan : plan_of (under ceiling h) ws l ≡ completed p
    unfolding plan_of
    same_plan =
        ap (λ (t : Bool). refuse_all t 24 (for_dense_peak (under ceiling h) ws l (dimension ceiling h.max_k))) not_refused
        ∙ ap (for_dense_peak (under ceiling h) ws l) same_peak ∙ behind

  -- so at 62, where the published Rust is the reference, each plan is what it is under its own ceiling
  pub at_the_largest : plan_of (under 62 h) ws l ≡ completed p
  at_the_largest =
      let b = bounds in
      same_plan 62 (record { least = omega arith; most = omega arith; max_below = (let m = max_is_below in omega arith); sizes_below = λ c. (let s = sizes_are_below c in omega arith) })

-- under another ceiling a program with a plan has that plan or none, and has it only where the ceiling holds it
pub no_other : (h : Head) (ws : List ℕ) (l : Lengths) (p : Plan) → plan_of h ws l ≡ completed p
    → (ceiling : ℕ) (q : Plan) → plan_of (under ceiling h) ws l ≡ completed q → (q ≡ p) × HoldsPlan ceiling h p
no_other h ws l p e ceiling q f =
    let both : completed q ≡ completed p = sym (at_the_largest (under ceiling h) ws l q f) ∙ at_the_largest h ws l p e in
    let same : q ≡ p = cc in
    let held = plan_held (under ceiling h) ws l q f in (
      same,
      record {
        least = held.least;
        most = held.most;
        max_below = held.max_below;
        sizes_below = λ c. subst (λ (x : Plan). get_or x.sizes c 0 < ceiling) same (held.sizes_below c);
      },
    )

-- ---- every dimension that is asked for

-- after each record and each join a component has no more members than at its longest
after_within : (p : Plan) (n m c : ℕ) → m ≤ n → length (replay_after p m c) ≤ longest_of p n c
after_within p zero m c h = let e : m ≡ 0 = omega arith in let f = ap (λ (i : ℕ). length (replay_after p i c)) e in omega arith
after_within p (suc n) m c h =
    ⊎_elim
    (λ e. let f = ap (λ (i : ℕ). length (replay_after p i c)) e in omega arith)
    (λ d. let f = after_within p n m c (omega (arith, d)) in omega arith)
    (same_or_not m (suc n))

joined_within : (p : Plan) (n m c : ℕ) → m < n → length (replay_joined p m (replay_after p m) c) ≤ longest_of p n c
joined_within p zero m c h = absurd (omega arith)
joined_within p (suc n) m c h =
    ⊎_elim
    (λ e. let f = ap (λ (i : ℕ). length (replay_joined p i (replay_after p i) c)) e in omega arith)
    (λ d. let f = joined_within p n m c (omega (arith, d)) in omega arith)
    (same_or_not m n)

-- the plan of a run under a ceiling above 1
run_dimensions : (ceiling k dense_peak : ℕ) (is : List Instruction) (u : Walk) → 1 < ceiling → Run ceiling (start k) is u → HasDimensions ceiling (length is) (plan_from k dense_peak u)
unfolding plan_from
run_dimensions ceiling k dense_peak is u least run =
    let p = plan_from k dense_peak u in
    let most : (c : ℕ) → longest_of p (length is) c < min ceiling 64 =
    λ c. let e = longest_is ceiling k dense_peak is u run c in let b = longest_below k least run c in omega arith in record {
      live = λ m c h. let w = after_within p (length is) m c h in let b = most c in dimension_at ceiling _ (omega arith) (omega arith);
      joined = λ m c h. let w = joined_within p (length is) m c h in let b = most c in dimension_at ceiling _ (omega arith) (omega arith);
      longest = λ c. let b = longest_below k least run c in dimension_at ceiling _ (omega arith) (omega arith);
    }

pub plan_dimensions : (h : Head) (ws : List ℕ) (l : Lengths) (p : Plan) → plan_of h ws l ≡ completed p → 8 ≤ h.max_k → h.nexpvals ≡ 0
    → HasDimensions h.ceiling (length (instructions_of ws)) p
plan_dimensions h ws l p e wide no-values =
    let a = accepted h ws l p (read_head h wide no-values) e in
    let b = (plan_held h ws l p e).max_below in
    subst (HasDimensions h.ceiling (length (instructions_of ws))) (sym a.plan_is)
    (run_dimensions h.ceiling h.initial_k a.dense_peak (instructions_of ws) a.last (omega arith) a.run)

-- the same of its words followed by zeros
pub dimensions_padded : (h : Head) (ws : List ℕ) (l : Lengths) (p q : Plan) → Accepted h ws l p → Pads p q
    → HasDimensions h.ceiling (length (instructions_of ws)) p → HasDimensions h.ceiling (length (instructions_of ws)) q
dimensions_padded h ws l p q a pads d =
    let named = accepted_names a in record {
      live = λ m c g. subst (λ (b : Replayed). HasDimension h.ceiling (length (b c))) (sym (after_same p q pads m (λ j f. named j (omega arith)))) (d.live m c g);
      joined = λ m c g. subst (λ (b : Replayed). HasDimension h.ceiling (length (b c))) (sym (joined_same p q pads m (λ j f. named j (omega arith)))) (d.joined m c g);
      longest = λ c. subst (HasDimension h.ceiling) (sym (zeroed_at p.sizes q.sizes c pads.sizes)) (d.longest c);
    }
