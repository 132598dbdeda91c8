-- The plan's words give the components back: outputs only grow, so the step, the row and the part of the merge list that record m wrote stand in the finished
-- plan where the replay reads them, and what it does with them is what the walk did.
use mathlib.Core.Path.{◌≡◌, refl, sym, ap, ap₂, ◌∙◌, subst}
use mathlib.Core.Logic.{⊎_elim}
use mathlib.Core.Bool.{Bool, false, cond}
use mathlib.Core.List.{List, [], ◌∷◌, ◌++◌, map, append_assoc}
use Prim.Native.Nat.{ℕ, zero, suc, ◌+◌, ◌*◌, ◌<◌}
use native.Mathlib.Omega.{arith}
use lib.Dec.{eqb, ltb, leb-suc-suc}
use lib.ListN.{length, get_or, take, drop, set, length-append, get_or-eq_default}
use lib.Seq.{get_or-set_same, get_or-set_other, get_or_at, take-append_seam, drop-append_seam}
use borrow.Author.Tests.{eq-eqb, ne_eqb, lt-ltb, le-ltb}
use Rattle.words.specs.Lists.{numbers_from, Begins}
use Rattle.words.proofs.Numbers.{same_or_not}
use Rattle.words.proofs.Patches.{begins_length}
use Rattle.kernels.specs.declared.active.PrecomputedActivePauliRotationKernel.{PrecomputedActivePauliRotationKernel}
use Rattle.kernels.specs.declared.active.PrecomputedActivePauliMeasurementKernel.{PrecomputedActivePauliMeasurementKernel}
use Rattle.records.specs.declared.Instruction.{Instruction}
use Rattle.plan_spec.specs.Lists.{is_in, remove_at, concat}
use Rattle.plan_spec.specs.Rows.{row_component, measurement_pivot, step_row}
use Rattle.plan_spec.specs.Walk.{Walk, Join, join_of, start, no_step, ignored_step, promotion_step, rotation_step, measurement_step, row_head, rotation_row, measurement_row}
use Rattle.plan_spec.specs.Plan.{Plan, plan_from}
use Rattle.plan_spec.specs.Connectivity.{ActiveOrder, active_step, Replayed, joined_members, replay_join, kind_at, payload_at, row_at, rotation_at, measurement_at, listed_by, joined_by, replay_promotion, drop_member, changed_by, replay_joined, replay_after}
use Rattle.plan_spec.proofs.Steps.{cond_yes, cond_no, Stepped, ignored, rotated, promoted, measured, recorded, detected, expected, branched, Run, done, more}
use Rattle.plan_spec.proofs.Invariant.{after_join, snoc_at}
use Rattle.plan_spec.proofs.Tracking.{Tracked, active_of, tracked_here, target_below, target_members, join_length, step_tracked}
use Rattle.plan_spec.proofs.Growth.{Grown, AllOf, row-at, grown_trans, run_grown, step_steps}

-- ---- what was appended stands in the longer list

-- a pair of words
pub seam_first : (xs zs : List ℕ) (a b n : ℕ) → length xs ≡ n → Begins (xs ++ (a ∷ b ∷ [])) zs → get_or zs n 0 ≡ a
seam_first xs zs a b n l e =
    ap (λ (ys : List ℕ). get_or ys n 0) (e.1 ∙ append_assoc xs (a ∷ b ∷ []) e.0) ∙ get_or_at xs a (b ∷ e.0) 0 n l

pub seam_second : (xs zs : List ℕ) (a b n : ℕ) → length xs ≡ n → Begins (xs ++ (a ∷ b ∷ [])) zs → get_or zs (suc n) 0 ≡ b
seam_second xs zs a b n l e =
    ap (λ (ys : List ℕ). get_or ys (suc n) 0) (e.1 ∙ append_assoc xs (a ∷ b ∷ []) e.0 ∙ sym (append_assoc xs (a ∷ []) (b ∷ e.0)))
    ∙ get_or_at (xs ++ (a ∷ [])) b e.0 0 (suc n) (length-append xs (a ∷ []) ∙ omega arith)

-- a part
pub seam_part : (xs ys zs : List ℕ) → Begins (xs ++ ys) zs → take (length ys) (drop (length xs) zs) ≡ ys
seam_part xs ys zs e =
    ap (λ (l : List ℕ). take (length ys) (drop (length xs) l)) (e.1 ∙ append_assoc xs ys e.0)
    ∙ ap (take (length ys)) (drop-append_seam xs (ys ++ e.0)) ∙ take-append_seam ys e.0

-- an entry
pub seam_entry : {A : Type 0} (xs zs : List A) (a d : A) → Begins (xs ++ (a ∷ [])) zs → get_or zs (length xs) d ≡ a
seam_entry xs zs a d e = ap (λ (l : List _). get_or l (length xs) d) (e.1 ∙ append_assoc xs (a ∷ []) e.0) ∙ get_or_at xs a e.0 d (length xs) refl

pub seam_below : {A : Type 0} (xs zs : List A) (a : A) → Begins (xs ++ (a ∷ [])) zs → length xs < length zs
seam_below xs zs a e = let f = begins_length (xs ++ (a ∷ [])) zs e in let g = length-append xs (a ∷ []) in omega arith

-- a row
seam_row : (n : ℕ) (xs zs : List (List ℕ)) (row : List ℕ) → AllOf n zs → Begins (xs ++ (row ∷ [])) zs → row_at n (concat zs) (length xs) ≡ row
seam_row n xs zs row wide e = row-at n zs (length xs) wide (seam_below xs zs row e) ∙ seam_entry xs zs row [] e

-- ---- bins that agree are joined alike

joined_members_same : (b d : Replayed) → ((i : ℕ) → b i ≡ d i) → (ss : List ℕ) → joined_members b ss ≡ joined_members d ss
joined_members_same b d e [] = refl
joined_members_same b d e (s ∷ ss) = ap₂ (λ (x y : List ℕ). x ++ y) (e s) (joined_members_same b d e ss)

joined_same : (b d : Replayed) → ((i : ℕ) → b i ≡ d i) → (ss : List ℕ) (i : ℕ) → replay_join ss b i ≡ replay_join ss d i
joined_same b d e [] i = e i
joined_same b d e (t ∷ others) i =
    ap₂ (λ (x y : List ℕ). cond (eqb i t) x (cond (is_in i others) [] y)) (joined_members_same b d e (t ∷ others)) (e i)

-- ---- one step of the replay

-- the components just after the join of a step, and as before where it has none
unfoldable pub joined_components : {limit : ℕ} {w v : Walk} {i : Instruction} → Stepped limit w i v → List (List ℕ)
joined_components {w = w} (ignored x z phase angle sine cosine empty) = w.components
joined_components {w = w} (rotated width x z phase angle sine cosine k wide active small fits made) = (join_of x z w).components
joined_components {w = w} promoted = w.components
joined_components {w = w} (measured width x z phase pivot k wide active small fits below inside made) = (join_of x z w).components
joined_components {w = w} recorded = w.components
joined_components {w = w} detected = w.components
joined_components {w = w} expected = w.components
joined_components {w = w} branched = w.components

module _ (initial dense_peak : ℕ) (u : Walk) (rotations_wide : AllOf 21 u.written.rotations) (measurements_wide : AllOf 19 u.written.measurements) where
  abbrev pub plan : Plan
  plan = plan_from initial dense_peak u

  -- the replay after m records has the walk's components
  abbrev pub ReplayIs : ℕ → Walk → Type 0
  ReplayIs m w = (i : ℕ) → replay_after plan m i ≡ get_or w.components i []

  -- the kind and the payload that a step wrote
  wrote_kind : (m kind payload : ℕ) (written : List ℕ) → length written ≡ 2 * m → Begins (written ++ step_row kind payload) u.written.steps → kind_at plan m ≡ kind
  unfolding plan_from
  wrote_kind m kind payload written l e = seam_first written u.written.steps kind payload (2 * m) l e

  wrote_payload : (m kind payload : ℕ) (written : List ℕ) → length written ≡ 2 * m → Begins (written ++ step_row kind payload) u.written.steps → payload_at plan m ≡ payload
  unfolding plan_from
  wrote_payload m kind payload written l e = seam_second written u.written.steps kind payload (2 * m) l e

  -- a rotation's row, and the part of the merge list that it names
  pub rotation_kind : (m : ℕ) (w : Walk) (j : Join) (k : PrecomputedActivePauliRotationKernel) → length w.written.steps ≡ 2 * m
      → Grown (rotation_step w j k).written u.written → kind_at plan m ≡ 2
  unfolding rotation_step
  rotation_kind m w j k l g = wrote_kind m 2 (length w.written.rotations) w.written.steps l g.steps

  pub rotation_row_lem : (m : ℕ) (w : Walk) (j : Join) (k : PrecomputedActivePauliRotationKernel) → length w.written.steps ≡ 2 * m
      → Grown (rotation_step w j k).written u.written
      → rotation_at plan m ≡ rotation_row j.component (length w.written.merges) (length j.sources) k
  unfolding plan_from rotation_step
  rotation_row_lem m w j k l g =
      ap (λ (n : ℕ). row_at 21 (concat u.written.rotations) n) (wrote_payload m 2 (length w.written.rotations) w.written.steps l g.steps)
      ∙ seam_row 21 w.written.rotations u.written.rotations _ rotations_wide g.rotations

  rotation_listed : (m : ℕ) (w : Walk) (j : Join) (k : PrecomputedActivePauliRotationKernel) → length w.written.steps ≡ 2 * m
      → Grown (rotation_step w j k).written u.written → listed_by plan (rotation_at plan m) ≡ j.sources
  unfolding plan_from rotation_step rotation_row row_head
  rotation_listed m w j k l g = ap (listed_by plan) (rotation_row_lem m w j k l g) ∙ seam_part w.written.merges j.sources u.written.merges g.merges

  -- a measurement's row, and the part of the merge list that it names
  pub measurement_kind : (m : ℕ) (w : Walk) (j : Join) (pivot : ℕ) (k : PrecomputedActivePauliMeasurementKernel) → length w.written.steps ≡ 2 * m
      → Grown (measurement_step w j pivot k).written u.written → kind_at plan m ≡ 4
  unfolding measurement_step
  measurement_kind m w j pivot k l g = wrote_kind m 4 (length w.written.measurements) w.written.steps l g.steps

  pub measurement_row_lem : (m : ℕ) (w : Walk) (j : Join) (pivot : ℕ) (k : PrecomputedActivePauliMeasurementKernel) → length w.written.steps ≡ 2 * m
      → Grown (measurement_step w j pivot k).written u.written
      → measurement_at plan m
      ≡ measurement_row j.component (length w.written.merges) (length j.sources) k (eqb (length (remove_at k.pivot j.members)) 0)
  unfolding plan_from measurement_step
  measurement_row_lem m w j pivot k l g =
      ap (λ (n : ℕ). row_at 19 (concat u.written.measurements) n) (wrote_payload m 4 (length w.written.measurements) w.written.steps l g.steps)
      ∙ seam_row 19 w.written.measurements u.written.measurements _ measurements_wide g.measurements

  measurement_listed : (m : ℕ) (w : Walk) (j : Join) (pivot : ℕ) (k : PrecomputedActivePauliMeasurementKernel) → length w.written.steps ≡ 2 * m
      → Grown (measurement_step w j pivot k).written u.written → listed_by plan (measurement_at plan m) ≡ j.sources
  unfolding plan_from measurement_step measurement_row row_head
  measurement_listed m w j pivot k l g = ap (listed_by plan) (measurement_row_lem m w j pivot k l g) ∙ seam_part w.written.merges j.sources u.written.merges g.merges

  promotion_named : (m : ℕ) (w : Walk) → length w.written.steps ≡ 2 * m → Grown (promotion_step w).written u.written
      → get_or plan.promotions (payload_at plan m) 0 ≡ length w.components
  unfolding plan_from promotion_step
  promotion_named m w l g =
      ap (λ (n : ℕ). get_or u.written.promotions n 0) (wrote_payload m 3 (length w.written.promotions) w.written.steps l g.steps)
      ∙ seam_entry w.written.promotions u.written.promotions (length w.components) 0 g.promotions

  -- ---- just after the join of record m

  replay_join_lem : (m : ℕ) (w : Walk) (r : ActiveOrder) (x z : ℕ) → Tracked w r → ReplayIs m w → (i : ℕ) → replay_join (join_of x z w).sources (replay_after plan m) i ≡ get_or (join_of x z w).components i []
  unfolding join_of
  replay_join_lem m w r x z t replay i =
      joined_same (replay_after plan m) (λ c. get_or w.components c []) replay (join_of x z w).sources i
      ∙ sym (after_join w.components (active_of w r) (tracked_here w r t) x z i)

  -- a step of a kind that joins nothing leaves the bins
  unjoined : (m kind : ℕ) (w : Walk) → kind_at plan m ≡ kind → (eqb kind 2 ≡ false) → (eqb kind 4 ≡ false) → ReplayIs m w → (i : ℕ)
      → replay_joined plan m (replay_after plan m) i ≡ get_or w.components i []
  unfolding replay_joined
  unjoined m kind w e a b replay i =
      ap (λ (n : ℕ). joined_by n plan m (replay_after plan m) i) e
      ∙ ap (λ (f : Replayed). f i) (cond_no (eqb kind 2) _ _ a ∙ cond_no (eqb kind 4) _ _ b) ∙ replay i

  pub step_joined : {limit : ℕ} {w v : Walk} {i : Instruction} (m : ℕ) (r : ActiveOrder) (s : Stepped limit w i v) → length w.written.steps ≡ 2 * m → Grown v.written u.written
      → Tracked w r → ReplayIs m w → (c : ℕ) → replay_joined plan m (replay_after plan m) c ≡ get_or (joined_components s) c []
  unfolding joined_components replay_joined no_step ignored_step promotion_step
  step_joined {w = w} m r (ignored x z phase angle sine cosine empty) l g t replay c = unjoined m 1 w (wrote_kind m 1 0 w.written.steps l g.steps) refl refl replay c
  step_joined {w = w} m r (rotated width x z phase angle sine cosine k wide active small fits made) l g t replay c =
      ap (λ (n : ℕ). joined_by n plan m (replay_after plan m) c) (rotation_kind m w (join_of x z w) k l g)
      ∙ ap (λ (ss : List ℕ). replay_join ss (replay_after plan m) c) (rotation_listed m w (join_of x z w) k l g)
      ∙ replay_join_lem m w r x z t replay c
  step_joined {w = w} m r promoted l g t replay c = unjoined m 3 w (wrote_kind m 3 (length w.written.promotions) w.written.steps l g.steps) refl refl replay c
  step_joined {w = w} m r (measured width x z phase pivot k wide active small fits below inside made) l g t replay c =
      ap (λ (n : ℕ). joined_by n plan m (replay_after plan m) c) (measurement_kind m w (join_of x z w) pivot k l g)
      ∙ ap (λ (ss : List ℕ). replay_join ss (replay_after plan m) c) (measurement_listed m w (join_of x z w) pivot k l g)
      ∙ replay_join_lem m w r x z t replay c
  step_joined {w = w} m r recorded l g t replay c = unjoined m 0 w (wrote_kind m 0 0 w.written.steps l g.steps) refl refl replay c
  step_joined {w = w} m r detected l g t replay c = unjoined m 0 w (wrote_kind m 0 0 w.written.steps l g.steps) refl refl replay c
  step_joined {w = w} m r expected l g t replay c = unjoined m 0 w (wrote_kind m 0 0 w.written.steps l g.steps) refl refl replay c
  step_joined {w = w} m r branched l g t replay c = unjoined m 0 w (wrote_kind m 0 0 w.written.steps l g.steps) refl refl replay c

  -- ---- after record m

  unchanged : (m kind : ℕ) → kind_at plan m ≡ kind → (eqb kind 3 ≡ false) → (eqb kind 4 ≡ false) → (c : ℕ)
      → replay_after plan (suc m) c ≡ replay_joined plan m (replay_after plan m) c
  unfolding replay_after
  unchanged m kind e a b c =
      ap (λ (n : ℕ). changed_by n plan m (replay_joined plan m (replay_after plan m)) c) e
      ∙ ap (λ (f : Replayed). f c) (cond_no (eqb kind 3) _ _ a ∙ cond_no (eqb kind 4) _ _ b)

  promoted_replay : (m : ℕ) (w : Walk) → kind_at plan m ≡ 3 → get_or plan.promotions (payload_at plan m) 0 ≡ length w.components
      → ((c : ℕ) → replay_joined plan m (replay_after plan m) c ≡ get_or w.components c [])
      → (c : ℕ) → replay_after plan (suc m) c ≡ get_or (w.components ++ ((length w.components ∷ []) ∷ [])) c []
  unfolding replay_after
  promoted_replay m w kind named replay c =
      ap (λ (n : ℕ). changed_by n plan m (replay_joined plan m (replay_after plan m)) c) kind
      ∙ ap (λ (n : ℕ). replay_promotion n (replay_joined plan m (replay_after plan m)) c) named
      ∙ ⊎_elim
      (λ o. cond_no (eqb c (length w.components)) _ _ (ne_eqb c (length w.components) (λ e. omega (arith, o.0, e))) ∙ replay c ∙ sym o.1)
      (λ rest. ⊎_elim
      (λ n. cond_yes (eqb c (length w.components)) _ _ (eq-eqb c (length w.components) n.0) ∙ sym n.1)
      (λ n. cond_no (eqb c (length w.components)) _ _ (ne_eqb c (length w.components) (λ e. omega (arith, n.0, e)))
      ∙ replay c ∙ get_or-eq_default w.components [] (omega (arith, n.0)) ∙ sym n.1)
      rest)
      (snoc_at [] w.components (length w.components ∷ []) c)

  measured_replay : (m component local : ℕ) (cs : List (List ℕ)) (members : List ℕ) → kind_at plan m ≡ 4 → row_component (measurement_at plan m) ≡ component
      → measurement_pivot (measurement_at plan m) ≡ local → component < length cs → get_or cs component [] ≡ members
      → ((c : ℕ) → replay_joined plan m (replay_after plan m) c ≡ get_or cs c [])
      → (c : ℕ) → replay_after plan (suc m) c ≡ get_or (set cs component (remove_at local members)) c []
  unfolding replay_after
  measured_replay m component local cs members kind named at inside held replay c =
      ap (λ (n : ℕ). changed_by n plan m (replay_joined plan m (replay_after plan m)) c) kind
      ∙ ap₂ (λ (n q : ℕ). drop_member n q (replay_joined plan m (replay_after plan m)) c) named at
      ∙ ⊎_elim
      (λ e. cond_yes (eqb c component) _ _ (eq-eqb c component e) ∙ ap (remove_at local) (replay c ∙ ap (λ (i : ℕ). get_or cs i []) e ∙ held)
      ∙ sym (ap (λ (i : ℕ). get_or (set cs component (remove_at local members)) i []) e ∙ get_or-set_same cs component (remove_at local members) [] inside))
      (λ n. cond_no (eqb c component) _ _ (ne_eqb c component n) ∙ replay c ∙ sym (get_or-set_other cs component c (remove_at local members) [] n))
      (same_or_not c component)

  -- the component and the local pivot that a measurement's row names
  pub measurement_named : (m : ℕ) (w : Walk) (j : Join) (pivot : ℕ) (k : PrecomputedActivePauliMeasurementKernel) → length w.written.steps ≡ 2 * m
      → Grown (measurement_step w j pivot k).written u.written
      → (row_component (measurement_at plan m) ≡ j.component) × (measurement_pivot (measurement_at plan m) ≡ k.pivot)
  unfolding measurement_row row_head
  measurement_named m w j pivot k l g =
      let e = measurement_row_lem m w j pivot k l g in
      (ap row_component e, ap measurement_pivot e)

  pub step_replay : {limit : ℕ} {w v : Walk} {i : Instruction} (m : ℕ) (r : ActiveOrder) → Stepped limit w i v → length w.written.steps ≡ 2 * m → Grown v.written u.written
      → Tracked w r → ReplayIs m w → ReplayIs (suc m) v
  unfolding joined_components no_step ignored_step promotion_step rotation_step measurement_step
  step_replay {limit = limit} {w = w} m r (ignored x z phase angle sine cosine empty) l g t replay c =
      unchanged m 1 (wrote_kind m 1 0 w.written.steps l g.steps) refl refl c ∙ step_joined {limit = limit} m r (ignored x z phase angle sine cosine empty) l g t replay c
  step_replay {limit = limit} {w = w} m r (rotated width x z phase angle sine cosine k wide active small fits made) l g t replay c =
      unchanged m 2 (rotation_kind m w (join_of x z w) k l g) refl refl c
      ∙ step_joined {limit = limit} m r (rotated width x z phase angle sine cosine k wide active small fits made) l g t replay c
  step_replay {limit = limit} {w = w} m r promoted l g t replay c =
      promoted_replay m w (wrote_kind m 3 (length w.written.promotions) w.written.steps l g.steps) (promotion_named m w l g) (step_joined {limit = limit} m r promoted l g t replay) c
  step_replay {limit = limit} {w = w} m r (measured width x z phase pivot k wide active small fits below inside made) l g t replay c =
      let j = join_of x z w in
      let named = measurement_named m w j pivot k l g in
      measured_replay m j.component k.pivot j.components j.members (measurement_kind m w j pivot k l g) named.0 named.1
      (subst (λ (n : ℕ). j.component < n) (sym (join_length w r t x z active)) (target_below w r t x z active))
      (target_members w r t x z active)
      (step_joined {limit = limit} m r (measured width x z phase pivot k wide active small fits below inside made) l g t replay) c
  step_replay {limit = limit} {w = w} m r recorded l g t replay c = unchanged m 0 (wrote_kind m 0 0 w.written.steps l g.steps) refl refl c ∙ step_joined {limit = limit} m r recorded l g t replay c
  step_replay {limit = limit} {w = w} m r detected l g t replay c = unchanged m 0 (wrote_kind m 0 0 w.written.steps l g.steps) refl refl c ∙ step_joined {limit = limit} m r detected l g t replay c
  step_replay {limit = limit} {w = w} m r expected l g t replay c = unchanged m 0 (wrote_kind m 0 0 w.written.steps l g.steps) refl refl c ∙ step_joined {limit = limit} m r expected l g t replay c
  step_replay {limit = limit} {w = w} m r branched l g t replay c = unchanged m 0 (wrote_kind m 0 0 w.written.steps l g.steps) refl refl c ∙ step_joined {limit = limit} m r branched l g t replay c

  -- a run of the walk is followed by the replay
  pub run_replay : {limit : ℕ} {w v : Walk} {is : List Instruction} (m : ℕ) (r : ActiveOrder) → Run limit w is v → Grown v.written u.written → length w.written.steps ≡ 2 * m
      → Tracked w r → ReplayIs m w → ReplayIs (m + length is) v
  run_replay m r (done w) g l t replay c = ap (λ (n : ℕ). replay_after plan n c) (omega arith) ∙ replay c
  run_replay m r (more {i = i} {is = is} s rest) g l t replay c =
      let mid = grown_trans (run_grown rest) g in
      let steps = step_steps s in
      ap (λ (n : ℕ). replay_after plan n c) (omega arith)
      ∙ run_replay (suc m) (active_step r i) rest g (omega arith) (step_tracked r s t) (step_replay m r s l mid t replay) c

alone_replay : (n a c : ℕ) → cond (ltb c n) ((a + c) ∷ []) [] ≡ get_or (map (λ d. d ∷ []) (numbers_from a n)) c []
alone_replay zero a c = cond_no (ltb c 0) _ _ (le-ltb c 0 (omega arith))
alone_replay (suc n) a zero = cond_yes (ltb 0 (suc n)) _ _ (lt-ltb 0 (suc n) (omega arith)) ∙ ap (λ (k : ℕ). k ∷ []) (omega arith)
alone_replay (suc n) a (suc c) =
    ap₂ (λ (t : Bool) (k : ℕ). cond t (k ∷ []) []) (leb-suc-suc (suc c) n) (omega arith) ∙ alone_replay n (suc a) c

-- the replay starts with the walk's start
pub start_replay : (initial dense_peak : ℕ) (u : Walk) (rotations_wide : AllOf 21 u.written.rotations) (measurements_wide : AllOf 19 u.written.measurements)
    → ReplayIs initial dense_peak u rotations_wide measurements_wide 0 (start initial)
unfolding start replay_after plan_from
start_replay initial dense_peak u rw mw c = ap (λ (k : ℕ). cond (ltb c initial) (k ∷ []) []) (omega arith) ∙ alone_replay initial 0 c
