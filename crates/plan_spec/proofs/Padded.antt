-- Demand 3 of a plan whose words are followed by zeros: an entry behind the words is read as zero anyway, and the row and the part of the merge list that a step
-- names lie among the words. So both plans' replays are the same functions, and each claim goes over.
use mathlib.Core.Path.{◌≡◌, refl, sym, ap, ap₂, ◌∙◌, subst}
use mathlib.Core.Logic.{⊎_elim, inl, inr}
use mathlib.Core.Bool.{cond}
use mathlib.Core.List.{List, ◌++◌, map}
use Prim.Native.Nat.{ℕ, zero, suc, ◌+◌, ◌-◌, ◌*◌, ◌^◌, ◌≤◌, ◌<◌, min, max}
use native.Mathlib.Nat.{mul-suc, mul-le-mul_left}
use native.Mathlib.Omega.{arith}
use lib.Dec.{eqb}
use lib.ListN.{length, get_or, take}
use borrow.Author.Tests.{eq-eqb, ne_eqb}
use Rattle.words.specs.Lists.{numbers_from, Begins}
use Rattle.words.proofs.Numbers.{same_or_not}
use Rattle.words.proofs.Padded.{Zeroed, zeroed_at, zeroed_part}
use Rattle.records.specs.Record.{instructions_of}
use Rattle.records.specs.declared.Head.{Head}
use Rattle.records.specs.declared.Instruction.{Instruction}
use Rattle.records.specs.declared.Instruction.TheVariants.{Rotation, Promotion, RecordMeasurement, RecordDetector, Measurement, Expectation, DormantBranch}
use Rattle.plan_spec.specs.Lists.{total, concat}
use Rattle.plan_spec.specs.Rows.{row_component, row_merge_offset, row_merge_count, row_width, measurement_pivot, step_row}
use Rattle.plan_spec.specs.Walk.{Written, Walk, start, no_step, ignored_step, promotion_step, rotation_step, measurement_step}
use Rattle.plan_spec.specs.Plan.{Lengths, Plan, plan_from}
use Rattle.plan_spec.specs.Connectivity.{Member, NoRepeats, Rearranged, ActiveOrder, active_start, active_after, support_of, Replayed, replay_start, replay_join, kind_at, payload_at, row_at, rotation_at, measurement_at, listed_by, joined_by, replay_promotion, drop_member, changed_by, replay_joined, replay_after, replay_members, AreInOneComponent, longest_of, JoinHolds, IsRotationJoin, IsMeasurementJoin, JoinClaim, measurements_in, Connected}
use Rattle.plan_spec.proofs.Steps.{cond_yes, cond_no, Stepped, ignored, rotated, promoted, measured, recorded, detected, expected, branched, Run, done, more}
use Rattle.plan_spec.proofs.Growth.{Grown, AllOf, AllInside, row-at, length_concat, grown_refl, grown_trans, run_grown, step_steps, run_rotations, run_measurements, run_inside, start_wide, start_inside}
use Rattle.plan_spec.proofs.Replay.{seam_first, seam_second, seam_below}
use Rattle.plan_spec.proofs.Claims.{map_same}
use Rattle.plan_spec.proofs.Accepted.{Accepted}

-- ---- what the steps name

-- the row that step m names is one of the rows
abbrev RowNamed : Written → ℕ → Type 0
RowNamed o m =
    (get_or o.steps (2 * m) 0 ≡ 2 → get_or o.steps (suc (2 * m)) 0 < length o.rotations)
    × (get_or o.steps (2 * m) 0 ≡ 4 → get_or o.steps (suc (2 * m)) 0 < length o.measurements)

-- a step of another kind names none
none_named : (o : Written) (m kind payload : ℕ) (written : List ℕ) → length written ≡ 2 * m → Begins (written ++ step_row kind payload) o.steps
    → (kind ≡ 2 → ⊥) → (kind ≡ 4 → ⊥) → RowNamed o m
none_named o m kind payload written l e two four =
    let k = seam_first written o.steps kind payload (2 * m) l e in (λ f. absurd (two (sym k ∙ f)), λ f. absurd (four (sym k ∙ f)))

-- the row that a step wrote
step_named : {limit : ℕ} {w v : Walk} {i : Instruction} (o : Written) (m : ℕ) → Stepped limit w i v → length w.written.steps ≡ 2 * m → Grown v.written o
    → RowNamed o m
unfolding no_step ignored_step promotion_step rotation_step measurement_step
step_named {w = w} o m (ignored x z phase angle sine cosine empty) l g =
    none_named o m 1 0 w.written.steps l g.steps (λ e. omega (arith, e)) (λ e. omega (arith, e))
step_named {w = w} o m (rotated width x z phase angle sine cosine k wide active small fits made) l g =
    let kind = seam_first w.written.steps o.steps 2 (length w.written.rotations) (2 * m) l g.steps in
    let payload = seam_second w.written.steps o.steps 2 (length w.written.rotations) (2 * m) l g.steps in
    let below = seam_below w.written.rotations o.rotations _ g.rotations in (λ e. omega arith, λ e. omega arith)
step_named {w = w} o m promoted l g =
    none_named o m 3 (length w.written.promotions) w.written.steps l g.steps (λ e. omega (arith, e)) (λ e. omega (arith, e))
step_named {w = w} o m (measured width x z phase pivot k wide active small fits below inside made) l g =
    let kind = seam_first w.written.steps o.steps 4 (length w.written.measurements) (2 * m) l g.steps in
    let payload = seam_second w.written.steps o.steps 4 (length w.written.measurements) (2 * m) l g.steps in
    let under = seam_below w.written.measurements o.measurements _ g.measurements in (λ e. omega arith, λ e. omega arith)
step_named {w = w} o m recorded l g = none_named o m 0 0 w.written.steps l g.steps (λ e. omega (arith, e)) (λ e. omega (arith, e))
step_named {w = w} o m detected l g = none_named o m 0 0 w.written.steps l g.steps (λ e. omega (arith, e)) (λ e. omega (arith, e))
step_named {w = w} o m expected l g = none_named o m 0 0 w.written.steps l g.steps (λ e. omega (arith, e)) (λ e. omega (arith, e))
step_named {w = w} o m branched l g = none_named o m 0 0 w.written.steps l g.steps (λ e. omega (arith, e)) (λ e. omega (arith, e))

-- those that a run wrote, from record a on
run_named : {limit : ℕ} {w v : Walk} {is : List Instruction} (o : Written) (a : ℕ) → Run limit w is v → length w.written.steps ≡ 2 * a → Grown v.written o
    → (m : ℕ) → a ≤ m → m < a + length is → RowNamed o m
run_named o a (done w) l g m from to = absurd (omega arith)
run_named o a (more {is = is} s rest) l g m from to =
    ⊎_elim
    (λ e. subst (RowNamed o) (sym e) (step_named o a s l (grown_trans (run_grown rest) g)))
    (λ n. run_named o (suc a) rest (let e = step_steps s in omega arith) g m (omega (arith, n)) (omega arith))
    (same_or_not m a)

-- a row among the rows of a plan, and the part that it names among its merge list
abbrev RowInside : ℕ → List ℕ → List ℕ → ℕ → Type 0
RowInside size rows merges payload =
    (size * payload + size ≤ length rows) × (row_merge_offset (row_at size rows payload) + row_merge_count (row_at size rows payload) ≤ length merges)

-- so it is for each row of a run
row_inside : (size : ℕ) (rows : List (List ℕ)) (merges : List ℕ) (i : ℕ) → AllOf size rows → AllInside (length merges) rows → i < length rows
    → RowInside size (concat rows) merges i
row_inside size rows merges i wide inside h =
    let words = length_concat size rows wide in
    let next = mul-suc size i in
    let most = mul-le-mul_left size h in (
      omega arith,
      subst (λ (row : List ℕ). row_merge_offset row + row_merge_count row ≤ length merges) (sym (row-at size rows i wide h)) (inside i h),
    )

-- what step m names lies among the words
pub record Named (p : Plan) (m : ℕ) : Type 0 where
  pub rotation : kind_at p m ≡ 2 → RowInside 21 p.rotations p.merges (payload_at p m)
  pub measurement : kind_at p m ≡ 4 → RowInside 19 p.measurements p.merges (payload_at p m)

-- at the start no step is written
start_none : (k : ℕ) → length (start k).written.steps ≡ 2 * 0
unfolding start
start_none k = refl

-- in the plan of a run
pub run_names : {limit : ℕ} (k dense_peak : ℕ) {u : Walk} {is : List Instruction} → Run limit (start k) is u → (m : ℕ) → m < length is
    → Named (plan_from k dense_peak u) m
unfolding plan_from
run_names k dense_peak {u} run m h =
    let o = u.written in
    let n = run_named o 0 run (start_none k) (grown_refl o) m (omega arith) (omega arith) in
    let inside = run_inside run (start_inside k) in record {
      rotation = λ e. row_inside 21 o.rotations o.merges (get_or o.steps (suc (2 * m)) 0) (run_rotations run (start_wide k 21).0) inside.0 (n.0 e);
      measurement = λ e. row_inside 19 o.measurements o.merges (get_or o.steps (suc (2 * m)) 0) (run_measurements run (start_wide k 19).1) inside.1 (n.1 e);
    }

-- ---- the same replay

-- the scalars that the claims read are p's, and so are the words, with zeros behind them
pub record Pads (p q : Plan) : Type 0 where
  pub initial_components : q.initial_components ≡ p.initial_components
  pub component_count : q.component_count ≡ p.component_count
  pub peak : q.peak ≡ p.peak
  pub allocated : q.allocated ≡ p.allocated
  pub steps : Zeroed p.steps q.steps
  pub merges : Zeroed p.merges q.merges
  pub sizes : Zeroed p.sizes q.sizes
  pub rotations : Zeroed p.rotations q.rotations
  pub promotions : Zeroed p.promotions q.promotions
  pub measurements : Zeroed p.measurements q.measurements

-- a choice by a kind, where what is chosen is the same
kind_chosen : {A : Type 0} (kind k : ℕ) (x y v w : A) → (kind ≡ k → x ≡ v) → y ≡ w → cond (eqb kind k) x y ≡ cond (eqb kind k) v w
kind_chosen kind k x y v w f g =
    ⊎_elim
    (λ e. cond_yes (eqb kind k) x y (eq-eqb kind k e) ∙ f e ∙ sym (cond_yes (eqb kind k) v w (eq-eqb kind k e)))
    (λ n. cond_no (eqb kind k) x y (ne_eqb kind k n) ∙ g ∙ sym (cond_no (eqb kind k) v w (ne_eqb kind k n)))
    (same_or_not kind k)

module _ (p q : Plan) (pads : Pads p q) where
  -- the kind, the payload and the promotion of step m
  pub kind_same : (m : ℕ) → kind_at q m ≡ kind_at p m
  kind_same m = zeroed_at p.steps q.steps (2 * m) pads.steps

  pub payload_same : (m : ℕ) → payload_at q m ≡ payload_at p m
  payload_same m = zeroed_at p.steps q.steps (suc (2 * m)) pads.steps

  promotion_same : (m : ℕ) → get_or q.promotions (payload_at q m) 0 ≡ get_or p.promotions (payload_at p m) 0
  promotion_same m = ap (λ (n : ℕ). get_or q.promotions n 0) (payload_same m) ∙ zeroed_at p.promotions q.promotions (payload_at p m) pads.promotions

  -- a rotation's row, and the part of the merge list that it names
  pub rotation_same : (m : ℕ) → Named p m → kind_at p m ≡ 2 → rotation_at q m ≡ rotation_at p m
  rotation_same m named e =
      ap (λ (n : ℕ). row_at 21 q.rotations n) (payload_same m)
      ∙ zeroed_part p.rotations q.rotations (21 * payload_at p m) 21 (named.rotation e).0 pads.rotations

  pub rotation_part : (m : ℕ) → Named p m → kind_at p m ≡ 2 → listed_by q (rotation_at q m) ≡ listed_by p (rotation_at p m)
  rotation_part m named e =
      ap (λ (row : List ℕ). listed_by q row) (rotation_same m named e)
      ∙ zeroed_part p.merges q.merges (row_merge_offset (rotation_at p m)) (row_merge_count (rotation_at p m)) (named.rotation e).1 pads.merges

  -- a measurement's row, and the part of the merge list that it names
  pub measurement_same : (m : ℕ) → Named p m → kind_at p m ≡ 4 → measurement_at q m ≡ measurement_at p m
  measurement_same m named e =
      ap (λ (n : ℕ). row_at 19 q.measurements n) (payload_same m)
      ∙ zeroed_part p.measurements q.measurements (19 * payload_at p m) 19 (named.measurement e).0 pads.measurements

  pub measurement_part : (m : ℕ) → Named p m → kind_at p m ≡ 4 → listed_by q (measurement_at q m) ≡ listed_by p (measurement_at p m)
  measurement_part m named e =
      ap (λ (row : List ℕ). listed_by q row) (measurement_same m named e)
      ∙ zeroed_part p.merges q.merges (row_merge_offset (measurement_at p m)) (row_merge_count (measurement_at p m)) (named.measurement e).1 pads.merges

  -- the join of record m
  join_same : (m : ℕ) → Named p m → (b : Replayed) → replay_joined q m b ≡ replay_joined p m b
  unfolding replay_joined
  join_same m named b =
      ap (λ (n : ℕ). joined_by n q m b) (kind_same m)
      ∙ kind_chosen (kind_at p m) 2 _ _ _ _ (λ e. ap (λ (ss : List ℕ). replay_join ss b) (rotation_part m named e))
      (kind_chosen (kind_at p m) 4 _ _ _ _ (λ e. ap (λ (ss : List ℕ). replay_join ss b) (measurement_part m named e)) refl)

  -- what record m changes besides
  change_same : (m : ℕ) → Named p m → (b : Replayed) → changed_by (kind_at q m) q m b ≡ changed_by (kind_at p m) p m b
  change_same m named b =
      ap (λ (n : ℕ). changed_by n q m b) (kind_same m)
      ∙ kind_chosen (kind_at p m) 3 _ _ _ _ (λ e. ap (λ (c : ℕ). replay_promotion c b) (promotion_same m))
      (kind_chosen (kind_at p m) 4 _ _ _ _ (λ e. ap (λ (row : List ℕ). drop_member (row_component row) (measurement_pivot row) b) (measurement_same m named e)) refl)

  -- the components after m records
  pub after_same : (m : ℕ) → ((j : ℕ) → j < m → Named p j) → replay_after q m ≡ replay_after p m
  unfolding replay_after
  after_same zero named = ap replay_start pads.initial_components
  after_same (suc m) named =
      let here = named m (omega arith) in
      let before = after_same m (λ j h. named j (omega arith)) in
      change_same m here (replay_joined q m (replay_after q m))
      ∙ ap (changed_by (kind_at p m) p m) (ap (replay_joined q m) before ∙ join_same m here (replay_after p m))

  -- and just after the join of the next
  pub joined_same : (m : ℕ) → ((j : ℕ) → j < suc m → Named p j) → replay_joined q m (replay_after q m) ≡ replay_joined p m (replay_after p m)
  joined_same m named = ap (replay_joined q m) (after_same m (λ j h. named j (omega arith))) ∙ join_same m (named m (omega arith)) (replay_after p m)

  -- the greatest length of component i
  longest_same : (m : ℕ) → ((j : ℕ) → j < m → Named p j) → (i : ℕ) → longest_of q m i ≡ longest_of p m i
  longest_same zero named i = ap (λ (b : Replayed). length (b i)) (after_same zero named)
  longest_same (suc m) named i =
      ap₂ max (longest_same m (λ j h. named j (omega arith)) i)
      (ap₂ max (ap (λ (b : Replayed). length (b i)) (joined_same m named)) (ap (λ (b : Replayed). length (b i)) (after_same (suc m) named)))

  -- all members
  members_same : (m : ℕ) → ((j : ℕ) → j < m → Named p j) → replay_members q (replay_after q m) ≡ replay_members p (replay_after p m)
  members_same m named = ap₂ (λ (n : ℕ) (b : Replayed). concat (map b (numbers_from 0 n))) pads.component_count (after_same m named)

  -- ---- the same claims

  -- two coordinates in one component
  same_here : (b d : Replayed) → b ≡ d → (x y : ℕ) → AreInOneComponent q b x y → AreInOneComponent p d x y
  same_here b d e x y s = record {
    component = s.component;
    listed = let l = s.listed in let c = pads.component_count in omega arith;
    first = subst (λ (f : Replayed). Member x (f s.component)) e s.first;
    second = subst (λ (f : Replayed). Member y (f s.component)) e s.second;
  }

  -- and back
  same_there : (b d : Replayed) → b ≡ d → (x y : ℕ) → AreInOneComponent p d x y → AreInOneComponent q b x y
  same_there b d e x y s = record {
    component = s.component;
    listed = let l = s.listed in let c = pads.component_count in omega arith;
    first = subst (λ (f : Replayed). Member x (f s.component)) (sym e) s.first;
    second = subst (λ (f : Replayed). Member y (f s.component)) (sym e) s.second;
  }

  -- what holds of a row and its component
  holds_same : (order support row row' : List ℕ) (b d : Replayed) (x z : ℕ) → row ≡ row' → b ≡ d → JoinHolds order support (d (row_component row')) row' x z
      → JoinHolds order support (b (row_component row)) row x z
  holds_same order support row row' b d x z e f h =
      subst (λ (f : Replayed). JoinHolds order support (f (row_component row)) row x z) (sym f)
      (subst (λ (l : List ℕ). JoinHolds order support (d (row_component l)) l x z) (sym e) h)

  module _ (m : ℕ) (named : (j : ℕ) → j < suc m → Named p j) (r : ActiveOrder) where
    -- of a rotation
    rotation_claim : (width x z : ℕ) → IsRotationJoin p m r width x z → IsRotationJoin q m r width x z
    rotation_claim width x z c =
        let row = rotation_same m (named m (omega arith)) c.kind in record {
          kind = kind_same m ∙ c.kind;
          holds = holds_same r.order (support_of width x z r.order) (rotation_at q m) (rotation_at p m) _ _ x z row (joined_same m named) c.holds;
        }

    -- of a measurement
    measurement_claim : (width x z pivot : ℕ) → IsMeasurementJoin p m r width x z pivot → IsMeasurementJoin q m r width x z pivot
    measurement_claim width x z pivot c =
        let row = measurement_same m (named m (omega arith)) c.kind in record {
          kind = kind_same m ∙ c.kind;
          holds = holds_same r.order (support_of width x z r.order) (measurement_at q m) (measurement_at p m) _ _ x z row (joined_same m named) c.holds;
          pivot_active = c.pivot_active;
          pivot_local = subst (λ (l : List ℕ). measurement_pivot l < row_width l) (sym row) c.pivot_local;
          pivot_same =
              ap₂ (λ (b : Replayed) (l : List ℕ). get_or (b (row_component l)) (measurement_pivot l) 0) (joined_same m named) row
              ∙ c.pivot_same;
        }

    -- of any record
    claim_same : (i : Instruction) → JoinClaim p m r i → JoinClaim q m r i
    unfolding JoinClaim
    claim_same (Rotation width x z phase angle sine cosine) c = ⊎_elim (λ e. inl e) (λ j. inr (rotation_claim width x z j)) c
    claim_same (Measurement width x z phase pivot) c = measurement_claim width x z pivot c
    claim_same Promotion c = c
    claim_same RecordMeasurement c = c
    claim_same RecordDetector c = c
    claim_same Expectation c = c
    claim_same DormantBranch c = c

  -- all claims
  pub connected_same : (k : ℕ) (is : List Instruction) → ((j : ℕ) → j < length is → Named p j) → (m : ℕ) → m ≤ length is → Connected k is p m → Connected k is q m
  connected_same k is named m h c =
      let upto : (j : ℕ) → j < m → Named p j = λ j g. named j (omega arith) in
      let members = members_same m upto in
      let after = after_same m upto in record {
        rearrangement = subst (λ (l : List ℕ). Rearranged l (active_after (active_start k) (take m is)).order) (sym members) c.rearrangement;
        no_repeats = subst NoRepeats (sym members) c.no_repeats;
        none_beyond = λ i g. ap (λ (b : Replayed). b i) after ∙ c.none_beyond i (let e = pads.component_count in omega arith);
        all_made = pads.component_count ∙ c.all_made;
        count = ap (λ (l : List ℕ). length l + total (map measurements_in (take m is))) members ∙ c.count;
        same_component = λ a b ma mb.
            let s = c.same_component a b ma mb in
            (λ x. s.0 (same_here (replay_after q m) (replay_after p m) after a b x), λ l. same_there (replay_after q m) (replay_after p m) after a b (s.1 l));
        joins = λ g. claim_same m (λ j f. named j (omega arith)) (active_after (active_start k) (take m is)) (get_or is m DormantBranch) (c.joins g);
        gathered = c.gathered;
        peak = pads.peak ∙ c.peak;
        allocated =
            pads.allocated ∙ c.allocated
            ∙ sym (ap (λ (n : ℕ). min (2 ^ 64 - 1) (total (map (λ i. 2 ^ longest_of q (length is) i) (numbers_from 0 n)))) pads.component_count
            ∙ ap (λ (ns : List ℕ). min (2 ^ 64 - 1) (total ns))
            (map_same (λ i. 2 ^ longest_of q (length is) i) (λ i. 2 ^ longest_of p (length is) i) (λ i. ap (λ (n : ℕ). 2 ^ n) (longest_same (length is) named i))
            (numbers_from 0 p.component_count)));
        peak_fits = let a = pads.peak in let b = pads.allocated in let e = c.peak_fits in omega arith;
      }

-- each step of an accepted plan names a row and a part that lie among its words
pub accepted_names : {h : Head} {ws : List ℕ} {l : Lengths} {p : Plan} → Accepted h ws l p → (j : ℕ) → j < length (instructions_of ws) → Named p j
accepted_names {h = h} a j g = subst (λ (x : Plan). Named x j) (sym a.plan_is) (run_names h.initial_k a.dense_peak a.run j g)

-- Demand 3 of an accepted plan is demand 3 of its words followed by zeros
pub connected_padded : (h : Head) (ws : List ℕ) (l : Lengths) (p q : Plan) → Accepted h ws l p → Pads p q
    → (m : ℕ) → m ≤ length (instructions_of ws) → Connected h.initial_k (instructions_of ws) p m → Connected h.initial_k (instructions_of ws) q m
connected_padded h ws l p q a pads m within c =
    connected_same p q pads h.initial_k (instructions_of ws) (accepted_names a) m within c
