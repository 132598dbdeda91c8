-- A record's join, as the code makes it, is the definition's: its sources, its size, its cost, its live dimension and the state after it.
use mathlib.Core.Path.{◌≡◌, refl, sym, ap, ◌∙◌, subst}
use mathlib.Core.Logic.{◌⊎◌, inl, inr}
use mathlib.Core.Bool.{false}
use mathlib.Core.List.{List, [], ◌∷◌, ◌++◌, append-nil}
use Prim.Native.Nat.{ℕ, ◌+◌, ◌*◌, ◌%◌, ◌^◌, ◌≤◌, ◌<◌}
use native.Mathlib.Omega.{arith}
use lib.Dec.{eqb}
use lib.IntN.{pos}
use lib.Ieee.{Float, fin, binary64, add, mul}
use lib.ListN.{length, get_or, set, drop, length-append}
use lib.Seq.{set-get_or}
use lib.Pow.{pow_mono}
use Rattle.kernels.specs.Bits.{bit_at, exp2}
use Rattle.plan_spec.specs.Lists.{is_in, place_of, concat}
use Rattle.plan_spec.specs.Components.{members_of, size_of, gathered, joined, float_two, cost_from, joining_cost, live_dimension, local_mask}
use Rattle.plan_spec.specs.WholeWorks.{whole_cost_from, whole_joining_cost}
use Rattle.plan_spec.specs.Walk.{Walk, Join, join_of}
use Rattle.plan_spec.specs.Connectivity.{Member, NoRepeats, ActiveOrder, support_of}
use Rattle.plan_spec.proofs.Counting.{member_length, member_head, member_tail}
use Rattle.plan_spec.proofs.Joins.{gathered_holds}
use Rattle.plan_spec.proofs.LocalBits.{local_below}
use Rattle.plan_spec.proofs.Live.{rearranged_length}
use Rattle.plan_spec.proofs.Invariant.{Holds, sources_once, source_holds}
use Rattle.plan_spec.proofs.Tracking.{Tracked, active_of, tracked_here, tracked_join, target_source, target_members}
use Rattle.plan_spec.proofs.Room.{join_live, holds_live}
use Rattle.plan_spec.proofs.States.{tracked_whole}
use Rattle.state.specs.declared.State.{State}
use Rattle.masks.specs.Positions.{picked, reached_mask, sources_in, local_of}
use Rattle.state.specs.Steps.{BeforeJoin, Joined}
use Rattle.work_sums.specs.Tally.{sizes_of, powers, cost_in, whole_cost_in, Countable}
use Rattle.state_model.specs.Represents.{Represents}
use Rattle.state_model.proofs.Sources.{sources_same, reached_source, stands, stands_in}
use Rattle.state_model.proofs.Joining.{size_most, joinable, before_join, represents_join}
use Rattle.state_model.proofs.LocalMasks.{bit_reached, local_same, pivot_in, pivot_place}
use Rattle.state_model.proofs.Sums.{live_join, powers_live}
use Rattle.record_steps.specs.RecordSteps.{sources_at}

-- ---- sums over sources, by sizes and by members

abbrev SizesAgree : List ℕ → List (List ℕ) → List ℕ → Type 0
SizesAgree size cs ss = (c : ℕ) → Member c ss → (get_or size c 0 ≡ size_of cs c) × (0 < size_of cs c)

pub sizes_gathered : (size : List ℕ) (cs : List (List ℕ)) (ss : List ℕ) → SizesAgree size cs ss → sizes_of size ss ≡ length (gathered cs ss)
sizes_gathered size cs [] f = refl
sizes_gathered size cs (s ∷ ss) f =
    let r = sizes_gathered size cs ss (λ c m. f c (member_tail c s ss m)) in
    let e = (f s (member_head s ss)).0 in
    let l = length-append (members_of cs s) (gathered cs ss) in omega arith

-- the joining cost, as a float and as a whole number
cost_from_lem : (size : List ℕ) (cs : List (List ℕ)) (grown : ℕ) (sum : Float) (ss : List ℕ) → SizesAgree size cs ss
    → (cost_in size grown sum ss ≡ cost_from cs grown sum ss) × (whole_cost_in size grown ss ≡ whole_cost_from cs grown ss)
cost_from_lem size cs grown sum [] f = (refl, refl)
cost_from_lem size cs grown sum (s ∷ ss) f =
    let e = (f s (member_head s ss)).0 in
    let rest = cost_from_lem size cs (grown + size_of cs s) (add binary64 sum (mul binary64 float_two (exp2 (grown + size_of cs s)))) ss (λ c m. f c (member_tail c s ss m)) in (
      ap (λ (n : ℕ). cost_in size (grown + n) (add binary64 sum (mul binary64 float_two (exp2 (grown + n)))) ss) e ∙ rest.0,
      ap (λ (n : ℕ). 2 * 2 ^ (grown + n) + whole_cost_in size (grown + n) ss) e ∙ ap (λ (n : ℕ). 2 * 2 ^ (grown + size_of cs s) + n) rest.1,
    )

pub cost_is : (size : List ℕ) (cs : List (List ℕ)) (ss : List ℕ) → SizesAgree size cs ss → 0 < length ss
    → (cost_in size (get_or size (get_or ss 0 0) 0) (fin false 0 (pos 0)) (drop 1 ss) ≡ joining_cost cs ss)
    × (whole_cost_in size (get_or size (get_or ss 0 0) 0) (drop 1 ss) ≡ whole_joining_cost cs ss)
unfolding joining_cost whole_joining_cost
cost_is size cs [] f some = absurd (omega arith)
cost_is size cs (t ∷ others) f some =
    let e = (f t (member_head t others)).0 in
    let rest = cost_from_lem size cs (size_of cs t) (fin false 0 (pos 0)) others (λ c m. f c (member_tail c t others m)) in (
      ap (λ (n : ℕ). cost_in size n (fin false 0 (pos 0)) others) e ∙ rest.0,
      ap (λ (n : ℕ). whole_cost_in size n others) e ∙ rest.1,
    )

-- a list with a member, taken apart
pub split : (xs : List ℕ) → 0 < length xs → (t : ℕ) × (others : List ℕ) × (xs ≡ t ∷ others)
split [] h = absurd (omega arith)
split (t ∷ others) h = (t, others, refl)

-- a join of one source changes nothing
alone : (cs : List (List ℕ)) (ss : List ℕ) → length ss ≡ 1 → joined cs ss ≡ cs
unfolding joined
alone cs [] e = refl
alone cs (t ∷ []) e = ap (set cs t) (append-nil (members_of cs t)) ∙ set-get_or cs t []
alone cs (t ∷ u ∷ ss) e = absurd (omega arith)

-- ---- the join of a record

module _ (w : Walk) (r : ActiveOrder) (tr : Tracked w r) (s : State) (rep : Represents s w.order w.components) (made : length w.components ≤ 512) (x z : ℕ)
    (active : 0 < length w.order) (narrow : length w.order ≤ 62) where
  h : Holds w.components (active_of w r)
  h = tracked_here w r tr

  abbrev j : Join
  j = join_of x z w

  pub once : NoRepeats j.sources
  unfolding join_of
  once = sources_once w.components (active_of w r) h x z

  pub source_live : (c : ℕ) → Member c j.sources → (c < length w.components) × (0 < size_of w.components c)
  source_live c m = (tracked_whole w r tr).source_live x z c m

  pub agree : SizesAgree s.size w.components j.sources
  agree c m = let l = source_live c m in (rep.size c l.0, l.1)

  pub some : 0 < length j.sources
  some = member_length j.component j.sources (target_source w r tr x z active)

  -- the sources that the code writes
  pub written : sources_at s.component s.size s.width x z ≡ j.sources
  unfolding join_of
  written =
      ap (λ (n : ℕ). sources_in s.size (picked (reached_mask (x % 2 ^ n) (z % 2 ^ n)) s.component)) rep.width
      ∙ sources_same s w.components (active_of w r) h rep x z active (omega arith) made

  members_are : j.members ≡ gathered w.components j.sources
  unfolding join_of
  members_are = refl

  components_are : j.components ≡ joined w.components j.sources
  unfolding join_of
  components_are = refl

  pub component_is : j.component ≡ get_or j.sources 0 0
  unfolding join_of
  component_is = refl

  -- the joined components hold the active coordinates
  abbrev linked : ActiveOrder
  linked = record { order = w.order; next = r.next; links = r.links ++ (support_of (length w.order) x z r.order ∷ []) }

  pub after : Holds j.components linked
  after =
      subst (λ (o : List ℕ). Holds j.components (record { order = o; next = r.next; links = r.links ++ (support_of (length w.order) x z r.order ∷ []) }))
      (sym tr.order_same) (tracked_join w r (length w.order) x z tr refl)

  -- no more members than active coordinates
  pub members_most : length j.members ≤ length w.order
  members_most =
      let e = ap length (target_members w r tr x z active) in
      let m = size_most j.components j.component in
      let a = rearranged_length (concat j.components) w.order after.held in omega arith

  pub members_some : 0 < length j.members
  unfolding join_of
  members_some =
      let t = target_source w r tr x z active in
      let l = (source_holds w.components (active_of w r) h x z j.component t).1 in
      member_length l.0 j.members (gathered_holds w.components j.sources l.0 j.component t l.2)

  all_most : length (concat w.components) ≤ 62
  all_most = let e = rearranged_length (concat w.components) w.order h.held in omega arith

  pub size_is : sizes_of s.size j.sources ≡ length j.members
  size_is = sizes_gathered s.size w.components j.sources agree ∙ sym (ap length members_are)

  -- ---- sums

  pub live_is : (powers s.size j.sources ≤ live_dimension w.components)
      × (live_dimension j.components + powers s.size j.sources ≡ live_dimension w.components + 2 ^ length j.members)
  unfolding join_of
  live_is =
      let small : (c : ℕ) → Member c j.sources → c < length w.components = λ c m. (source_live c m).0 in (
        powers_live s.size w.components j.sources once small agree,
        (live_join s.size w.components j.sources once small agree members_some).1,
      )

  pub live_after : live_dimension j.components ≤ 2 ^ 62
  live_after = join_live w r tr x z active (length w.order) refl narrow

  -- ---- the state

  -- what holds of a list with a first source holds of the sources
  first_source : (P : List ℕ → Type 0)
      → ((t : ℕ) (others : List ℕ) → NoRepeats (t ∷ others) → ((c : ℕ) → Member c (t ∷ others) → (c < length w.components) × (0 < size_of w.components c))
      → j.sources ≡ t ∷ others → P (t ∷ others)) → P j.sources
  first_source P f =
      let u = split j.sources some in
      subst P (sym u.2)
      (f u.0 u.1 (subst NoRepeats u.2 once) (λ c m. source_live c (subst (λ (l : List ℕ). Member c l) (sym u.2) m)) u.2)

  few : (ss : List ℕ) → j.sources ≡ ss → length (gathered w.components ss) ≤ 255
  few ss e = let a = ap (λ (l : List ℕ). length (gathered w.components l)) (sym e) in let b = ap length members_are in let m = members_most in omega arith

  pub countable : Countable s.size j.sources
  countable = record {
    some = some;
    numbers = first_source (λ l. (i : ℕ) → get_or l i 0 < 512) (λ t others n f e. (joinable s w.order w.components rep t others n f made (few (t ∷ others) e)).numbers);
    few = let e = size_is in let m = members_most in omega arith;
    fits = let l = live_is.0 in let m = holds_live w.components (active_of w r) h in let p = pow_mono narrow in omega arith;
  }

  pub joins : BeforeJoin s j.sources
  joins = first_source (λ l. BeforeJoin s l)
      (λ t others n f e. before_join s w.order w.components rep t others n f made (few (t ∷ others) e) (let a = all_most in omega arith) (omega arith))

  -- the state after the join, or as it was where there is one source
  pub represents : (u : State) → Joined s j.sources u → Represents u w.order j.components
  represents u =
      subst (λ (cs : List (List ℕ)). Joined s j.sources u → Represents u w.order cs) (sym components_are)
      (first_source (λ l. Joined s l u → Represents u w.order (joined w.components l))
      (λ t others n f e d. represents_join s w.order w.components rep t others n f made u d))

  pub represents_same : length j.sources ≤ 1 → Represents s w.order j.components
  represents_same one =
      subst (λ (cs : List (List ℕ)). Represents s w.order cs) (sym (components_are ∙ alone w.components j.sources (let m = some in omega arith))) rep

  -- ---- after the join

  module _ (u : State) (to : Represents u w.order j.components) where
    -- a position that the instruction reaches stands in the target
    pub within : (p : ℕ) → p < length w.order → (bit_at x p ≡ 1) ⊎ (bit_at z p ≡ 1) → get_or u.component p 0 ≡ j.component
    unfolding join_of
    within p k b =
        let m = (reached_source s w.components (active_of w r) h rep x z active (omega arith) made p (bit_reached x z (length w.order) p k b)).1 in
        let here = stands s w.components (active_of w r) h rep p k in
        let joins_it = gathered_holds w.components j.sources (get_or w.order p 0) (get_or s.component p 0) m here in
        stands_in u j.components linked after to p j.component k
        (subst (λ (l : List ℕ). Member (get_or w.order p 0) l) (sym (target_members w r tr x z active)) joins_it)

    -- the local masks
    pub x_local : local_of (x % 2 ^ length w.order) u.place ≡ local_mask x w.order j.members
    x_local =
        local_same u j.components linked after to j.component x (λ p k b. within p k (inl b)) (omega arith)
        ∙ ap (local_mask x w.order) (target_members w r tr x z active)

    pub z_local : local_of (z % 2 ^ length w.order) u.place ≡ local_mask z w.order j.members
    z_local =
        local_same u j.components linked after to j.component z (λ p k b. within p k (inr b)) (omega arith)
        ∙ ap (local_mask z w.order) (target_members w r tr x z active)

    -- a local mask fits a word
    pub mask_fits : (m : ℕ) → local_mask m w.order j.members < 2 ^ 64
    mask_fits m =
        let l = local_below m w.order j.members in
        let p = pow_mono {i = length j.members} {j = 62} (let k = members_most in omega arith) in omega arith

    -- the pivot
    pub pivot_within : (p : ℕ) → p < length w.order → is_in (get_or w.order p 0) j.members ≡ eqb (get_or u.component p 0) j.component
    pivot_within p k =
        ap (is_in (get_or w.order p 0)) (sym (target_members w r tr x z active)) ∙ pivot_in u j.components linked after to j.component p k

    pub pivot_at : (p : ℕ) → p < length w.order → get_or u.component p 0 ≡ j.component → place_of (get_or w.order p 0) j.members ≡ get_or u.place p 0
    pivot_at p k e =
        ap (place_of (get_or w.order p 0)) (sym (target_members w r tr x z active)) ∙ pivot_place u j.components linked after to j.component p k e
