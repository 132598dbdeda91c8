-- A position's coordinate stands in the component that the state gives the position, and in no other. So the components at the reached positions are the touched
-- ones, and the sources that the code writes are the definition's.
use mathlib.Core.Path.{◌≡◌, sym, subst}
use mathlib.Core.List.{List, []}
use Prim.Native.Nat.{ℕ, ◌+◌, ◌-◌, ◌<◌, ◌≤◌}
use native.Mathlib.Omega.{arith}
use lib.ListN.{length, get_or}
use Rattle.plan_spec.specs.Components.{members_of, support, reached, meeting, touched, sources_of}
use Rattle.plan_spec.specs.Connectivity.{Member, ActiveOrder}
use Rattle.plan_spec.proofs.Counting.{member_length, member_at}
use Rattle.plan_spec.proofs.Ascending.{meeting_ascending}
use Rattle.plan_spec.proofs.Joins.{meet_shares, shares_meet, meeting_meets, meets_meeting}
use Rattle.kernels.specs.Bits.{bit_at}
use Rattle.plan_spec.proofs.Invariant.{touched_source, Holds, one_list, anchored_some, anchored_member, active_listed}
use Rattle.plan_spec.proofs.LocalBits.{support_member}
use Rattle.state.specs.declared.State.{State}
use Rattle.masks.specs.Positions.{picked, sources_in}
use Rattle.state_model.specs.Represents.{Represents}
use Rattle.state_model.proofs.Picked.{mask_of, mask_below, bit_below, picked_at, at_picked, picked_reached}
use Rattle.state_model.proofs.Ascending.{sources_are}

module _ (s : State) (cs : List (List ℕ)) (r : ActiveOrder) (h : Holds cs r) (rep : Represents s r.order cs) where
  -- the coordinate at a position is a member of the position's component
  pub stands : (p : ℕ) → p < length r.order → Member (get_or r.order p 0) (members_of cs (get_or s.component p 0))
  stands p k = subst (λ (a : ℕ). Member a (members_of cs (get_or s.component p 0))) (rep.member p k) (member_at (members_of cs (get_or s.component p 0)) (get_or s.place p 0) (rep.place p k))

  -- and of no other
  pub stands_in : (p c : ℕ) → p < length r.order → Member (get_or r.order p 0) (members_of cs c) → get_or s.component p 0 ≡ c
  stands_in p c k m = one_list cs r h (get_or r.order p 0) (get_or s.component p 0) c (stands p k) m

  module _ (x z : ℕ) (active : 0 < length r.order) (few : length r.order ≤ 512) (made : length cs ≤ 512) where
    abbrev mask : ℕ
    mask = mask_of x z (length r.order)

    -- a component at a reached position is touched
    found_listed : (c : ℕ) → Member c (picked mask s.component) → Member c (touched x z r.order cs)
    unfolding touched
    found_listed c m =
        let at = picked_at mask s.component c m in
        let p = at.0 in
        let below = bit_below mask p (length r.order) (mask_below x z (length r.order) active) at.2 in
        let reaches : Member (get_or r.order p 0) (reached x z r.order) =
        subst (λ (l : List ℕ). Member (get_or r.order p 0) l) (picked_reached x z r.order) (at_picked mask r.order p below at.2) in
        let here : Member (get_or r.order p 0) (members_of cs c) = subst (λ (d : ℕ). Member (get_or r.order p 0) (members_of cs d)) at.3 (stands p below) in
        let inside : c < length cs = subst (λ (d : ℕ). d < length cs) at.3 (rep.component p below) in
        subst (λ (d : ℕ). Member d (meeting 0 (reached x z r.order) cs)) (omega arith)
        (meets_meeting 0 (reached x z r.order) cs c inside (shares_meet (reached x z r.order) (members_of cs c) (get_or r.order p 0) reaches here))

    -- a touched component is one of the components
    listed_below : (c : ℕ) → Member c (touched x z r.order cs) → c < length cs
    unfolding touched
    listed_below c m = let k = meeting_meets 0 (reached x z r.order) cs c m in omega (arith, k.1)

    -- and stands at a reached position
    listed_found : (c : ℕ) → Member c (touched x z r.order cs) → Member c (picked mask s.component)
    unfolding touched
    listed_found c m =
        let k = meeting_meets 0 (reached x z r.order) cs c m in
        let shared = meet_shares (reached x z r.order) (get_or cs (c - 0) []) k.2 in
        let a = shared.0 in
        let here : Member a (members_of cs c) = subst (λ (i : ℕ). Member a (get_or cs i [])) (omega arith) shared.2 in
        let at = picked_at mask r.order a (subst (λ (l : List ℕ). Member a l) (sym (picked_reached x z r.order)) shared.1) in
        let p = at.0 in
        let same = stands_in p c at.1 (subst (λ (b : ℕ). Member b (members_of cs c)) (sym at.3) here) in
        subst (λ (d : ℕ). Member d (picked mask s.component)) same
        (at_picked mask s.component p (let l = rep.shape.components in omega (arith, at.1)) at.2)

    -- something is touched
    listed_some : 0 < length (touched x z r.order cs)
    unfolding touched
    listed_some =
        let a = anchored_some r.order (support x z r.order) active in
        let on = anchored_member r.order (support x z r.order) (support_member x z r.order) a.0 a.1 in
        let l = active_listed cs r h a.0 on in
        member_length (0 + l.0) (meeting 0 (reached x z r.order) cs)
        (meets_meeting 0 (reached x z r.order) cs l.0 l.1 (shares_meet (reached x z r.order) (members_of cs l.0) a.0 a.1 l.2))

    -- so the sources are the definition's
    pub sources_same : sources_in s.size (picked mask s.component) ≡ sources_of cs (touched x z r.order cs)
    unfolding touched
    sources_same =
        sources_are s.size cs (picked mask s.component) (touched x z r.order cs) (meeting_ascending 0 (reached x z r.order) cs) listed_some
        (λ c m. let b = listed_below c m in (omega arith, rep.size c b)) found_listed listed_found

    -- a reached position's component is a source
    pub reached_source : (p : ℕ) → bit_at mask p ≡ 1 → (p < length r.order) × Member (get_or s.component p 0) (sources_of cs (touched x z r.order cs))
    unfolding touched
    reached_source p b =
        let below = bit_below mask p (length r.order) (mask_below x z (length r.order) active) b in
        let l = rep.shape.components in
        (below, touched_source cs r h x z (get_or s.component p 0) (found_listed (get_or s.component p 0) (at_picked mask s.component p (omega arith) b)))
