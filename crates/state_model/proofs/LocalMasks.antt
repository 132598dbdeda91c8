-- The local mask by places is the definition's by members: the two are built bit by bit, position by position, and a bit at a position of the component adds the
-- same power of two to both, since the member at the position's place is the position's coordinate and no other is.
use mathlib.Core.Path.{◌≡◌, refl, sym, ap, ◌∙◌, subst}
use mathlib.Core.Logic.{◌⊎◌, inl, inr, ⊎_elim}
use mathlib.Core.List.{List, [], ◌∷◌}
use Prim.Native.Nat.{ℕ, zero, suc, ◌+◌, ◌-◌, ◌*◌, ◌/◌, ◌%◌, ◌^◌, ◌<◌, ◌≤◌, max}
use native.Mathlib.Omega.{arith}
use native.Mathlib.Nat.{pow-suc, pow-succ'}
use lib.Dec.{eqb}
use lib.Arith.{mod-mul}
use lib.Pow.{pow_pos}
use lib.Bits.{bit_or, or_step, or_shr}
use lib.ListN.{length, get_or}
use borrow.Author.Tests.{eq-eqb, ne_eqb}
use Rattle.words.proofs.Numbers.{same_or_not}
use Rattle.kernels.specs.Bits.{bit_at}
use Rattle.plan_spec.specs.Lists.{is_in, place_of}
use Rattle.plan_spec.specs.Components.{members_of, local_mask}
use Rattle.plan_spec.specs.Connectivity.{Member, NoRepeats, ActiveOrder}
use Rattle.plan_spec.proofs.Steps.{cond_no}
use Rattle.plan_spec.proofs.Counting.{member_or_not, member_head, member_tail, member_at, member_is_in, absent_is_in, place_below, place_holds, occurrences_listed}
use Rattle.plan_spec.proofs.Invariant.{Holds, listed_active}
use Rattle.plan_spec.proofs.LocalBits.{bit_half, bit_lowest}
use Rattle.state.specs.declared.State.{State}
use Rattle.masks.specs.Positions.{local_of}
use Rattle.state_model.specs.Represents.{Represents}
use Rattle.state_model.proofs.Picked.{no_bit, cut_both, mask_of, cut_half, cut_lowest, lowest}
use Rattle.state_model.proofs.Sources.{stands, stands_in}
use Rattle.state_model.proofs.Moving.{once_at}

-- ---- bits of a mask that is cut

-- below the cut the bits are the mask's
pub cut_low : (x k p : ℕ) → p < k → bit_at (x % 2 ^ k) p ≡ bit_at x p
cut_low x zero p h = absurd (omega arith)
cut_low x (suc k) zero h = bit_lowest (x % 2 ^ suc k) ∙ cut_lowest x k ∙ sym (bit_lowest x)
cut_low x (suc k) (suc p) h =
    bit_half (x % 2 ^ suc k) p ∙ ap (λ (n : ℕ). bit_at n p) (cut_half x k) ∙ cut_low (x / 2) k p (omega arith) ∙ sym (bit_half x p)

-- and there is none from it on
pub cut_high : (x k p : ℕ) → k ≤ p → bit_at (x % 2 ^ k) p ≡ 0
cut_high x zero p h = ap (λ (n : ℕ). bit_at n p) (omega arith) ∙ no_bit p
cut_high x (suc k) zero h = absurd (omega arith)
cut_high x (suc k) (suc p) h = bit_half (x % 2 ^ suc k) p ∙ ap (λ (n : ℕ). bit_at n p) (cut_half x k) ∙ cut_high (x / 2) k p (omega arith)

-- a bit is 0 or 1
pub bit_cases : (x p : ℕ) → (bit_at x p ≡ 0) ⊎ (bit_at x p ≡ 1)
bit_cases x p = lowest (x / 2 ^ p)

-- one bit more
cut-more : (x i : ℕ) → x % 2 ^ suc i ≡ bit_at x i * 2 ^ i + x % 2 ^ i
cut-more x i = ap (λ (n : ℕ). x % n) (pow-succ' 2 i) ∙ mod-mul x {m = 2} {c = 2 ^ i} (omega arith) (pow_pos i)

-- a bit of two masks together
both_bit : (a b p : ℕ) → bit_at (bit_or a b) p ≡ max (bit_at a p) (bit_at b p)
both_bit a b p =
    ap (λ (n : ℕ). n % 2) (or_shr a b p) ∙ (let e = or_step (a / 2 ^ p) (b / 2 ^ p) in omega arith)

-- a set bit of either mask is one of the reached positions
pub bit_reached : (x z k p : ℕ) → p < k → (bit_at x p ≡ 1) ⊎ (bit_at z p ≡ 1) → bit_at (mask_of x z k) p ≡ 1
bit_reached x z k p h b =
    let bx = cut_low x k p h in
    let bz = cut_low z k p h in
    let e = both_bit (x % 2 ^ k) (z % 2 ^ k) p in
    let one : bit_at (cut_both x z k) p ≡ 1 =
    ⊎_elim (λ u. ⊎_elim (λ v. omega arith) (λ v. omega arith) (bit_cases z p)) (λ u. ⊎_elim (λ v. omega arith) (λ v. omega arith) (bit_cases x p)) b in
    let some : cut_both x z k ≡ 0 → ⊥ = λ n. let f : bit_at (cut_both x z k) p ≡ 0 = ap (λ (m : ℕ). bit_at m p) n ∙ no_bit p in omega arith in
    ap (λ (m : ℕ). bit_at m p) (cond_no (eqb (cut_both x z k) 0) 1 (cut_both x z k) (ne_eqb (cut_both x z k) 0 some)) ∙ one

-- ---- both sides, one bit more

-- the sum by places
local_none : (js : List ℕ) → local_of 0 js ≡ 0
local_none [] = refl
local_none (j ∷ js) = let r = local_none js in omega arith

local_more : (x i : ℕ) (js : List ℕ) → i < length js → local_of (x % 2 ^ suc i) js ≡ local_of (x % 2 ^ i) js + bit_at x i * 2 ^ get_or js i 0
local_more x i [] h = absurd (omega arith)
local_more x zero (j ∷ js) h =
    let low = cut_lowest x 0 in
    let half : x % 2 ^ 1 / 2 ≡ 0 = omega arith in
    let one : x % 2 ^ 0 ≡ 0 = omega arith in
    let a = ap (λ (m : ℕ). local_of m js) half ∙ local_none js in
    let b = ap (λ (m : ℕ). local_of m (j ∷ js)) one ∙ local_none (j ∷ js) in
    let c = ap (λ (n : ℕ). n * 2 ^ j) low in
    let d = ap (λ (n : ℕ). n * 2 ^ j) (bit_lowest x) in omega arith
local_more x (suc i) (j ∷ js) h =
    let r = local_more (x / 2) i js (omega arith) in
    let a = ap (λ (m : ℕ). local_of m js) (cut_half x (suc i)) in
    let b = ap (λ (m : ℕ). local_of m js) (cut_half x i) in
    let c = ap (λ (n : ℕ). n * 2 ^ j) (cut_lowest x (suc i)) in
    let d = ap (λ (n : ℕ). n * 2 ^ j) (cut_lowest x i) in
    let e = ap (λ (n : ℕ). n * 2 ^ get_or js i 0) (bit_half x i) in omega arith

-- the mask by members, where the two masks differ at the place of one member
module _ (a b : ℕ) (order : List ℕ) where
  abbrev bits_same : ℕ → Type 0
  bits_same c = bit_at a (place_of c order) ≡ bit_at b (place_of c order)

  mask_same : (members : List ℕ) → ((c : ℕ) → Member c members → bits_same c) → local_mask a order members ≡ local_mask b order members
  mask_same [] f = refl
  mask_same (c ∷ members) f =
      let r = mask_same members (λ d m. f d (member_tail d c members m)) in
      let e = f c (member_head c members) in omega arith

  mask_more : (members : List ℕ) (j : ℕ) → j < length members → ((i : ℕ) → i < length members → (i ≡ j → ⊥) → bits_same (get_or members i 0))
      → bit_at a (place_of (get_or members j 0) order) ≡ bit_at b (place_of (get_or members j 0) order) + 1 → local_mask a order members ≡ local_mask b order members + 2 ^ j
  mask_more [] j h f e = absurd (omega arith)
  mask_more (c ∷ members) zero h f e =
      let r = mask_same members (λ d m. subst (λ (k : ℕ). bit_at a (place_of k order) ≡ bit_at b (place_of k order)) (place_holds d members m)
      (f (suc (place_of d members)) (let l = place_below d members m in omega arith) (λ g. omega arith))) in omega arith
  mask_more (c ∷ members) (suc j) h f e =
      let r = mask_more members j (omega arith) (λ i k n. f (suc i) (omega arith) (λ g. n (omega arith))) e in
      let s = f 0 (omega arith) (λ g. omega arith) in
      let p = pow-suc 2 j in omega arith

-- ---- the component's mask

module _ (s : State) (cs : List (List ℕ)) (r : ActiveOrder) (h : Holds cs r) (rep : Represents s r.order cs) (t : ℕ) where
  -- a component has no member twice
  pub members_once : NoRepeats (members_of cs t)
  members_once a = let l = occurrences_listed a cs t in let k = h.held a in let o = h.once a in omega arith

  member_active : (c : ℕ) → Member c (members_of cs t) → Member c r.order
  member_active c m = listed_active cs r h c t m

  -- the position of a position's coordinate
  pub position : (p : ℕ) → p < length r.order → place_of (get_or r.order p 0) r.order ≡ p
  position p k =
      let m = member_at r.order p k in
      once_at r.order h.once (place_of (get_or r.order p 0) r.order) p (place_below (get_or r.order p 0) r.order m) k (place_holds (get_or r.order p 0) r.order m)

  module _ (x : ℕ) (within : (p : ℕ) → p < length r.order → bit_at x p ≡ 1 → get_or s.component p 0 ≡ t) (narrow : length r.order ≤ 512) where
    -- at another member's position both masks have the same bit
    others : (i j : ℕ) → i < length r.order → j < length (members_of cs t) → get_or (members_of cs t) j 0 ≡ get_or r.order i 0
        → (o : ℕ) → o < length (members_of cs t) → (o ≡ j → ⊥)
        → bit_at (x % 2 ^ suc i) (place_of (get_or (members_of cs t) o 0) r.order) ≡ bit_at (x % 2 ^ i) (place_of (get_or (members_of cs t) o 0) r.order)
    others i j k jb e o ob n =
        let c = get_or (members_of cs t) o 0 in
        let q = place_of c r.order in
        let m = member_active c (member_at (members_of cs t) o ob) in
        let away : q ≡ i → ⊥ = λ f. n (once_at (members_of cs t) members_once o j ob jb
        (sym (place_holds c r.order m) ∙ ap (λ (a : ℕ). get_or r.order a 0) f ∙ sym e)) in
        ⊎_elim
        (λ l. cut_low x (suc i) q (omega arith) ∙ sym (cut_low x i q l))
        (λ l. ⊎_elim (λ f. absurd (away f)) (λ f. cut_high x (suc i) q (omega arith) ∙ sym (cut_high x i q (omega arith))) (same_or_not q i))
        (below_or q i)
      where
        below_or : (a b : ℕ) → (a < b) ⊎ (b ≤ a)
        below_or a b = ⊎_elim (λ e. inr (omega arith)) (λ e. inl (omega arith)) (same_or_not (b - a) 0)

    -- up to position i
    cut_same : (i : ℕ) → i ≤ length r.order → local_of (x % 2 ^ i) s.place ≡ local_mask (x % 2 ^ i) r.order (members_of cs t)
    cut_same zero k =
        let e : x % 2 ^ 0 ≡ 0 = omega arith in
        ap (λ (m : ℕ). local_of m s.place) e ∙ local_none s.place
        ∙ sym (ap (λ (m : ℕ). local_mask m r.order (members_of cs t)) e ∙ none (members_of cs t))
      where
        none : (members : List ℕ) → local_mask 0 r.order members ≡ 0
        none [] = refl
        none (c ∷ members) = let e = none members in let b = no_bit (place_of c r.order) in omega arith
    cut_same (suc i) k =
        let before = cut_same i (omega arith) in
        let l = rep.shape.places in
        let more = local_more x i s.place (omega arith) in
        ⊎_elim
        (λ b. let same : x % 2 ^ suc i ≡ x % 2 ^ i = let c = cut-more x i in let z = ap (λ (n : ℕ). n * 2 ^ i) b in omega arith in
        ap (λ (m : ℕ). local_of m s.place) same ∙ before ∙ sym (ap (λ (m : ℕ). local_mask m r.order (members_of cs t)) same))
        (λ b. let here = within i k b in
        let members = members_of cs t in
        let j = get_or s.place i 0 in
        let inside : j < length members = let p = rep.place i k in let e = ap (λ (c : ℕ). length (members_of cs c)) here in omega arith in
        let coordinate : get_or members j 0 ≡ get_or r.order i 0 = ap (λ (c : ℕ). get_or (members_of cs c) j 0) (sym here) ∙ rep.member i k in
        let at : place_of (get_or members j 0) r.order ≡ i = ap (λ (c : ℕ). place_of c r.order) coordinate ∙ position i k in
        let power = ap (λ (n : ℕ). n * 2 ^ j) b in
        let grown = mask_more (x % 2 ^ suc i) (x % 2 ^ i) r.order members j inside
        (λ o w n. others i j k inside coordinate o w n)
        (ap (bit_at (x % 2 ^ suc i)) at ∙ cut_low x (suc i) i (omega arith) ∙ b ∙ sym (ap (λ (n : ℕ). n + 1) (ap (bit_at (x % 2 ^ i)) at ∙ cut_high x i i (omega arith)))) in omega arith)
        (bit_cases x i)

    -- so with all bits
    pub local_same : local_of (x % 2 ^ length r.order) s.place ≡ local_mask x r.order (members_of cs t)
    local_same =
        cut_same (length r.order) (omega arith)
        ∙ mask_same (x % 2 ^ length r.order) x r.order (members_of cs t)
        (λ c m. cut_low x (length r.order) (place_of c r.order) (place_below c r.order (member_active c m)))

  -- ---- the pivot

  -- a position's coordinate is a member exactly where its component is this one
  pub pivot_in : (p : ℕ) → p < length r.order → is_in (get_or r.order p 0) (members_of cs t) ≡ eqb (get_or s.component p 0) t
  pivot_in p k =
      ⊎_elim
      (λ m. member_is_in (get_or r.order p 0) (members_of cs t) m ∙ sym (eq-eqb (get_or s.component p 0) t (stands_in s cs r h rep p t k m)))
      (λ z. absent_is_in (get_or r.order p 0) (members_of cs t) z
      ∙ sym (ne_eqb (get_or s.component p 0) t
      (λ e. let m : Member (get_or r.order p 0) (members_of cs t) = subst (λ (c : ℕ). Member (get_or r.order p 0) (members_of cs c)) e (stands s cs r h rep p k) in omega arith)))
      (member_or_not (get_or r.order p 0) (members_of cs t))

  -- and its place there is the position's place
  pub pivot_place : (p : ℕ) → p < length r.order → get_or s.component p 0 ≡ t → place_of (get_or r.order p 0) (members_of cs t) ≡ get_or s.place p 0
  pivot_place p k e =
      let a = get_or r.order p 0 in
      let m : Member a (members_of cs t) = subst (λ (c : ℕ). Member a (members_of cs c)) e (stands s cs r h rep p k) in
      let small = rep.place p k in
      let size = ap (λ (c : ℕ). length (members_of cs c)) e in
      once_at (members_of cs t) members_once (place_of a (members_of cs t)) (get_or s.place p 0) (place_below a (members_of cs t) m) (omega arith)
      (place_holds a (members_of cs t) m ∙ sym (rep.member p k) ∙ ap (λ (c : ℕ). get_or (members_of cs c) (get_or s.place p 0) 0) e)
