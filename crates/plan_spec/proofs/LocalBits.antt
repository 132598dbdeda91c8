-- A local mask is its members' bits as binary digits, lowest first: halving it drops the first member. So is a support read off the masks: halving them moves
-- on to the next position.
use mathlib.Core.Path.{◌≡◌, refl, sym, ap, ap₂, ◌∙◌, subst}
use mathlib.Core.Logic.{◌⊎◌, inl, inr, ⊎_elim}
use mathlib.Core.Bool.{Bool, true, false, cond, not, ◌||◌}
use mathlib.Core.List.{List, [], ◌∷◌, map}
use Prim.Native.Nat.{ℕ, zero, suc, ◌+◌, ◌/◌, ◌%◌, ◌^◌, ◌≤◌, ◌<◌}
use native.Mathlib.Nat.{div-div-eq-div-mul, pow-succ', pow-suc}
use native.Mathlib.Omega.{arith}
use lib.Dec.{eqb}
use lib.ListN.{length, get_or}
use borrow.Author.Tests.{eq-eqb, ne_eqb}
use Rattle.words.specs.Lists.{numbers_from}
use Rattle.words.proofs.Numbers.{same_or_not}
use Rattle.kernels.specs.Bits.{bit_at}
use Rattle.plan_spec.specs.Lists.{place_of}
use Rattle.plan_spec.specs.Components.{support, local_mask}
use Rattle.plan_spec.specs.Connectivity.{Member, keep, support_of}
use Rattle.plan_spec.specs.Sources.{IsSetBelow}
use Rattle.plan_spec.proofs.Counting.{member_cons, member_head, member_tail, member_at}

-- ---- local masks

-- the bits of a number from the second on are those of its half
pub bit_half : (x j : ℕ) → bit_at x (suc j) ≡ bit_at (x / 2) j
bit_half x j = ap (λ (n : ℕ). n % 2) (ap (λ (n : ℕ). x / n) (pow-succ' 2 j) ∙ sym (div-div-eq-div-mul x 2 (2 ^ j)))

-- the lowest bit of a local mask is its first member's
pub local_first : (mask : ℕ) (order : List ℕ) (c : ℕ) (members : List ℕ) → bit_at (local_mask mask order (c ∷ members)) 0 ≡ bit_at mask (place_of c order)
local_first mask order c members = omega arith

-- half of a local mask is that of the other members
pub local_half : (mask : ℕ) (order : List ℕ) (c : ℕ) (members : List ℕ) → local_mask mask order (c ∷ members) / 2 ≡ local_mask mask order members
local_half mask order c members = omega arith

-- local bit j is the mask's bit at the place of member j
pub local_bit : (mask : ℕ) (order members : List ℕ) (j : ℕ) → j < length members
    → bit_at (local_mask mask order members) j ≡ bit_at mask (place_of (get_or members j 0) order)
local_bit mask order [] j h = absurd (omega arith)
local_bit mask order (c ∷ members) zero h = local_first mask order c members
local_bit mask order (c ∷ members) (suc j) h =
    bit_half (local_mask mask order (c ∷ members)) j ∙ ap (λ (n : ℕ). bit_at n j) (local_half mask order c members)
    ∙ local_bit mask order members j (omega arith)

-- past the members a local mask has no bit
pub local_clear : (mask : ℕ) (order members : List ℕ) (j : ℕ) → length members ≤ j → bit_at (local_mask mask order members) j ≡ 0
local_clear mask order [] zero h = refl
local_clear mask order [] (suc j) h = bit_half 0 j ∙ local_clear mask order [] j (omega arith)
local_clear mask order (c ∷ members) zero h = absurd (omega arith)
local_clear mask order (c ∷ members) (suc j) h =
    bit_half (local_mask mask order (c ∷ members)) j ∙ ap (λ (n : ℕ). bit_at n j) (local_half mask order c members)
    ∙ local_clear mask order members j (omega arith)

-- so it is below the power of two of their number
pub local_below : (mask : ℕ) (order members : List ℕ) → local_mask mask order members < 2 ^ length members
local_below mask order [] = omega arith
local_below mask order (c ∷ members) =
    let r = local_below mask order members in
    let e = pow-suc 2 (length members) in omega arith

-- ---- supports

-- a support's test of position p, as `support_of` writes it
abbrev pub is_set : ℕ → ℕ → ℕ → Bool
is_set x z p = not (eqb (bit_at x p) 0) || not (eqb (bit_at z p) 0)

-- a sum is 0 just where both numbers are
pub both_zero : (p q : ℕ) → not (eqb p 0) || not (eqb q 0) ≡ not (eqb (p + q) 0)
both_zero p q =
    ⊎_elim
    (λ e. ⊎_elim
    (λ f. ap₂ (λ (s t : Bool). not s || not t) (eq-eqb p 0 e) (eq-eqb q 0 f) ∙ sym (ap not (eq-eqb (p + q) 0 (omega arith))))
    (λ nf. ap₂ (λ (s t : Bool). not s || not t) (eq-eqb p 0 e) (ne_eqb q 0 nf) ∙ sym (ap not (ne_eqb (p + q) 0 (λ g. nf (omega arith)))))
    (same_or_not q 0))
    (λ ne. ap (λ (s : Bool). not s || not (eqb q 0)) (ne_eqb p 0 ne) ∙ sym (ap not (ne_eqb (p + q) 0 (λ g. ne (omega arith)))))
    (same_or_not p 0)

-- one position of the two readings, the rest being the same
pub same_step : (g : ℕ → ℕ) (i c : ℕ) (s t : Bool) (rest positions : List ℕ) → t ≡ not s → g i ≡ c → rest ≡ map g positions
    → cond s rest (c ∷ rest) ≡ map g (cond t (i ∷ positions) positions)
same_step g i c true t rest positions e f r = r ∙ sym (ap (λ (b : Bool). map g (cond b (i ∷ positions) positions)) e)
same_step g i c false t rest positions e f r =
    ap₂ (λ (n : ℕ) (l : List ℕ). n ∷ l) (sym f) r ∙ sym (ap (λ (b : Bool). map g (cond b (i ∷ positions) positions)) e)

-- entries from position i on see the masks shifted i times
pub support_from : (x z : ℕ) (order : List ℕ) (i : ℕ) (xs : List ℕ) → ((j : ℕ) → j < length xs → get_or order (i + j) 0 ≡ get_or xs j 0)
    → support (x / 2 ^ i) (z / 2 ^ i) xs ≡ map (λ p. get_or order p 0) (keep (is_set x z) (numbers_from i (length xs)))
support_from x z order i [] h = refl
support_from x z order i (c ∷ xs) h =
    same_step (λ p. get_or order p 0) i c (eqb (bit_at x i + bit_at z i) 0) (is_set x z i) (support (x / 2 ^ i / 2) (z / 2 ^ i / 2) xs)
    (keep (is_set x z) (numbers_from (suc i) (length xs)))
    (both_zero (bit_at x i) (bit_at z i))
    (ap (λ (n : ℕ). get_or order n 0) (omega arith) ∙ h 0 (omega arith))
    (ap₂ (λ (p q : ℕ). support p q xs) (shifted x) (shifted z)
    ∙ support_from x z order (suc i) xs (λ j l. ap (λ (n : ℕ). get_or order n 0) (omega arith) ∙ h (suc j) (omega arith)))
  where
    shifted : (y : ℕ) → y / 2 ^ i / 2 ≡ y / 2 ^ suc i
    shifted y = div-div-eq-div-mul y (2 ^ i) 2 ∙ ap (λ (n : ℕ). y / n) (sym (pow-suc 2 i))

-- the two readings of a support are the same
pub support_same : (x z : ℕ) (order : List ℕ) → support x z order ≡ support_of (length order) x z order
unfolding support_of
support_same x z order =
    ap₂ (λ (p q : ℕ). support p q order) (omega arith) (omega arith) ∙ support_from x z order 0 order (λ j l. ap (λ (n : ℕ). get_or order n 0) (omega arith))

-- the lowest bit
pub bit_lowest : (x : ℕ) → bit_at x 0 ≡ x % 2
bit_lowest x = omega arith

-- a bit of the halves is the next one of the numbers
set_later : (k x z p : ℕ) → IsSetBelow k (x / 2) (z / 2) p → IsSetBelow (suc k) x z (suc p)
set_later k x z p s = (omega (arith, s.0), ⊎_elim (λ b. inl (bit_half x p ∙ b)) (λ b. inr (bit_half z p ∙ b)) s.1)

set_half : (k x z p : ℕ) → IsSetBelow (suc k) x z (suc p) → IsSetBelow k (x / 2) (z / 2) p
set_half k x z p s = (omega (arith, s.0), ⊎_elim (λ b. inl (sym (bit_half x p) ∙ b)) (λ b. inr (sym (bit_half z p) ∙ b)) s.1)

-- a support with its first position set or not
support_even : (x z c : ℕ) (order : List ℕ) → x % 2 + z % 2 ≡ 0 → support x z (c ∷ order) ≡ support (x / 2) (z / 2) order
support_even x z c order e = ap (λ (t : Bool). cond t (support (x / 2) (z / 2) order) (c ∷ support (x / 2) (z / 2) order)) (eq-eqb (x % 2 + z % 2) 0 e)

support_odd : (x z c : ℕ) (order : List ℕ) → (x % 2 + z % 2 ≡ 0 → ⊥) → support x z (c ∷ order) ≡ c ∷ support (x / 2) (z / 2) order
support_odd x z c order n = ap (λ (t : Bool). cond t (support (x / 2) (z / 2) order) (c ∷ support (x / 2) (z / 2) order)) (ne_eqb (x % 2 + z % 2) 0 n)

-- an entry of the support stands at a set position
pub support_at : (x z : ℕ) (order : List ℕ) (a : ℕ) → Member a (support x z order) → (p : ℕ) × IsSetBelow (length order) x z p × (get_or order p 0 ≡ a)
support_at x z [] a h = absurd (omega arith)
support_at x z (c ∷ order) a h =
    ⊎_elim
    (λ e. later (support_at (x / 2) (z / 2) order a (subst (λ (l : List ℕ). Member a l) (support_even x z c order e) h)))
    (λ n. ⊎_elim
    (λ e. (0, (omega arith, odd n), sym e))
    (λ m. later (support_at (x / 2) (z / 2) order a m))
    (member_cons a c (support (x / 2) (z / 2) order) (subst (λ (l : List ℕ). Member a l) (support_odd x z c order n) h)))
    (same_or_not (x % 2 + z % 2) 0)
  where
    later : ((p : ℕ) × IsSetBelow (length order) (x / 2) (z / 2) p × (get_or order p 0 ≡ a)) → (p : ℕ) × IsSetBelow (length (c ∷ order)) x z p × (get_or (c ∷ order) p 0 ≡ a)
    later r = (suc r.0, set_later (length order) x z r.0 r.1, r.2)

    odd : (x % 2 + z % 2 ≡ 0 → ⊥) → (bit_at x 0 ≡ 1) ⊎ (bit_at z 0 ≡ 1)
    odd n =
        let p = bit_lowest x in
        let q = bit_lowest z in
        ⊎_elim (λ e. inl e) (λ m. inr (⊎_elim (λ f. f) (λ k. absurd (n (omega (arith, m, k)))) (same_or_not (bit_at z 0) 1))) (same_or_not (bit_at x 0) 1)

-- and every entry at a set position is one of the support
pub at_support : (x z : ℕ) (order : List ℕ) (p : ℕ) → IsSetBelow (length order) x z p → Member (get_or order p 0) (support x z order)
at_support x z [] p s = absurd (omega (arith, s.0))
at_support x z (c ∷ order) zero s =
    let odd : x % 2 + z % 2 ≡ 0 → ⊥ = λ e. let p = bit_lowest x in let q = bit_lowest z in ⊎_elim (λ b. omega arith) (λ b. omega arith) s.1 in
    subst (λ (l : List ℕ). Member c l) (sym (support_odd x z c order odd)) (member_head c (support (x / 2) (z / 2) order))
at_support x z (c ∷ order) (suc p) s =
    let rest = at_support (x / 2) (z / 2) order p (set_half (length order) x z p s) in
    ⊎_elim
    (λ e. subst (λ (l : List ℕ). Member (get_or order p 0) l) (sym (support_even x z c order e)) rest)
    (λ n. subst (λ (l : List ℕ). Member (get_or order p 0) l) (sym (support_odd x z c order n))
    (member_tail (get_or order p 0) c (support (x / 2) (z / 2) order) rest))
    (same_or_not (x % 2 + z % 2) 0)

-- a support holds only entries of the order
pub support_member : (x z : ℕ) (order : List ℕ) (a : ℕ) → Member a (support x z order) → Member a order
support_member x z order a h = let at = support_at x z order a h in subst (λ (n : ℕ). Member n order) at.2 (member_at order at.0 at.1.0)
