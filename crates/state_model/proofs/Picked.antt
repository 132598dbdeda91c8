-- A mask picks the entries at its set bits. So what is picked from the active order is the instruction's reached coordinates, and what is picked from the
-- components by position is the components of these coordinates.
use mathlib.Core.Path.{◌≡◌, refl, sym, ap, ap₂, ◌∙◌, subst}
use mathlib.Core.Logic.{◌⊎◌, inl, inr, ⊎_elim}
use mathlib.Core.Bool.{cond}
use mathlib.Core.List.{List, [], ◌∷◌}
use Prim.Native.Nat.{ℕ, zero, suc, ◌+◌, ◌*◌, ◌/◌, ◌%◌, ◌^◌, ◌<◌, ◌≤◌, max}
use native.Mathlib.Omega.{arith}
use native.Mathlib.Nat.{pow-succ', pow-suc, mod-lt}
use lib.Dec.{eqb}
use lib.Arith.{mod-mul}
use lib.Pow.{pow_pos, pow_mono}
use lib.ListN.{length, get_or, take}
use lib.Bits.{bit_or, or_step, or_lt}
use borrow.Author.Tests.{eq-eqb, ne_eqb}
use Rattle.words.proofs.Numbers.{same_or_not}
use Rattle.kernels.specs.Bits.{bit_at}
use Rattle.plan_spec.specs.Components.{support, or_first, reached}
use Rattle.plan_spec.specs.Connectivity.{Member}
use Rattle.plan_spec.proofs.Steps.{cond_yes, cond_no}
use Rattle.plan_spec.proofs.LocalBits.{bit_half, bit_lowest, support_at, at_support}
use Rattle.plan_spec.proofs.Invariant.{anchored_cases}
use Rattle.masks.specs.Positions.{picked, reached_mask}

-- ---- picked entries by position

-- the lowest bit is set or not
pub lowest : (m : ℕ) → (m % 2 ≡ 0) ⊎ (m % 2 ≡ 1)
lowest m = ⊎_elim inl (λ n. inr (omega arith)) (same_or_not (m % 2) 0)

pub picked_out : (m a : ℕ) (xs : List ℕ) → m % 2 ≡ 0 → picked m (a ∷ xs) ≡ picked (m / 2) xs
picked_out m a xs e = cond_yes (eqb (m % 2) 0) _ _ (eq-eqb (m % 2) 0 e)

pub picked_in : (m a : ℕ) (xs : List ℕ) → m % 2 ≡ 1 → picked m (a ∷ xs) ≡ a ∷ picked (m / 2) xs
picked_in m a xs e = cond_no (eqb (m % 2) 0) _ _ (ne_eqb (m % 2) 0 (λ f. omega arith))

-- 0 has no bits
pub no_bit : (p : ℕ) → bit_at 0 p ≡ 0
no_bit zero = refl
no_bit (suc p) = bit_half 0 p ∙ no_bit p

-- what a mask picks is the support of that mask alone
picked_is : (m : ℕ) (xs : List ℕ) → picked m xs ≡ support m 0 xs
picked_is m [] = refl
picked_is m (a ∷ xs) =
    let first : m % 2 ≡ m % 2 + 0 % 2 = omega arith in
    ap₂ (λ (n : ℕ) (rest : List ℕ). cond (eqb n 0) rest (a ∷ rest)) first (picked_is (m / 2) xs)

-- what is picked stands at a set bit's position
pub picked_at : (m : ℕ) (xs : List ℕ) (c : ℕ) → Member c (picked m xs) → (p : ℕ) × (p < length xs) × (bit_at m p ≡ 1) × (get_or xs p 0 ≡ c)
picked_at m xs c h =
    let at = support_at m 0 xs c (subst (λ (l : List ℕ). Member c l) (picked_is m xs) h) in
    (at.0, at.1.0, ⊎_elim (λ b. b) (λ b. absurd (let z = no_bit at.0 in omega arith)) at.1.1, at.2)

-- and what stands at a set bit's position is picked
pub at_picked : (m : ℕ) (xs : List ℕ) (p : ℕ) → p < length xs → bit_at m p ≡ 1 → Member (get_or xs p 0) (picked m xs)
at_picked m xs p h b = subst (λ (l : List ℕ). Member (get_or xs p 0) l) (sym (picked_is m xs)) (at_support m 0 xs p (h, inl b))

-- nothing is picked by an empty mask
pub picked_none : (xs : List ℕ) → picked 0 xs ≡ []
picked_none [] = refl
picked_none (a ∷ xs) = picked_none xs

-- ---- the reached positions

-- a set bit of a mask stands below its width
pub bit_below : (m p k : ℕ) → m < 2 ^ k → bit_at m p ≡ 1 → p < k
bit_below m zero zero h b = absurd (let e = bit_lowest m in omega arith)
bit_below m zero (suc k) h b = omega arith
bit_below m (suc p) zero h b =
    let z : m ≡ 0 = omega arith in
    let r = bit_below (m / 2) p zero (omega arith) (sym (bit_half m p) ∙ b) in absurd (omega arith)
bit_below m (suc p) (suc k) h b =
    let e = pow-succ' 2 k in
    let r = bit_below (m / 2) p k (omega arith) (sym (bit_half m p) ∙ b) in omega arith

-- the bits below a width, by halves
module _ (x k : ℕ) where
  cut : x % 2 ^ suc k ≡ x / 2 % 2 ^ k * 2 + x % 2
  cut = ap (λ (n : ℕ). x % n) (pow-suc 2 k) ∙ mod-mul x (pow_pos k) (omega arith)

  pub cut_half : x % 2 ^ suc k / 2 ≡ x / 2 % 2 ^ k
  cut_half = let e = cut in omega arith

  pub cut_lowest : x % 2 ^ suc k % 2 ≡ x % 2
  cut_lowest = let e = cut in omega arith

-- both masks, cut to the width of the order
abbrev pub cut_both : ℕ → ℕ → ℕ → ℕ
cut_both x z k = bit_or (x % 2 ^ k) (z % 2 ^ k)

both_half : (x z k : ℕ) → cut_both x z (suc k) / 2 ≡ cut_both (x / 2) (z / 2) k
both_half x z k =
    let e = or_step (x % 2 ^ suc k) (z % 2 ^ suc k) in
    let f = ap₂ bit_or (cut_half x k) (cut_half z k) in
    let g = cut_lowest x k in
    let h = cut_lowest z k in omega arith

both_lowest : (x z k : ℕ) → cut_both x z (suc k) % 2 ≡ max (x % 2) (z % 2)
both_lowest x z k =
    let e = or_step (x % 2 ^ suc k) (z % 2 ^ suc k) in
    let g = cut_lowest x k in
    let h = cut_lowest z k in omega arith

pub both_below : (x z k : ℕ) → cut_both x z k < 2 ^ k
both_below x z k = or_lt k (x % 2 ^ k) (z % 2 ^ k) (mod-lt x (pow_pos k)) (mod-lt z (pow_pos k))

-- what both masks pick from the order is the support
pub picked_support : (x z : ℕ) (order : List ℕ) → picked (cut_both x z (length order)) order ≡ support x z order
picked_support x z [] = refl
picked_support x z (a ∷ order) =
    let k = length order in
    let rest : picked (cut_both x z (suc k) / 2) order ≡ support (x / 2) (z / 2) order =
    ap (λ (m : ℕ). picked m order) (both_half x z k) ∙ picked_support (x / 2) (z / 2) order in
    let low = both_lowest x z k in
    ⊎_elim
    (λ e. picked_out (cut_both x z (suc k)) a order e ∙ rest ∙ sym (cond_yes (eqb (x % 2 + z % 2) 0) _ _ (eq-eqb (x % 2 + z % 2) 0 (omega arith))))
    (λ e. picked_in (cut_both x z (suc k)) a order e ∙ ap (λ (l : List ℕ). a ∷ l) rest
    ∙ sym (cond_no (eqb (x % 2 + z % 2) 0) _ _ (ne_eqb (x % 2 + z % 2) 0 (λ f. omega arith))))
    (lowest (cut_both x z (suc k)))

-- a mask below the width that picks nothing is empty
picked_empty : (m : ℕ) (xs : List ℕ) → m < 2 ^ length xs → picked m xs ≡ [] → m ≡ 0
picked_empty m [] h e = omega arith
picked_empty m (a ∷ xs) h e =
    let w = pow-suc 2 (length xs) in
    ⊎_elim
    (λ low. let r = picked_empty (m / 2) xs (omega arith) (sym (picked_out m a xs low) ∙ e) in omega arith)
    (λ low. let f : a ∷ picked (m / 2) xs ≡ [] = sym (picked_in m a xs low) ∙ e in let z : ◌≡◌ {A = ℕ} 0 1 = cc in absurd (omega arith))
    (lowest m)

first_picked : (order : List ℕ) → picked 1 order ≡ take 1 order
first_picked [] = refl
first_picked (a ∷ order) = ap (λ (l : List ℕ). a ∷ l) (picked_none order)

-- the positions that an instruction reaches, over an order of so many coordinates
abbrev pub mask_of : ℕ → ℕ → ℕ → ℕ
mask_of x z k = reached_mask (x % 2 ^ k) (z % 2 ^ k)

pub mask_below : (x z k : ℕ) → 0 < k → mask_of x z k < 2 ^ k
mask_below x z k active =
    ⊎_elim
    (λ e. subst (λ (m : ℕ). m < 2 ^ k) (sym (cond_yes (eqb (cut_both x z k) 0) 1 _ (eq-eqb _ 0 e))) (let p : 2 ^ 1 ≤ 2 ^ k = pow_mono {i = 1} {j = k} active in omega arith))
    (λ n. subst (λ (m : ℕ). m < 2 ^ k) (sym (cond_no (eqb (cut_both x z k) 0) 1 _ (ne_eqb _ 0 n))) (both_below x z k))
    (same_or_not (cut_both x z k) 0)

-- what the reached positions pick from the order is what the instruction reaches
pub picked_reached : (x z : ℕ) (order : List ℕ) → picked (mask_of x z (length order)) order ≡ reached x z order
picked_reached x z order =
    let m = cut_both x z (length order) in
    let s = picked_support x z order in
    ⊎_elim
    (λ e. let none : support x z order ≡ [] = sym s ∙ ap (λ (n : ℕ). picked n order) e ∙ picked_none order in
    ap (λ (n : ℕ). picked n order) (cond_yes (eqb m 0) 1 m (eq-eqb m 0 e)) ∙ first_picked order ∙ sym (ap (or_first order) none))
    (λ n. ap (λ (i : ℕ). picked i order) (cond_no (eqb m 0) 1 m (ne_eqb m 0 n)) ∙ s
    ∙ ⊎_elim (λ none. absurd (n (picked_empty m order (both_below x z (length order)) (s ∙ none)))) (λ f. sym f) (anchored_cases order (support x z order)))
    (same_or_not m 0)
