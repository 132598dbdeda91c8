-- Loops that write an array entry by entry: what holds of the entries before a position, from it on, and of all, after one more store.
use mathlib.Core.Path.{◌≡◌, sym, ap, ◌∙◌, subst}
use mathlib.Core.List.{List, ◌∷◌}
use mathlib.Core.Logic.{⊎_elim}
use Prim.Native.Nat.{ℕ, zero, suc, ◌+◌, ◌<◌, ◌≤◌}
use native.Mathlib.Numerals.{add-one}
use native.Mathlib.Omega.{arith}
use lib.ListN.{length, get_or, drop, set, replicate}
use lib.Seq.{drop-cons, get_or-set_same, get_or-set_other}
use Rattle.words.proofs.Numbers.{same_or_not}

-- the entries from a position on are the one there and those after it
pub rest_at : (xs : List ℕ) (p : ℕ) → p < length xs → drop p xs ≡ get_or xs p 0 ∷ drop (p + 1) xs
rest_at xs p inside = drop-cons xs p 0 inside ∙ ap (λ (n : ℕ). get_or xs p 0 ∷ drop n xs) (sym (add-one p))

pub zeros_small : (n p : ℕ) → get_or (replicate n 0) p 0 < 512
zeros_small zero p = omega arith
zeros_small (suc n) zero = omega arith
zeros_small (suc n) (suc p) = zeros_small n p

module _ (P : ℕ → ℕ → Type 0) (xs : List ℕ) (i v : ℕ) where
  pub store_below : i < length xs → ((q : ℕ) → q < i → P q (get_or xs q 0)) → P i v → (q : ℕ) → q < i + 1 → P q (get_or (set xs i v) q 0)
  store_below inside before new q h =
      ⊎_elim
      (λ (e : q ≡ i). subst (λ (k : ℕ). P k (get_or (set xs i v) k 0)) (sym e) (subst (λ (x : ℕ). P i x) (sym (get_or-set_same xs i v 0 inside)) new))
      (λ (n : q ≡ i → ⊥). subst (λ (x : ℕ). P q x) (sym (get_or-set_other xs i q v 0 n)) (before q (omega (arith, n))))
      (same_or_not q i)

  pub store_above : ((q : ℕ) → i ≤ q → P q (get_or xs q 0)) → (q : ℕ) → i + 1 ≤ q → P q (get_or (set xs i v) q 0)
  store_above after q h =
      subst (λ (x : ℕ). P q x) (sym (get_or-set_other xs i q v 0 (λ (e : q ≡ i). omega arith))) (after q (omega arith))

pub store_all : (xs : List ℕ) (i v : ℕ) → i < length xs → ((q : ℕ) → get_or xs q 0 < 512) → v < 512 → (q : ℕ) → get_or (set xs i v) q 0 < 512
store_all xs i v inside all new q =
    ⊎_elim
    (λ (e : q ≡ i). omega (arith, ap (λ (k : ℕ). get_or (set xs i v) k 0) e ∙ get_or-set_same xs i v 0 inside))
    (λ (n : q ≡ i → ⊥). omega (arith, get_or-set_other xs i q v 0 n, all q))
    (same_or_not q i)
