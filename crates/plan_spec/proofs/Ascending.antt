-- Ascending lists with the same members are the same list, since the first of each is the smallest member. Touched components are listed ascending, as they are looked
-- through in order; and so a later one has to be larger to become the target, which is thus the largest with the smallest number.
use mathlib.Core.Path.{◌≡◌, refl, sym, ap, ap₂, subst}
use mathlib.Core.Logic.{⊎_elim}
use mathlib.Core.Bool.{Bool, true, false, cond}
use mathlib.Core.List.{List, [], ◌∷◌}
use Prim.Native.Nat.{ℕ, suc, ◌≤◌, ◌<◌}
use native.Mathlib.Omega.{arith}
use lib.Dec.{eqb, ltb}
use borrow.Author.Tests.{eq-eqb, ne_eqb, ltb-true, ltb-false}
use Rattle.words.proofs.Numbers.{same_or_not}
use Rattle.plan_spec.specs.Lists.{without, meet}
use Rattle.plan_spec.specs.Components.{size_of, meeting, larger, largest}
use Rattle.plan_spec.specs.Connectivity.{Member}
use Rattle.plan_spec.specs.Sources.{IsAscending, none, more}
use Rattle.plan_spec.proofs.Counting.{member_head, member_tail, member_cons}
use Rattle.plan_spec.proofs.Steps.{cond_yes, cond_no}
use Rattle.plan_spec.proofs.Joins.{meeting_meets, larger_either, without_same, without_other}

pub ascending_same : (xs ys : List ℕ) → IsAscending xs → IsAscending ys → ((a : ℕ) → Member a xs → Member a ys) → ((a : ℕ) → Member a ys → Member a xs) → xs ≡ ys
ascending_same [] [] none none f g = refl
ascending_same [] (y ∷ ys) none (more l q) f g = absurd (let h = g y (member_head y ys) in omega arith)
ascending_same (x ∷ xs) [] (more l q) none f g = absurd (let h = f x (member_head x xs) in omega arith)
ascending_same (x ∷ xs) (y ∷ ys) (more l p) (more k q) f g =
    let heads : x ≡ y =
    ⊎_elim
    (λ e. e)
    (λ m. ⊎_elim (λ e. sym e) (λ n. absurd (let a = k x m in let b = l y n in omega arith)) (member_cons y x xs (g y (member_head y ys))))
    (member_cons x y ys (f x (member_head x xs))) in
    ap₂ (λ (a : ℕ) (rest : List ℕ). a ∷ rest) heads
    (ascending_same xs ys p q
    (λ a m. ⊎_elim (λ e. absurd (let b = l a m in omega arith)) (λ n. n) (member_cons a y ys (f a (member_tail a x xs m))))
    (λ a m. ⊎_elim (λ e. absurd (let b = k a m in omega arith)) (λ n. n) (member_cons a x xs (g a (member_tail a y ys m)))))

-- touched components are listed in ascending order
pub meeting_ascending : (n : ℕ) (s : List ℕ) (cs : List (List ℕ)) → IsAscending (meeting n s cs)
meeting_ascending n s [] = none
meeting_ascending n s (m ∷ cs) = go (meet s m) refl (meeting_ascending (suc n) s cs)
  where
    go : (t : Bool) → meet s m ≡ t → IsAscending (meeting (suc n) s cs) → IsAscending (meeting n s (m ∷ cs))
    go true e rest =
        subst IsAscending (sym (cond_yes (meet s m) _ _ e))
        (more (λ b h. let k = meeting_meets (suc n) s cs b h in omega (arith, k.0)) rest)
    go false e rest = subst IsAscending (sym (cond_no (meet s m) _ _ e)) rest

-- ---- a list without one of its numbers

pub without_from : (a b : ℕ) (xs : List ℕ) → Member b (without a xs) → Member b xs × (b ≡ a → ⊥)
without_from a b xs h =
    ⊎_elim
    (λ e. absurd (let z = without_same a xs in let k : Member a (without a xs) = subst (λ (n : ℕ). Member n (without a xs)) e h in omega arith))
    (λ n. (subst (λ (k : ℕ). 0 < k) (without_other b a xs n) h, n))
    (same_or_not b a)

pub without_holds : (a b : ℕ) (xs : List ℕ) → Member b xs → (b ≡ a → ⊥) → Member b (without a xs)
without_holds a b xs h n = subst (λ (k : ℕ). 0 < k) (sym (without_other b a xs n)) h

pub without_ascending : (a : ℕ) (xs : List ℕ) → IsAscending xs → IsAscending (without a xs)
without_ascending a [] none = none
without_ascending a (x ∷ xs) (more l p) =
    ⊎_elim
    (λ e. subst IsAscending (sym (cond_yes (eqb a x) _ _ (eq-eqb a x e))) (without_ascending a xs p))
    (λ n. subst IsAscending (sym (cond_no (eqb a x) _ _ (ne_eqb a x n)))
    (more (λ b h. l b (without_from a b xs h).0) (without_ascending a xs p)))
    (same_or_not a x)

-- ---- the target

-- t is larger than c, or as large with a number that is no larger
abbrev pub Ahead : List (List ℕ) → ℕ → ℕ → Type 0
Ahead cs t c = (size_of cs c ≤ size_of cs t) × (size_of cs c ≡ size_of cs t → t ≤ c)

ahead_trans : (cs : List (List ℕ)) (a b c : ℕ) → Ahead cs a b → Ahead cs b c → Ahead cs a c
ahead_trans cs a b c f g = (omega (arith, f.0, g.0), λ e. let p = f.1 (omega (arith, f.0, g.0, e)) in let q = g.1 (omega (arith, f.0, g.0, e)) in omega arith)

larger_ahead : (cs : List (List ℕ)) (best c : ℕ) → best < c → Ahead cs (larger cs best c) best × Ahead cs (larger cs best c) c
larger_ahead cs best c h = go (ltb (size_of cs best) (size_of cs c)) refl
  where
    go : (t : Bool) → ltb (size_of cs best) (size_of cs c) ≡ t → Ahead cs (cond t c best) best × Ahead cs (cond t c best) c
    go true e = let l = ltb-true (size_of cs best) (size_of cs c) e in ((omega arith, λ f. omega arith), (omega arith, λ f. omega arith))
    go false e = let l = ltb-false (size_of cs best) (size_of cs c) e in ((omega arith, λ f. omega arith), (omega arith, λ f. omega arith))

-- the largest of an ascending list is ahead of all
pub largest_ahead : (cs : List (List ℕ)) (best : ℕ) (rest : List ℕ) → IsAscending (best ∷ rest) → (c : ℕ) → Member c (best ∷ rest) → Ahead cs (largest cs best rest) c
largest_ahead cs best [] a c h =
    ⊎_elim (λ e. let f = ap (size_of cs) e in (omega arith, λ g. omega arith)) (λ m. absurd (omega arith)) (member_cons c best [] h)
largest_ahead cs best (d ∷ rest) (more l (more k a)) c h =
    let next = larger cs best d in
    let below : best < d = let h = l d (member_head d rest) in omega arith in
    let ahead = larger_ahead cs best d below in
    let later : (b : ℕ) → Member b rest → next < b =
    λ b m. let h = k b m in let g = l b (member_tail b d rest m) in ⊎_elim (λ e. omega arith) (λ e. omega arith) (larger_either cs best d) in
    let of_next = largest_ahead cs next rest (more later a) in
    let t = largest cs next rest in
    ⊎_elim
    (λ e. subst (Ahead cs t) (sym e) (ahead_trans cs t next best (of_next next (member_head next rest)) ahead.0))
    (λ m. ⊎_elim
    (λ e. subst (Ahead cs t) (sym e) (ahead_trans cs t next d (of_next next (member_head next rest)) ahead.1))
    (λ n. of_next c (member_tail c next rest n))
    (member_cons c d rest m))
    (member_cons c best (d ∷ rest) h)
