-- The sources that are found by looking for the smallest number again and again are ascending and have the members that the definition lists in order, so they are the
-- same list; and the target by rank is the definition's largest, since its rank is above that of every other.
use mathlib.Core.Path.{◌≡◌, refl, sym, ap, ap₂, ◌∙◌, subst}
use mathlib.Core.Logic.{◌⊎◌, inl, inr, ⊎_elim}
use mathlib.Core.List.{List, [], ◌∷◌}
use Prim.Native.Nat.{ℕ, zero, suc, ◌+◌, ◌-◌, ◌*◌, ◌<◌, ◌≤◌, min, max}
use native.Mathlib.Omega.{arith}
use lib.Dec.{eqb}
use lib.ListN.{length, get_or}
use borrow.Author.Tests.{eq-eqb, ne_eqb}
use Rattle.words.proofs.Numbers.{same_or_not}
use Rattle.plan_spec.specs.Lists.{without}
use Rattle.plan_spec.specs.Components.{size_of, largest, sources_of}
use Rattle.plan_spec.specs.Connectivity.{Member}
use Rattle.plan_spec.specs.Sources.{IsAscending, none, more}
use Rattle.plan_spec.proofs.Steps.{cond_yes, cond_no}
use Rattle.plan_spec.proofs.Counting.{member_head, member_tail, member_cons}
use Rattle.plan_spec.proofs.Joins.{largest_member}
use Rattle.plan_spec.proofs.Ascending.{ascending_same, without_from, without_holds, without_ascending, Ahead, largest_ahead}
use Rattle.masks.specs.Positions.{rank, highest_rank, target_in, least_from, least_in, ascending, sources_in}

-- ---- a list without one of its numbers

without_most : (a : ℕ) (xs : List ℕ) → length (without a xs) ≤ length xs
without_most a [] = omega arith
without_most a (x ∷ xs) =
    let r = without_most a xs in
    ⊎_elim
    (λ e. let f = ap length (cond_yes (eqb a x) (without a xs) (x ∷ without a xs) (eq-eqb a x e)) in omega arith)
    (λ n. let f = ap length (cond_no (eqb a x) (without a xs) (x ∷ without a xs) (ne_eqb a x n)) in omega arith)
    (same_or_not a x)

without_fewer : (a : ℕ) (xs : List ℕ) → Member a xs → length (without a xs) < length xs
without_fewer a [] h = absurd (omega arith)
without_fewer a (x ∷ xs) h =
    ⊎_elim
    (λ e. let f = ap length (cond_yes (eqb a x) (without a xs) (x ∷ without a xs) (eq-eqb a x e)) in let r = without_most a xs in omega arith)
    (λ n. let f = ap length (cond_no (eqb a x) (without a xs) (x ∷ without a xs) (ne_eqb a x n)) in
    ⊎_elim (λ e. absurd (n e)) (λ m. let r = without_fewer a xs m in omega arith) (member_cons a x xs h))
    (same_or_not a x)

-- ---- the smallest number

least_first : (best : ℕ) (cs : List ℕ) → least_from best cs ≤ best
least_first best [] = omega arith
least_first best (c ∷ cs) = let r = least_first (min best c) cs in omega arith

least_all : (best : ℕ) (cs : List ℕ) (c : ℕ) → Member c cs → least_from best cs ≤ c
least_all best [] c h = absurd (omega arith)
least_all best (d ∷ cs) c h =
    ⊎_elim (λ e. let r = least_first (min best d) cs in omega arith) (λ m. least_all (min best d) cs c m) (member_cons c d cs h)

least_either : (best : ℕ) (cs : List ℕ) → (least_from best cs ≡ best) ⊎ Member (least_from best cs) cs
least_either best [] = inl refl
least_either best (c ∷ cs) =
    let l = least_from (min best c) cs in
    ⊎_elim
    (λ e. ⊎_elim
    (λ f. inl (e ∙ f))
    (λ f. inr (subst (λ (k : ℕ). Member k (c ∷ cs)) (sym (e ∙ f)) (member_head c cs)))
    (min_either best c))
    (λ m. inr (member_tail l c cs m))
    (least_either (min best c) cs)
  where
    min_either : (a b : ℕ) → (min a b ≡ a) ⊎ (min a b ≡ b)
    min_either a b = ⊎_elim inl (λ n. inr (omega arith)) (same_or_not (min a b) a)

-- every number of the list is below 65535
abbrev pub Numbers : List ℕ → Type 0
Numbers xs = (c : ℕ) → Member c xs → c < 65535

least_member : (c : ℕ) (cs : List ℕ) → Numbers (c ∷ cs) → Member (least_in (c ∷ cs)) (c ∷ cs)
least_member c cs small =
    ⊎_elim
    (λ e. absurd (let r = least_all 65535 (c ∷ cs) c (member_head c cs) in let s = small c (member_head c cs) in omega arith))
    (λ m. m)
    (least_either 65535 (c ∷ cs))

-- ---- the different numbers of a list, ascending

pub ascending_from : (n : ℕ) (l : List ℕ) (c : ℕ) → Numbers l → Member c (ascending n l) → Member c l
ascending_from zero l c small h = absurd (omega arith)
ascending_from (suc n) [] c small h = h
ascending_from (suc n) (d ∷ ds) c small h =
    let least = least_in (d ∷ ds) in
    let fewer : Numbers (without least (d ∷ ds)) = λ b m. small b (without_from least b (d ∷ ds) m).0 in
    ⊎_elim
    (λ e. subst (λ (k : ℕ). Member k (d ∷ ds)) (sym e) (least_member d ds small))
    (λ m. (without_from least c (d ∷ ds) (ascending_from n (without least (d ∷ ds)) c fewer m)).0)
    (member_cons c least (ascending n (without least (d ∷ ds))) h)

pub ascending_holds : (n : ℕ) (l : List ℕ) (c : ℕ) → Numbers l → length l ≤ n → Member c l → Member c (ascending n l)
ascending_holds zero [] c small k h = h
ascending_holds zero (d ∷ ds) c small k h = absurd (omega arith)
ascending_holds (suc n) [] c small k h = h
ascending_holds (suc n) (d ∷ ds) c small k h =
    let least = least_in (d ∷ ds) in
    let others = ascending n (without least (d ∷ ds)) in
    let fewer : Numbers (without least (d ∷ ds)) = λ b m. small b (without_from least b (d ∷ ds) m).0 in
    let short = without_fewer least (d ∷ ds) (least_member d ds small) in
    ⊎_elim
    (λ e. subst (λ (a : ℕ). Member a (least ∷ others)) (sym e) (member_head least others))
    (λ e. member_tail c least others (ascending_holds n (without least (d ∷ ds)) c fewer (omega arith) (without_holds least c (d ∷ ds) h e)))
    (same_or_not c least)

pub ascending_ascending : (n : ℕ) (l : List ℕ) → Numbers l → IsAscending (ascending n l)
ascending_ascending zero l small = none
ascending_ascending (suc n) [] small = none
ascending_ascending (suc n) (d ∷ ds) small =
    let least = least_in (d ∷ ds) in
    let fewer : Numbers (without least (d ∷ ds)) = λ b m. small b (without_from least b (d ∷ ds) m).0 in
    let others = without least (d ∷ ds) in
    let above : (b : ℕ) → Member b (ascending n others) → least < b =
    λ b h. let m = without_from least b (d ∷ ds) (ascending_from n others b fewer h) in
    let r = least_all 65535 (d ∷ ds) b m.0 in
    ⊎_elim (λ e. absurd (m.1 (sym e))) (λ e. omega arith) (same_or_not least b) in
    more above (ascending_ascending n others fewer)

-- ---- the highest rank

module _ (size : List ℕ) where
  highest_first : (best : ℕ) (cs : List ℕ) → best ≤ highest_rank size best cs
  highest_first best [] = omega arith
  highest_first best (c ∷ cs) = let r = highest_first (max best (rank size c)) cs in omega arith

  highest_all : (best : ℕ) (cs : List ℕ) (c : ℕ) → Member c cs → rank size c ≤ highest_rank size best cs
  highest_all best [] c h = absurd (omega arith)
  highest_all best (d ∷ cs) c h =
      ⊎_elim
      (λ e. let r = highest_first (max best (rank size d)) cs in let f = ap (rank size) e in omega arith)
      (λ m. highest_all (max best (rank size d)) cs c m)
      (member_cons c d cs h)

  highest_most : (best : ℕ) (cs : List ℕ) (n : ℕ) → best ≤ n → ((c : ℕ) → Member c cs → rank size c ≤ n) → highest_rank size best cs ≤ n
  highest_most best [] n h f = h
  highest_most best (c ∷ cs) n h f =
      highest_most (max best (rank size c)) cs n (let r = f c (member_head c cs) in omega arith) (λ d m. f d (member_tail d c cs m))

  -- the one of the highest rank is the target
  pub target_is : (cs : List ℕ) (t : ℕ) → t ≤ 65535 → Member t cs → ((c : ℕ) → Member c cs → rank size c ≤ rank size t) → target_in size cs ≡ t
  target_is cs t small h top =
      let up = highest_most 0 cs (rank size t) (omega arith) top in
      let down = highest_all 0 cs t h in omega arith

-- the rank that the definition's sizes give
abbrev pub rank_in : List (List ℕ) → ℕ → ℕ
rank_in cs c = size_of cs c * 65536 + (65535 - c)

-- the one that is ahead has the higher rank
ahead_rank : (cs : List (List ℕ)) (t c : ℕ) → c ≤ 65535 → Ahead cs t c → rank_in cs c ≤ rank_in cs t
ahead_rank cs t c small h =
    ⊎_elim (λ e. let k = h.1 e in omega arith) (λ n. omega (arith, h.0, n)) (same_or_not (size_of cs c) (size_of cs t))

-- ---- the sources

-- Numbers that are picked in any order, some of them more than once, and the same numbers listed in ascending order: the sources are the same, where the sizes
-- agree.
pub sources_are : (size : List ℕ) (cs : List (List ℕ)) (found listed : List ℕ) → IsAscending listed → 0 < length listed
    → ((c : ℕ) → Member c listed → (c < 65535) × (get_or size c 0 ≡ size_of cs c))
    → ((c : ℕ) → Member c found → Member c listed) → ((c : ℕ) → Member c listed → Member c found)
    → sources_in size found ≡ sources_of cs listed
unfolding sources_in sources_of
sources_are size cs found [] a some sizes f g = absurd (omega arith)
sources_are size cs found (c ∷ rest) (more l a) some sizes f g =
    let t = largest cs c rest in
    let here = largest_member cs c rest in
    let top : (b : ℕ) → Member b (c ∷ rest) → rank_in cs b ≤ rank_in cs t =
    λ b m. ahead_rank cs t b (let s = sizes b m in omega (arith, s.0)) (largest_ahead cs c rest (more l a) b m) in
    let small : Numbers found = λ b m. (sizes b (f b m)).0 in
    let rank_same : (b : ℕ) → Member b (c ∷ rest) → rank size b ≡ rank_in cs b = λ b m. ap (λ (n : ℕ). n * 65536 + (65535 - b)) (sizes b m).1 in
    let target : target_in size found ≡ t =
    target_is size found t (let s = sizes t here in omega (arith, s.0)) (g t here)
    (λ b m. let p = rank_same b (f b m) in let q = rank_same t here in let o = top b (f b m) in omega arith) in
    let others : ascending (length found) (without t found) ≡ without t (c ∷ rest) =
    ascending_same (ascending (length found) (without t found)) (without t (c ∷ rest))
    (ascending_ascending (length found) (without t found) (λ b m. small b (without_from t b found m).0))
    (without_ascending t (c ∷ rest) (more l a))
    (λ b m. let n = without_from t b found (ascending_from (length found) (without t found) b (λ d k. small d (without_from t d found k).0) m) in
    without_holds t b (c ∷ rest) (f b n.0) n.1)
    (λ b m. let n = without_from t b (c ∷ rest) m in
    ascending_holds (length found) (without t found) b (λ d k. small d (without_from t d found k).0) (without_most t found) (without_holds t b found (g b n.0) n.1)) in
    ap₂ (λ (x : ℕ) (xs : List ℕ). x ∷ xs) target (ap (λ (x : ℕ). ascending (length found) (without x found)) target ∙ others)
