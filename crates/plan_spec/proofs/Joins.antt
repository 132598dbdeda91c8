-- A join moves members and loses none: the sources are the touched components, each once, so that emptying them and giving their members to the target
-- leaves every coordinate as often as before.
use mathlib.Core.Path.{◌≡◌, refl, sym, ap, ap₂, ◌∙◌, subst}
use mathlib.Core.Logic.{◌⊎◌, inl, inr, ⊎_elim}
use mathlib.Core.Bool.{Bool, true, false, cond, ◌||◌}
use mathlib.Core.List.{List, [], ◌∷◌, ◌++◌}
use Prim.Native.Nat.{ℕ, zero, suc, ◌+◌, ◌-◌, ◌≤◌, ◌<◌}
use native.Mathlib.Omega.{arith}
use lib.Dec.{eqb, ltb}
use lib.ListN.{length, get_or, set, length-set}
use lib.Seq.{get_or-set_same, get_or-set_other}
use borrow.Author.Tests.{eq-eqb, ne_eqb}
use Rattle.words.proofs.Numbers.{same_or_not}
use Rattle.plan_spec.specs.Lists.{is_in, meet, without, concat}
use Rattle.plan_spec.specs.Components.{size_of, meeting, larger, largest, sources_of, gathered, emptied, joined}
use Rattle.plan_spec.specs.Connectivity.{occurrences, Member, NoRepeats, Rearranged, replay_join, joined_members}
use Rattle.plan_spec.proofs.Counting.{member_or_not, one_here, none_here, member_head, member_tail, member_cons, member_is_in, absent_is_in, or-true, occurrences_append, occurrences_set}
use Rattle.plan_spec.proofs.Steps.{cond_yes, cond_no}

-- ---- which components are touched

pub meet_shares : (s m : List ℕ) → meet s m ≡ true → (a : ℕ) × Member a s × Member a m
meet_shares [] m h = let z : ◌≡◌ {A = ℕ} 0 1 = cc in absurd (omega arith)
meet_shares (a ∷ s) m h =
    ⊎_elim
    (λ here. (a, member_head a s, here))
    (λ none. let rest = meet_shares s m (sym (ap (λ (t : Bool). t || meet s m) (absent_is_in a m none)) ∙ h) in (rest.0, member_tail rest.0 a s rest.1, rest.2))
    (member_or_not a m)

pub shares_meet : (s m : List ℕ) (a : ℕ) → Member a s → Member a m → meet s m ≡ true
shares_meet [] m a h g = absurd (omega arith)
shares_meet (b ∷ s) m a h g =
    ⊎_elim
    (λ e. ap (λ (t : Bool). t || meet s m) (member_is_in b m (subst (λ (n : ℕ). Member n m) e g)))
    (λ t. ap (λ (u : Bool). is_in b m || u) (shares_meet s m a t g) ∙ or-true (is_in b m))
    (member_cons a b s h)

-- a touched component is listed at its number, and meets the coordinates
pub meeting_meets : (n : ℕ) (s : List ℕ) (cs : List (List ℕ)) (c : ℕ) → Member c (meeting n s cs)
    → (n ≤ c) × (c < n + length cs) × (meet s (get_or cs (c - n) []) ≡ true)
meeting_meets n s [] c h = absurd (omega arith)
meeting_meets n s (m ∷ cs) c h = go (meet s m) refl (λ g. meeting_meets (suc n) s cs c g)
  where
    later : ((suc n ≤ c) × (c < suc n + length cs) × (meet s (get_or cs (c - suc n) []) ≡ true))
        → (n ≤ c) × (c < n + length (m ∷ cs)) × (meet s (get_or (m ∷ cs) (c - n) []) ≡ true)
    later r =
        let at : c - n ≡ suc (c - suc n) = omega (arith, r.0) in
        (omega (arith, r.0), omega (arith, r.1), ap (λ (i : ℕ). meet s (get_or (m ∷ cs) i [])) at ∙ r.2)

    go : (t : Bool) → meet s m ≡ t
        → (Member c (meeting (suc n) s cs) → (suc n ≤ c) × (c < suc n + length cs) × (meet s (get_or cs (c - suc n) []) ≡ true))
        → (n ≤ c) × (c < n + length (m ∷ cs)) × (meet s (get_or (m ∷ cs) (c - n) []) ≡ true)
    go true t rest =
        let g : Member c (n ∷ meeting (suc n) s cs) = subst (λ (l : List ℕ). Member c l) (cond_yes (meet s m) _ _ t) h in
        ⊎_elim
        (λ e. let at : c - n ≡ 0 = omega (arith, e) in (omega (arith, e), omega (arith, e), ap (λ (i : ℕ). meet s (get_or (m ∷ cs) i [])) at ∙ t))
        (λ k. later (rest k))
        (member_cons c n (meeting (suc n) s cs) g)
    go false t rest = later (rest (subst (λ (l : List ℕ). Member c l) (cond_no (meet s m) _ _ t) h))

pub meets_meeting : (n : ℕ) (s : List ℕ) (cs : List (List ℕ)) (i : ℕ) → i < length cs → meet s (get_or cs i []) ≡ true → Member (n + i) (meeting n s cs)
meets_meeting n s [] i h e = absurd (omega arith)
meets_meeting n s (m ∷ cs) zero h e =
    subst (λ (l : List ℕ). Member (n + zero) l) (sym (cond_yes (meet s m) _ _ e))
    (subst (λ (k : ℕ). Member k (n ∷ meeting (suc n) s cs)) (omega arith) (member_head n (meeting (suc n) s cs)))
meets_meeting n s (m ∷ cs) (suc i) h e =
    let rest : Member (n + suc i) (meeting (suc n) s cs) = subst (λ (k : ℕ). Member k (meeting (suc n) s cs)) (omega arith) (meets_meeting (suc n) s cs i (omega arith) e) in
    go (meet s m) refl rest
  where
    go : (t : Bool) → meet s m ≡ t → Member (n + suc i) (meeting (suc n) s cs) → Member (n + suc i) (meeting n s (m ∷ cs))
    go true t r = subst (λ (l : List ℕ). Member (n + suc i) l) (sym (cond_yes (meet s m) _ _ t)) (member_tail (n + suc i) n (meeting (suc n) s cs) r)
    go false t r = subst (λ (l : List ℕ). Member (n + suc i) l) (sym (cond_no (meet s m) _ _ t)) r

pub meeting_from : (n : ℕ) (s : List ℕ) (cs : List (List ℕ)) (c : ℕ) → c < n → occurrences c (meeting n s cs) ≡ 0
meeting_from n s cs c h =
    ⊎_elim
    (λ m. let r = meeting_meets n s cs c m in absurd (omega (arith, r.0)))
    (λ e. e)
    (member_or_not c (meeting n s cs))

pub meeting_once : (n : ℕ) (s : List ℕ) (cs : List (List ℕ)) → NoRepeats (meeting n s cs)
meeting_once n s [] c = omega arith
meeting_once n s (m ∷ cs) c = go (meet s m) refl (meeting_once (suc n) s cs c)
  where
    go : (t : Bool) → meet s m ≡ t → occurrences c (meeting (suc n) s cs) ≤ 1 → occurrences c (meeting n s (m ∷ cs)) ≤ 1
    go true t r =
        subst (λ (l : List ℕ). occurrences c l ≤ 1) (sym (cond_yes (meet s m) _ _ t))
        (⊎_elim
        (λ e. let f = one_here c n (meeting (suc n) s cs) e in let g = meeting_from (suc n) s cs c (omega arith) in omega arith)
        (λ ne. let f = none_here c n (meeting (suc n) s cs) ne in omega arith)
        (same_or_not c n))
    go false t r = subst (λ (l : List ℕ). occurrences c l ≤ 1) (sym (cond_no (meet s m) _ _ t)) r

-- ---- the sources are the touched components, the target first

pub larger_either : (cs : List (List ℕ)) (best c : ℕ) → (larger cs best c ≡ best) ⊎ (larger cs best c ≡ c)
larger_either cs best c = go (ltb (size_of cs best) (size_of cs c))
  where
    go : (t : Bool) → (cond t c best ≡ best) ⊎ (cond t c best ≡ c)
    go true = inr refl
    go false = inl refl

pub largest_member : (cs : List (List ℕ)) (best : ℕ) (rest : List ℕ) → Member (largest cs best rest) (best ∷ rest)
largest_member cs best [] = member_head best []
largest_member cs best (c ∷ rest) =
    let r = largest_member cs (larger cs best c) rest in
    let l = largest cs (larger cs best c) rest in
    ⊎_elim
    (λ e. ⊎_elim
    (λ b. subst (λ (k : ℕ). Member k (best ∷ c ∷ rest)) (sym (e ∙ b)) (member_head best (c ∷ rest)))
    (λ b. subst (λ (k : ℕ). Member k (best ∷ c ∷ rest)) (sym (e ∙ b)) (member_tail c best (c ∷ rest) (member_head c rest)))
    (larger_either cs best c))
    (λ t. member_tail l best (c ∷ rest) (member_tail l c rest t))
    (member_cons l (larger cs best c) rest r)

pub without_same : (a : ℕ) (xs : List ℕ) → occurrences a (without a xs) ≡ 0
without_same a [] = refl
without_same a (b ∷ xs) =
    ⊎_elim
    (λ e. ap (λ (l : List ℕ). occurrences a l) (cond_yes (eqb a b) _ _ (eq-eqb a b e)) ∙ without_same a xs)
    (λ n. ap (λ (l : List ℕ). occurrences a l) (cond_no (eqb a b) _ _ (ne_eqb a b n)) ∙ none_here a b (without a xs) n ∙ without_same a xs)
    (same_or_not a b)

pub without_other : (c a : ℕ) (xs : List ℕ) → (c ≡ a → ⊥) → occurrences c (without a xs) ≡ occurrences c xs
without_other c a [] n = refl
without_other c a (b ∷ xs) n =
    ⊎_elim
    (λ e. ap (λ (l : List ℕ). occurrences c l) (cond_yes (eqb a b) _ _ (eq-eqb a b e)) ∙ without_other c a xs n ∙ sym (none_here c b xs (λ d. n (d ∙ sym e))))
    (λ ne. ap (λ (l : List ℕ). occurrences c l) (cond_no (eqb a b) _ _ (ne_eqb a b ne)) ∙ ap (λ (k : ℕ). cond (eqb c b) 1 0 + k) (without_other c a xs n))
    (same_or_not a b)

pub sources_same : (cs : List (List ℕ)) (ts : List ℕ) → NoRepeats ts → Rearranged (sources_of cs ts) ts
unfolding sources_of
sources_same cs [] once c = refl
sources_same cs (t ∷ ts) once c =
    let target = largest cs t ts in
    let here = largest_member cs t ts in
    ⊎_elim
    (λ e. let f = one_here c target (without target (t ∷ ts)) e in
    let g = ap (λ (k : ℕ). occurrences k (without target (t ∷ ts))) e ∙ without_same target (t ∷ ts) in
    let h : Member c (t ∷ ts) = subst (λ (k : ℕ). Member k (t ∷ ts)) (sym e) here in
    let o = once c in omega arith)
    (λ n. none_here c target (without target (t ∷ ts)) n ∙ without_other c target (t ∷ ts) n)
    (same_or_not c target)

-- ---- what the components hold after a join

pub length_emptied : (ss : List ℕ) (cs : List (List ℕ)) → length (emptied ss cs) ≡ length cs
length_emptied [] cs = refl
length_emptied (s ∷ ss) cs = length_emptied ss (set cs s []) ∙ length-set cs s []

pub length_joined : (cs : List (List ℕ)) (ss : List ℕ) → length (joined cs ss) ≡ length cs
unfolding joined
length_joined cs [] = refl
length_joined cs (t ∷ others) = length-set (emptied others cs) t (gathered cs (t ∷ others)) ∙ length_emptied others cs

set_empty : (cs : List (List ℕ)) (s c : ℕ) → c ≡ s → get_or (set cs s []) c [] ≡ []
set_empty [] s c e = refl
set_empty (x ∷ cs) zero zero e = refl
set_empty (x ∷ cs) zero (suc c) e = absurd (omega arith)
set_empty (x ∷ cs) (suc s) zero e = absurd (omega arith)
set_empty (x ∷ cs) (suc s) (suc c) e = set_empty cs s c (omega arith)

pub emptied_empty : (ss : List ℕ) (cs : List (List ℕ)) (c : ℕ) → get_or cs c [] ≡ [] → get_or (emptied ss cs) c [] ≡ []
emptied_empty [] cs c e = e
emptied_empty (s ∷ ss) cs c e =
    ⊎_elim
    (λ d. emptied_empty ss (set cs s []) c (set_empty cs s c d))
    (λ n. emptied_empty ss (set cs s []) c (get_or-set_other cs s c [] [] n ∙ e))
    (same_or_not c s)

pub emptied_in : (ss : List ℕ) (cs : List (List ℕ)) (c : ℕ) → Member c ss → get_or (emptied ss cs) c [] ≡ []
emptied_in [] cs c h = absurd (omega arith)
emptied_in (s ∷ ss) cs c h =
    ⊎_elim
    (λ e. emptied_empty ss (set cs s []) c (set_empty cs s c e))
    (λ t. emptied_in ss (set cs s []) c t)
    (member_cons c s ss h)

pub emptied_out : (ss : List ℕ) (cs : List (List ℕ)) (c : ℕ) → occurrences c ss ≡ 0 → get_or (emptied ss cs) c [] ≡ get_or cs c []
emptied_out [] cs c e = refl
emptied_out (s ∷ ss) cs c e =
    ⊎_elim
    (λ d. let f = one_here c s ss d in absurd (omega arith))
    (λ n. let f = none_here c s ss n in emptied_out ss (set cs s []) c (omega arith) ∙ get_or-set_other cs s c [] [] n)
    (same_or_not c s)

pub gathered_joined : (cs : List (List ℕ)) (ss : List ℕ) → gathered cs ss ≡ joined_members (λ c. get_or cs c []) ss
gathered_joined cs [] = refl
gathered_joined cs (s ∷ ss) = ap (λ (l : List ℕ). get_or cs s [] ++ l) (gathered_joined cs ss)

-- the component i after a join, as the replay has it
pub joined_is : (cs : List (List ℕ)) (ss : List ℕ) (i : ℕ) → NoRepeats ss → ((c : ℕ) → Member c ss → c < length cs)
    → get_or (joined cs ss) i [] ≡ replay_join ss (λ c. get_or cs c []) i
unfolding joined
joined_is cs [] i once small = refl
joined_is cs (t ∷ others) i once small =
    ⊎_elim
    (λ e. ap (λ (k : ℕ). get_or (set (emptied others cs) t (gathered cs (t ∷ others))) k []) e
    ∙ get_or-set_same (emptied others cs) t (gathered cs (t ∷ others)) [] (subst (λ (n : ℕ). t < n) (sym (length_emptied others cs)) (small t (member_head t others)))
    ∙ gathered_joined cs (t ∷ others)
    ∙ sym (cond_yes (eqb i t) _ _ (eq-eqb i t e)))
    (λ n. get_or-set_other (emptied others cs) t i (gathered cs (t ∷ others)) [] n
    ∙ ⊎_elim
    (λ m. emptied_in others cs i m ∙ sym (cond_yes (is_in i others) _ _ (member_is_in i others m)))
    (λ z. emptied_out others cs i z ∙ sym (cond_no (is_in i others) _ _ (absent_is_in i others z)))
    (member_or_not i others)
    ∙ sym (cond_no (eqb i t) _ _ (ne_eqb i t n)))
    (same_or_not i t)

-- the component i after a join is the target with all members, another source with none, or as it was
pub join_cases : (b : ℕ → List ℕ) (ss : List ℕ) (i : ℕ)
    → ((Member i ss × (i ≡ get_or ss 0 0)) × (replay_join ss b i ≡ joined_members b ss))
    ⊎ ((Member i ss × (replay_join ss b i ≡ [])) ⊎ ((occurrences i ss ≡ 0) × (replay_join ss b i ≡ b i)))
join_cases b [] i = inr (inr (refl, refl))
join_cases b (t ∷ others) i =
    ⊎_elim
    (λ e. inl ((subst (λ (k : ℕ). Member k (t ∷ others)) (sym e) (member_head t others), e), cond_yes (eqb i t) _ _ (eq-eqb i t e)))
    (λ n. ⊎_elim
    (λ m. inr (inl (member_tail i t others m, cond_no (eqb i t) _ _ (ne_eqb i t n) ∙ cond_yes (is_in i others) _ _ (member_is_in i others m))))
    (λ z. inr (inr (none_here i t others n ∙ z, cond_no (eqb i t) _ _ (ne_eqb i t n) ∙ cond_no (is_in i others) _ _ (absent_is_in i others z))))
    (member_or_not i others))
    (same_or_not i t)

-- the first source takes all
pub join_target : (b : ℕ → List ℕ) (ss : List ℕ) (c : ℕ) → Member c ss → replay_join ss b (get_or ss 0 0) ≡ joined_members b ss
join_target b [] c h = absurd (omega arith)
join_target b (t ∷ others) c h = cond_yes (eqb t t) _ _ (eq-eqb t t refl)

-- ---- no coordinate is lost

gathered_set : (cs : List (List ℕ)) (s : ℕ) (ss : List ℕ) → occurrences s ss ≡ 0 → gathered (set cs s []) ss ≡ gathered cs ss
gathered_set cs s [] e = refl
gathered_set cs s (c ∷ ss) e =
    ⊎_elim
    (λ d. let f = one_here s c ss d in absurd (omega arith))
    (λ n. let f = none_here s c ss n in ap₂ (λ (x y : List ℕ). x ++ y) (get_or-set_other cs s c [] [] (λ d. n (sym d))) (gathered_set cs s ss (omega arith)))
    (same_or_not s c)

pub emptied_count : (a : ℕ) (ss : List ℕ) (cs : List (List ℕ)) → NoRepeats ss → ((c : ℕ) → Member c ss → c < length cs)
    → occurrences a (concat (emptied ss cs)) + occurrences a (gathered cs ss) ≡ occurrences a (concat cs)
emptied_count a [] cs once small = omega arith
emptied_count a (s ∷ ss) cs once small =
    let absent : occurrences s ss ≡ 0 = let o = once s in let f = one_here s s ss refl in omega arith in
    let later : NoRepeats ss = λ c. let o = once c in omega arith in
    let bound : (c : ℕ) → Member c ss → c < length (set cs s []) = λ c h. subst (λ (n : ℕ). c < n) (sym (length-set cs s [])) (small c (member_tail c s ss h)) in
    let rest = emptied_count a ss (set cs s []) later bound in
    let same = ap (occurrences a) (gathered_set cs s ss absent) in
    let out = occurrences_set a cs s [] (small s (member_head s ss)) in
    let app = occurrences_append a (get_or cs s []) (gathered cs ss) in omega arith

pub joined_count : (a : ℕ) (cs : List (List ℕ)) (ss : List ℕ) → NoRepeats ss → ((c : ℕ) → Member c ss → c < length cs)
    → occurrences a (concat (joined cs ss)) ≡ occurrences a (concat cs)
unfolding joined
joined_count a cs [] once small = refl
joined_count a cs (t ∷ others) once small =
    let absent : occurrences t others ≡ 0 = let o = once t in let f = one_here t t others refl in omega arith in
    let later : NoRepeats others = λ c. let o = once c in omega arith in
    let rest = emptied_count a others cs later (λ c h. small c (member_tail c t others h)) in
    let kept = ap (occurrences a) (emptied_out others cs t absent) in
    let in_range : t < length (emptied others cs) = subst (λ (n : ℕ). t < n) (sym (length_emptied others cs)) (small t (member_head t others)) in
    let put = occurrences_set a (emptied others cs) t (gathered cs (t ∷ others)) in_range in
    let app = occurrences_append a (get_or cs t []) (gathered cs others) in omega arith

-- the members of a join are those of its sources
pub gathered_from : (cs : List (List ℕ)) (ss : List ℕ) (a : ℕ) → Member a (gathered cs ss) → (c : ℕ) × Member c ss × Member a (get_or cs c [])
gathered_from cs [] a h = absurd (omega arith)
gathered_from cs (s ∷ ss) a h =
    let app = occurrences_append a (get_or cs s []) (gathered cs ss) in
    ⊎_elim
    (λ m. (s, member_head s ss, m))
    (λ e. let rest = gathered_from cs ss a (omega arith) in (rest.0, member_tail rest.0 s ss rest.1, rest.2))
    (member_or_not a (get_or cs s []))

pub gathered_holds : (cs : List (List ℕ)) (ss : List ℕ) (a c : ℕ) → Member c ss → Member a (get_or cs c []) → Member a (gathered cs ss)
gathered_holds cs [] a c h g = absurd (omega arith)
gathered_holds cs (s ∷ ss) a c h g =
    let app = occurrences_append a (get_or cs s []) (gathered cs ss) in
    ⊎_elim
    (λ e. let m : Member a (get_or cs s []) = subst (λ (k : ℕ). Member a (get_or cs k [])) e g in omega arith)
    (λ t. let rest = gathered_holds cs ss a c t g in omega arith)
    (member_cons c s ss h)
