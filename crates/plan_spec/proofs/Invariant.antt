-- The components hold each active coordinate once, and two share one exactly when they have one class: kept by a join, which merges the components that hold
-- a support's coordinates as `merged` merges their classes, by a promotion, whose coordinate has a class of its own, and by a removal.
use mathlib.Core.Path.{◌≡◌, refl, sym, ap, ◌∙◌, subst}
use mathlib.Core.Logic.{◌⊎◌, inl, inr, ⊎_elim, ◌↔◌}
use mathlib.Core.Bool.{Bool, cond}
use mathlib.Core.List.Memᴰ
use mathlib.Core.List.{List, [], ◌∷◌, ◌++◌, map, Memᴰ}
use Prim.Native.Nat.{ℕ, zero, suc, ◌-◌, ◌<◌}
use native.Mathlib.Omega.{arith}
use lib.Dec.{eqb}
use lib.ListN.{length, get_or, take, set, length-set, length-append, length-map, get_or-eq_default}
use lib.Seq.{get_or-set_same, get_or-set_other, get_or-append_seam}
use borrow.Author.Tests.{eq-eqb, ne_eqb}
use Rattle.words.specs.Lists.{numbers_from}
use Rattle.words.proofs.Numbers.{same_or_not, length-numbers}
use Rattle.plan_spec.specs.Lists.{remove_at, concat}
use Rattle.plan_spec.specs.Components.{reached, support, or_first, meeting, touched, sources_of, joined}
use Rattle.plan_spec.specs.Connectivity.{occurrences, Member, NoRepeats, Rearranged, ActiveOrder, active_start, support_of, merged, class_of, replay_join, joined_members}
use Rattle.plan_spec.proofs.Counting.{member_or_not, one_here, none_here, member_head, member_cons, occurrences_append, occurrences_concat_append, occurrences_set, occurrences_listed, member_listed, member_at, occurrences_remove_at, numbers_once, numbers_bounds}
use Rattle.plan_spec.proofs.Joins.{meet_shares, shares_meet, meeting_meets, meets_meeting, meeting_once, sources_same, length_joined, joined_is, joined_count, gathered_joined, join_cases, join_target, gathered_from, gathered_holds}
use Rattle.plan_spec.proofs.LocalBits.{support_same, support_member}
use Rattle.plan_spec.proofs.Live as Live
use Rattle.plan_spec.proofs.Live.{SameList}
use Rattle.plan_spec.proofs.Classes.{Touches, merged_same, class_append, Below, class_below, class_above}

pub record Holds (cs : List (List ℕ)) (r : ActiveOrder) : Type 0 where
  pub next_same : length cs ≡ r.next
  pub held : Rearranged (concat cs) r.order
  pub once : NoRepeats r.order
  pub below : (a : ℕ) → Member a r.order → a < r.next
  pub links_below : Below r.next r.links
  pub classes : (a b : ℕ) → Member a r.order → Member b r.order → SameList cs a b ↔ (class_of r.links a ≡ class_of r.links b)

-- a component that holds something is one of the components
pub listed_below : (cs : List (List ℕ)) (c d : ℕ) → Member d (get_or cs c []) → c < length cs
listed_below [] c d m = absurd (omega arith)
listed_below (x ∷ cs) zero d m = omega arith
listed_below (x ∷ cs) (suc c) d m = let r = listed_below cs c d m in omega arith

-- an active coordinate stands in one component only
pub one_list : (cs : List (List ℕ)) (r : ActiveOrder) → Holds cs r → (a c d : ℕ) → Member a (get_or cs c []) → Member a (get_or cs d []) → c ≡ d
one_list cs r h a c d m n = Live.one_list a cs (λ b. let o = h.once b in let k = h.held b in omega arith) c d m n

-- an active coordinate's class is below the next number
pub class_in : (cs : List (List ℕ)) (r : ActiveOrder) → Holds cs r → (a : ℕ) → Member a r.order → class_of r.links a < r.next
class_in cs r h a m = class_below r.links r.next h.links_below a (h.below a m)

-- what a component holds is active
pub listed_active : (cs : List (List ℕ)) (r : ActiveOrder) → Holds cs r → (a c : ℕ) → Member a (get_or cs c []) → Member a r.order
listed_active cs r h a c m = let l = occurrences_listed a cs c in let k = h.held a in omega arith

-- what is active stands in a component
pub active_listed : (cs : List (List ℕ)) (r : ActiveOrder) → Holds cs r → (a : ℕ) → Member a r.order → (c : ℕ) × (c < length cs) × Member a (get_or cs c [])
active_listed cs r h a m = member_listed a cs (let k = h.held a in omega arith)

-- ---- a join

-- the first of an order stands at its front
pub first_at : (order : List ℕ) (a : ℕ) → Member a (take 1 order) → (0 < length order) × (get_or order 0 0 ≡ a)
first_at [] a h = absurd (omega arith)
first_at (b ∷ order) a h = (omega arith, ⊎_elim (λ e. sym e) (λ m. absurd (omega arith)) (member_cons a b [] h))

-- what a join's coordinates are: active, and some where anything is active
pub anchored_member : (order s : List ℕ) → ((a : ℕ) → Member a s → Member a order) → (a : ℕ) → Member a (or_first order s) → Member a order
anchored_member order [] inside a h = let at = first_at order a h in subst (λ (k : ℕ). Member k order) at.1 (member_at order 0 at.0)
anchored_member order (c ∷ s) inside a h = inside a h

pub anchored_some : (order s : List ℕ) → 0 < length order → (a : ℕ) × Member a (or_first order s)
anchored_some [] [] h = absurd (omega arith)
anchored_some (b ∷ order) [] h = (b, member_head b [])
anchored_some order (c ∷ s) h = (c, member_head c s)

pub anchored_cases : (order s : List ℕ) → (s ≡ []) ⊎ (or_first order s ≡ s)
anchored_cases order [] = inl refl
anchored_cases order (c ∷ s) = inr refl

first-same : (order : List ℕ) (d e : ℕ) → Member d (take 1 order) → Member e (take 1 order) → d ≡ e
first-same order d e m n = sym (first_at order d m).1 ∙ (first_at order e n).1

module _ (cs : List (List ℕ)) (r : ActiveOrder) (h : Holds cs r) (x z : ℕ) where
  abbrev pub coordinates : List ℕ
  coordinates = reached x z r.order

  abbrev pub touches : List ℕ
  touches = touched x z r.order cs

  abbrev pub sources : List ℕ
  sources = sources_of cs touches

  pub sources_once : NoRepeats sources
  unfolding touched
  sources_once c = let e = sources_same cs touches (meeting_once 0 coordinates cs) c in let o = meeting_once 0 coordinates cs c in omega arith

  pub source_touched : (c : ℕ) → Member c sources → Member c touches
  unfolding touched
  source_touched c m = let e = sources_same cs touches (meeting_once 0 coordinates cs) c in omega arith

  pub touched_source : (c : ℕ) → Member c touches → Member c sources
  unfolding touched
  touched_source c m = let e = sources_same cs touches (meeting_once 0 coordinates cs) c in omega arith

  -- a source is a component that holds one of the coordinates
  pub source_holds : (c : ℕ) → Member c sources → (c < length cs) × ((a : ℕ) × Member a coordinates × Member a (get_or cs c []))
  unfolding touched
  source_holds c m =
      let k = meeting_meets 0 coordinates cs c (source_touched c m) in
      let shared = meet_shares coordinates (get_or cs (c - 0) []) k.2 in
      let at : c - 0 ≡ c = omega arith in
      (omega (arith, k.1), (shared.0, shared.1, subst (λ (i : ℕ). Member shared.0 (get_or cs i [])) at shared.2))

  pub source_below : (c : ℕ) → Member c sources → c < length cs
  source_below c m = (source_holds c m).0

  -- and a component that holds one of the coordinates is a source
  pub holds_source : (c a : ℕ) → c < length cs → Member a coordinates → Member a (get_or cs c []) → Member c sources
  unfolding touched
  holds_source c a l m n =
      touched_source c (subst (λ (i : ℕ). Member i (meeting 0 coordinates cs)) (omega arith) (meets_meeting 0 coordinates cs c l (shares_meet coordinates (get_or cs c []) a m n)))

  -- a stands in a source
  abbrev pub InSource : ℕ → Type 0
  InSource a = (c : ℕ) × Member c sources × Member a (get_or cs c [])

  -- the component i after the join
  pub after_join : (i : ℕ) → get_or (joined cs sources) i [] ≡ replay_join sources (λ c. get_or cs c []) i
  after_join i = joined_is cs sources i sources_once source_below

  -- the target's members after the join are those of the sources
  pub joined_in : (a : ℕ) → Member a (joined_members (λ c. get_or cs c []) sources) → InSource a
  joined_in a m = gathered_from cs sources a (subst (λ (l : List ℕ). Member a l) (sym (gathered_joined cs sources)) m)

  pub in_joined : (a : ℕ) → InSource a → Member a (joined_members (λ c. get_or cs c []) sources)
  in_joined a s = subst (λ (l : List ℕ). Member a l) (gathered_joined cs sources) (gathered_holds cs sources a s.0 s.1 s.2)

  in_target : (a c : ℕ) → Member c sources → InSource a → Member a (get_or (joined cs sources) (get_or sources 0 0) [])
  in_target a c m s = subst (λ (l : List ℕ). Member a l) (sym (after_join (get_or sources 0 0) ∙ join_target (λ c. get_or cs c []) sources c m)) (in_joined a s)

  unlisted : (i : ℕ) → occurrences i sources ≡ 0 → replay_join sources (λ c. get_or cs c []) i ≡ get_or cs i []
  unlisted i e =
      ⊎_elim
      (λ t. absurd (let m = t.0.0 in omega arith))
      (λ rest. ⊎_elim (λ o. absurd (let m = o.0 in omega arith)) (λ u. u.1) rest)
      (join_cases (λ c. get_or cs c []) sources i)

  -- two in sources share the target; two that shared a component still share one; and no others do
  pub joined_shares : (a b : ℕ) → SameList cs a b ⊎ (InSource a × InSource b) → SameList (joined cs sources) a b
  joined_shares a b (inl s) =
      ⊎_elim
      (λ m. (get_or sources 0 0, in_target a s.0 m (s.0, m, s.1), in_target b s.0 m (s.0, m, s.2)))
      (λ e. let kept : get_or (joined cs sources) s.0 [] ≡ get_or cs s.0 [] = after_join s.0 ∙ unlisted s.0 e in
      (s.0, subst (λ (l : List ℕ). Member a l) (sym kept) s.1, subst (λ (l : List ℕ). Member b l) (sym kept) s.2))
      (member_or_not s.0 sources)
  joined_shares a b (inr s) = (get_or sources 0 0, in_target a s.0.0 s.0.1 s.0, in_target b s.0.0 s.0.1 s.1)

  pub shares_before : (a b : ℕ) → SameList (joined cs sources) a b → SameList cs a b ⊎ (InSource a × InSource b)
  shares_before a b s =
      let i = s.0 in
      let ma : Member a (replay_join sources (λ c. get_or cs c []) i) = subst (λ (l : List ℕ). Member a l) (after_join i) s.1 in
      let mb : Member b (replay_join sources (λ c. get_or cs c []) i) = subst (λ (l : List ℕ). Member b l) (after_join i) s.2 in
      ⊎_elim
      (λ t. inr (joined_in a (subst (λ (l : List ℕ). Member a l) t.1 ma), joined_in b (subst (λ (l : List ℕ). Member b l) t.1 mb)))
      (λ rest. ⊎_elim
      (λ o. let n : Member a [] = subst (λ (l : List ℕ). Member a l) o.1 ma in absurd (omega arith))
      (λ u. inl (i, subst (λ (l : List ℕ). Member a l) u.1 ma, subst (λ (l : List ℕ). Member b l) u.1 mb))
      rest)
      (join_cases (λ c. get_or cs c []) sources i)

  -- ---- a join merges components as a support merges classes

  abbrev class : ℕ → ℕ
  class = class_of r.links

  abbrev linking : List ℕ
  linking = support x z r.order

  -- where the support is not empty, the coordinates are the support
  coordinates_are : (linking ≡ []) ⊎ (coordinates ≡ linking)
  coordinates_are = anchored_cases r.order linking

  coordinate_active : (d : ℕ) → Member d coordinates → Member d r.order
  coordinate_active d m = anchored_member r.order linking (support_member x z r.order) d m

  -- one in a source shares a component with one of the coordinates
  source_shares : (a : ℕ) → InSource a → (d : ℕ) × Member d coordinates × SameList cs a d
  source_shares a s = let k = (source_holds s.0 s.1).1 in (k.0, k.1, (s.0, s.2, k.2))

  shares_source : (a d : ℕ) → Member d coordinates → SameList cs a d → InSource a
  shares_source a d m s =
      (s.0, holds_source s.0 d (listed_below cs s.0 d s.2) m s.2, s.1)

  -- with an empty support the sources are the first coordinate's component alone
  empty_shares : linking ≡ [] → (a b : ℕ) → InSource a → InSource b → SameList cs a b
  empty_shares e a b sa sb =
      let ka = source_shares a sa in
      let kb = source_shares b sb in
      let first_a : Member ka.0 (take 1 r.order) = subst (λ (s : List ℕ). Member ka.0 (or_first r.order s)) e ka.1 in
      let first_b : Member kb.0 (take 1 r.order) = subst (λ (s : List ℕ). Member kb.0 (or_first r.order s)) e kb.1 in
      let same : ka.0 ≡ kb.0 = first-same r.order ka.0 kb.0 first_a first_b in
      let there : Member ka.0 (get_or cs kb.2.0 []) = subst (λ (d : ℕ). Member d (get_or cs kb.2.0 [])) (sym same) kb.2.2 in
      let one = one_list cs r h ka.0 ka.2.0 kb.2.0 ka.2.2 there in
      (kb.2.0, subst (λ (c : ℕ). Member a (get_or cs c [])) one ka.2.1, kb.2.1)

  -- else one is in a source exactly when its class is that of a coordinate of the support
  source_class : coordinates ≡ linking → (a : ℕ) → Member a r.order → InSource a → Touches class linking a
  source_class e a active s =
      let k = source_shares a s in
      (k.0, subst (λ (l : List ℕ). Member k.0 l) e k.1, (h.classes a k.0 active (coordinate_active k.0 k.1)).0 k.2)

  class_source : coordinates ≡ linking → (a : ℕ) → Member a r.order → Touches class linking a → InSource a
  class_source e a active t =
      let m : Member t.0 coordinates = subst (λ (l : List ℕ). Member t.0 l) (sym e) t.1 in
      shares_source a t.0 m ((h.classes a t.0 active (coordinate_active t.0 m)).1 t.2)

  pub joined_classes : (a b : ℕ) → Member a r.order → Member b r.order → SameList (joined cs sources) a b ↔ (merged class linking a ≡ merged class linking b)
  joined_classes a b ma mb = (
    λ s. (merged_same class linking a b).1 (to_classes (shares_before a b s)),
    λ e. joined_shares a b (to_lists ((merged_same class linking a b).0 e)),
  )
    where
      to_classes : SameList cs a b ⊎ (InSource a × InSource b) → (class a ≡ class b) ⊎ (Touches class linking a × Touches class linking b)
      to_classes (inl s) = inl ((h.classes a b ma mb).0 s)
      to_classes (inr s) =
          ⊎_elim
          (λ e. inl ((h.classes a b ma mb).0 (empty_shares e a b s.0 s.1)))
          (λ e. inr (source_class e a ma s.0, source_class e b mb s.1))
          coordinates_are

      to_lists : (class a ≡ class b) ⊎ (Touches class linking a × Touches class linking b) → SameList cs a b ⊎ (InSource a × InSource b)
      to_lists (inl e) = inl ((h.classes a b ma mb).1 e)
      to_lists (inr t) =
          ⊎_elim
          (λ e. let n : Member t.0.0 [] = subst (λ (l : List ℕ). Member t.0.0 l) e t.0.1 in absurd (omega arith))
          (λ e. inr (class_source e a ma t.0, class_source e b mb t.1))
          coordinates_are

-- a join keeps the invariant, with its support among the links
pub holds_join : (cs : List (List ℕ)) (r : ActiveOrder) (width x z : ℕ) → width ≡ length r.order → Holds cs r
    → Holds (joined cs (sources_of cs (touched x z r.order cs))) (record { order = r.order; next = r.next; links = r.links ++ (support_of width x z r.order ∷ []) })
holds_join cs r width x z wide h = record {
  next_same = length_joined cs (sources_of cs (touched x z r.order cs)) ∙ h.next_same;
  held = λ a. joined_count a cs (sources cs r h x z) (sources_once cs r h x z) (source_below cs r h x z) ∙ h.held a;
  once = h.once;
  below = h.below;
  links_below = λ s m a n. below_cases s (Memᴰ.append_cases r.links m) a n;
  classes = λ a b ma mb.
      let e = joined_classes cs r h x z a b ma mb in (
        λ s. class_is a ∙ e.0 s ∙ sym (class_is b),
        λ s. e.1 (sym (class_is a) ∙ s ∙ class_is b),
      );
}
  where
    same : support_of width x z r.order ≡ support x z r.order
    same = ap (λ (n : ℕ). support_of n x z r.order) wide ∙ sym (support_same x z r.order)

    class_is : (c : ℕ) → class_of (r.links ++ (support_of width x z r.order ∷ [])) c ≡ merged (class_of r.links) (support x z r.order) c
    class_is c = class_append r.links (support_of width x z r.order) c ∙ ap (λ (s : List ℕ). merged (class_of r.links) s c) same

    below_cases : (s : List ℕ) → Memᴰ s r.links ⊎ Memᴰ s (support_of width x z r.order ∷ []) → (a : ℕ) → Member a s → a < r.next
    below_cases s (inl m) a n = h.links_below s m a n
    below_cases s (inr m) a n =
        h.below a (support_member x z r.order a (subst (λ (l : List ℕ). Member a l) (Memᴰ.eq_of_singleton m ∙ same) n))

-- ---- the start

concat_alone : (xs : List ℕ) → concat (map (λ c. c ∷ []) xs) ≡ xs
concat_alone [] = refl
concat_alone (x ∷ xs) = ap (λ (l : List ℕ). x ∷ l) (concat_alone xs)

alone_at : (xs : List ℕ) (c a : ℕ) → Member a (get_or (map (λ d. d ∷ []) xs) c []) → a ≡ get_or xs c 0
alone_at [] c a m = absurd (omega arith)
alone_at (x ∷ xs) zero a m = ⊎_elim (λ e. e) (λ n. absurd (omega arith)) (member_cons a x [] m)
alone_at (x ∷ xs) (suc c) a m = alone_at xs c a m

pub holds_start : (k : ℕ) → Holds (map (λ c. c ∷ []) (numbers_from 0 k)) (active_start k)
unfolding class_of
holds_start k = record {
  next_same = length-map (numbers_from 0 k) (λ c. c ∷ []) ∙ length-numbers 0 k;
  held = λ a. ap (occurrences a) (concat_alone (numbers_from 0 k));
  once = numbers_once 0 k;
  below = λ a m. let b = numbers_bounds a 0 k m in omega (arith, b.1);
  links_below = λ s m. absurd (Memᴰ.not-nil m);
  classes = λ a b ma mb. (
    λ s. alone_at (numbers_from 0 k) s.0 a s.1 ∙ sym (alone_at (numbers_from 0 k) s.0 b s.2),
    λ e. let l = member_listed a (map (λ c. c ∷ []) (numbers_from 0 k)) (subst (λ (xs : List ℕ). Member a xs) (sym (concat_alone (numbers_from 0 k))) ma) in
        (l.0, l.2, subst (λ (d : ℕ). Member d (get_or (map (λ c. c ∷ []) (numbers_from 0 k)) l.0 [])) e l.2),
  );
}

-- ---- a promotion

-- a list with one entry more: at an old number the old entry, at the next one the new entry, and nothing beyond
pub snoc_at : {A : Type 0} (d : A) (xs : List A) (m : A) (c : ℕ)
    → ((c < length xs) × (get_or (xs ++ (m ∷ [])) c d ≡ get_or xs c d)) ⊎ (((c ≡ length xs) × (get_or (xs ++ (m ∷ [])) c d ≡ m)) ⊎ ((length xs < c) × (get_or (xs ++ (m ∷ [])) c d ≡ d)))
snoc_at d [] m zero = inr (inl (refl, refl))
snoc_at d [] m (suc c) = inr (inr (omega arith, refl))
snoc_at d (x ∷ xs) m zero = inl (omega arith, refl)
snoc_at d (x ∷ xs) m (suc c) =
    ⊎_elim
    (λ o. inl (omega (arith, o.0), o.1))
    (λ rest. ⊎_elim (λ n. inr (inl (ap suc n.0, n.1))) (λ p. inr (inr (omega (arith, p.0), p.1))) rest)
    (snoc_at d xs m c)

snoc_old : (cs : List (List ℕ)) (n c a : ℕ) → (a ≡ n → ⊥) → Member a (get_or (cs ++ ((n ∷ []) ∷ [])) c []) → Member a (get_or cs c [])
snoc_old cs n c a ne m =
    ⊎_elim
    (λ o. subst (λ (l : List ℕ). Member a l) o.1 m)
    (λ rest. ⊎_elim
    (λ k. ⊎_elim (λ e. absurd (ne e)) (λ z. absurd (omega arith)) (member_cons a n [] (subst (λ (l : List ℕ). Member a l) k.1 m)))
    (λ k. let z : Member a [] = subst (λ (l : List ℕ). Member a l) k.1 m in absurd (omega arith))
    rest)
    (snoc_at [] cs (n ∷ []) c)

snoc_kept : (cs : List (List ℕ)) (n c a : ℕ) → Member a (get_or cs c []) → Member a (get_or (cs ++ ((n ∷ []) ∷ [])) c [])
snoc_kept [] n c a m = absurd (omega arith)
snoc_kept (x ∷ cs) n zero a m = m
snoc_kept (x ∷ cs) n (suc c) a m = snoc_kept cs n c a m

pub holds_promote : (cs : List (List ℕ)) (r : ActiveOrder) → Holds cs r
    → Holds (cs ++ ((length cs ∷ []) ∷ [])) (record { order = r.order ++ (r.next ∷ []); next = suc r.next; links = r.links })
holds_promote cs r h = record {
  next_same = length-append cs ((length cs ∷ []) ∷ []) ∙ (let e = h.next_same in omega arith);
  held = λ a.
      let e = occurrences_concat_append a cs ((length cs ∷ []) ∷ []) in
      let f = occurrences_append a r.order (r.next ∷ []) in
      let g = h.held a in
      let same : occurrences a (length cs ∷ []) ≡ occurrences a (r.next ∷ []) = ap (λ (k : ℕ). occurrences a (k ∷ [])) h.next_same in omega arith;
  once = λ a.
      let f = occurrences_append a r.order (r.next ∷ []) in
      let o = h.once a in
      ⊎_elim
      (λ e. let g = one_here a r.next [] e in let z = new_absent a e in omega arith)
      (λ ne. let g = none_here a r.next [] ne in omega arith)
      (same_or_not a r.next);
  below = λ a m. ⊎_elim (λ e. omega arith) (λ o. let b = h.below a o in omega arith) (old_or_new a m);
  links_below = λ s m a k. let b = h.links_below s m a k in omega arith;
  classes = λ a b ma mb. cases a b (old_or_new a ma) (old_or_new b mb);
}
  where
    new_absent : (a : ℕ) → a ≡ r.next → occurrences a r.order ≡ 0
    new_absent a e = ⊎_elim (λ m. let b = h.below a m in absurd (omega arith)) (λ z. z) (member_or_not a r.order)

    old_or_new : (a : ℕ) → Member a (r.order ++ (r.next ∷ [])) → (a ≡ r.next) ⊎ Member a r.order
    old_or_new a m =
        let f = occurrences_append a r.order (r.next ∷ []) in
        ⊎_elim (λ e. inl e) (λ ne. let g = none_here a r.next [] ne in inr (omega arith)) (same_or_not a r.next)

    old_new : (a : ℕ) → Member a r.order → a ≡ length cs → ⊥
    old_new a m e = let b = h.below a m in let k = h.next_same in omega arith

    new_class : (a : ℕ) → a ≡ r.next → class_of r.links a ≡ r.next
    new_class a e = ap (class_of r.links) e ∙ class_above r.links r.next h.links_below r.next (omega arith)

    here : (a : ℕ) → a ≡ r.next → Member a (get_or (cs ++ ((length cs ∷ []) ∷ [])) (length cs) [])
    here a e = subst (λ (l : List ℕ). Member a l) (sym (get_or-append_seam cs (length cs ∷ []) [] [])) (subst (λ (k : ℕ). Member k (length cs ∷ [])) (h.next_same ∙ sym e) (member_head (length cs) []))

    never : (a b : ℕ) → a ≡ r.next → Member b r.order → SameList (cs ++ ((length cs ∷ []) ∷ [])) a b → ⊥
    never a b e m s =
        let bc = snoc_old cs (length cs) s.0 b (old_new b m) s.2 in
        ⊎_elim
        (λ o. let am : Member a (get_or cs s.0 []) = subst (λ (l : List ℕ). Member a l) o.1 s.1 in
        let act = listed_active cs r h a s.0 am in let z = new_absent a e in omega arith)
        (λ rest. ⊎_elim
        (λ k. let out : get_or cs s.0 [] ≡ [] = get_or-eq_default cs [] (omega (arith, k.0)) in
        let z : Member b [] = subst (λ (l : List ℕ). Member b l) out bc in omega arith)
        (λ k. let out : get_or cs s.0 [] ≡ [] = get_or-eq_default cs [] (omega (arith, k.0)) in
        let z : Member b [] = subst (λ (l : List ℕ). Member b l) out bc in omega arith)
        rest)
        (snoc_at [] cs (length cs ∷ []) s.0)

    cases : (a b : ℕ) → (a ≡ r.next) ⊎ Member a r.order → (b ≡ r.next) ⊎ Member b r.order
        → SameList (cs ++ ((length cs ∷ []) ∷ [])) a b ↔ (class_of r.links a ≡ class_of r.links b)
    cases a b (inl e) (inl d) = (λ s. new_class a e ∙ sym (new_class b d), λ q. (length cs, here a e, here b d))
    cases a b (inl e) (inr m) = (
      λ s. absurd (never a b e m s),
      λ q. absurd (let p = new_class a e in let o = class_in cs r h b m in omega arith),
    )
    cases a b (inr m) (inl d) = (
      λ s. absurd (never b a d m (s.0, s.2, s.1)),
      λ q. absurd (let p = new_class b d in let o = class_in cs r h a m in omega arith),
    )
    cases a b (inr m) (inr k) = (
      λ s. (h.classes a b m k).0 (s.0, snoc_old cs (length cs) s.0 a (old_new a m) s.1, snoc_old cs (length cs) s.0 b (old_new b k) s.2),
      λ q. let s = (h.classes a b m k).1 q in (s.0, snoc_kept cs (length cs) s.0 a s.1, snoc_kept cs (length cs) s.0 b s.2),
    )

-- ---- a removal

pub holds_remove : (cs : List (List ℕ)) (r : ActiveOrder) (t p q : ℕ) → Holds cs r → t < length cs → q < length (get_or cs t []) → p < length r.order
    → get_or (get_or cs t []) q 0 ≡ get_or r.order p 0
    → Holds (set cs t (remove_at q (get_or cs t []))) (record { order = remove_at p r.order; next = r.next; links = r.links })
holds_remove cs r t p q h tl ql pl same = record {
  next_same = length-set cs t (remove_at q (get_or cs t [])) ∙ h.next_same;
  held = λ a.
      let e = occurrences_set a cs t (remove_at q (get_or cs t [])) tl in
      let f = occurrences_remove_at a q (get_or cs t []) ql in
      let g = occurrences_remove_at a p r.order pl in
      let k = h.held a in
      let v : cond {A = ℕ} (eqb a (get_or (get_or cs t []) q 0)) 1 0 ≡ cond (eqb a (get_or r.order p 0)) 1 0 = ap (λ (d : ℕ). cond {A = ℕ} (eqb a d) 1 0) same in omega arith;
  once = λ a. let g = occurrences_remove_at a p r.order pl in let o = h.once a in omega arith;
  below = λ a m. h.below a (was a m);
  links_below = h.links_below;
  classes = λ a b ma mb. (
    λ s. (h.classes a b (was a ma) (was b mb)).0 (s.0, before a s.0 s.1, before b s.0 s.2),
    λ e. let s = (h.classes a b (was a ma) (was b mb)).1 e in (s.0, after a s.0 (other a ma) s.1, after b s.0 (other b mb) s.2),
  );
}
  where
    was : (a : ℕ) → Member a (remove_at p r.order) → Member a r.order
    was a m = let g = occurrences_remove_at a p r.order pl in omega arith

    -- what is still active is not what was removed
    other : (a : ℕ) → Member a (remove_at p r.order) → a ≡ get_or r.order p 0 → ⊥
    other a m e =
        let g = occurrences_remove_at a p r.order pl in
        let o = h.once a in
        let one : cond {A = ℕ} (eqb a (get_or r.order p 0)) 1 0 ≡ 1 = ap (λ (t : Bool). cond {A = ℕ} t 1 0) (eq-eqb a (get_or r.order p 0) e) in omega arith

    before : (a c : ℕ) → Member a (get_or (set cs t (remove_at q (get_or cs t []))) c []) → Member a (get_or cs c [])
    before a c m =
        ⊎_elim
        (λ e. let in_left : Member a (remove_at q (get_or cs t [])) = subst (λ (l : List ℕ). Member a l) (ap (λ (i : ℕ). get_or (set cs t (remove_at q (get_or cs t []))) i []) e ∙ get_or-set_same cs t (remove_at q (get_or cs t [])) [] tl) m in
        let f = occurrences_remove_at a q (get_or cs t []) ql in
        subst (λ (i : ℕ). Member a (get_or cs i [])) (sym e) (omega arith))
        (λ n. subst (λ (l : List ℕ). Member a l) (get_or-set_other cs t c (remove_at q (get_or cs t [])) [] n) m)
        (same_or_not c t)

    after : (a c : ℕ) → (a ≡ get_or r.order p 0 → ⊥) → Member a (get_or cs c []) → Member a (get_or (set cs t (remove_at q (get_or cs t []))) c [])
    after a c ne m =
        ⊎_elim
        (λ e. let f = occurrences_remove_at a q (get_or cs t []) ql in
        let none : cond {A = ℕ} (eqb a (get_or (get_or cs t []) q 0)) 1 0 ≡ 0 = ap (λ (t : Bool). cond {A = ℕ} t 1 0) (ne_eqb a (get_or (get_or cs t []) q 0) (λ d. ne (d ∙ same))) in
        let there : Member a (get_or cs t []) = subst (λ (i : ℕ). Member a (get_or cs i [])) e m in
        let in_left : Member a (remove_at q (get_or cs t [])) = omega arith in
        subst (λ (l : List ℕ). Member a l) (sym (ap (λ (i : ℕ). get_or (set cs t (remove_at q (get_or cs t []))) i []) e ∙ get_or-set_same cs t (remove_at q (get_or cs t [])) [] tl)) in_left)
        (λ n. subst (λ (l : List ℕ). Member a l) (sym (get_or-set_other cs t c (remove_at q (get_or cs t [])) [] n)) m)
        (same_or_not c t)
