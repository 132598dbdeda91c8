-- Two collections of lists that hold the same numbers once each, and hold the same pairs together, have the same lists up to order: so the sums that read
-- the lists' lengths agree. The components and the classes of the roll are two such collections.
use mathlib.Core.Path.{◌≡◌, refl, sym, ap, ◌∙◌, subst}
use mathlib.Core.Logic.{◌⊎◌, inl, inr, ⊎_elim, ◌↔◌}
use mathlib.Core.Bool.{Bool, true, false, cond, true≢false}
use mathlib.Core.List.{List, [], ◌∷◌, ◌++◌, map}
use Prim.Native.Nat.{ℕ, zero, suc, ◌+◌, ◌^◌, ◌≤◌, ◌<◌}
use native.Mathlib.Omega.{arith}
use lib.Dec.{eqb}
use lib.ListN.{length, get_or, set}
use lib.Seq.{get_or-set_same, get_or-set_other}
use borrow.Author.Tests.{eq-eqb, ne_eqb}
use Rattle.words.specs.Lists.{numbers_from}
use Rattle.words.proofs.Numbers.{same_or_not}
use Rattle.plan_spec.specs.Lists.{place_of, remove_at, total, concat}
use Rattle.plan_spec.specs.Components.{amplitudes, live_dimension}
use Rattle.plan_spec.specs.Connectivity.{occurrences, Member, NoRepeats, Rearranged, keep, ActiveOrder, class_of, sets_of, live_at}
use Rattle.plan_spec.proofs.Counting.{member_or_not, none_here, member_head, occurrences_append, occurrences_set, occurrences_listed, occurrences_two, member_listed, place_below, place_holds, occurrences_remove_at, length_remove_at}

-- ---- lists that hold the same numbers

-- an entry taken off one list is taken out of its rearrangement
pub rearranged_rest : (x : ℕ) (xs ys : List ℕ) → Rearranged (x ∷ xs) ys → Member x ys → Rearranged xs (remove_at (place_of x ys) ys)
rearranged_rest x xs ys r m b =
    let q = r b in
    let s = occurrences_remove_at b (place_of x ys) ys (place_below x ys m) in
    let t : cond {A = ℕ} (eqb b (get_or ys (place_of x ys) 0)) 1 0 ≡ cond (eqb b x) 1 0 = ap (λ (n : ℕ). cond (eqb b n) 1 0) (place_holds x ys m) in
    omega arith

-- a rearrangement is as long
pub rearranged_length : (xs ys : List ℕ) → Rearranged xs ys → length xs ≡ length ys
rearranged_length [] [] r = refl
rearranged_length [] (y ∷ ys) r = absurd (let m = member_head y ys in let e = r y in omega arith)
rearranged_length (x ∷ xs) ys r =
    let m : Member x ys = subst (λ (n : ℕ). 0 < n) (r x) (member_head x xs) in
    let e = rearranged_length xs (remove_at (place_of x ys) ys) (rearranged_rest x xs ys r m) in
    let f = length_remove_at (place_of x ys) ys (place_below x ys m) in omega arith

-- what a list holds at most once and another too, they hold equally often if both or neither hold it
pub once_same : (a : ℕ) (xs ys : List ℕ) → occurrences a xs ≤ 1 → occurrences a ys ≤ 1 → (Member a xs → Member a ys) → (Member a ys → Member a xs)
    → occurrences a xs ≡ occurrences a ys
once_same a xs ys h k to fro =
    ⊎_elim
    (λ m. let n = to m in omega arith)
    (λ e. ⊎_elim (λ n. let m = fro n in omega arith) (λ f. omega arith) (member_or_not a ys))
    (member_or_not a xs)

-- amplitudes read only the length
pub amplitudes_length : (xs ys : List ℕ) → length xs ≡ length ys → amplitudes xs ≡ amplitudes ys
amplitudes_length [] [] e = refl
amplitudes_length [] (y ∷ ys) e = absurd (omega arith)
amplitudes_length (x ∷ xs) [] e = absurd (omega arith)
amplitudes_length (x ∷ xs) (y ∷ ys) e = ap (λ (n : ℕ). 2 ^ n) e

-- ---- collections of lists

-- one list holds both
abbrev pub SameList : List (List ℕ) → ℕ → ℕ → Type 0
SameList cs a b = (c : ℕ) × Member a (get_or cs c []) × Member b (get_or cs c [])

-- what one of the lists holds, the collection holds
pub listed_member : (a : ℕ) (cs : List (List ℕ)) (c : ℕ) → Member a (get_or cs c []) → Member a (concat cs)
listed_member a cs c m = let r = occurrences_listed a cs c in omega arith

-- only one list holds a number that the collection holds once
pub one_list : (a : ℕ) (cs : List (List ℕ)) → NoRepeats (concat cs) → (c d : ℕ) → Member a (get_or cs c []) → Member a (get_or cs d []) → c ≡ d
one_list a cs once c d m n =
    ⊎_elim (λ e. e) (λ ne. absurd (let r = occurrences_two a cs c d ne in let o = once a in omega arith)) (same_or_not c d)

-- a pair's list is the first or one of the others
pub same_cons : (x : List ℕ) (cs : List (List ℕ)) (a b c : ℕ) → Member a (get_or (x ∷ cs) c []) → Member b (get_or (x ∷ cs) c [])
    → (Member a x × Member b x) ⊎ SameList cs a b
same_cons x cs a b zero m n = inl (m, n)
same_cons x cs a b (suc c) m n = inr (c, m, n)

-- one list's share of the sum
pub live-set : (cs : List (List ℕ)) (c : ℕ) → c < length cs
    → total (map amplitudes cs) ≡ amplitudes (get_or cs c []) + total (map amplitudes (set cs c []))
live-set [] c l = absurd (omega arith)
live-set (x ∷ cs) zero l = omega arith
live-set (x ∷ cs) (suc c) l = let r = live-set cs c (omega arith) in omega arith

-- a collection that holds nothing has no amplitudes
pub live_none : (cs : List (List ℕ)) → ((a : ℕ) → occurrences a (concat cs) ≡ 0) → total (map amplitudes cs) ≡ 0
live_none [] h = refl
live_none ([] ∷ cs) h = let r = live_none cs h in omega arith
live_none ((a ∷ x) ∷ cs) h = absurd (let m = member_head a (x ++ concat cs) in let e = h a in omega arith)

-- the first list x of one collection and the list d of the other that shares a with it: they hold the same, and without them the collections still agree
module _ (x : List ℕ) (cs ds : List (List ℕ)) (r : Rearranged (concat (x ∷ cs)) (concat ds)) (once : NoRepeats (concat ds))
    (to : (a b : ℕ) → SameList (x ∷ cs) a b → SameList ds a b) (fro : (a b : ℕ) → SameList ds a b → SameList (x ∷ cs) a b)
    (a d : ℕ) (l : d < length ds) (ma : Member a x) (md : Member a (get_or ds d [])) where
  -- the first collection holds no number twice either
  pub once_first : NoRepeats (concat (x ∷ cs))
  once_first b = let e = r b in let o = once b in omega arith

  -- no number is both in x and in a later list
  pub first_apart : (b : ℕ) → Member b x → Member b (concat cs) → ⊥
  first_apart b m n = let o = once_first b in let e = occurrences_append b x (concat cs) in omega arith

  -- what x holds, list d holds
  pub first_to : (b : ℕ) → Member b x → Member b (get_or ds d [])
  first_to b m =
      let s = to a b (zero, ma, m) in
      subst (λ (c : ℕ). Member b (get_or ds c [])) (one_list a ds once s.0 d s.1 md) s.2

  -- what list d holds, x holds
  pub first_fro : (b : ℕ) → Member b (get_or ds d []) → Member b x
  first_fro b m =
      let s = fro a b (d, md, m) in
      ⊎_elim
      (λ t. t.1)
      (λ t. absurd (first_apart a ma (listed_member a cs t.0 t.1)))
      (same_cons x cs a b s.0 s.1 s.2)

  -- so they are rearrangements
  pub first-same : Rearranged x (get_or ds d [])
  first-same b =
      once_same b x (get_or ds d [])
      (let o = once_first b in let e = occurrences_append b x (concat cs) in omega arith)
      (let o = once b in let e = occurrences_listed b ds d in omega arith)
      (first_to b) (first_fro b)

  -- the others hold the same numbers
  pub rest_same : Rearranged (concat cs) (concat (set ds d []))
  rest_same b =
      let e = r b in
      let f = occurrences_append b x (concat cs) in
      let g = occurrences_set b ds d [] l in
      let h = first-same b in omega arith

  -- and none twice
  pub rest_once : NoRepeats (concat (set ds d []))
  rest_once b = let o = once b in let g = occurrences_set b ds d [] l in omega arith

  -- a number of a later list is not in list d
  pub later_apart : (b k : ℕ) → Member b (concat cs) → Member b (get_or ds k []) → k ≡ d → ⊥
  later_apart b k n m e = first_apart b (first_fro b (subst (λ (i : ℕ). Member b (get_or ds i [])) e m)) n

  -- the emptied list d holds nothing
  pub emptied_lacks : (b k : ℕ) → Member b (get_or (set ds d []) k []) → k ≡ d → ⊥
  emptied_lacks b k m e =
      let n = subst (λ (i : ℕ). Member b (get_or (set ds d []) i [])) e m in
      let o = subst (λ (y : List ℕ). Member b y) (get_or-set_same ds d [] [] l) n in omega arith

  -- a pair together in the others of the first collection is so in those of the second
  pub rest_to : (b c : ℕ) → SameList cs b c → SameList (set ds d []) b c
  rest_to b c s =
      let t = to b c (suc s.0, s.1, s.2) in
      let e = sym (get_or-set_other ds d t.0 [] [] (later_apart b t.0 (listed_member b cs s.0 s.1) t.1)) in
      (t.0, subst (λ (m : List ℕ). Member b m) e t.1, subst (λ (m : List ℕ). Member c m) e t.2)

  -- and back
  pub rest_fro : (b c : ℕ) → SameList (set ds d []) b c → SameList cs b c
  rest_fro b c s =
      let other = emptied_lacks b s.0 s.1 in
      let e = get_or-set_other ds d s.0 [] [] other in
      let t = fro b c (s.0, subst (λ (m : List ℕ). Member b m) e s.1, subst (λ (m : List ℕ). Member c m) e s.2) in
      ⊎_elim
      (λ u. absurd (other (one_list b ds once s.0 d (subst (λ (m : List ℕ). Member b m) e s.1) (first_to b u.0))))
      (λ u. u)
      (same_cons x cs b c t.0 t.1 t.2)

-- so the sums agree
pub live_same : (cs ds : List (List ℕ)) → Rearranged (concat cs) (concat ds) → NoRepeats (concat ds)
    → ((a b : ℕ) → SameList cs a b → SameList ds a b) → ((a b : ℕ) → SameList ds a b → SameList cs a b)
    → total (map amplitudes cs) ≡ total (map amplitudes ds)
live_same [] ds r once to fro = sym (live_none ds (λ a. sym (r a)))
live_same ([] ∷ cs) ds r once to fro =
    let e = live_same cs ds r once
    (λ a b s. to a b (suc s.0, s.1, s.2))
    (λ a b s. let t = fro a b s in ⊎_elim (λ u. absurd (let m = u.0 in omega arith)) (λ u. u) (same_cons [] cs a b t.0 t.1 t.2)) in
    omega arith
live_same ((a ∷ x) ∷ cs) ds r once to fro =
    let ma = member_head a x in
    let s = member_listed a ds (subst (λ (n : ℕ). 0 < n) (r a) (member_head a (x ++ concat cs))) in
    let e = live_same cs (set ds s.0 [])
    (rest_same (a ∷ x) cs ds r once to fro a s.0 s.1 ma s.2)
    (rest_once (a ∷ x) cs ds r once to fro a s.0 s.1 ma s.2)
    (rest_to (a ∷ x) cs ds r once to fro a s.0 s.1 ma s.2)
    (rest_fro (a ∷ x) cs ds r once to fro a s.0 s.1 ma s.2) in
    let f = amplitudes_length (a ∷ x) (get_or ds s.0 [])
    (rearranged_length (a ∷ x) (get_or ds s.0 []) (first-same (a ∷ x) cs ds r once to fro a s.0 s.1 ma s.2)) in
    let g = live-set ds s.0 s.1 in omega arith

-- ---- the entries of each class

-- an entry that passes is kept
pub keep_passes : (p : ℕ → Bool) (a : ℕ) (xs : List ℕ) → p a ≡ true → occurrences a (keep p xs) ≡ occurrences a xs
keep_passes p a [] h = refl
keep_passes p a (b ∷ xs) h = go (p b) refl (keep_passes p a xs h)
  where
    go : (t : Bool) → p b ≡ t → occurrences a (keep p xs) ≡ occurrences a xs → occurrences a (keep p (b ∷ xs)) ≡ occurrences a (b ∷ xs)
    go true e r = ap (λ (t : Bool). occurrences a (cond t (b ∷ keep p xs) (keep p xs))) e ∙ omega arith
    go false e r =
        ap (λ (t : Bool). occurrences a (cond t (b ∷ keep p xs) (keep p xs))) e ∙ r
        ∙ sym (none_here a b xs (λ q. true≢false (sym h ∙ ap p q ∙ e)))

-- one that fails is not
pub keep_fails : (p : ℕ → Bool) (a : ℕ) (xs : List ℕ) → p a ≡ false → occurrences a (keep p xs) ≡ 0
keep_fails p a [] h = refl
keep_fails p a (b ∷ xs) h = go (p b) refl (keep_fails p a xs h)
  where
    go : (t : Bool) → p b ≡ t → occurrences a (keep p xs) ≡ 0 → occurrences a (keep p (b ∷ xs)) ≡ 0
    go true e r =
        ap (λ (t : Bool). occurrences a (cond t (b ∷ keep p xs) (keep p xs))) e
        ∙ none_here a b (keep p xs) (λ q. true≢false (sym e ∙ sym (ap p q) ∙ h)) ∙ r
    go false e r = ap (λ (t : Bool). occurrences a (cond t (b ∷ keep p xs) (keep p xs))) e ∙ r

-- the entries of class v
abbrev pub of_class : (ℕ → ℕ) → List ℕ → ℕ → List ℕ
of_class f order v = keep (λ a. eqb (f a) v) order

-- those of n classes from b on
abbrev pub classes_from : (ℕ → ℕ) → List ℕ → ℕ → ℕ → List (List ℕ)
classes_from f order b n = map (λ v. keep (λ a. eqb (f a) v) order) (numbers_from b n)

-- a number is in its class as often as in the order
pub class_holds : (f : ℕ → ℕ) (order : List ℕ) (a v : ℕ) → f a ≡ v → occurrences a (of_class f order v) ≡ occurrences a order
class_holds f order a v e = keep_passes (λ c. eqb (f c) v) a order (eq-eqb (f a) v e)

-- it is in no other
pub class_lacks : (f : ℕ → ℕ) (order : List ℕ) (a v : ℕ) → (f a ≡ v → ⊥) → occurrences a (of_class f order v) ≡ 0
class_lacks f order a v ne = keep_fails (λ c. eqb (f c) v) a order (ne_eqb (f a) v ne)

-- what a class holds has that class and is in the order
pub class_member : (f : ℕ → ℕ) (order : List ℕ) (a v : ℕ) → Member a (of_class f order v) → (f a ≡ v) × Member a order
class_member f order a v m =
    ⊎_elim
    (λ e. (e, subst (λ (n : ℕ). 0 < n) (class_holds f order a v e) m))
    (λ ne. absurd (let e = class_lacks f order a v ne in omega arith))
    (same_or_not (f a) v)

-- a number whose class comes before the first of them is in none
pub classes_miss : (f : ℕ → ℕ) (order : List ℕ) (a b n : ℕ) → f a < b → occurrences a (concat (classes_from f order b n)) ≡ 0
classes_miss f order a b zero l = refl
classes_miss f order a b (suc n) l =
    let e = occurrences_append a (of_class f order b) (concat (classes_from f order (suc b) n)) in
    let g = class_lacks f order a b (λ q. omega arith) in
    let h = classes_miss f order a (suc b) n (omega arith) in omega arith

-- one whose class is among them stands there as often as in the order
pub classes_hold : (f : ℕ → ℕ) (order : List ℕ) (a b n : ℕ) → b ≤ f a → f a < b + n
    → occurrences a (concat (classes_from f order b n)) ≡ occurrences a order
classes_hold f order a b zero l h = absurd (omega arith)
classes_hold f order a b (suc n) l h =
    let e = occurrences_append a (of_class f order b) (concat (classes_from f order (suc b) n)) in
    ⊎_elim
    (λ q. let g = class_holds f order a b q in let k = classes_miss f order a (suc b) n (omega arith) in omega arith)
    (λ ne. let g = class_lacks f order a b ne in let k = classes_hold f order a (suc b) n (omega (arith, ne)) (omega arith) in omega arith)
    (same_or_not (f a) b)

-- one that is not in the order is in none
pub classes_within : (f : ℕ → ℕ) (order : List ℕ) (a b n : ℕ) → occurrences a order ≡ 0 → occurrences a (concat (classes_from f order b n)) ≡ 0
classes_within f order a b zero z = refl
classes_within f order a b (suc n) z =
    let e = occurrences_append a (of_class f order b) (concat (classes_from f order (suc b) n)) in
    let h = classes_within f order a (suc b) n z in
    ⊎_elim
    (λ m. absurd (let k = (class_member f order a b m).1 in omega arith))
    (λ g. omega arith)
    (member_or_not a (of_class f order b))

-- list i of them is the class b + i
pub classes_at : (f : ℕ → ℕ) (order : List ℕ) (b n i : ℕ) → i < n → get_or (classes_from f order b n) i [] ≡ of_class f order (b + i)
classes_at f order b zero i l = absurd (omega arith)
classes_at f order b (suc n) zero l = ap (of_class f order) (omega arith)
classes_at f order b (suc n) (suc i) l = classes_at f order (suc b) n i (omega arith) ∙ ap (of_class f order) (omega arith)

-- what it holds has that class and is in the order
pub classes_member : (f : ℕ → ℕ) (order : List ℕ) (a b n i : ℕ) → Member a (get_or (classes_from f order b n) i []) → (f a ≡ b + i) × Member a order
classes_member f order a b zero i m = absurd (omega arith)
classes_member f order a b (suc n) zero m = let r = class_member f order a b m in (omega (arith, r.0), r.1)
classes_member f order a b (suc n) (suc i) m = let r = classes_member f order a (suc b) n i m in (omega (arith, r.0), r.1)

-- ---- live dimensions

-- the same for any class numbers f below n and any order
pub live_classes : (f : ℕ → ℕ) (n : ℕ) (order : List ℕ) (cs : List (List ℕ)) → Rearranged (concat cs) order → NoRepeats order
    → ((a : ℕ) → Member a order → f a < n)
    → ((a b : ℕ) → Member a order → Member b order → SameList cs a b ↔ (f a ≡ f b))
    → total (map amplitudes cs) ≡ total (map amplitudes (classes_from f order 0 n))
live_classes f n order cs r once below same =
    live_same cs (classes_from f order 0 n) (λ a. r a ∙ sym (all a)) (λ a. let e = all a in let o = once a in omega arith) to fro
  where
    all : Rearranged (concat (classes_from f order 0 n)) order
    all a =
        ⊎_elim
        (λ m. classes_hold f order a 0 n (omega arith) (let l = below a m in omega arith))
        (λ e. classes_within f order a 0 n e ∙ sym e)
        (member_or_not a order)

    to : (a b : ℕ) → SameList cs a b → SameList (classes_from f order 0 n) a b
    to a b s =
        let ma : Member a order = subst (λ (k : ℕ). 0 < k) (r a) (listed_member a cs s.0 s.1) in
        let mb : Member b order = subst (λ (k : ℕ). 0 < k) (r b) (listed_member b cs s.0 s.2) in
        let e = (same a b ma mb).0 s in
        let at = classes_at f order 0 n (f a) (below a ma) in (
          f a,
          subst (λ (m : List ℕ). Member a m) (sym at) (let k = class_holds f order a (0 + f a) (omega arith) in omega arith),
          subst (λ (m : List ℕ). Member b m) (sym at) (let k = class_holds f order b (0 + f a) (omega arith) in omega arith),
        )

    fro : (a b : ℕ) → SameList (classes_from f order 0 n) a b → SameList cs a b
    fro a b s =
        let ra = classes_member f order a 0 n s.0 s.1 in
        let rb = classes_member f order b 0 n s.0 s.2 in
        (same a b ra.1 rb.1).1 (ra.0 ∙ sym rb.0)

-- the live dimension of components that hold the roll's entries class by class is that of the roll
pub live_is : (r : ActiveOrder) (cs : List (List ℕ)) → Rearranged (concat cs) r.order → NoRepeats r.order
    → ((a : ℕ) → Member a r.order → class_of r.links a < r.next)
    → ((a b : ℕ) → Member a r.order → Member b r.order → SameList cs a b ↔ (class_of r.links a ≡ class_of r.links b))
    → live_dimension cs ≡ live_at r
unfolding live_dimension live_at sets_of
live_is r cs = live_classes (class_of r.links) r.next r.order cs
