-- Laws of `occurrences`: how often a number stands in lists that are joined, set, filtered or cut. Each is by recursion on the list; equal numbers are
-- told from different ones by `eqb`.
use mathlib.Core.Path.{◌≡◌, refl, sym, ap, ◌∙◌, subst}
use mathlib.Core.Logic.{◌⊎◌, inl, inr, ⊎_elim}
use mathlib.Core.Bool.{Bool, true, false, cond, ◌||◌}
use mathlib.Core.List.{List, [], ◌∷◌, ◌++◌}
use Prim.Native.Nat.{ℕ, zero, suc, ◌+◌, ◌≤◌, ◌<◌}
use native.Mathlib.Omega.{arith}
use lib.Dec.{eqb}
use lib.ListN.{length, get_or, set}
use borrow.Author.Tests.{eq-eqb, ne_eqb}
use Rattle.words.specs.Lists.{numbers_from}
use Rattle.words.proofs.Numbers.{same_or_not}
use Rattle.plan_spec.specs.Lists.{is_in, place_of, remove_at, concat}
use Rattle.plan_spec.specs.Connectivity.{occurrences, Member, NoRepeats}

-- ---- telling numbers apart

pub member_or_not : (a : ℕ) (xs : List ℕ) → Member a xs ⊎ (occurrences a xs ≡ 0)
member_or_not a xs = go (occurrences a xs) refl
  where
    go : (n : ℕ) → occurrences a xs ≡ n → Member a xs ⊎ (occurrences a xs ≡ 0)
    go zero e = inr e
    go (suc n) e = inl (omega arith)

pub one_here : (a b : ℕ) (xs : List ℕ) → a ≡ b → occurrences a (b ∷ xs) ≡ suc (occurrences a xs)
one_here a b xs e = ap (λ (t : Bool). cond t 1 0 + occurrences a xs) (eq-eqb a b e) ∙ omega arith

pub none_here : (a b : ℕ) (xs : List ℕ) → (a ≡ b → ⊥) → occurrences a (b ∷ xs) ≡ occurrences a xs
none_here a b xs n = ap (λ (t : Bool). cond t 1 0 + occurrences a xs) (ne_eqb a b n) ∙ omega arith

-- the head of a list is in it, and what is in the tail is in the list
pub member_head : (a : ℕ) (xs : List ℕ) → Member a (a ∷ xs)
member_head a xs = subst (λ (n : ℕ). 0 < n) (sym (one_here a a xs refl)) (omega arith)

pub member_tail : (a b : ℕ) (xs : List ℕ) → Member a xs → Member a (b ∷ xs)
member_tail a b xs h = omega arith

-- a list that has a member has a length
pub member_length : (a : ℕ) (xs : List ℕ) → Member a xs → 0 < length xs
member_length a [] m = absurd (omega arith)
member_length a (x ∷ xs) m = omega arith

-- a member of a list is its head or in its tail
pub member_cons : (a b : ℕ) (xs : List ℕ) → Member a (b ∷ xs) → (a ≡ b) ⊎ Member a xs
member_cons a b xs h = go (same_or_not a b)
  where
    go : (a ≡ b) ⊎ (a ≡ b → ⊥) → (a ≡ b) ⊎ Member a xs
    go (inl e) = inl e
    go (inr n) = inr (subst (λ (k : ℕ). 0 < k) (none_here a b xs n) h)

-- ---- the Bool tests

pub is_in_member : (a : ℕ) (xs : List ℕ) → is_in a xs ≡ true → Member a xs
is_in_member a [] h = let z : ◌≡◌ {A = ℕ} 0 1 = cc in absurd (omega arith)
is_in_member a (b ∷ xs) h =
    ⊎_elim
    (λ e. subst (λ (k : ℕ). 0 < k) (sym (one_here a b xs e)) (omega arith))
    (λ n. member_tail a b xs (is_in_member a xs (sym (ap (λ (t : Bool). t || is_in a xs) (ne_eqb a b n)) ∙ h)))
    (same_or_not a b)

pub or-true : (t : Bool) → t || true ≡ true
or-true true = refl
or-true false = refl

pub member_is_in : (a : ℕ) (xs : List ℕ) → Member a xs → is_in a xs ≡ true
member_is_in a [] h = absurd (omega arith)
member_is_in a (b ∷ xs) h =
    ⊎_elim
    (λ e. ap (λ (t : Bool). t || is_in a xs) (eq-eqb a b e))
    (λ n. ap (λ (t : Bool). eqb a b || t) (member_is_in a xs (subst (λ (k : ℕ). 0 < k) (none_here a b xs n) h)) ∙ or-true (eqb a b))
    (same_or_not a b)

pub absent_is_in : (a : ℕ) (xs : List ℕ) → occurrences a xs ≡ 0 → is_in a xs ≡ false
absent_is_in a xs e = go (is_in a xs) refl
  where
    go : (t : Bool) → is_in a xs ≡ t → is_in a xs ≡ false
    go false h = h
    go true h = absurd (let m = is_in_member a xs h in omega arith)

-- ---- joined lists

pub occurrences_append : (a : ℕ) (xs ys : List ℕ) → occurrences a (xs ++ ys) ≡ occurrences a xs + occurrences a ys
occurrences_append a [] ys = omega arith
occurrences_append a (b ∷ xs) ys = ap (λ (n : ℕ). cond (eqb a b) 1 0 + n) (occurrences_append a xs ys) ∙ omega arith

pub occurrences_concat_append : (a : ℕ) (xs ys : List (List ℕ)) → occurrences a (concat (xs ++ ys)) ≡ occurrences a (concat xs) + occurrences a (concat ys)
occurrences_concat_append a [] ys = omega arith
occurrences_concat_append a (x ∷ xs) ys =
    occurrences_append a x (concat (xs ++ ys)) ∙ ap (λ (n : ℕ). occurrences a x + n) (occurrences_concat_append a xs ys)
    ∙ let e = occurrences_append a x (concat xs) in omega arith

-- a list of the collection replaced: what it held goes, and what it now holds comes
pub occurrences_set : (a : ℕ) (cs : List (List ℕ)) (c : ℕ) (m : List ℕ) → c < length cs
    → occurrences a (concat (set cs c m)) + occurrences a (get_or cs c []) ≡ occurrences a (concat cs) + occurrences a m
occurrences_set a [] c m h = absurd (omega arith)
occurrences_set a (x ∷ cs) zero m h = let e = occurrences_append a m (concat cs) in let f = occurrences_append a x (concat cs) in omega arith
occurrences_set a (x ∷ cs) (suc c) m h =
    let rest = occurrences_set a cs c m (omega arith) in
    let e = occurrences_append a x (concat (set cs c m)) in
    let f = occurrences_append a x (concat cs) in omega arith

-- what a listed collection's list holds, the collection holds
pub occurrences_listed : (a : ℕ) (cs : List (List ℕ)) (c : ℕ) → occurrences a (get_or cs c []) ≤ occurrences a (concat cs)
occurrences_listed a [] c = omega arith
occurrences_listed a (x ∷ cs) zero = let f = occurrences_append a x (concat cs) in omega arith
occurrences_listed a (x ∷ cs) (suc c) = let f = occurrences_append a x (concat cs) in let r = occurrences_listed a cs c in omega arith

-- two lists of it hold together no more than the collection
pub occurrences_two : (a : ℕ) (cs : List (List ℕ)) (c d : ℕ) → (c ≡ d → ⊥)
    → occurrences a (get_or cs c []) + occurrences a (get_or cs d []) ≤ occurrences a (concat cs)
occurrences_two a [] c d n = omega arith
occurrences_two a (x ∷ cs) zero zero n = absurd (n refl)
occurrences_two a (x ∷ cs) zero (suc d) n = let f = occurrences_append a x (concat cs) in let r = occurrences_listed a cs d in omega arith
occurrences_two a (x ∷ cs) (suc c) zero n = let f = occurrences_append a x (concat cs) in let r = occurrences_listed a cs c in omega arith
occurrences_two a (x ∷ cs) (suc c) (suc d) n =
    let f = occurrences_append a x (concat cs) in
    let r = occurrences_two a cs c d (λ e. n (ap suc e)) in omega arith

-- a member of the collection is in one of its lists
pub member_listed : (a : ℕ) (cs : List (List ℕ)) → Member a (concat cs) → (c : ℕ) × (c < length cs) × Member a (get_or cs c [])
member_listed a [] h = absurd (omega arith)
member_listed a (x ∷ cs) h =
    let f = occurrences_append a x (concat cs) in
    ⊎_elim
    (λ m. (zero, omega arith, m))
    (λ e. let r = member_listed a cs (omega arith) in (suc r.0, omega (arith, r.1), r.2))
    (member_or_not a x)

-- ---- entries by position

pub member_at : (xs : List ℕ) (p : ℕ) → p < length xs → Member (get_or xs p 0) xs
member_at [] p h = absurd (omega arith)
member_at (x ∷ xs) zero h = member_head x xs
member_at (x ∷ xs) (suc p) h = member_tail (get_or xs p 0) x xs (member_at xs p (omega arith))

pub place_below : (a : ℕ) (xs : List ℕ) → Member a xs → place_of a xs < length xs
place_below a [] h = absurd (omega arith)
place_below a (b ∷ xs) h =
    ⊎_elim
    (λ e. subst (λ (t : Bool). cond t zero (suc (place_of a xs)) < suc (length xs)) (sym (eq-eqb a b e)) (omega arith))
    (λ n. let r = place_below a xs (subst (λ (k : ℕ). 0 < k) (none_here a b xs n) h) in
    subst (λ (t : Bool). cond t zero (suc (place_of a xs)) < suc (length xs)) (sym (ne_eqb a b n)) (omega arith))
    (same_or_not a b)

pub place_holds : (a : ℕ) (xs : List ℕ) → Member a xs → get_or xs (place_of a xs) 0 ≡ a
place_holds a [] h = absurd (omega arith)
place_holds a (b ∷ xs) h =
    ⊎_elim
    (λ e. ap (λ (t : Bool). get_or (b ∷ xs) (cond t zero (suc (place_of a xs))) 0) (eq-eqb a b e) ∙ sym e)
    (λ n. ap (λ (t : Bool). get_or (b ∷ xs) (cond t zero (suc (place_of a xs))) 0) (ne_eqb a b n)
    ∙ place_holds a xs (subst (λ (k : ℕ). 0 < k) (none_here a b xs n) h))
    (same_or_not a b)

-- an entry taken out: it stands once less, and every other entry as often
pub occurrences_remove_at : (a : ℕ) (p : ℕ) (xs : List ℕ) → p < length xs
    → occurrences a (remove_at p xs) + cond (eqb a (get_or xs p 0)) 1 0 ≡ occurrences a xs
occurrences_remove_at a p [] h = absurd (omega arith)
occurrences_remove_at a zero (x ∷ xs) h = omega arith
occurrences_remove_at a (suc p) (x ∷ xs) h = let r = occurrences_remove_at a p xs (omega arith) in omega arith

pub length_remove_at : {A : Type 0} (p : ℕ) (xs : List A) → p < length xs → suc (length (remove_at p xs)) ≡ length xs
length_remove_at p [] h = absurd (omega arith)
length_remove_at zero (x ∷ xs) h = refl
length_remove_at (suc p) (x ∷ xs) h = ap suc (length_remove_at p xs (omega arith))

-- ---- numbers in order

pub absent_below : (a b n : ℕ) → a < b → occurrences a (numbers_from b n) ≡ 0
absent_below a b zero h = refl
absent_below a b (suc n) h = none_here a b (numbers_from (suc b) n) (λ e. omega arith) ∙ absent_below a (suc b) n (omega arith)

pub numbers_once : (b n : ℕ) → NoRepeats (numbers_from b n)
numbers_once b zero a = omega arith
numbers_once b (suc n) a =
    ⊎_elim
    (λ e. let f = one_here a b (numbers_from (suc b) n) e in let g = absent_below a (suc b) n (omega arith) in omega arith)
    (λ ne. let f = none_here a b (numbers_from (suc b) n) ne in let g = numbers_once (suc b) n a in omega arith)
    (same_or_not a b)

pub numbers_bounds : (a b n : ℕ) → Member a (numbers_from b n) → (b ≤ a) × (a < b + n)
numbers_bounds a b zero h = absurd (omega arith)
numbers_bounds a b (suc n) h =
    ⊎_elim
    (λ e. (omega arith, omega arith))
    (λ m. let r = numbers_bounds a (suc b) n m in (omega (arith, r.0), omega (arith, r.1)))
    (member_cons a b (numbers_from (suc b) n) h)
