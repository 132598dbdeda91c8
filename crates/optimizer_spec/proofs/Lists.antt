-- Facts of each element of a list and of each pair of its elements, and sums over a list, all told by recursion on the list, so that they go over its parts; at
-- the end they are turned into the forms by places that `Claims` states.
use mathlib.Core.Path.{◌≡◌, refl, ap, ◌∙◌}
use mathlib.Core.Bool.{Bool, true, false, cond}
use mathlib.Core.List.{List, [], ◌∷◌, ◌++◌, map, reverse_aux}
use Prim.Native.Nat.{ℕ, zero, suc, ◌+◌}
use native.Mathlib.Omega.{arith}
use lib.ListN.{length, take}
use Rattle.std.specs.List.{AllByRecursion as Each, AllPairs, insert, filter, sum_by}
use Rattle.std.proofs.lemmas.List.Elements.{All-from_recursion}
use Rattle.std.proofs.lemmas.List.Sums.{sum_by-cons}

pub Each-append : {X : Type 0} (P : X → Type 0) (xs ys : List X) → Each P xs → Each P ys → Each P (xs ++ ys)
Each-append P [] ys h k = k
Each-append P (x ∷ xs) ys h k = (h.0, Each-append P xs ys h.1 k)

pub Each_left : {X : Type 0} (P : X → Type 0) (xs ys : List X) → Each P (xs ++ ys) → Each P xs
Each_left P [] ys h = tt
Each_left P (x ∷ xs) ys h = (h.0, Each_left P xs ys h.1)

pub Each_right : {X : Type 0} (P : X → Type 0) (xs ys : List X) → Each P (xs ++ ys) → Each P ys
Each_right P [] ys h = h
Each_right P (x ∷ xs) ys h = Each_right P xs ys h.1

pub Each_all : {X : Type 0} (P : X → Type 0) → ((x : X) → P x) → (xs : List X) → Each P xs
Each_all P f [] = tt
Each_all P f (x ∷ xs) = (f x, Each_all P f xs)

-- what follows from two facts of one element follows for each
pub Each_both : {X : Type 0} (P Q R : X → Type 0) → ((x : X) → P x → Q x → R x) → (xs : List X) → Each P xs → Each Q xs → Each R xs
Each_both P Q R f [] h k = tt
Each_both P Q R f (x ∷ xs) h k = (f x h.0 k.0, Each_both P Q R f xs h.1 k.1)

pub Each_weaker : {X : Type 0} (P Q : X → Type 0) → ((x : X) → P x → Q x) → (xs : List X) → Each P xs → Each Q xs
Each_weaker P Q f xs h = Each_both P P Q (λ x p q. f x p) xs h h

-- x put in behind the first n
pub Each-insert : {X : Type 0} (P : X → Type 0) (n : ℕ) (x : X) (xs : List X) → P x → Each P xs → Each P (insert xs n x)
Each-insert P zero x xs p h = (p, h)
Each-insert P (suc n) x [] p h = (p, h)
Each-insert P (suc n) x (y ∷ xs) p h = (h.0, Each-insert P n x xs p h.1)

pub Each-reverse : {X : Type 0} (P : X → Type 0) (xs ys : List X) → Each P xs → Each P ys → Each P (reverse_aux xs ys)
Each-reverse P [] ys h k = k
Each-reverse P (x ∷ xs) ys h k = Each-reverse P xs (x ∷ ys) h.1 (h.0, k)

-- ---- each pair

-- R holds of each element and each later one
abbrev pub Pairs : {X : Type 0} → (X → X → Type 0) → List X → Type 0
Pairs R [] = Unit {0}
Pairs R (x ∷ xs) = Each (R x) xs × Pairs R xs

pub Pairs-append : {X : Type 0} (R : X → X → Type 0) (xs ys : List X) → Pairs R xs → Pairs R ys → Each (λ x. Each (R x) ys) xs → Pairs R (xs ++ ys)
Pairs-append R [] ys h k c = k
Pairs-append R (x ∷ xs) ys h k c = (Each-append (R x) xs ys h.0 c.0, Pairs-append R xs ys h.1 k c.1)

-- x put in behind the first n, to which it stands in R
pub Pairs-insert : {X : Type 0} (R : X → X → Type 0) (n : ℕ) (x : X) (xs : List X) → Pairs R xs → Each (λ y. R y x) (take n xs) → Each (R x) xs
    → Pairs R (insert xs n x)
Pairs-insert R zero x xs h f b = (b, h)
Pairs-insert R (suc n) x [] h f b = (tt, tt)
Pairs-insert R (suc n) x (y ∷ xs) h f b = (Each-insert (R y) n x xs f.0 h.0, Pairs-insert R n x xs h.1 f.1 b.1)

-- the other way round, in front of ys
pub Pairs-reverse : {X : Type 0} (R : X → X → Type 0) (xs ys : List X) → Pairs (λ x y. R y x) xs → Pairs R ys → Each (λ y. Each (λ x. R x y) xs) ys
    → Pairs R (reverse_aux xs ys)
Pairs-reverse R [] ys h k c = k
Pairs-reverse R (x ∷ xs) ys h k c =
    Pairs-reverse R xs (x ∷ ys) h.1
    (Each_weaker (λ y. Each (λ z. R z y) (x ∷ xs)) (R x) (λ y e. e.0) ys c, k)
    (h.0, Each_weaker (λ y. Each (λ z. R z y) (x ∷ xs)) (λ y. Each (λ z. R z y) xs) (λ y e. e.1) ys c)

pub Pairs_weaker : {X : Type 0} (R S : X → X → Type 0) → ((x y : X) → R x y → S x y) → (xs : List X) → Pairs R xs → Pairs S xs
Pairs_weaker R S f [] h = tt
Pairs_weaker R S f (x ∷ xs) h = (Each_weaker (R x) (S x) (f x) xs h.0, Pairs_weaker R S f xs h.1)

-- by places
pub AllPairs-from : {X : Type 0} (R : X → X → Type 0) (xs : List X) → Pairs R xs → AllPairs R xs
AllPairs-from R [] h i j d l k = absurd (omega arith)
AllPairs-from R (x ∷ xs) h i zero d l k = absurd (omega arith)
AllPairs-from R (x ∷ xs) h zero (suc j) d l k = All-from_recursion (R x) xs h.0 j d (omega arith)
AllPairs-from R (x ∷ xs) h (suc i) (suc j) d l k = AllPairs-from R xs h.1 i j d (omega arith) (omega arith)

-- ---- sums

-- the sum of f over a list
abbrev pub total : {X : Type 0} → (X → ℕ) → List X → ℕ
total f [] = 0
total f (x ∷ xs) = f x + total f xs

pub total-append : {X : Type 0} (f : X → ℕ) (xs ys : List X) → total f (xs ++ ys) ≡ total f xs + total f ys
total-append f [] ys = omega arith
total-append f (x ∷ xs) ys = let r = total-append f xs ys in omega arith

pub total-insert : {X : Type 0} (f : X → ℕ) (n : ℕ) (x : X) (xs : List X) → total f (insert xs n x) ≡ f x + total f xs
total-insert f zero x xs = refl
total-insert f (suc n) x [] = refl
total-insert f (suc n) x (y ∷ xs) = let r = total-insert f n x xs in omega arith

pub total-reverse : {X : Type 0} (f : X → ℕ) (xs ys : List X) → total f (reverse_aux xs ys) ≡ total f xs + total f ys
total-reverse f [] ys = omega arith
total-reverse f (x ∷ xs) ys = let r = total-reverse f xs (x ∷ ys) in omega arith

-- the words of `Claims` that are such sums
pub sum_by-total : {X : Type 0} (f : X → ℕ) (xs : List X) → sum_by f xs ≡ total f xs
sum_by-total f [] = refl
sum_by-total f (x ∷ xs) = sum_by-cons f x xs ∙ ap (λ (n : ℕ). f x + n) (sum_by-total f xs)

pub length-total : {X : Type 0} (xs : List X) → length xs ≡ total (λ x. 1) xs
length-total [] = refl
length-total (x ∷ xs) = let r = length-total xs in omega arith

pub total-map : {X Y : Type 0} (f : Y → ℕ) (g : X → Y) (xs : List X) → total f (map g xs) ≡ total (λ x. f (g x)) xs
total-map f g [] = refl
total-map f g (x ∷ xs) = ap (λ (n : ℕ). f (g x) + n) (total-map f g xs)

pub total-filter : {X : Type 0} (f : X → ℕ) (t : X → Bool) (xs : List X) → total f (filter t xs) ≡ total (λ x. cond (t x) (f x) 0) xs
total-filter f t [] = refl
total-filter f t (x ∷ xs) = go (t x) (total-filter f t xs)
  where
    go : (b : Bool) → total f (filter t xs) ≡ total (λ x. cond (t x) (f x) 0) xs
        → total f (cond b (x ∷ filter t xs) (filter t xs)) ≡ cond b (f x) 0 + total (λ x. cond (t x) (f x) 0) xs
    go true e = omega arith
    go false e = omega arith
