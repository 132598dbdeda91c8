-- The places that measurements passed are as many as the two operations that stand in another order than in the input: an operation that is put in front of n others,
-- which all were in front of it, makes n such twos, and turns no others.
use mathlib.Core.Path.{◌≡◌, refl, ap}
use mathlib.Core.Bool.{Bool, true, false, cond, ◌&&◌}
use mathlib.Core.List.{List, [], ◌∷◌, ◌++◌, reverse_aux}
use Prim.Native.Nat.{ℕ, zero, suc, ◌+◌, ◌≤◌, ◌<◌}
use native.Mathlib.Omega.{arith}
use lib.Dec.{ltb}
use lib.ListN.{length}
use Rattle.std.specs.List.{AllByRecursion as Each, insert}
use Rattle.std.proofs.lemmas.Bool.{cond_both, lt-ltb, le-ltb}
use Rattle.pending.specs.Operation.{Operation, is_rotation, is_measurement, strings_commute, same_string}
use Rattle.optimizer_spec.specs.Passes.{Placed, further, reach, passed, move}
use Rattle.optimizer_spec.specs.Further.{inversions}
use Rattle.optimizer_spec.proofs.Lists.{Each_all, Each_both, Each_weaker, Each-insert, total, total-append, total-insert, sum_by-total}
use Rattle.optimizer_spec.proofs.Turns.{Rising}

total_none : {X : Type 0} (f : X → ℕ) (xs : List X) → Each (λ x. f x ≡ 0) xs → total f xs ≡ 0
total_none f [] h = refl
total_none f (x ∷ xs) h = let r = total_none f xs h.1 in omega (arith, h.0)

total-add : {X : Type 0} (f g : X → ℕ) (xs : List X) → total (λ x. f x + g x) xs ≡ total f xs + total g xs
total-add f g [] = refl
total-add f g (x ∷ xs) = let r = total-add f g xs in omega arith

-- t of each element and each later one, in all
abbrev pub across : {X : Type 0} → (X → X → ℕ) → List X → ℕ
across t [] = 0
across t (x ∷ xs) = total (t x) xs + across t xs

across-append : {X : Type 0} (t : X → X → ℕ) (xs ys : List X) → across t (xs ++ ys) ≡ across t xs + across t ys + total (λ x. total (t x) ys) xs
across-append t [] ys = omega arith
across-append t (x ∷ xs) ys = let r = across-append t xs ys in let s = total-append (t x) xs ys in omega arith

across-reverse : {X : Type 0} (t : X → X → ℕ) (xs ys : List X)
    → across t (reverse_aux xs ys) ≡ across (λ x y. t y x) xs + across t ys + total (λ x. total (t x) ys) xs
across-reverse t [] ys = omega arith
across-reverse t (x ∷ xs) ys =
    let r = across-reverse t xs (x ∷ ys) in
    let s = total-add (λ z. t z x) (λ z. total (t z) ys) xs in omega arith

-- 1 where the later one has the smaller place
abbrev pub turned : Placed → Placed → ℕ
turned x y = cond (ltb y.place x.place) 1 0

pub inversions_across : (xs : List Placed) → inversions xs ≡ across turned xs
inversions_across [] = refl
inversions_across (x ∷ xs) = let r = inversions_across xs in let s = sum_by-total (λ y. turned x y) xs in omega arith

not_turned : (x y : Placed) → x.place ≤ y.place → turned x y ≡ 0
not_turned x y l = ap (λ (t : Bool). cond {A = ℕ} t 1 0) (le-ltb y.place x.place l)

-- two lists, one behind the other by place
pub inversions-append : (xs ys : List Placed) → Each (λ x. Each (λ y. x.place ≤ y.place) ys) xs → across turned (xs ++ ys) ≡ across turned xs + across turned ys
inversions-append xs ys h =
    let e = across-append turned xs ys in
    let z = total_none (λ x. total (turned x) ys) xs
    (Each_weaker _ (λ x. total (turned x) ys ≡ 0) (λ x p. total_none (turned x) ys (Each_weaker _ (λ y. turned x y ≡ 0) (not_turned x) ys p)) xs h) in
    omega arith

-- o put in behind n that all are in front of it by place; the nearest are first
across-insert : (n : ℕ) (o : Placed) (xs : List Placed) → n ≤ length xs → Each (λ x. x.place < o.place) xs
    → across (λ x y. turned y x) (insert xs n o) ≡ n + across (λ x y. turned y x) xs
across-insert zero o xs l h =
    let z = total_none (λ y. turned y o) xs (Each_weaker _ (λ y. turned y o ≡ 0) (λ y g. not_turned y o (omega arith)) xs h) in omega arith
across-insert (suc n) o [] l h = absurd (omega arith)
across-insert (suc n) o (x ∷ xs) l h =
    let r = across-insert n o xs (omega arith) h.1 in
    let s = total-insert (λ y. turned y x) n o xs in
    let e : turned o x ≡ 1 = ap (λ (t : Bool). cond {A = ℕ} t 1 0) (lt-ltb x.place o.place h.0) in omega arith

-- no more are passed than there are
further_below : (slack same : Bool) (n k : ℕ) → n ≤ k → further slack same n ≤ suc k
further_below true same n k l = omega arith
further_below false true n k l = omega arith
further_below false false zero k l = omega arith
further_below false false (suc n) k l = omega arith

reach_below : (slack : Bool) (m : Operation) (before : List Placed) → reach slack m before ≤ length before
unfolding reach
reach_below slack m [] = omega arith
reach_below slack m (r ∷ rs) =
    let h = reach_below slack m rs in
    cond_both (is_rotation r.operation && strings_commute m r.operation) _ _ (λ n. n ≤ suc (length rs))
    (λ e. further_below slack (same_string m r.operation) (reach slack m rs) (length rs) h)
    (λ e. omega arith)

passed_below : (slack : Bool) (o : Operation) (before : List Placed) → passed slack o before ≤ length before
unfolding passed
passed_below slack o before =
    cond_both (is_measurement o) _ _ (λ n. n ≤ length before) (λ e. reach_below slack o before) (λ e. omega arith)

pub move_swaps : (slack : Bool) (before rest : List Placed) → Rising rest → Each (λ r. Each (λ b. b.place < r.place) before) rest
    → (move slack before rest).swaps + across (λ x y. turned y x) before ≡ across turned (move slack before rest).order
unfolding move
move_swaps slack before [] h c =
    let e = across-reverse turned before [] in
    let z = total_none (λ x. total (turned x) []) before (Each_all _ (λ x. refl) before) in omega arith
move_swaps slack before (o ∷ rest) h c =
    let n = passed slack o.operation before in
    let r = move_swaps slack (insert before n o) rest h.1
    (Each_both (λ r. o.place < r.place) (λ r. Each (λ b. b.place < r.place) before) (λ r. Each (λ b. b.place < r.place) (insert before n o))
    (λ r p q. Each-insert (λ b. b.place < r.place) n o before p q) rest h.0 c.1) in
    let e = across-insert n o before (passed_below slack o.operation before) c.0 in omega arith
