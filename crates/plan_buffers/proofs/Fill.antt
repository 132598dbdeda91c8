-- Zeros behind the first words, and what the library says of a sum of powers of two, in the definition's words.
-- Assumes nothing.
use mathlib.Core.Path.{◌≡◌, refl, ap}
use mathlib.Core.List.{List, [], ◌∷◌, ◌++◌, map}
use Prim.Native.Nat.{ℕ, ◌-◌, ◌^◌, min}
use native.Mathlib.Omega.{arith}
use lib.ListN.{length, take, replicate, length-take}
use Rattle.std.specs.List.{sum_by}
use Rattle.std.proofs.lemmas.List.Sums.{sum_by-cons}
use Rattle.words.specs.Lists.{padded}
use Rattle.plan_spec.specs.Lists.{total}
use Rattle.plan_spec.specs.Components.{allocated_for}

-- ---- zeros behind the first words

pub rest_padded : (n : ℕ) (xs : List ℕ) → take n xs ++ replicate (length xs - n) 0 ≡ padded (length xs) (take n xs)
rest_padded n xs =
    let l = length-take n xs in
    let rest : length xs - n ≡ length xs - length (take n xs) = omega arith in
    ap (λ (k : ℕ). take n xs ++ replicate k 0) rest

-- ---- a sum of powers in std's words

total_sum : (f : ℕ → ℕ) (xs : List ℕ) → total (map f xs) ≡ sum_by f xs
total_sum f [] = refl
total_sum f (x ∷ xs) = omega (arith, total_sum f xs, sum_by-cons f x xs)

pub allocated_sum : (xs : List ℕ) → allocated_for xs ≡ min (2 ^ 64 - 1) (sum_by (λ n. 2 ^ n) xs)
unfolding allocated_for
allocated_sum xs = ap (λ (n : ℕ). min (2 ^ 64 - 1) n) (total_sum (λ n. 2 ^ n) xs)
