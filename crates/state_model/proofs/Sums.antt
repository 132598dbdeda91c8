-- Works and live dimensions that the code keeps by sizes are the definition's: a join takes the shares of its sources off the live sum and adds the share of all their
-- members; a removal exchanges a component's share for that of one member less; a promotion adds 2.
use mathlib.Core.Path.{◌≡◌, refl, ap}
use mathlib.Core.List.{List, [], ◌∷◌, ◌++◌}
use Prim.Native.Nat.{ℕ, ◌+◌, ◌^◌, ◌<◌, ◌≤◌}
use native.Mathlib.Omega.{arith}
use lib.ListN.{length, get_or, set}
use Rattle.plan_spec.specs.Components.{members_of, size_of, gathered, joined, amplitudes, live_dimension}
use Rattle.plan_spec.specs.Connectivity.{Member, NoRepeats}
use Rattle.plan_spec.proofs.Counting.{member_head, member_tail}
use Rattle.work_sums.specs.Tally.{powers}
use Rattle.plan_spec.proofs.Room.{total-set, total-append, shares, emptied_total, joined_total}

-- a component with members has 2 to the power of its size amplitudes
pub amplitudes_some : (m : List ℕ) → 0 < length m → amplitudes m ≡ 2 ^ length m
amplitudes_some [] h = absurd (omega arith)
amplitudes_some (a ∷ m) h = refl

-- the listed components' dimensions by the sizes are their amplitudes
pub powers_shares : (size : List ℕ) (cs : List (List ℕ)) (ss : List ℕ) → ((c : ℕ) → Member c ss → (get_or size c 0 ≡ size_of cs c) × (0 < size_of cs c))
    → powers size ss ≡ shares amplitudes cs ss
powers_shares size cs [] f = refl
powers_shares size cs (s ∷ ss) f =
    let r = powers_shares size cs ss (λ c m. f c (member_tail c s ss m)) in
    let e = f s (member_head s ss) in
    let a = amplitudes_some (members_of cs s) e.1 in
    let p = ap (λ (n : ℕ). 2 ^ n) e.0 in omega arith

-- a join
pub live_join : (size : List ℕ) (cs : List (List ℕ)) (ss : List ℕ) → NoRepeats ss → ((c : ℕ) → Member c ss → c < length cs)
    → ((c : ℕ) → Member c ss → (get_or size c 0 ≡ size_of cs c) × (0 < size_of cs c)) → 0 < length (gathered cs ss)
    → (powers size ss ≤ live_dimension cs + 2 ^ length (gathered cs ss))
    × (live_dimension (joined cs ss) + powers size ss ≡ live_dimension cs + 2 ^ length (gathered cs ss))
unfolding live_dimension
live_join size cs ss once small f some =
    let e = joined_total amplitudes refl cs ss once small in
    let p = powers_shares size cs ss f in
    let a = amplitudes_some (gathered cs ss) some in (omega arith, omega arith)

-- a removal
pub live_removal : (cs : List (List ℕ)) (t : ℕ) (left : List ℕ) → t < length cs → 0 < size_of cs t
    → live_dimension (set cs t left) + 2 ^ size_of cs t ≡ live_dimension cs + amplitudes left
unfolding live_dimension
live_removal cs t left h some =
    let e = total-set amplitudes cs t left h in
    let a = amplitudes_some (members_of cs t) some in omega arith

-- a promotion
pub live_promotion : (cs : List (List ℕ)) (n : ℕ) → live_dimension (cs ++ ((n ∷ []) ∷ [])) ≡ live_dimension cs + 2
unfolding live_dimension
live_promotion cs n = let e = total-append amplitudes cs ((n ∷ []) ∷ []) in omega arith

-- the sources' own powers are part of the live dimension
pub powers_live : (size : List ℕ) (cs : List (List ℕ)) (ss : List ℕ) → NoRepeats ss → ((c : ℕ) → Member c ss → c < length cs)
    → ((c : ℕ) → Member c ss → (get_or size c 0 ≡ size_of cs c) × (0 < size_of cs c)) → powers size ss ≤ live_dimension cs
unfolding live_dimension
powers_live size cs ss once small f =
    let e = emptied_total amplitudes refl ss cs once small in
    let p = powers_shares size cs ss f in omega arith
