-- What more is claimed of every list of operations and its preserved prefixes, which a definition would miss that changes angles, fuses in another order, or counts
-- swaps wrongly.
use Rattle.std.specs.Prelude.{ℕ, ◌+◌, ◌<◌, ◌≡◌, List, [], ◌∷◌, false, length, get_or, set, take, nat_lt}
use Rattle.std.specs.List.{All, AllPairs, count_by, sum_by}
use Rattle.pending.specs.Operation.{Operation}
use Rattle.optimizer_spec.specs.Passes.{Placed, Pair, fused, cancels}
use Rattle.optimizer_spec.specs.Optimizing.{segments_of}
use Rattle.optimizer_spec.specs.Claims.{output, fusions}

-- a pair's two, fused, in the later one's place
abbrev pub fuse_pair : Pair → List Operation → List Operation
fuse_pair p now = set now p.later (fused (get_or now p.earlier []) (get_or now p.later []))

-- one pair after the other
abbrev pub fuse_pairs : List Pair → List Operation → List Operation
fuse_pairs [] now = now
fuse_pairs (p ∷ ps) now = fuse_pairs ps (fuse_pair p now)

-- how many two operations stand in another order than in the input
abbrev pub inversions : List Placed → ℕ
inversions [] = 0
inversions (a ∷ os) = count_by (λ b. nat_lt b.place a.place) os + inversions os

module _ (os : List Operation) (prefixes : List ℕ) where
  -- the operations by place, when i pairs were fused
  abbrev pub moment : ℕ → List Operation
  moment i = fuse_pairs (take i (fusions os prefixes)) os

  -- of pair i: it cancelled exactly if the sum of the two angles was 0 then
  abbrev pub IsExact : ℕ → Pair → Type 0
  IsExact i pair = pair.cancelled ≡ cancels (get_or (moment i) pair.earlier []) (get_or (moment i) pair.later [])

  pub record Further : Type 0 where
    -- the earlier ones are fused from left to right, and none into one that was cancelled
    pub in_turn : AllPairs (λ a b. (a.earlier < b.earlier) × (a.later ≡ b.later → a.cancelled ≡ false)) (fusions os prefixes)
    pub exact : (i : ℕ) (d : Pair) → i < length (fusions os prefixes) → IsExact i (get_or (fusions os prefixes) i d)
    -- an operation that is left is what the pairs made of its place
    pub values : All (λ o. o.operation ≡ get_or (moment (length (fusions os prefixes))) o.place []) (output os prefixes)
    -- "left swaps"
    pub swaps : sum_by (λ s. s.swaps) (segments_of os prefixes) ≡ inversions (output os prefixes)
