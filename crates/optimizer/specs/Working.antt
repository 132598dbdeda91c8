-- How the code works in the lent list: what cancelled is marked and stays where it is until all is compacted, and operations have no places.
use Rattle.std.specs.Prelude.{ℕ, zero, suc, ◌+◌, ◌-◌, ◌*◌, ◌<◌, ◌≤◌, ◌≡◌, List, [], ◌∷◌, ◌++◌, reverse, map, Bool, false, not, get_or, set, take, drop, pos, Float, length, Option, Some, None, if◌then◌else◌, nat_eq, ◌==◌}
use Rattle.std.specs.List.{filter, count_by, sum_by, list_any, range_with_len}
use Rattle.std.specs.Float.{fin, binary64}
use Rattle.std.specs.Float.Ieee.{eq, to_bits}
use Rattle.pending.specs.Operation.{Operation, kind, is_rotation}
use Rattle.optimizer.specs.declared.fusing.Fused.{Fused}
use Rattle.optimizer.specs.declared.segments.Segment as Declared
use Rattle.optimizer.specs.declared.segments.Progress.{Progress}
use Rattle.optimizer_spec.specs.Optimizing.{placed_from, ends_of, segments, segments_of, no_boundary, boundary, mapped, operations_in, pairs_in}
use Rattle.optimizer_spec.specs.Passes.{Placed, Pair, Segment, segment_of, placed, can_cross, can_fuse, cancels, fused, passed}

-- n turns of a loop, from turn i on
abbrev pub turns : {S : Type 0} → (ℕ → S → S) → (n i : ℕ) → S → S
turns turn zero i s = s
turns turn (suc n) i s = turns turn n (suc i) (turn i s)

-- ---- marks

-- the mark is a kind of its own, which is crossed as a classical record is
abbrev pub marked : Operation → Operation
marked o = 3 ∷ drop 1 o

abbrev pub is_marked : Operation → Bool
is_marked o = (kind o == 3)

-- what is not marked
abbrev pub live : List Operation → List Operation
live os = filter (λ o. not (is_marked o)) os

-- none of these is marked
abbrev pub IsUnmarked : List Operation → Type 0
IsUnmarked os = live os ≡ os

-- ---- places

-- operations without their places
abbrev pub bare : List Placed → List Operation
bare ps = map (λ p. p.operation) ps

-- how many pairs cancelled
abbrev pub cancellations : List Pair → ℕ
cancellations ps = count_by (λ p. p.cancelled) ps

-- ---- fusing

-- the place of the first operation that a rotation fuses with, the first of these being at `at`; none where it is stopped or comes to the end
abbrev pub partner_from : Operation → (at : ℕ) → List Operation → Option ℕ
partner_from a at [] = None
partner_from a at (b ∷ rest) = if can_cross a b then (if can_fuse a b then Some at else partner_from a (suc at) rest) else None

-- the partner of operation i, which must be a rotation to have one
abbrev pub partner_of : List Operation → ℕ → Option ℕ
partner_of os i =
    let a = get_or os i [] in (if is_rotation a then partner_from a (suc i) (drop (suc i) os) else None)

-- of either sign
abbrev pub is_zero : Float → Bool
is_zero angle = eq angle (fin false 0 (pos 0))

-- the later one of two with this angle, phase and constant, or marked where the angle is 0
abbrev pub rewritten : (angle : Float) (phase constant : ℕ) → Operation → Operation
rewritten angle phase constant b =
    if is_zero angle then marked b else set (set (set b 1 (to_bits binary64 angle)) 4 phase) 5 constant

-- what the later one of two becomes
abbrev pub met : Operation → Operation → Operation
met a b = if cancels a b then marked b else fused a b

-- a segment while it is fused: its operations, how many are left in front, and how many pairs there were
pub record Fusing : Type 0 where
  pub operations : List Operation
  pub left : ℕ
  pub fused : ℕ
  pub cancelled : ℕ

-- a segment as it comes
abbrev pub fusing_of : List Operation → Fusing
fusing_of os = record { operations = os; left = 0; fused = 0; cancelled = 0 }

-- a segment as the code leaves it
abbrev pub fusing_in : List Operation → Fused → Fusing
fusing_in os f = record { operations = os; left = f.left; fused = f.fused; cancelled = f.cancelled }

-- no count is above i, so that no sum of them wraps
pub record Within (i : ℕ) (f : Fused) : Type 0 where
  pub left : f.left ≤ i
  pub fused : f.fused ≤ i
  pub cancelled : f.cancelled ≤ i

-- operation i is kept behind those that are left, or goes into its partner
abbrev pub fuse_on : Option ℕ → ℕ → Fusing → Fusing
fuse_on None i s = record {
  operations = set s.operations s.left (get_or s.operations i []);
  left = s.left + 1;
  fused = s.fused;
  cancelled = s.cancelled;
}
fuse_on (Some j) i s =
    let a = get_or s.operations i [] in
    let b = get_or s.operations j [] in
    record {
      operations = set s.operations j (met a b);
      left = s.left;
      fused = s.fused + 1;
      cancelled = s.cancelled + (if cancels a b then 1 else 0);
    }

-- one turn; a marked operation is passed over
abbrev pub fuse_turn : ℕ → Fusing → Fusing
fuse_turn i s = if is_marked (get_or s.operations i []) then s else fuse_on (partner_of s.operations i) i s

-- ---- moving

-- the operations before operation i, nearest first; their places decide nothing
abbrev pub before : ℕ → List Operation → List Placed
before i os = map (placed 0) (reverse (take i os))

-- how many places operation i passes
abbrev pub passed_in : (slack : Bool) → List Operation → ℕ → ℕ
passed_in slack os i = passed slack (get_or os i []) (before i os)

-- operation i at place t, and those from there on one place further
abbrev pub moved_to : ℕ → ℕ → List Operation → List Operation
moved_to t i os = take t os ++ (get_or os i [] ∷ (take (i - t) (drop t os) ++ drop (suc i) os))

pub record Moving : Type 0 where
  pub operations : List Operation
  pub swaps : ℕ

abbrev pub moving : List Operation → ℕ → Moving
moving os swaps = record { operations = os; swaps = swaps }

abbrev pub move_turn : (slack : Bool) → ℕ → Moving → Moving
move_turn slack i s =
    let n = passed_in slack s.operations i in
    record { operations = moved_to (i - n) i s.operations; swaps = s.swaps + n }

-- ---- a segment

-- the code's answer and the front of the list are what the definition leaves of a segment
pub record Leaves (segment : Segment) (os : List Operation) (r : Declared.Segment) : Type 0 where
  pub left : r.left ≡ length segment.operations
  pub front : take r.left os ≡ bare segment.operations
  pub fused : r.fused ≡ length segment.pairs
  pub cancelled : r.cancelled ≡ cancellations segment.pairs
  pub swaps : r.swaps ≡ segment.swaps

-- that is so of the operations `before`, whatever places they have
abbrev pub OptimizesSegment : (before after : List Operation) → Declared.Segment → Type 0
OptimizesSegment before after r = (ps : List Placed) → bare ps ≡ before → Leaves (segment_of ps) after r

-- no count is larger than so many operations allow
pub record Few (n : ℕ) (r : Declared.Segment) : Type 0 where
  pub left : r.left ≤ n
  pub fused : r.fused ≤ n
  pub cancelled : r.cancelled ≤ n
  pub swaps : r.swaps ≤ 1024 * n

-- ---- all segments

-- the operations from the place `start` to the place `end`, without that
abbrev pub between : (start end : ℕ) → List Operation → List Operation
between start end os = take (end - start) (drop start os)

-- the segment that is next begins in front of this end, and no count is larger than what is in front of it allows
pub record Going (end : ℕ) (p : Progress) : Type 0 where
  pub start : p.start < end
  pub output : p.output ≤ p.start
  pub fused : p.fused ≤ p.start
  pub cancelled : p.cancelled ≤ p.start
  pub swaps : p.swaps ≤ 1024 * p.start

-- a segment ends there
abbrev pub is_end : (n : ℕ) → (prefixes : List ℕ) → ℕ → Bool
is_end n prefixes e = list_any (nat_eq e) (n ∷ prefixes)

-- the ends from this one on
abbrev pub ends_from : (n : ℕ) → (prefixes : List ℕ) → ℕ → List ℕ
ends_from n prefixes e = filter (is_end n prefixes) (range_with_len e (n + 1 - e))

-- the map's word where the code has marked the ends and no boundary is written
abbrev pub mark : (n : ℕ) → (prefixes : List ℕ) → ℕ → ℕ
mark n prefixes q = if is_end n prefixes q then 0 else no_boundary

-- a map is marked so, up to the end of n operations
abbrev pub EndsMarked : (n : ℕ) → (prefixes map : List ℕ) → Type 0
EndsMarked n prefixes map = (q : ℕ) → q ≤ n → get_or map q 0 ≡ mark n prefixes q

-- a boundary by the definition
abbrev pub defined : List Operation → (prefixes : List ℕ) → ℕ → ℕ
defined os prefixes q = boundary q 0 (ends_of (length os) prefixes) (segments_of os prefixes)

module _ (os : List Operation) (prefixes : List ℕ) (end : ℕ) where
  -- the segments that are still to come
  abbrev pub coming : Progress → List Segment
  coming p = segments p.start (ends_from (length os) prefixes end) (drop p.start (placed_from 0 os))

  -- the loop has come to this end: `done` is optimized and stands in front, with its boundaries, and the rest is as it was
  pub record Come (list : List Operation) (map : List ℕ) (p : Progress) : Type 0 where
    pub done : List Segment
    pub size : length list ≡ length os
    pub cut : segments_of os prefixes ≡ done ++ coming p
    pub output : p.output ≡ length (operations_in done)
    pub front : take p.output list ≡ bare (operations_in done)
    pub rest : drop p.start list ≡ drop p.start os
    pub fused : p.fused ≡ length (pairs_in done)
    pub cancelled : p.cancelled ≡ cancellations (pairs_in done)
    pub swaps : p.swaps ≡ sum_by (λ s. s.swaps) done
    pub boundaries : (q : ℕ) → 0 < q → q < end → get_or map q 0 ≡ defined os prefixes q
    pub marks : (q : ℕ) → end ≤ q → q ≤ length os → get_or map q 0 ≡ mark (length os) prefixes q
    pub ahead : (q : ℕ) → end ≤ q → defined os prefixes q ≡ boundary q p.output (ends_from (length os) prefixes end) (coming p)

-- all segments are optimized: what is left stands in front, and the map and the counts are the definition's
pub record Finished (os : List Operation) (prefixes : List ℕ) (list : List Operation) (map : List ℕ) (p : Progress) : Type 0 where
  pub output : p.output ≡ length (operations_in (segments_of os prefixes))
  pub front : take p.output list ≡ bare (operations_in (segments_of os prefixes))
  pub fused : p.fused ≡ length (pairs_in (segments_of os prefixes))
  pub cancelled : p.cancelled ≡ cancellations (pairs_in (segments_of os prefixes))
  pub swaps : p.swaps ≡ sum_by (λ s. s.swaps) (segments_of os prefixes)
  pub boundaries : (q : ℕ) → q ≤ length os → get_or map q 0 ≡ mapped (ends_of (length os) prefixes) (segments_of os prefixes) q
