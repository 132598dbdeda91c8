-- What a call gives: refusals 26, 27 and 28, the shortcut for expectation values, and else the segments in order, the map and the counts. Written from 02, CR 6.
use Rattle.std.specs.Prelude.{ℕ, suc, ◌+◌, ◌-◌, ◌^◌, List, [], ◌∷◌, map, Bool, not, ◌&&◌, length, take, drop, Option, Some, None, if◌then◌else◌, nat_eq, nat_lt, ◌==◌}
use Rattle.std.specs.List.{filter, list_any, flat_map, sum_by, count_by, range_with_len, position_from}
use Rattle.std.specs.Float.Ieee.{add, mul, eq, of_bits, to_bits}
use Rattle.refusals.specs.Answer.{Outcome, completed, refused_at}
use Rattle.pending.specs.Operation.{Operation, operations_of, is_rotation, is_expectation, is_hermitian, commute, y_count}
use Rattle.pending.specs.Form.{form_fits}
use Rattle.optimizer_spec.specs.Passes.{Placed, placed, Pair, Segment, segment_of, carry, meeting, can_fuse, cancels, fused, passed, reach}

-- ---- segments

-- the operations with their places, from this one on
abbrev pub placed_from : ℕ → List Operation → List Placed
placed_from n [] = []
placed_from n (o ∷ os) = placed n o ∷ placed_from (suc n) os

-- the segments end at the preserved prefixes and at the end, "in any order, repeats allowed": so at each count from 1 to n that is one of these
unfoldable pub ends_of : (n : ℕ) → (prefixes : List ℕ) → List ℕ
ends_of n prefixes = filter (λ e. list_any (nat_eq e) (n ∷ prefixes)) (range_with_len 1 n)

-- each segment by itself, the first from `start` on
unfoldable pub segments : (start : ℕ) → (ends : List ℕ) → List Placed → List Segment
segments start [] rest = []
segments start (e ∷ es) rest = segment_of (take (e - start) rest) ∷ segments e es (drop (e - start) rest)

-- the segments of a list
abbrev pub segments_of : List Operation → (prefixes : List ℕ) → List Segment
segments_of os prefixes = segments 0 (ends_of (length os) prefixes) (placed_from 0 os)

-- ---- the prefix map

-- 2^64 - 1, for the Rust's -1
abbrev pub no_boundary : ℕ
no_boundary = 2 ^ 64 - 1

-- where boundary p is behind the segments that end there, `out` operations standing in front of them
unfoldable pub boundary : (p out : ℕ) (ends : List ℕ) → List Segment → ℕ
boundary p out [] ss = no_boundary
boundary p out (e ∷ es) [] = no_boundary
boundary p out (e ∷ es) (s ∷ ss) =
    let after = out + length s.operations in
    if p == e then after else boundary p after es ss

-- word p of the map
abbrev pub mapped : (ends : List ℕ) → List Segment → ℕ → ℕ
mapped ends ss p = if p == 0 then 0 else boundary p 0 ends ss

-- ---- the answer

pub record Optimized : Type 0 where
  pub operations : List Operation
  pub map : List ℕ
  pub counts : List ℕ

-- "28": where the first operation stands that is a non-Hermitian rotation
abbrev pub refuse_at : Option ℕ → (number : ℕ) → (Outcome Optimized) → (Outcome Optimized)
refuse_at None number rest = rest
refuse_at (Some index) number rest = refused_at number index

-- "a prefix beyond the list"
abbrev pub is_beyond : List Operation → (prefix : ℕ) → Bool
is_beyond os prefix = nat_lt (length os) prefix

abbrev pub is_odd_rotation : Operation → Bool
is_odd_rotation o = is_rotation o && not (is_hermitian o)

-- "the shortcut for expectation values": the list as it is, the map 0, 1 .. n
abbrev pub as_it_is : List Operation → Optimized
as_it_is os =
    let n = length os in
    record { operations = os; map = range_with_len 0 (suc n); counts = n ∷ n ∷ 0 ∷ 0 ∷ 0 ∷ [] }

-- the operations of all segments, in order
abbrev pub operations_in : List Segment → List Placed
operations_in ss = flat_map (λ s. s.operations) ss

abbrev pub pairs_in : List Segment → List Pair
pairs_in ss = flat_map (λ s. s.pairs) ss

-- "counts": input, output, fused, cancelled, left swaps; a cancelled pair counts as fused too
abbrev pub counts_of : (n : ℕ) → List Segment → List ℕ
counts_of n ss =
    n ∷ length (operations_in ss) ∷ length (pairs_in ss) ∷ count_by (λ p. p.cancelled) (pairs_in ss) ∷ sum_by (λ s. s.swaps) ss ∷ []

unfoldable pub in_segments : List Operation → (prefixes : List ℕ) → Optimized
in_segments os prefixes =
    let ends = ends_of (length os) prefixes in
    let ss = segments_of os prefixes in
    record {
      operations = map (λ o. o.operation) (operations_in ss);
      map = map (mapped ends ss) (range_with_len 0 (suc (length os)));
      counts = counts_of (length os) ss;
    }

-- what a call gives: "26 first of all", index 0; "After the shortcut for expectation values 27 is a prefix beyond the list, and then 28 a non-Hermitian rotation
-- anywhere in it, ...; 28 returns the first such operation's index, 26 and 27 return 0". To unfold this name is to unfold all that it computes by.
unfoldable pub outcome_of : (width : ℕ) (words prefixes : List ℕ) (optimized_len map_len : ℕ) → (Outcome Optimized)
unfolding operations_of form_fits of_bits in_segments ends_of segments boundary segment_of carry meeting can_fuse cancels fused passed reach commute y_count add mul eq to_bits
outcome_of width words prefixes optimized_len map_len =
    let os = operations_of words in
    if not (form_fits width words prefixes optimized_len map_len) then refused_at 26 0
    else if list_any is_expectation os then completed (as_it_is os)
    else if list_any (is_beyond os) prefixes then refused_at 27 0
    else refuse_at (position_from is_odd_rotation 0 os) 28 (completed (in_segments os prefixes))
