-- The two passes over a segment: fusing, and moving measurements earlier. Written from 02, CR 6, and the meaning of the Rust's functions that comments name.
-- Operations carry the place that they had in the input, by which nothing is decided: "a fused pair counts as the one whose place it keeps".
use Rattle.std.specs.Prelude.{ℕ, zero, suc, ◌+◌, ◌%◌, List, [], ◌∷◌, ◌++◌, reverse, Bool, true, false, not, ◌&&◌, ◌||◌, length, set, take, drop, pos, Float, if◌then◌else◌, ◌==◌}
use Rattle.std.specs.Float.{fin, binary64}
use Rattle.std.specs.Float.Ieee.{add, mul, eq, to_bits}
use Rattle.pending.specs.Operation.{Operation, is_rotation, is_measurement, has_string, strings_commute, same_string, angle_of, conditions_of, y_count, whole_sign}

pub record Placed : Type 0 where
  pub place : ℕ
  pub operation : Operation

abbrev pub placed : ℕ → Operation → Placed
placed place operation = record { place = place; operation = operation }

-- ---- two rotations

-- `rotation_can_cross`: a rotation passes classical records, and what commutes with it. No measurement of these lists has an expectation value
abbrev pub can_cross : (rotation other : Operation) → Bool
can_cross a b = not (has_string b) || strings_commute a b

-- two lists are equal, word by word
unfoldable pub same_words : List ℕ → List ℕ → Bool
same_words [] [] = true
same_words [] (w ∷ ws) = false
same_words (v ∷ vs) [] = false
same_words (v ∷ vs) (w ∷ ws) = v == w && same_words vs ws

-- `try_fuse_rotations`: rotations about one string whose signs have the same conditions
unfoldable pub can_fuse : (earlier later : Operation) → Bool
unfolding same_words
can_fuse a b = is_rotation b && (same_string a b && same_words (conditions_of a) (conditions_of b))

-- 1, and -1 where the signs are opposite
unfoldable pub direction : (earlier later : Operation) → Float
direction a b = if whole_sign a == whole_sign b then fin false 1 (pos 0) else fin true 1 (pos 0)

-- the later one's angle and the earlier one's in its direction: one product and one sum, both rounded
unfoldable pub fused_angle : (earlier later : Operation) → Float
unfolding direction
fused_angle a b = add binary64 (angle_of b) (mul binary64 (direction a b) (angle_of a))

-- "cancelled": the sum is 0, and so is -0
unfoldable pub cancels : (earlier later : Operation) → Bool
unfolding fused_angle
cancels a b = eq (fused_angle a b) (fin false 0 (pos 0))

-- the later one with the new angle, the phase of its Ys alone, and the whole sign for its constant
unfoldable pub fused : (earlier later : Operation) → Operation
unfolding fused_angle
fused a b = set (set (set b 1 (to_bits binary64 (fused_angle a b))) 4 (y_count b % 4)) 5 (whole_sign b)

-- ---- `fuse_commuting_rotations`

-- what becomes of a rotation that is carried to the right: it stays where it was, or it meets one that it fuses with
pub data Carried : Type 0 where
  stays : Carried
  meets : (later : ℕ) (cancelled : Bool) (rest : List Placed) → Carried

-- what it has crossed stands in front
abbrev pub behind : Placed → Carried → Carried
behind b stays = stays
behind b (meets later cancelled rest) = meets later cancelled (b ∷ rest)

-- the pair's place is the later one's; a cancelled pair leaves nothing
unfoldable pub meeting : (earlier : Operation) (later : Placed) → List Placed → Carried
meeting a b rest =
    if cancels a b.operation then meets b.place true rest
    else meets b.place false (placed b.place (fused a b.operation) ∷ rest)

-- to the first operation that cannot be crossed, or the first that it fuses with
unfoldable pub carry : (rotation : Operation) → List Placed → Carried
carry a [] = stays
carry a (b ∷ rest) =
    if can_cross a b.operation
    then (if can_fuse a b.operation then meeting a b rest else behind b (carry a rest))
    else stays

-- the places of two rotations that were fused, and whether they cancelled
pub record Pair : Type 0 where
  pub earlier : ℕ
  pub later : ℕ
  pub cancelled : Bool

-- what is left, and the pairs in the order in which they were fused
pub record Fused : Type 0 where
  pub left : List Placed
  pub pairs : List Pair

abbrev pub keeping : Placed → Fused → Fused
keeping o f = record { left = o ∷ f.left; pairs = f.pairs }

abbrev pub pairing : Pair → Fused → Fused
pairing p f = record { left = f.left; pairs = p ∷ f.pairs }

-- what a rotation o leaves, with `rest` behind it and by what carrying it gave; the others go the same way (`on`)
abbrev pub carried : (on : List Placed → Fused) → Placed → (rest : List Placed) → Carried → Fused
carried on o rest stays = keeping o (on rest)
carried on o rest (meets later cancelled after) = pairing (record { earlier = o.place; later = later; cancelled = cancelled }) (on after)

-- each rotation is carried once, from the first operation on; so a fused one may fuse again. There are `steps` operations at most
unfoldable pub fuse : (steps : ℕ) → List Placed → Fused
fuse zero os = record { left = []; pairs = [] }
fuse (suc n) [] = record { left = []; pairs = [] }
fuse (suc n) (o ∷ rest) =
    if is_rotation o.operation then carried (fuse n) o rest (carry o.operation rest)
    else keeping o (fuse n rest)

-- ---- `move_measurements_earlier`

-- one place further: with slack always, else where the rotation is about the measurement's own string, or one further on is
abbrev pub further : (slack same : Bool) → ℕ → ℕ
further true same n = suc n
further false true n = 1
further false false zero = 0
further false false (suc n) = suc (suc n)

-- how many rotations a measurement passes of those before it, nearest first: to the farthest that commutes with it if there is slack, to the first about its own
-- string if there is none, "or not at all"
unfoldable pub reach : (slack : Bool) (measurement : Operation) → List Placed → ℕ
reach slack m [] = 0
reach slack m (r ∷ rs) =
    if is_rotation r.operation && strings_commute m r.operation
    then further slack (same_string m r.operation) (reach slack m rs)
    else 0

unfoldable pub passed : (slack : Bool) → Operation → List Placed → ℕ
passed slack o before = if is_measurement o then reach slack o before else 0

-- the order that is left, and how many places were passed in all
pub record Moved : Type 0 where
  pub order : List Placed
  pub swaps : ℕ

abbrev pub swapping : ℕ → Moved → Moved
swapping n m = record { order = m.order; swaps = n + m.swaps }

-- each operation goes in front of those that it passes; `before` is what stands in front of it by then, nearest first
unfoldable pub move : (slack : Bool) (before : List Placed) → List Placed → Moved
move slack before [] = record { order = reverse before; swaps = 0 }
move slack before (o ∷ rest) =
    let n = passed slack o.operation before in
    swapping n (move slack (take n before ++ o ∷ drop n before) rest)

-- ---- `optimize_segment`

pub record Segment : Type 0 where
  pub operations : List Placed
  pub pairs : List Pair
  pub swaps : ℕ

abbrev pub is_empty : {A : Type 0} → List A → Bool
is_empty [] = true
is_empty (x ∷ xs) = false

-- measurements have slack only where this segment fused something
unfoldable pub segment_of : List Placed → Segment
unfolding fuse move
segment_of os =
    let f = fuse (length os) os in
    let m = move (not (is_empty f.pairs)) [] f.left in
    record { operations = m.order; pairs = f.pairs; swaps = m.swaps }
