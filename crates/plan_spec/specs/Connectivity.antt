-- Demand 3, 01 section 5: what is claimed of the components of every accepted plan. The active order, supports, links and live dimensions are read off the
-- instructions alone; the replayed components off the finished plan's words alone. Neither mentions how the plan was made.
use Rattle.std.specs.Prelude.{ℕ, zero, suc, ◌+◌, ◌-◌, ◌*◌, ◌^◌, ◌≤◌, ◌<◌, min, max, ◌≡◌, ◌⊎◌, ◌↔◌, Bool, not, ◌||◌, length, get_or, take, drop, if◌then◌else◌, nat_lt, ◌==◌}
use mathlib.Core.List.{List, [], ◌∷◌, ◌++◌, map, Memᴰ}
use Rattle.words.specs.Lists.{numbers_from}
use Rattle.kernels.specs.Bits.{bit_at}
use Rattle.records.specs.declared.Instruction.{Instruction}
use Rattle.records.specs.declared.Instruction.TheVariants.{Rotation, Promotion, RecordMeasurement, RecordDetector, Measurement, Expectation, DormantBranch}
use Rattle.plan_spec.specs.Rows.{measurement_words, rotation_words, rotation_kind, promotion_kind, measurement_kind, row_component, row_merge_offset, row_merge_count, row_width, row_x, row_z, measurement_pivot}
use Rattle.plan_spec.specs.Lists.{is_in, remove_at, total, concat}
use Rattle.plan_spec.specs.Components.{amplitudes}
use Rattle.plan_spec.specs.Plan.{Plan}

-- ---- lists as collections

-- how often a stands in the list
abbrev pub occurrences : ℕ → List ℕ → ℕ
occurrences a [] = zero
occurrences a (b ∷ bs) = (if a == b then 1 else 0) + occurrences a bs

abbrev pub Member : ℕ → List ℕ → Type 0
Member a xs = 0 < occurrences a xs

abbrev pub Rearranged : List ℕ → List ℕ → Type 0
Rearranged xs ys = (a : ℕ) → occurrences a xs ≡ occurrences a ys

abbrev pub NoRepeats : List ℕ → Type 0
NoRepeats xs = (a : ℕ) → occurrences a xs ≤ 1

-- the entries that pass a test, in order
abbrev pub keep : (ℕ → Bool) → List ℕ → List ℕ
keep p [] = []
keep p (a ∷ xs) =
    let rest = keep p xs in
    if p a then a ∷ rest else rest

abbrev pub greatest : List ℕ → ℕ
greatest [] = zero
greatest (n ∷ ns) = max n (greatest ns)

-- ---- the active order (01: the roll), supports and links, from the instructions

-- the active coordinates by position, the next coordinate's number, and the supports so far, oldest first
pub record ActiveOrder : Type 0 where
  pub order : List ℕ
  pub next : ℕ
  pub links : List (List ℕ)

-- "0 to initial_k - 1"
abbrev pub active_start : ℕ → ActiveOrder
active_start k = record { order = numbers_from 0 k; next = k; links = [] }

-- "the entries, before the record, at positions below the width with a set x or z bit"
abbrev pub is_set : (x z position : ℕ) → Bool
is_set x z p = not (bit_at x p == 0) || not (bit_at z p == 0)

unfoldable pub support_of : (width x z : ℕ) → (order : List ℕ) → List ℕ
support_of width x z order = map (λ p. get_or order p 0) (keep (is_set x z) (numbers_from 0 width))

-- "A support, which only a rotation or flag-0 measurement has": the order as before the record, and its support among the links
unfoldable pub with_links : ActiveOrder → Instruction → ActiveOrder
unfolding support_of
with_links r (Rotation width x z phase angle sine cosine) = record { order = r.order; next = r.next; links = r.links ++ (support_of width x z r.order ∷ []) }
with_links r (Measurement width x z phase pivot) = record { order = r.order; next = r.next; links = r.links ++ (support_of width x z r.order ∷ []) }
with_links r Promotion = r
with_links r RecordMeasurement = r
with_links r RecordDetector = r
with_links r Expectation = r
with_links r DormantBranch = r

-- "a promotion appends the next number, a flag-0 measurement removes the entry at its pivot"
unfoldable pub advanced : ActiveOrder → Instruction → ActiveOrder
advanced r Promotion = record { order = r.order ++ (r.next ∷ []); next = suc r.next; links = r.links }
advanced r (Measurement width x z phase pivot) = record { order = remove_at pivot r.order; next = r.next; links = r.links }
advanced r (Rotation width x z phase angle sine cosine) = r
advanced r RecordMeasurement = r
advanced r RecordDetector = r
advanced r Expectation = r
advanced r DormantBranch = r

abbrev pub active_step : ActiveOrder → Instruction → ActiveOrder
active_step r i = advanced (with_links r i) i

abbrev pub active_after : ActiveOrder → List Instruction → ActiveOrder
active_after r [] = r
active_after r (i ∷ is) = active_after (active_step r i) is

-- "links any two coordinates in its support", and chains of links: the least equivalence that holds them
pub data Linked (links : List (List ℕ)) : ℕ → ℕ → Type 0 where
  itself : (a : ℕ) → Linked links a a
  link : (s : List ℕ) (a b : ℕ) → Memᴰ s links → Member a s → Member b s → Linked links a b
  back : {a b : ℕ} → Linked links a b → Linked links b a
  chain : {a b c : ℕ} → Linked links a b → Linked links b c → Linked links a c

-- ---- live dimensions, from the instructions

-- a number for each coordinate such that linked ones have the same (`Classes.class_linked`): a support gives all its classes that of its first entry
abbrev pub merged : (ℕ → ℕ) → List ℕ → ℕ → ℕ
merged f [] c = f c
merged f (a ∷ s) c = if is_in (f c) (map f (a ∷ s)) then f a else f c

abbrev pub class_from : (ℕ → ℕ) → List (List ℕ) → ℕ → ℕ
class_from f [] = f
class_from f (s ∷ ss) = class_from (merged f s) ss

unfoldable pub class_of : List (List ℕ) → ℕ → ℕ
class_of links = class_from (λ c. c) links

-- "Chains gather the roll's entries into sets": the entries of each class, in order; a class with no active entry gives the empty list
unfoldable pub sets_of : ActiveOrder → List (List ℕ)
unfolding class_of
sets_of r = map (λ v. keep (λ a. class_of r.links a == v) r.order) (numbers_from 0 r.next)

-- "The live dimension is the sum of 2^(entries) over these sets"
unfoldable pub live_at : ActiveOrder → ℕ
unfolding sets_of
live_at r = total (map amplitudes (sets_of r))

-- the sets of a moment hold each entry of its order as often as the order does, and two entries stand in one set exactly when a chain joins them
pub record Gathers (r : ActiveOrder) : Type 0 where
  pub whole : Rearranged (concat (sets_of r)) r.order
  pub together :
      (a b : ℕ) → Member a r.order → Member b r.order
      → ((i : ℕ) × Member a (get_or (sets_of r) i []) × Member b (get_or (sets_of r) i [])) ↔ Linked r.links a b

-- "after each join (its links counted, the pivot still on the roll), promotion and removal". A rotation where nothing is active has no join: its moment is as before
unfoldable pub moments_of : ActiveOrder → Instruction → List ActiveOrder
unfolding with_links advanced
moments_of r (Rotation width x z phase angle sine cosine) = with_links r (Rotation width x z phase angle sine cosine) ∷ []
moments_of r (Measurement width x z phase pivot) =
    with_links r (Measurement width x z phase pivot) ∷ active_step r (Measurement width x z phase pivot) ∷ []
moments_of r Promotion = active_step r Promotion ∷ []
moments_of r RecordMeasurement = []
moments_of r RecordDetector = []
moments_of r Expectation = []
moments_of r DormantBranch = []

abbrev pub moments : ActiveOrder → List Instruction → List ActiveOrder
moments r [] = []
moments r (i ∷ is) = moments_of r i ++ moments (active_step r i) is

-- ---- the replayed components (01: the bins), from initial_components, steps, rows and merge list

-- the members by component number
abbrev pub Replayed : Type 0
Replayed = ℕ → List ℕ

-- "each bin i below initial_components begins as [i]"
abbrev pub replay_start : ℕ → Replayed
replay_start k i = if nat_lt i k then i ∷ [] else []

abbrev pub joined_members : Replayed → List ℕ → List ℕ
joined_members b [] = []
joined_members b (s ∷ ss) = b s ++ joined_members b ss

-- "a row joins its listed bins into the first, in order, and empties the others"
abbrev pub replay_join : List ℕ → Replayed → Replayed
replay_join [] b i = b i
replay_join (first ∷ others) b i =
    if i == first then joined_members b (first ∷ others)
    else if is_in i others then []
    else b i

-- step m's kind and payload; the row that a payload names, in rows of so many words; the part of the merge list that a row names
abbrev pub kind_at : Plan → ℕ → ℕ
kind_at p m = get_or p.steps (2 * m) 0

abbrev pub payload_at : Plan → ℕ → ℕ
payload_at p m = get_or p.steps (suc (2 * m)) 0

abbrev pub row_at : (size : ℕ) → (rows : List ℕ) → (payload : ℕ) → List ℕ
row_at size rows payload = take size (drop (size * payload) rows)

abbrev pub rotation_at : Plan → ℕ → List ℕ
rotation_at p m = row_at rotation_words p.rotations (payload_at p m)

abbrev pub measurement_at : Plan → ℕ → List ℕ
measurement_at p m = row_at measurement_words p.measurements (payload_at p m)

abbrev pub promotion_at : Plan → ℕ → ℕ
promotion_at p m = get_or p.promotions (payload_at p m) 0

abbrev pub listed_by : Plan → List ℕ → List ℕ
listed_by p row = take (row_merge_count row) (drop (row_merge_offset row) p.merges)

-- just after the join of record m, by the kind of its step
abbrev pub joined_by : (kind : ℕ) → Plan → ℕ → Replayed → Replayed
joined_by kind p m b =
    if kind == rotation_kind then replay_join (listed_by p (rotation_at p m)) b
    else if kind == measurement_kind then replay_join (listed_by p (measurement_at p m)) b
    else b

-- "a promotion opens the bin that its row names, holding that number; a measurement then drops the member at its local pivot"
abbrev pub replay_promotion : (component : ℕ) → Replayed → Replayed
replay_promotion c b i = if i == c then c ∷ [] else b i

abbrev pub drop_member : (component pivot : ℕ) → Replayed → Replayed
drop_member c pivot b i = if i == c then remove_at pivot (b i) else b i

abbrev pub changed_by : (kind : ℕ) → Plan → ℕ → Replayed → Replayed
changed_by kind p m b =
    if kind == promotion_kind then replay_promotion (promotion_at p m) b
    else if kind == measurement_kind then drop_member (row_component (measurement_at p m)) (measurement_pivot (measurement_at p m)) b
    else b

unfoldable pub replay_joined : Plan → ℕ → Replayed → Replayed
replay_joined p m b = joined_by (kind_at p m) p m b

unfoldable pub replay_after : Plan → ℕ → Replayed
unfolding replay_joined
replay_after p zero = replay_start p.initial_components
replay_after p (suc m) = changed_by (kind_at p m) p m (replay_joined p m (replay_after p m))

-- all members, by ascending number; `Connected.none_beyond` says that no other component has any
abbrev pub replay_members : Plan → Replayed → List ℕ
replay_members p b = concat (map b (numbers_from 0 p.component_count))

pub record AreInOneComponent (p : Plan) (b : Replayed) (c d : ℕ) : Type 0 where
  pub component : ℕ
  pub listed : component < p.component_count
  pub first : Member c (b component)
  pub second : Member d (b component)

-- the greatest length of bin i at the start, after each of n joins and after each of n records
abbrev pub longest_of : Plan → ℕ → ℕ → ℕ
longest_of p zero i = length (replay_after p zero i)
longest_of p (suc m) i = max (longest_of p m i) (max (length (replay_joined p m (replay_after p m) i)) (length (replay_after p (suc m) i)))

-- ---- the claims

-- the members of the component that record m's row names, just after its join
abbrev pub joined_at : Plan → ℕ → (row : List ℕ) → List ℕ
joined_at p m row = replay_joined p m (replay_after p m) (row_component row)

-- member j of a bin stands at a position of the order, and the local bits j are the record's bits there
pub record AreLocalBits (order component : List ℕ) (x z local_x local_z j : ℕ) : Type 0 where
  pub position : ℕ
  pub on_order : position < length order
  pub same : get_or order position 0 ≡ get_or component j 0
  pub x_bit : bit_at local_x j ≡ bit_at x position
  pub z_bit : bit_at local_z j ≡ bit_at z position

-- "Just after a join, with the roll still as before the record": the row's bin
pub record JoinHolds (order support component row : List ℕ) (x z : ℕ) : Type 0 where
  pub whole_support : (a : ℕ) → Member a support → Member a component
  pub local_width : length component ≡ row_width row
  pub bits : (j : ℕ) → j < row_width row → AreLocalBits order component x z (row_x row) (row_z row) j
  pub x_clear : (j : ℕ) → row_width row ≤ j → bit_at (row_x row) j ≡ 0
  pub z_clear : (j : ℕ) → row_width row ≤ j → bit_at (row_z row) j ≡ 0

pub record IsRotationJoin (p : Plan) (m : ℕ) (r : ActiveOrder) (width x z : ℕ) : Type 0 where
  pub kind : kind_at p m ≡ rotation_kind
  pub holds : JoinHolds r.order (support_of width x z r.order) (joined_at p m (rotation_at p m)) (rotation_at p m) x z

-- "for a measurement its member at the local pivot is the roll's entry at the pivot"
pub record IsMeasurementJoin (p : Plan) (m : ℕ) (r : ActiveOrder) (width x z pivot : ℕ) : Type 0 where
  pub kind : kind_at p m ≡ measurement_kind
  pub holds : JoinHolds r.order (support_of width x z r.order) (joined_at p m (measurement_at p m)) (measurement_at p m) x z
  pub pivot_active : pivot < length r.order
  pub pivot_local : measurement_pivot (measurement_at p m) < row_width (measurement_at p m)
  pub pivot_same : get_or (joined_at p m (measurement_at p m)) (measurement_pivot (measurement_at p m)) 0 ≡ get_or r.order pivot 0

-- a rotation where nothing is active has no join
unfoldable pub JoinClaim : Plan → ℕ → ActiveOrder → Instruction → Type 0
JoinClaim p m r (Rotation width x z phase angle sine cosine) = (r.order ≡ []) ⊎ IsRotationJoin p m r width x z
JoinClaim p m r (Measurement width x z phase pivot) = IsMeasurementJoin p m r width x z pivot
JoinClaim p m r Promotion = Unit
JoinClaim p m r RecordMeasurement = Unit
JoinClaim p m r RecordDetector = Unit
JoinClaim p m r Expectation = Unit
JoinClaim p m r DormantBranch = Unit

-- 1 for a promotion, and 1 for a flag-0 measurement
abbrev pub promotions_in : Instruction → ℕ
promotions_in (Rotation width x z phase angle sine cosine) = 0
promotions_in (Measurement width x z phase pivot) = 0
promotions_in Promotion = 1
promotions_in RecordMeasurement = 0
promotions_in RecordDetector = 0
promotions_in Expectation = 0
promotions_in DormantBranch = 0

abbrev pub measurements_in : Instruction → ℕ
measurements_in (Rotation width x z phase angle sine cosine) = 0
measurements_in (Measurement width x z phase pivot) = 1
measurements_in Promotion = 0
measurements_in RecordMeasurement = 0
measurements_in RecordDetector = 0
measurements_in Expectation = 0
measurements_in DormantBranch = 0

-- 01, section 5, claim by claim, for a program of initial_k = k and the instructions `is`, its plan p, and m of its records
pub record Connected (k : ℕ) (is : List Instruction) (p : Plan) (m : ℕ) : Type 0 where
  pub rearrangement : Rearranged (replay_members p (replay_after p m)) (active_after (active_start k) (take m is)).order
  pub no_repeats : NoRepeats (replay_members p (replay_after p m))
  pub none_beyond : (i : ℕ) → p.component_count ≤ i → replay_after p m i ≡ []
  pub all_made : p.component_count ≡ k + total (map promotions_in is)
  pub count : length (replay_members p (replay_after p m)) + total (map measurements_in (take m is)) ≡ k + total (map promotions_in (take m is))
  pub same_component :
      (a b : ℕ) → Member a (active_after (active_start k) (take m is)).order → Member b (active_after (active_start k) (take m is)).order
      → AreInOneComponent p (replay_after p m) a b ↔ Linked (active_after (active_start k) (take m is)).links a b
  pub joins : m < length is → JoinClaim p m (active_after (active_start k) (take m is)) (get_or is m DormantBranch)
  pub gathered : (r : ActiveOrder) → Memᴰ r (active_start k ∷ moments (active_start k) is) → Gathers r
  pub peak : p.peak ≡ greatest (map live_at (active_start k ∷ moments (active_start k) is))
  pub allocated : p.allocated ≡ min (2 ^ 64 - 1) (total (map (λ i. 2 ^ longest_of p (length is) i) (numbers_from 0 p.component_count)))
  pub peak_fits : p.peak ≤ p.allocated
