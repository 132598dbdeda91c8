-- Laws that hold of every state the walk reaches and of every plan: works are numbers or infinite, never negative; whole works are given exactly where
-- the width never passes 38, and there the float works are these numbers; the states that the Rust guards against never occur; the outputs fit the
-- lent buffers; every word of a plan is below 2 ^ 64; every component has its dimension under the ceiling; and which ceilings a plan has.
use Rattle.std.specs.Prelude.{[], ℕ, ◌+◌, ◌*◌, ◌%◌, ◌^◌, ◌≤◌, ◌<◌, ◌≡◌, List, Bool, ℤ, pos, length, get_or, take, Float, Some}
use Rattle.std.specs.Float.{inf, fin, binary64}
use Rattle.std.specs.Float.Ieee.{of_int, to_bits}
use Rattle.std.specs.Float.Ieee.Exact.{HasValue}
use Rattle.words.specs.Words.{bits_word, AreWords}
use Rattle.kernels.specs.Bits.{dimension}
use Rattle.records.specs.Pass.{most_coordinates}
use Rattle.records.specs.declared.Head.{Head}
use Rattle.records.specs.declared.Instruction.{Instruction}
use Rattle.plan_spec.specs.Rows.{measurement_words, rotation_words, step_words, row_width}
use Rattle.plan_spec.specs.Components.{members_of, size_of}
use Rattle.plan_spec.specs.WholeWorks.{widest_counted, WholeWorks, too_wide, without_quotient, with_quotient}
use Rattle.plan_spec.specs.Walk.{Walk, join_of, Written}
use Rattle.plan_spec.specs.Plan.{group_words, most_ceiling, Plan, Lengths}
use Rattle.plan_spec.specs.Connectivity.{Member, active_start, active_after, replay_after, replay_joined}

-- neither a NaN nor negative; 0 is +0
pub data IsNonNegative : Float → Type 0 where
  infinite : IsNonNegative (inf Bool.false)
  number : (m : ℕ) (e : ℤ) → IsNonNegative (fin Bool.false m e)

-- the two works that the choice of section 6 compares
pub record NonNegativeWorks (w : Walk) : Type 0 where
  pub dense : IsNonNegative w.dense_work
  pub component : IsNonNegative w.component_work

-- 02, CR 1: "The float works must equal these numbers wherever they are given": the work is the number's float, as a float and as bits, and it has the number's
-- very value, so that nothing was rounded
pub record IsWhole (work : Float) (whole : ℕ) : Type 0 where
  pub float : work ≡ of_int binary64 (pos whole)
  pub bits : to_bits binary64 work ≡ to_bits binary64 (of_int binary64 (pos whole))
  pub exact : HasValue work Bool.false whole 1

-- what a result's whole works say of its float works; "a quotient with its exact remainder"
abbrev pub Agree : WholeWorks → Float → Float → Type 0
Agree too_wide dense component = Unit
Agree (without_quotient d) dense component = IsWhole dense d × IsWhole component 0
Agree (with_quotient d c quotient remainder) dense component = IsWhole dense d × IsWhole component c × (d ≡ quotient * c + remainder) × (remainder < c)

-- "Where the active width, at the start and after each record, never passes 38", by 01's section 5: the roll after m records, read off the instructions alone
pub record TooWideExactly (initial : ℕ) (is : List Instruction) (works : WholeWorks) : Type 0 where
  pub passes : works ≡ too_wide → (m : ℕ) × (m ≤ length is) × (widest_counted < length (active_after (active_start initial) (take m is)).order)
  pub marked : (m : ℕ) → m ≤ length is → widest_counted < length (active_after (active_start initial) (take m is)).order → works ≡ too_wide

-- What the Rust guards against and 01 gives no number: a state where any of these fails is never met. An active coordinate has a number that was given out
-- (the Rust's "invalid active coordinate") and stands in a component ("active coordinate without a component"); a component's members, joined or not, are
-- active ("tried to remap an inactive coordinate"); every source of a join, the target too, has members ("source is inactive", "target is inactive").
pub record IsWholeWalk (w : Walk) : Type 0 where
  pub coordinate_valid : (a : ℕ) → Member a w.order → a < length w.components
  pub coordinate_held : (a : ℕ) → Member a w.order → (c : ℕ) × (c < length w.components) × Member a (members_of w.components c)
  pub member_active : (a c : ℕ) → Member a (members_of w.components c) → Member a w.order
  pub joined_active : (x z a : ℕ) → Member a (join_of x z w).members → Member a w.order
  pub source_live : (x z c : ℕ) → Member c (join_of x z w).sources → (c < length w.components) × (0 < size_of w.components c)
  pub target_given : (x z : ℕ) → 0 < length w.order → Member (join_of x z w).component (join_of x z w).sources

-- every row's component had fewer members than the limit when it was joined
pub record RowsBelow (limit : ℕ) (o : Written) : Type 0 where
  pub rotation : (i : ℕ) → i < length o.rotations → row_width (get_or o.rotations i []) < limit
  pub measurement : (i : ℕ) → i < length o.measurements → row_width (get_or o.measurements i []) < limit

-- what the outputs of a plan take, with n records: never more than refusal 3 asks for, and a peak that a word holds
pub record Fits (p : Plan) (n : ℕ) : Type 0 where
  pub steps : length p.steps ≤ step_words * n
  pub merges : length p.merges ≤ n + 511
  pub sizes : length p.sizes ≤ most_coordinates
  pub rotations : length p.rotations ≤ rotation_words * n
  pub promotions : length p.promotions ≤ n
  pub measurements : length p.measurements ≤ measurement_words * n
  pub groups : length p.groups ≤ group_words
  pub peak : p.peak < 2 ^ 63

-- so the outputs fit the lent buffers
pub record FitsIn (p : Plan) (l : Lengths) : Type 0 where
  pub steps : length p.steps ≤ l.steps
  pub merges : length p.merges ≤ l.merges
  pub sizes : length p.sizes ≤ l.sizes
  pub rotations : length p.rotations ≤ l.rotations
  pub promotions : length p.promotions ≤ l.promotions
  pub measurements : length p.measurements ≤ l.measurements
  pub groups : length p.groups ≤ l.groups

-- every word of a plan's first six outputs and of its scalar fields, the works as bits
pub record HasPlanWords (p : Plan) : Type 0 where
  pub steps : AreWords p.steps
  pub merges : AreWords p.merges
  pub sizes : AreWords p.sizes
  pub rotations : AreWords p.rotations
  pub promotions : AreWords p.promotions
  pub measurements : AreWords p.measurements
  pub initial_components : p.initial_components < 2 ^ 64
  pub component_count : p.component_count < 2 ^ 64
  pub dense_work : bits_word p.dense_work < 2 ^ 64
  pub component_work : bits_word p.component_work < 2 ^ 64
  pub dense_peak : p.dense_peak < 2 ^ 64
  pub peak : p.peak < 2 ^ 64
  pub allocated : p.allocated < 2 ^ 64

-- 02, CR 2: what reading asks of the counts holds of every plan, steps and rows being whole; and so many words are stored at most, of n records and of any
pub record HasPlanCounts (n : ℕ) (p : Plan) : Type 0 where
  pub steps : length p.steps % step_words ≡ 0
  pub sizes : length p.sizes ≡ p.component_count
  pub rotations : length p.rotations % rotation_words ≡ 0
  pub measurements : length p.measurements % measurement_words ≡ 0
  pub most : length p.steps + length p.merges + length p.sizes + length p.rotations + length p.promotions + length p.measurements ≤ 24 * n + 1023
  pub few : length p.steps + length p.merges + length p.sizes + length p.rotations + length p.promotions + length p.measurements ≤ 24 * 1024 + 1023

-- ---- 02, CR 4

-- so many members have a dimension, which is the power of two
abbrev pub HasDimension : ℕ → ℕ → Type 0
HasDimension ceiling size = dimension ceiling size ≡ Some (2 ^ size)

-- "Everything that asks for a dimension follows: kernels, live sums, allocation". Of a plan of n records that were read: the components after each record (whose powers
-- the live dimension adds up), just after each join (whose power the record's kernel halves), and at their longest (whose powers are allocated)
pub record HasDimensions (ceiling n : ℕ) (p : Plan) : Type 0 where
  pub live : (m c : ℕ) → m ≤ n → HasDimension ceiling (length (replay_after p m c))
  pub joined : (m c : ℕ) → m < n → HasDimension ceiling (length (replay_joined p m (replay_after p m) c))
  pub longest : (c : ℕ) → HasDimension ceiling (get_or p.sizes c 0)

-- the same program on a controller of another ceiling
abbrev pub under : ℕ → Head → Head
under ceiling h = record { initial_k = h.initial_k; max_k = h.max_k; nexpvals = h.nexpvals; ceiling = ceiling }

-- what a ceiling asks of a program that has a plan: 24, 1 and 14 do not refuse it
pub record HoldsPlan (ceiling : ℕ) (h : Head) (p : Plan) : Type 0 where
  pub least : 1 ≤ ceiling
  pub most : ceiling ≤ most_ceiling
  pub max_below : h.max_k < ceiling
  pub sizes_below : (c : ℕ) → get_or p.sizes c 0 < ceiling
