-- 02, CR 3: what stands in the merge list for a join, "after the target ... all other touched components, each once, strictly ascending, and nothing else". Touched and
-- target are 01's sentences, section 4, over the active order and the members of each component by number; nothing here says how sources are found.
use Rattle.std.specs.Prelude.{ℕ, ◌+◌, ◌≤◌, ◌<◌, ◌≡◌, ◌⊎◌, List, [], ◌∷◌, length, get_or, take}
use Rattle.kernels.specs.Bits.{bit_at}
use Rattle.records.specs.declared.Instruction.{Instruction}
use Rattle.records.specs.declared.Instruction.TheVariants.{Rotation, Promotion, RecordMeasurement, RecordDetector, Measurement, Expectation, DormantBranch}
use Rattle.plan_spec.specs.Rows.{rotation_kind, measurement_kind, row_component, row_merge_offset, row_merge_count}
use Rattle.plan_spec.specs.Components.{members_of}
use Rattle.plan_spec.specs.Walk.{Walk, join_of}
use Rattle.plan_spec.specs.Plan.{Plan}
use Rattle.plan_spec.specs.Connectivity.{Member, NoRepeats, active_start, active_after, Replayed, kind_at, payload_at, rotation_at, measurement_at, listed_by, replay_after}

-- ---- the sources of a join

-- "the active positions below k set in x or z"; k, "the active width before an instruction", is the length of the order
abbrev pub IsSetBelow : (width x z position : ℕ) → Type 0
IsSetBelow k x z p = (p < k) × ((bit_at x p ≡ 1) ⊎ (bit_at z p ≡ 1))

-- "Touched: components of the active positions below k set in x or z; if none, the component of the first active coordinate"
pub data IsTouched (order : List ℕ) (components : Replayed) (x z c : ℕ) : Type 0 where
  position : (p : ℕ) → IsSetBelow (length order) x z p → Member (get_or order p 0) (components c) → IsTouched order components x z c
  first : ((p : ℕ) → IsSetBelow (length order) x z p → ⊥) → 0 < length order → Member (get_or order 0 0) (components c) → IsTouched order components x z c

-- "Target: the largest touched, smallest number on a tie"
pub record IsTarget (order : List ℕ) (components : Replayed) (x z target : ℕ) : Type 0 where
  pub touched : IsTouched order components x z target
  pub largest : (c : ℕ) → IsTouched order components x z c → length (components c) ≤ length (components target)
  pub smallest : (c : ℕ) → IsTouched order components x z c → length (components c) ≡ length (components target) → target ≤ c

-- "strictly ascending": each entry is below all that stand after it
pub data IsAscending : List ℕ → Type 0 where
  none : IsAscending []
  more : {a : ℕ} {xs : List ℕ} → ((b : ℕ) → Member b xs → a < b) → IsAscending xs → IsAscending (a ∷ xs)

-- "after the target stand all other touched components, each once, strictly ascending, and nothing else". `Sources.sources_unique`: one list only is that
pub record AreSources (order : List ℕ) (components : Replayed) (x z : ℕ) (listed : List ℕ) : Type 0 where
  pub target : ℕ
  pub others : List ℕ
  pub parts : listed ≡ target ∷ others
  pub chosen : IsTarget order components x z target
  pub all : (c : ℕ) → IsTouched order components x z c → Member c listed
  pub once : NoRepeats listed
  pub ascending : IsAscending others
  pub nothing_else : (c : ℕ) → Member c listed → IsTouched order components x z c

-- the sources of the join that any masks make in this state of the walk
abbrev pub JoinsListed : Walk → Type 0
JoinsListed w = (x z : ℕ) → 0 < length w.order → AreSources w.order (members_of w.components) x z (join_of x z w).sources

-- ---- the rows of a plan

-- the row of record m's join: its part lies inside the merge list and is the join's sources, of which the first is the row's component
pub record IsListed (p : Plan) (m kind : ℕ) (row order : List ℕ) (x z : ℕ) : Type 0 where
  pub kind_is : kind_at p m ≡ kind
  pub inside : row_merge_offset row + row_merge_count row ≤ length p.merges
  pub component : row_component row ≡ get_or (listed_by p row) 0 0
  pub sources : AreSources order (replay_after p m) x z (listed_by p row)

-- step m names no row that has a part of the merge list
abbrev pub HasNoPart : Plan → ℕ → Type 0
HasNoPart p m = (kind_at p m ≡ rotation_kind → ⊥) × (kind_at p m ≡ measurement_kind → ⊥)

-- record m, with the order before it: a rotation where coordinates are active and a flag-0 measurement join, and no other record does
unfoldable pub ListedClaim : Plan → ℕ → List ℕ → Instruction → Type 0
ListedClaim p m order (Rotation width x z phase angle sine cosine) = ((order ≡ []) × HasNoPart p m) ⊎ IsListed p m rotation_kind (rotation_at p m) order x z
ListedClaim p m order (Measurement width x z phase pivot) = IsListed p m measurement_kind (measurement_at p m) order x z
ListedClaim p m order Promotion = HasNoPart p m
ListedClaim p m order RecordMeasurement = HasNoPart p m
ListedClaim p m order RecordDetector = HasNoPart p m
ListedClaim p m order Expectation = HasNoPart p m
ListedClaim p m order DormantBranch = HasNoPart p m

-- row i of a kind is that of a record
abbrev pub IsRowOf : (records : ℕ) → Plan → (kind i : ℕ) → Type 0
IsRowOf records p kind i = (m : ℕ) × (m < records) × (kind_at p m ≡ kind) × (payload_at p m ≡ i)

-- CR 3 of a plan of so many rotation rows and measurement rows: each join's row lists its sources, and each row is that of a join
pub record SourcesListed (k : ℕ) (is : List Instruction) (p : Plan) (rotations measurements : ℕ) : Type 0 where
  pub joins : (m : ℕ) → m < length is → ListedClaim p m (active_after (active_start k) (take m is)).order (get_or is m DormantBranch)
  pub rotation : (i : ℕ) → i < rotations → IsRowOf (length is) p rotation_kind i
  pub measurement : (i : ℕ) → i < measurements → IsRowOf (length is) p measurement_kind i
