-- What the contracts of the crate `state` say: the state's arrays after each step, entry by entry. 01, section 4.
use Rattle.std.specs.Prelude.{ℕ, suc, ◌+◌, ◌-◌, ◌<◌, ◌≤◌, ◌≡◌, List, [], ◌∷◌, length, get_or, set, drop, replicate, if◌then◌else◌, nat_lt, ◌==◌}
use Rattle.masks.specs.Positions.{Below512}
use Rattle.state.specs.declared.State.{State}

-- ---- the active order

-- "coordinates 0 to initial_k - 1 in order"
pub record InOrder (k : ℕ) (order : List ℕ) : Type 0 where
  pub entry : (p : ℕ) → p < k → get_or order p 0 ≡ p
  pub long : length order ≡ 512

-- the position before a removal of what stands at p after it
abbrev pub skip : ℕ → ℕ → ℕ
skip pivot p = if nat_lt p pivot then p else suc p

-- "the coordinate at the pivot's active position leaves, the order otherwise kept"
pub record Closed (pivot last : ℕ) (before after : List ℕ) : Type 0 where
  pub entry : (p : ℕ) → p < last → get_or after p 0 ≡ get_or before (skip pivot p) 0
  pub long : length after ≡ 512

-- ---- the state

-- the arrays have 512 entries each, and every component number stands below 512
pub record Shape (s : State) : Type 0 where
  pub components : length s.component ≡ 512
  pub places : length s.place ≡ 512
  pub sizes : length s.size ≡ 512
  pub small : Below512 s.component

-- "Start: coordinates 0 to initial_k - 1 in order, each alone in the component of its number"
pub record Started (k : ℕ) (r : State) : Type 0 where
  pub component : (p : ℕ) → p < k → get_or r.component p 0 ≡ p
  pub place : (p : ℕ) → p < k → get_or r.place p 0 ≡ 0
  pub size : (c : ℕ) → c < k → get_or r.size c 0 ≡ 1
  pub width : r.width ≡ k
  pub count : r.count ≡ k
  pub shape : Shape r

-- ---- a join

-- by how much the places of each component's members rise, the sizes, and how many members the target has so far
pub record Gathering : Type 0 where
  pub rise : List ℕ
  pub sizes : List ℕ
  pub grown : ℕ

-- the members of each source but the target go behind those that are there
abbrev pub gather_from : List ℕ → Gathering → Gathering
gather_from [] g = g
gather_from (s ∷ ss) g =
    gather_from ss (record { rise = set g.rise s g.grown; sizes = set g.sizes s 0; grown = g.grown + get_or g.sizes s 0 })

abbrev pub target_of : List ℕ → ℕ
target_of sources = get_or sources 0 0

unfoldable pub gathering : List ℕ → List ℕ → Gathering
gathering size sources = gather_from (drop 1 sources) (record { rise = replicate 512 0; sizes = size; grown = get_or size (target_of sources) 0 })

abbrev pub sizes_after : List ℕ → List ℕ → List ℕ
sizes_after size sources = set (gathering size sources).sizes (target_of sources) (gathering size sources).grown

-- the rise of the position's members
abbrev pub rise_at : State → List ℕ → ℕ → ℕ
rise_at s sources p = get_or (gathering s.size sources).rise (get_or s.component p 0) 0

-- what the sources of a join have to be: some, each a component's number, and members in all so few that a place holds their number
pub record Joinable (size sources : List ℕ) : Type 0 where
  pub some : 0 < length sources
  pub numbers : (i : ℕ) → get_or sources i 0 < 512
  pub few : (gathering size sources).grown ≤ 255

pub record Joined (s : State) (sources : List ℕ) (r : State) : Type 0 where
  pub component : (p : ℕ) → p < s.width → get_or r.component p 0 ≡ (if (rise_at s sources p == 0) then get_or s.component p 0 else target_of sources)
  pub place : (p : ℕ) → p < s.width → get_or r.place p 0 ≡ get_or s.place p 0 + rise_at s sources p
  pub size : r.size ≡ sizes_after s.size sources
  pub width : r.width ≡ s.width
  pub count : r.count ≡ s.count
  pub shape : Shape r

-- what a state has to be for a join of the sources
pub record BeforeJoin (s : State) (sources : List ℕ) : Type 0 where
  pub shape : Shape s
  pub narrow : s.width ≤ 512
  pub joinable : Joinable s.size sources
  pub places : (p : ℕ) → p < s.width → get_or s.place p 0 + rise_at s sources p ≤ 255

-- ---- "a new coordinate and component, both next numbers"

-- room for one coordinate and one component more
pub record BeforePromotion (s : State) : Type 0 where
  pub width : s.width < 512
  pub count : s.count < 512

unfoldable pub promoted : State → State
promoted s = record {
  component = set s.component s.width s.count;
  place = set s.place s.width 0;
  size = set s.size s.count 1;
  width = s.width + 1;
  count = s.count + 1;
}

-- ---- "the coordinate at the pivot's active position leaves, the order otherwise kept"

-- the place j of a member of c, after the member at place q of the component t has left
abbrev pub lowered : ℕ → ℕ → ℕ → ℕ → ℕ
lowered t q c j = if (c == t) then (if nat_lt q j then j - 1 else j) else j

pub record Removed (s : State) (pivot : ℕ) (r : State) : Type 0 where
  pub component : (p : ℕ) → suc p < s.width → get_or r.component p 0 ≡ get_or s.component (skip pivot p) 0
  pub place : (p : ℕ) → suc p < s.width
      → get_or r.place p 0 ≡ lowered (get_or s.component pivot 0) (get_or s.place pivot 0) (get_or s.component (skip pivot p) 0) (get_or s.place (skip pivot p) 0)
  pub size : r.size ≡ set s.size (get_or s.component pivot 0) (get_or s.size (get_or s.component pivot 0) 0 - 1)
  pub width : r.width ≡ s.width - 1
  pub count : r.count ≡ s.count
  pub shape : Shape r

pub record BeforeRemoval (s : State) (pivot : ℕ) : Type 0 where
  pub shape : Shape s
  pub narrow : s.width ≤ 512
  pub active : pivot < s.width
  pub member : 0 < get_or s.size (get_or s.component pivot 0) 0
