-- Components of active coordinates, as ordered members by component number: which are touched, joined into which, at what cost, and what the local bits are.
-- Written from 01, section 4. A component that was joined away or emptied has no members.
use Rattle.std.specs.Prelude.{ℕ, zero, suc, ◌+◌, ◌-◌, ◌*◌, ◌/◌, ◌%◌, ◌^◌, min, List, [], ◌∷◌, ◌++◌, map, false, length, get_or, set, take, pos, Float, if◌then◌else◌, nat_lt, ◌==◌}
use Rattle.std.specs.Float.{fin, binary64}
use Rattle.std.specs.Float.Ieee.{add, mul}
use Rattle.kernels.specs.Bits.{bit_at, exp2}
use Rattle.plan_spec.specs.Lists.{meet, without, place_of, total}

abbrev pub members_of : List (List ℕ) → ℕ → List ℕ
members_of cs c = get_or cs c []

abbrev pub size_of : List (List ℕ) → ℕ → ℕ
size_of cs c = length (members_of cs c)

-- "the active positions ... set in x or z": the coordinates at these positions. Bits at or above the width meet no position
abbrev pub support : (x z : ℕ) → (order : List ℕ) → List ℕ
support x z [] = []
support x z (c ∷ order) =
    let rest = support (x / 2) (z / 2) order in
    if x % 2 + z % 2 == 0 then rest else c ∷ rest

-- "if none, the component of the first active coordinate"
abbrev pub or_first : List ℕ → List ℕ → List ℕ
or_first order [] = take 1 order
or_first order (c ∷ s) = c ∷ s

-- the coordinates whose components an instruction touches
abbrev pub reached : (x z : ℕ) → (order : List ℕ) → List ℕ
reached x z order = or_first order (support x z order)

-- "Touched: components of" these coordinates, ascending; n is the number of the first component listed
abbrev pub meeting : ℕ → List ℕ → List (List ℕ) → List ℕ
meeting n s [] = []
meeting n s (m ∷ cs) =
    let rest = meeting (suc n) s cs in
    if meet s m then n ∷ rest else rest

unfoldable pub touched : (x z : ℕ) → (order : List ℕ) → (components : List (List ℕ)) → List ℕ
touched x z order cs = meeting 0 (reached x z order) cs

-- "the largest touched, smallest number on a tie": a later one has to be larger
abbrev pub larger : List (List ℕ) → ℕ → ℕ → ℕ
larger cs best c = if nat_lt (size_of cs best) (size_of cs c) then c else best

abbrev pub largest : List (List ℕ) → ℕ → List ℕ → ℕ
largest cs best [] = best
largest cs best (c ∷ rest) = largest cs (larger cs best c) rest

-- "Sources: target, then the others ascending"
unfoldable pub sources_of : List (List ℕ) → List ℕ → List ℕ
sources_of cs [] = []
sources_of cs (c ∷ rest) = let target = largest cs c rest in target ∷ without target (c ∷ rest)

-- "A join appends, in that order, the ordered members of each source but the target to the target's"
abbrev pub gathered : List (List ℕ) → List ℕ → List ℕ
gathered cs [] = []
gathered cs (s ∷ ss) = members_of cs s ++ gathered cs ss

-- "those other sources never live again"
abbrev pub emptied : List ℕ → List (List ℕ) → List (List ℕ)
emptied [] cs = cs
emptied (s ∷ ss) cs = emptied ss (set cs s [])

unfoldable pub joined : List (List ℕ) → List ℕ → List (List ℕ)
joined cs [] = cs
joined cs (target ∷ others) = set (emptied others cs) target (gathered cs (target ∷ others))

-- the float 2
abbrev pub float_two : Float
float_two = fin false 1 (pos 1)

-- "the sum, from 0, of 2·2^(size so far) after each source but the target"
abbrev pub cost_from : List (List ℕ) → ℕ → Float → List ℕ → Float
cost_from cs size sum [] = sum
cost_from cs size sum (s ∷ ss) =
    let grown = size + size_of cs s in
    cost_from cs grown (add binary64 sum (mul binary64 float_two (exp2 grown))) ss

unfoldable pub joining_cost : List (List ℕ) → List ℕ → Float
joining_cost cs [] = fin false 0 (pos 0)
joining_cost cs (target ∷ others) = cost_from cs (size_of cs target) (fin false 0 (pos 0)) others

-- "Live dimension is the sum of 2^size over live components"
abbrev pub amplitudes : List ℕ → ℕ
amplitudes [] = zero
amplitudes (a ∷ rest) = 2 ^ suc (length rest)

unfoldable pub live_dimension : List (List ℕ) → ℕ
live_dimension cs = total (map amplitudes cs)

-- "Allocated is the sum of 2^(longest size ever) over all components, or 2^64 - 1 if that is smaller"
unfoldable pub allocated_for : List ℕ → ℕ
allocated_for longest = min (2 ^ 64 - 1) (total (map (λ l. 2 ^ l) longest))

-- "Local bit j is the global bit at the position of the component's j-th member"
abbrev pub local_mask : ℕ → List ℕ → List ℕ → ℕ
local_mask mask order [] = zero
local_mask mask order (c ∷ members) = bit_at mask (place_of c order) + 2 * local_mask mask order members
