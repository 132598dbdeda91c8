-- What is claimed of every list of operations and its preserved prefixes: 02, CR 6, "Also wanted". All is said of places in the input, of the input's operations
-- and of what is left in order, in the words of an operation: what the passes themselves test is not named here.
use Rattle.std.specs.Prelude.{ℕ, ◌+◌, ◌<◌, ◌≤◌, ◌≡◌, ◌≢◌, ◌⊎◌, ◌↔◌, List, [], map, true, false, length, get_or, if◌then◌else◌, nat_eq, nat_lt}
use Rattle.std.specs.List.{All, AllPairs, Contains, filter, count_by}
use Rattle.pending.specs.Operation.{Operation, is_rotation, is_measurement, has_string, same_string, strings_commute, conditions_of, word}
use Rattle.optimizer_spec.specs.Passes.{Placed, Pair}
use Rattle.optimizer_spec.specs.Optimizing.{ends_of, segments_of, operations_in, pairs_in, mapped}

-- how often a place stands in a list
abbrev pub times : ℕ → List ℕ → ℕ
times p ps = count_by (nat_eq p) ps

module _ (os : List Operation) (prefixes : List ℕ) where
  -- the input's operation at a place
  abbrev pub input : ℕ → Operation
  input p = get_or os p []

  -- what is left, in order
  abbrev pub output : List Placed
  output = operations_in (segments_of os prefixes)

  -- the fused pairs, cancelled ones too
  abbrev pub fusions : List Pair
  fusions = pairs_in (segments_of os prefixes)

  -- word p of the map
  abbrev pub boundary_of : ℕ → ℕ
  boundary_of p = mapped (ends_of (length os) prefixes) (segments_of os prefixes) p

  -- "two surviving operations (a fused pair counts as the one whose place it keeps) change order only if one is a measurement, the other a rotation, and they
  -- commute": a stands before b
  abbrev pub AreOrdered : Placed → Placed → Type 0
  AreOrdered a b =
      (a.place < b.place)
      ⊎ ((is_measurement a.operation ≡ true) × (is_rotation b.operation ≡ true) × (strings_commute a.operation b.operation ≡ true))

  pub record IsPreserved (p : ℕ) : Type 0 where
    -- "nothing crosses a preserved prefix": what is left stands before its boundary exactly if its place does
    pub sides : (i : ℕ) (d : Placed) → i < length output → (i < boundary_of p) ↔ ((get_or output i d).place < p)
    -- no pair has its two on different sides
    pub pairs : All (λ pair. (pair.earlier < p) ↔ (pair.later < p)) fusions
    -- the boundary is one of what is left
    pub within : boundary_of p ≤ length output

  pub record IsLegal (pair : Pair) : Type 0 where
    -- "the one whose place it keeps" is the later one
    pub ascending : pair.earlier < pair.later
    pub inside : pair.later < length os
    -- two rotations
    pub rotations : (is_rotation (input pair.earlier) ≡ true) × (is_rotation (input pair.later) ≡ true)
    -- about one string
    pub string : same_string (input pair.earlier) (input pair.later) ≡ true
    -- whose signs differ in the constant at most
    pub conditions : conditions_of (input pair.earlier) ≡ conditions_of (input pair.later)
    -- "between the two of a fused pair, at that moment, are only classical records and operations commuting with the earlier one": and so are all operations of
    -- the input between them
    pub between : (r : ℕ) → pair.earlier < r → r < pair.later
        → (has_string (input r) ≡ false) ⊎ (strings_commute (input pair.earlier) (input r) ≡ true)

  -- of an operation that is left
  pub record IsKept (o : Placed) : Type 0 where
    pub inside : o.place < length os
    -- it is its input's, unless a pair was fused into it
    pub whole : times o.place (map (λ pair. pair.later) fusions) ≡ 0 → o.operation ≡ input o.place
    -- and then all words but angle, phase and constant are
    pub rest : (j : ℕ) → j ≢ 1 → j ≢ 4 → j ≢ 5 → word o.operation j ≡ word (input o.place) j
    -- all words are there, zeros at the end too
    pub size : length o.operation ≡ length (input o.place)

  pub record Claims : Type 0 where
    pub ordered : AllPairs AreOrdered output
    pub preserved : (p : ℕ) → Contains prefixes p → p ≤ length os → IsPreserved p
    pub legal : All IsLegal fusions
    pub kept : All IsKept output
    -- each place of the input is that of an operation that is left, or of the earlier of a pair, or of the later of a cancelled one, once
    pub each_once : (p : ℕ) →
        times p (map (λ o. o.place) output)
        + times p (map (λ pair. pair.earlier) fusions)
        + times p (map (λ pair. pair.later) (filter (λ pair. pair.cancelled) fusions))
        ≡ (if nat_lt p (length os) then 1 else 0)
    -- "output = input - fused - cancelled"
    pub counts : length output + length fusions + count_by (λ pair. pair.cancelled) fusions ≡ length os
