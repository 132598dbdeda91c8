-- The works as whole numbers, and what the result says of them. Written from 02, CR 1, with the costs of 01, section 4. No float stands here.
use Rattle.std.specs.Prelude.{ℕ, ◌+◌, ◌*◌, ◌/◌, ◌%◌, ◌^◌, max, List, [], ◌∷◌, length, if◌then◌else◌, nat_lt, ◌==◌}
use Rattle.plan_spec.specs.Components.{size_of}

-- both works so far, and the widest active width so far
pub record WholeSums : Type 0 where
  pub dense : ℕ
  pub component : ℕ
  pub widest : ℕ

-- "the active width, at the start", of this order
abbrev pub first_sums : List ℕ → WholeSums
first_sums order = record { dense = 0; component = 0; widest = length order }

-- "and after each record": so much work more, and the order that the record leaves
abbrev pub with_works : (dense component : ℕ) → (order : List ℕ) → WholeSums → WholeSums
with_works dense component order s = record {
  dense = s.dense + dense;
  component = s.component + component;
  widest = max s.widest (length order);
}

-- 01: "the sum, from 0, of 2·2^(size so far) after each source but the target"
abbrev pub whole_cost_from : List (List ℕ) → ℕ → List ℕ → ℕ
whole_cost_from cs size [] = 0
whole_cost_from cs size (s ∷ ss) =
    let grown = size + size_of cs s in
    2 * 2 ^ grown + whole_cost_from cs grown ss

unfoldable pub whole_joining_cost : List (List ℕ) → List ℕ → ℕ
whole_joining_cost cs [] = 0
whole_joining_cost cs (target ∷ others) = whole_cost_from cs (size_of cs target) others

-- what the result says: "marked too wide"; "no quotient", where the component work is 0; both works, "dense divided by component as a quotient with its exact remainder"
pub data WholeWorks : Type 0 where
  too_wide : WholeWorks
  without_quotient : (dense : ℕ) → WholeWorks
  with_quotient : (dense component quotient remainder : ℕ) → WholeWorks

abbrev pub quotient_of : (dense component : ℕ) → WholeWorks
quotient_of dense component =
    if component == 0 then without_quotient dense
    else with_quotient dense component (dense / component) (dense % component)

-- "Where the active width ... never passes 38"
abbrev pub widest_counted : ℕ
widest_counted = 38

unfoldable pub whole_works_of : WholeSums → WholeWorks
whole_works_of s = if nat_lt widest_counted s.widest then too_wide else quotient_of s.dense s.component

-- the mark 0, 1 or 2, dense, component, quotient and remainder, as words: 0 for what a mark does not give
abbrev pub whole_words : WholeWorks → List ℕ
whole_words too_wide = 0 ∷ 0 ∷ 0 ∷ 0 ∷ 0 ∷ []
whole_words (without_quotient dense) = 1 ∷ dense ∷ 0 ∷ 0 ∷ 0 ∷ []
whole_words (with_quotient dense component quotient remainder) = 2 ∷ dense ∷ component ∷ quotient ∷ remainder ∷ []
