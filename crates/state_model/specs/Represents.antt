-- How the state's arrays stand for a state of the definition's walk.
use Rattle.std.specs.Prelude.{ℕ, ◌<◌, ◌≡◌, List, length, get_or}
use Rattle.state.specs.declared.State.{State}
use Rattle.state.specs.Steps.{Shape}
use Rattle.plan_spec.specs.Components.{members_of, size_of}

-- by active position: the coordinate there
pub record Ordered (xs order : List ℕ) : Type 0 where
  pub entry : (p : ℕ) → p < length order → get_or xs p 0 ≡ get_or order p 0
  pub long : length xs ≡ 512

-- by active position: the coordinate there is the member of its component at its place; by
-- component number: how many members it has
pub record Represents (s : State) (order : List ℕ) (cs : List (List ℕ)) : Type 0 where
  pub width : s.width ≡ length order
  pub count : s.count ≡ length cs
  pub component : (p : ℕ) → p < length order → get_or s.component p 0 < length cs
  pub place : (p : ℕ) → p < length order → get_or s.place p 0 < size_of cs (get_or s.component p 0)
  pub member : (p : ℕ) → p < length order
      → get_or (members_of cs (get_or s.component p 0)) (get_or s.place p 0) 0 ≡ get_or order p 0
  pub size : (c : ℕ) → c < length cs → get_or s.size c 0 ≡ size_of cs c
  pub shape : Shape s
