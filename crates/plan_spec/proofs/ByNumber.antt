-- 02, CR 7, of the table's circuit where number order and order of first members differ: its groups come by number, by computation.
use mathlib.Core.Path.{◌≡◌, refl}
use mathlib.Core.List.{List, [], ◌∷◌, map}
use Prim.Native.Nat.{ℕ}
use lib.ListN.{get_or}
use Rattle.words.specs.Lists.{numbers_from}
use Rattle.plan_spec.specs.Components.{members_of}
use Rattle.plan_spec.specs.Circuits.{answer_of, later_first}
use Rattle.plan_spec.specs.Groups.{group_members, live_below}

-- components 0, 2 and 3 live, and their first members are 4, 2 and 3
abbrev listed : List ℕ
listed = 1 ∷ 4 ∷ 1 ∷ 2 ∷ 2 ∷ 3 ∷ 5 ∷ []

by_number : get_or (answer_of later_first) 7 [] ≡ listed
unfolding answer_of
by_number = refl

-- as they are read; there is no fourth
read_back : map (group_members listed) (numbers_from 0 4) ≡ (4 ∷ []) ∷ (2 ∷ []) ∷ (3 ∷ 5 ∷ []) ∷ [] ∷ []
read_back = refl

-- and so many live components have a number below 0, 1 and so on to 5
counted : map (live_below (members_of ((4 ∷ []) ∷ [] ∷ (2 ∷ []) ∷ (3 ∷ 5 ∷ []) ∷ []))) (numbers_from 0 6) ≡ 0 ∷ 1 ∷ 1 ∷ 2 ∷ 3 ∷ 3 ∷ []
counted = refl
