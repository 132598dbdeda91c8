-- A worked program of all six kinds of record that meets the premises of `connected`: a chain through a measured coordinate, mask bits above the width, an
-- identity rotation and an expectation with unread words. Each claim's figures are computed, from the instructions and from the plan's words apart, and compared.
-- The plan is the Rust's answer, the fourth in tests/reference/further.expected.
use mathlib.Core.Path.{◌≡◌, refl}
use mathlib.Core.List.{List, [], ◌∷◌, ◌++◌, map}
use mathlib.Core.Bool.{false}
use Prim.Native.Nat.{ℕ, ◌≤◌}
use native.Mathlib.Omega.{arith}
use lib.ListN.{length, get_or, take}
use lib.IntN.{pos}
use lib.Ieee.{fin}
use Rattle.refusals.specs.Answer.{completed}
use Rattle.words.specs.Lists.{numbers_from}
use Rattle.records.specs.Record.{instructions_of}
use Rattle.records.specs.declared.Head.{Head}
use Rattle.records.specs.declared.Instruction.{Instruction}
use Rattle.plan_spec.specs.WholeWorks.{with_quotient}
use Rattle.plan_spec.specs.Plan.{Plan, plan_of}
use Rattle.plan_spec.specs.Circuits.{enough}
use Rattle.plan_spec.specs.Connectivity.{ActiveOrder, active_start, active_after, with_links, advanced, sets_of, live_at, moments_of, moments, replay_joined, replay_after, longest_of, measurement_at, Connected, replay_members, rotation_at}
use Rattle.plan_spec.specs.Groups.{group_members, live_below, GroupsListed}
use Rattle.plan_spec.proofs.Connected.{connected}
use Rattle.plan_spec.proofs.Groups.{groups_in_order}

-- 1.0 as bits
abbrev one : ℕ
one = 0x3FF0_0000_0000_0000

abbrev head : Head
head = record { initial_k = 4; max_k = 8; nexpvals = 0; ceiling = 62 }

abbrev words : List ℕ
words =
    0 ∷ 4 ∷ 3 ∷ 0 ∷ 0 ∷ 0 ∷ 0 ∷ one
    ∷ 0 ∷ 4 ∷ 0 ∷ 6 ∷ 0 ∷ 0 ∷ 0 ∷ one
    ∷ 2 ∷ 0 ∷ 0 ∷ 0 ∷ 0 ∷ 0 ∷ 0 ∷ 0
    ∷ 4 ∷ 4 ∷ 2 ∷ 0 ∷ 0 ∷ 1 ∷ 0 ∷ 0
    ∷ 1 ∷ 0 ∷ 0 ∷ 0 ∷ 0 ∷ 0 ∷ 0 ∷ 0
    ∷ 3 ∷ 0 ∷ 0 ∷ 0 ∷ 0 ∷ 0 ∷ 0 ∷ 0
    ∷ 4 ∷ 9 ∷ 9 ∷ 9 ∷ 9 ∷ 9 ∷ 1 ∷ 9
    ∷ 0 ∷ 4 ∷ 28 ∷ 0 ∷ 0 ∷ 0 ∷ 0 ∷ one
    ∷ 5 ∷ 0 ∷ 0 ∷ 0 ∷ 0 ∷ 0 ∷ 0 ∷ 0
    ∷ 0 ∷ 4 ∷ 0 ∷ 0 ∷ 0 ∷ 0 ∷ 0 ∷ one
    ∷ []

-- what follows a row's first six words: even phase 1, odd phase -1, no overlap; a diagonal kernel, and one with x = 3
abbrev phases : List ℕ
phases = one ∷ 0 ∷ 0xBFF0_0000_0000_0000 ∷ 0x8000_0000_0000_0000 ∷ 0 ∷ []

abbrev diagonal_tail : List ℕ
diagonal_tail = phases ++ (1 ∷ 0 ∷ 0 ∷ 0 ∷ 0 ∷ 0 ∷ one ∷ 0 ∷ 0 ∷ 0 ∷ [])

abbrev pair_tail : List ℕ
pair_tail = phases ++ (0 ∷ 1 ∷ 0 ∷ 1 ∷ 2 ∷ 0 ∷ one ∷ 0 ∷ 0 ∷ 0 ∷ [])

abbrev plan : Plan
plan = record {
  selected = false;
  initial_components = 4;
  component_count = 5;
  dense_work = fin false 7 (pos 4);
  component_work = fin false 131 (pos 1);
  dense_peak = 256;
  peak = 10;
  allocated = 18;
  whole_works = with_quotient 112 262 0 112;
  steps = 2 ∷ 0 ∷ 2 ∷ 1 ∷ 0 ∷ 0 ∷ 4 ∷ 0 ∷ 3 ∷ 0 ∷ 0 ∷ 0 ∷ 0 ∷ 0 ∷ 2 ∷ 2 ∷ 0 ∷ 0 ∷ 2 ∷ 3 ∷ [];
  merges = 0 ∷ 1 ∷ 0 ∷ 2 ∷ 0 ∷ 3 ∷ 4 ∷ 0 ∷ [];
  sizes = 3 ∷ 1 ∷ 1 ∷ 2 ∷ 1 ∷ [];
  rotations =
      (0 ∷ 0 ∷ 2 ∷ 2 ∷ 3 ∷ 0 ∷ pair_tail)
      ++ ((0 ∷ 2 ∷ 2 ∷ 3 ∷ 0 ∷ 6 ∷ diagonal_tail)
      ++ ((3 ∷ 5 ∷ 2 ∷ 2 ∷ 3 ∷ 0 ∷ pair_tail)
      ++ (0 ∷ 7 ∷ 1 ∷ 2 ∷ 0 ∷ 0 ∷ diagonal_tail)));
  promotions = 4 ∷ [];
  measurements = 0 ∷ 4 ∷ 1 ∷ 3 ∷ 2 ∷ 0 ∷ (phases ++ (1 ∷ 0 ∷ 0 ∷ 0 ∷ 4 ∷ 0x3FE6_A09E_667F_3BCD ∷ 0x8000_0000_0000_0000 ∷ 0 ∷ []));
  groups = 2 ∷ 0 ∷ 2 ∷ 2 ∷ 3 ∷ 4 ∷ [];
}

pub premise : plan_of head words (enough 10) ≡ completed plan
unfolding plan_of
premise = refl

pub worked : (m : ℕ) → m ≤ length (instructions_of words) → Connected 4 (instructions_of words) plan m
worked m h = connected head words (enough 10) plan premise (omega arith) refl m h

-- ---- the figures, after 0 to 10 records

abbrev instructions : List Instruction
instructions = instructions_of words

abbrev active_at : ℕ → ActiveOrder
active_at m = active_after (active_start 4) (take m instructions)

-- the active order, from the instructions
orders :
    map (λ m. (active_at m).order) (numbers_from 0 11)
    ≡ (0 ∷ 1 ∷ 2 ∷ 3 ∷ []) ∷ (0 ∷ 1 ∷ 2 ∷ 3 ∷ []) ∷ (0 ∷ 1 ∷ 2 ∷ 3 ∷ []) ∷ (0 ∷ 1 ∷ 2 ∷ 3 ∷ []) ∷ (0 ∷ 2 ∷ 3 ∷ []) ∷ (0 ∷ 2 ∷ 3 ∷ 4 ∷ [])
    ∷ (0 ∷ 2 ∷ 3 ∷ 4 ∷ []) ∷ (0 ∷ 2 ∷ 3 ∷ 4 ∷ []) ∷ (0 ∷ 2 ∷ 3 ∷ 4 ∷ []) ∷ (0 ∷ 2 ∷ 3 ∷ 4 ∷ []) ∷ (0 ∷ 2 ∷ 3 ∷ 4 ∷ []) ∷ []
unfolding instructions_of with_links advanced
orders = refl

-- the supports, oldest first: coordinate 1, measured since, links 0 and 2
links : (active_at 10).links ≡ (0 ∷ 1 ∷ []) ∷ (1 ∷ 2 ∷ []) ∷ (1 ∷ []) ∷ (3 ∷ 4 ∷ []) ∷ [] ∷ []
unfolding instructions_of with_links advanced
links = refl

-- the bins 0 to 4, from the plan's words
replay :
    map (λ m. map (replay_after plan m) (numbers_from 0 5)) (0 ∷ 1 ∷ 2 ∷ 4 ∷ 5 ∷ 8 ∷ 10 ∷ [])
    ≡ ((0 ∷ []) ∷ (1 ∷ []) ∷ (2 ∷ []) ∷ (3 ∷ []) ∷ [] ∷ [])
    ∷ ((0 ∷ 1 ∷ []) ∷ [] ∷ (2 ∷ []) ∷ (3 ∷ []) ∷ [] ∷ [])
    ∷ ((0 ∷ 1 ∷ 2 ∷ []) ∷ [] ∷ [] ∷ (3 ∷ []) ∷ [] ∷ [])
    ∷ ((0 ∷ 2 ∷ []) ∷ [] ∷ [] ∷ (3 ∷ []) ∷ [] ∷ [])
    ∷ ((0 ∷ 2 ∷ []) ∷ [] ∷ [] ∷ (3 ∷ []) ∷ (4 ∷ []) ∷ [])
    ∷ ((0 ∷ 2 ∷ []) ∷ [] ∷ [] ∷ (3 ∷ 4 ∷ []) ∷ [] ∷ [])
    ∷ ((0 ∷ 2 ∷ []) ∷ [] ∷ [] ∷ (3 ∷ 4 ∷ []) ∷ [] ∷ [])
    ∷ []
unfolding replay_after
replay = refl

-- how many members there are, and none beyond the five components: the four at the start and the promoted one
counts : map (λ m. length (replay_members plan (replay_after plan m))) (numbers_from 0 11) ≡ 4 ∷ 4 ∷ 4 ∷ 4 ∷ 3 ∷ 4 ∷ 4 ∷ 4 ∷ 4 ∷ 4 ∷ 4 ∷ []
unfolding replay_after
counts = refl

beyond : map (replay_after plan 10) (5 ∷ 6 ∷ []) ≡ [] ∷ [] ∷ []
unfolding replay_after
beyond = refl

-- just after the join of record 7, x = 28 at width 4: the bin of component 3 and the row's local width 2, x = 3, z = 0
rotated : replay_joined plan 7 (replay_after plan 7) (get_or (rotation_at plan 7) 0 0) ≡ 3 ∷ 4 ∷ []
unfolding replay_joined replay_after
rotated = refl

rotated_row : take 6 (rotation_at plan 7) ≡ 3 ∷ 5 ∷ 2 ∷ 2 ∷ 3 ∷ 0 ∷ []
rotated_row = refl

-- the sets that the chains gather, from the instructions: the same at the end
sets : sets_of (active_at 10) ≡ (0 ∷ 2 ∷ []) ∷ [] ∷ [] ∷ (3 ∷ 4 ∷ []) ∷ [] ∷ []
unfolding instructions_of with_links advanced sets_of
sets = refl

-- just after the measurement's join: the bin still holds coordinate 1, at the local pivot 1; local width 3, x = 2, z = 0
measured : replay_joined plan 3 (replay_after plan 3) (get_or (measurement_at plan 3) 0 0) ≡ 0 ∷ 1 ∷ 2 ∷ []
unfolding replay_joined replay_after
measured = refl

measured_row : take 6 (measurement_at plan 3) ++ (get_or (measurement_at plan 3) 11 0 ∷ []) ≡ 0 ∷ 4 ∷ 1 ∷ 3 ∷ 2 ∷ 0 ∷ 1 ∷ []
measured_row = refl

-- live dimensions at the start, after three joins and the removal, the promotion, and two joins
lives : map live_at (active_start 4 ∷ moments (active_start 4) instructions) ≡ 8 ∷ 8 ∷ 10 ∷ 10 ∷ 6 ∷ 8 ∷ 8 ∷ 8 ∷ []
unfolding instructions_of moments_of live_at
lives = refl

-- the greatest lengths of the bins; 2^3 + 2 + 2 + 2^2 + 2 is 18
longests : map (longest_of plan 10) (numbers_from 0 5) ≡ 3 ∷ 1 ∷ 1 ∷ 2 ∷ 1 ∷ []
unfolding replay_after
longests = refl

-- ---- 02, CR 7

worked_groups : GroupsListed (replay_after plan 10) 0 plan.groups
unfolding instructions_of
worked_groups = groups_in_order head words (enough 10) plan premise (omega arith) refl

-- the groups as they are read, and none behind them: bin 0, then bin 3
groups_read : map (group_members plan.groups) (numbers_from 0 4) ≡ (0 ∷ 2 ∷ []) ∷ (3 ∷ 4 ∷ []) ∷ [] ∷ [] ∷ []
groups_read = refl

-- how many bins below each number have members
lives_below : map (live_below (replay_after plan 10)) (numbers_from 0 6) ≡ 0 ∷ 1 ∷ 1 ∷ 1 ∷ 2 ∷ 2 ∷ []
unfolding replay_after
lives_below = refl
