-- 02, CR 7: "Groups now come by ascending component number": the group list is exactly the components that have members, each once, by their numbers. Said of 01's bins,
-- section 5, which are read off initial_components, steps, rows and merge list alone; nothing here says how the list is made.
use Rattle.std.specs.Prelude.{ℕ, zero, suc, ◌+◌, ◌≤◌, ◌<◌, ◌≡◌, ◌↔◌, List, [], ◌∷◌, ◌++◌, map, length, get_or, take, drop, replicate}
use Rattle.plan_spec.specs.Lists.{concat}
use Rattle.plan_spec.specs.Connectivity.{Member, Replayed}
use Rattle.plan_spec.specs.Sources.{IsAscending}

-- "final live components": those that have members
abbrev pub IsLive : Replayed → ℕ → Type 0
IsLive components c = 0 < length (components c)

-- "each a member count and its members in order"
abbrev pub group_of : List ℕ → List ℕ
group_of members = length members ∷ members

-- ---- a group list as it is read, from its words alone

-- where group i begins: the first at the first word, any other behind the members of the one before
abbrev pub group_start : List ℕ → ℕ → ℕ
group_start words zero = zero
group_start words (suc i) = group_start words i + suc (get_or words (group_start words i) 0)

-- its member count; 0 where there is no group i
abbrev pub group_count : List ℕ → ℕ → ℕ
group_count words i = get_or words (group_start words i) 0

-- its members
abbrev pub group_members : List ℕ → ℕ → List ℕ
group_members words i = take (group_count words i) (drop (suc (group_start words i)) words)

-- 1 for a component that has members, 0 for one that has none
abbrev pub live_count : List ℕ → ℕ
live_count [] = 0
live_count (a ∷ rest) = 1

-- how many components with a number below c have members
abbrev pub live_below : Replayed → ℕ → ℕ
live_below components zero = zero
live_below components (suc c) = live_below components c + live_count (components c)

-- ---- the claim

-- The words are the group list of these components, with so many zeros behind it. `Groups.groups_unique`: one list only is that
pub record GroupsListed (components : Replayed) (zeros : ℕ) (words : List ℕ) : Type 0 where
  -- the numbers by which groups come: of each component that has members, of no other, and strictly ascending, so each once
  pub numbers : List ℕ
  pub live : (c : ℕ) → Member c numbers ↔ IsLive components c
  pub ascending : IsAscending numbers
  pub listed : words ≡ concat (map (λ c. group_of (components c)) numbers) ++ replicate zeros 0
  -- so group i, as it is read, is live component i, counted by number; and behind the last there is none
  pub counted : (c : ℕ) → IsLive components c → group_count words (live_below components c) ≡ length (components c)
  pub same : (c : ℕ) → IsLive components c → group_members words (live_below components c) ≡ components c
  pub ends : (i : ℕ) → length numbers ≤ i → group_count words i ≡ 0
