-- What the contracts of the module `buffers` say of groups: the counts first, with room behind
-- each, and then each coordinate at its place. 01, section 4, "Groups (added): final live
-- components, each a member count and its members in order".
use Rattle.std.specs.Prelude.{ℕ, zero, suc, ◌+◌, ◌<◌, ◌≤◌, List, [], ◌∷◌, length, get_or, set, replicate, if◌then◌else◌, ◌==◌}

-- the groups' words, where each component's members begin, and how many words are taken
pub record Counts : Type 0 where
  pub groups : List ℕ
  pub start : List ℕ
  pub used : ℕ

-- the components of these sizes, of which the first has the number c: those with no members have
-- no group
abbrev pub counts_from : ℕ → List ℕ → Counts → Counts
counts_from c [] h = h
counts_from c (s ∷ ss) h =
    counts_from (suc c) ss
    (if (s == 0) then h else record {
      groups = set h.groups h.used s;
      start = set h.start c (suc h.used);
      used = h.used + suc s;
    })

unfoldable pub counts_of : List ℕ → List ℕ → Counts
counts_of size groups =
    counts_from 0 size (record { groups = groups; start = replicate 512 0; used = 0 })

-- the groups fit the buffer, and their places fit the starts
pub record CountsFit (size groups : List ℕ) : Type 0 where
  pub fit : (counts_of size groups).used ≤ length groups
  pub small : (counts_of size groups).used ≤ 65535

module _ (start coordinate component place : List ℕ) where
  -- the word of the coordinate at an active position
  abbrev pub word_at : ℕ → ℕ
  word_at p = get_or start (get_or component p 0) 0 + get_or place p 0

  -- the groups' words with the coordinates at the first n positions
  abbrev pub placed_up_to : ℕ → List ℕ → List ℕ
  placed_up_to zero groups = groups
  placed_up_to (suc n) groups = set (placed_up_to n groups) (word_at n) (get_or coordinate n 0)

-- the coordinates at the first n positions have their words inside the buffer
pub record PlacesFit (start component place : List ℕ) (n words : ℕ) : Type 0 where
  pub few : n ≤ 512
  pub numbers : (p : ℕ) → p < n → get_or component p 0 < 512
  pub inside : (p : ℕ) → p < n → get_or start (get_or component p 0) 0 + get_or place p 0 < words
