-- Functions on lists of numbers that the definition is written with.
use Rattle.std.specs.Prelude.{ℕ, zero, suc, ◌+◌, List, [], ◌∷◌, ◌++◌, Bool, false, ◌||◌, take, drop, if◌then◌else◌, ◌==◌}

-- a is an entry of the list
abbrev pub is_in : ℕ → List ℕ → Bool
is_in a [] = false
is_in a (b ∷ bs) = a == b || is_in a bs

-- the two lists share an entry
abbrev pub meet : List ℕ → List ℕ → Bool
meet [] bs = false
meet (a ∷ rest) bs = is_in a bs || meet rest bs

-- the list with every entry a left out
abbrev pub without : ℕ → List ℕ → List ℕ
without a [] = []
without a (b ∷ bs) =
    let rest = without a bs in
    if a == b then rest else b ∷ rest

-- the position of the first entry a, and the list's length where there is none
abbrev pub place_of : ℕ → List ℕ → ℕ
place_of a [] = zero
place_of a (b ∷ bs) = if a == b then zero else suc (place_of a bs)

-- the list without its entry at position p
abbrev pub remove_at : {A : Type 0} → ℕ → List A → List A
remove_at p xs = take p xs ++ drop (suc p) xs

abbrev pub total : List ℕ → ℕ
total [] = zero
total (n ∷ ns) = n + total ns

abbrev pub concat : {A : Type 0} → List (List A) → List A
concat [] = []
concat (l ∷ ls) = l ++ concat ls
