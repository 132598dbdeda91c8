-- Lists of words: numbers in order, words with zeros behind them, words in the place of others, and parts.
use Rattle.std.specs.Prelude.{ℕ, zero, suc, ◌+◌, ◌-◌, ◌≡◌, List, [], ◌∷◌, ◌++◌, length, take, drop, replicate, if◌then◌else◌, nat_le}

-- n numbers in order, from a on
abbrev pub numbers_from : ℕ → ℕ → List ℕ
numbers_from a zero = []
numbers_from a (suc n) = a ∷ numbers_from (suc a) n

-- these words, and zeros behind them up to n words
abbrev pub padded : (long : ℕ) → (used : List ℕ) → List ℕ
padded n ws = ws ++ replicate (n - length ws) 0

-- the list with one value at each place from one on
abbrev pub filled_from : {A : Type 0} → ℕ → A → List A → List A
filled_from from value xs = take from xs ++ replicate (length xs - from) value

-- the words stand in front of the list, and others behind them
abbrev pub Begins : {A : Type 0} → List A → List A → Type 0
Begins words list = (rest : List _) × (list ≡ words ++ rest)

-- the words with others in their place from `at` on
abbrev pub patch : ℕ → List ℕ → List ℕ → List ℕ
patch at ws xs = take at xs ++ (ws ++ drop (at + length ws) xs)

-- so many words from an offset on, and none where they run past the end
abbrev pub part_of : List ℕ → ℕ → ℕ → List ℕ
part_of ws offset count =
    if nat_le (offset + count) (length ws) then take count (drop offset ws) else []
