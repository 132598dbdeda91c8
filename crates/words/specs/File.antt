-- Words of 64 bits in a file of bytes, the lowest byte first.
use Rattle.std.specs.Prelude.{ℕ, zero, suc, ◌+◌, ◌*◌, ◌/◌, ◌%◌, List, [], ◌∷◌, ◌++◌, take, drop}

-- ---- writing

-- so many bytes of a number, the lowest first
abbrev pub bytes_of : ℕ → ℕ → List ℕ
bytes_of zero number = []
bytes_of (suc n) number = number % 256 ∷ bytes_of n (number / 256)

-- words as their eight bytes, one behind the other
abbrev pub word_bytes : List ℕ → List ℕ
word_bytes [] = []
word_bytes (w ∷ ws) = bytes_of 8 w ++ word_bytes ws

-- ---- reading

-- the number that bytes stand for, the lowest first
abbrev pub number_of : List ℕ → ℕ
number_of [] = 0
number_of (b ∷ bs) = b + 256 * number_of bs

-- word i of a file
abbrev pub word_at : List ℕ → ℕ → ℕ
word_at file i = number_of (take 8 (drop (8 * i) file))

-- so many words, from word `at` on
abbrev pub words_at : List ℕ → ℕ → ℕ → List ℕ
words_at file at zero = []
words_at file at (suc n) = word_at file at ∷ words_at file (suc at) n
