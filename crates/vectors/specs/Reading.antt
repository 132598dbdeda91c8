-- What is read of a vector's words: a word, so many words, and whether a buffer holds words.
use Rattle.std.specs.Prelude.{ℕ, ◌≡◌, ◌/◌, Bool, ⊤, List, [], ◌∷◌, take, drop, length, nat_lt, nat_eq, Option, Some, None, IsSome, Result, Ok, Err, if◌then◌else◌}
use Rattle.std.specs.Cmp.Lexicographic.{pointwise}
use Rattle.vectors.specs.declared.Flaw.{Flaw}
use Rattle.vectors.specs.declared.Flaw.TheVariants.{TooLong, CutShort}
use Rattle.vectors.specs.declared.ReplayError.{ReplayError}
use Rattle.vectors.specs.declared.ReplayError.TheVariants.{Flawed, Memory, Io}
use Rattle.words.specs.File.{words_at}
use Rattle.words.specs.Lists.{padded}

-- a value and the words behind it, or what is wrong
abbrev pub Read : Type 0 → Type 0
Read A = Result (A × List ℕ) Flaw

infixl 10 ◌>>=◌
abbrev pub ◌>>=◌ : {A B : Type 0} → Result A Flaw → (A → Result B Flaw) → Result B Flaw
(Ok x) >>= f = f x
(Err flaw) >>= f = Err flaw

-- the words of these bytes, eight bytes each, with no part of a word at the end
abbrev pub words_of : List ℕ → List ℕ
words_of bytes = words_at bytes 0 (length bytes / 8)

-- the words of the bytes that an input has left, if they are known
abbrev pub left_of : Option (List ℕ) → List ℕ
left_of None = []
left_of (Some bytes) = words_of bytes

-- what a function returned, seen by `view`, is what reading gives
abbrev pub Reads : {X Y : Type 0} → (X → Y) → Result X Flaw → Result Y Flaw → Type 0
Reads view (Ok x) read = read ≡ Ok (view x)
Reads view (Err flaw) read = read ≡ Err flaw

-- what a function returned, seen by `view`, is what reading gives, and the input has the words
-- behind left, unless a read failed or memory ran out
abbrev pub Gives : {X Y : Type 0} → (X → Y) → Result X ReplayError → Option (List ℕ) → Read Y
    → Type 0
Gives view (Ok x) after read = IsSome after × (read ≡ Ok (view x, left_of after))
Gives view (Err (Flawed flaw)) after read = read ≡ Err flaw
Gives view (Err (Memory error)) after read = ⊤
Gives view (Err (Io error)) after read = ⊤

-- the same of the words that an input has left before, if its bytes are known
abbrev pub ReadsNext : {X Y : Type 0} → (X → Y) → Result X ReplayError → Option (List ℕ)
    → Option (List ℕ) → (List ℕ → Read Y) → Type 0
ReadsNext view result before after read =
    IsSome before → Gives view result after (read (left_of before))

-- the word at the front
abbrev pub word_in : List ℕ → Read ℕ
word_in [] = Err CutShort
word_in (w ∷ ws) = Ok (w, ws)

-- so many words from the front
abbrev pub words_in : ℕ → List ℕ → Read (List ℕ)
words_in n ws = if nat_lt (length ws) n then Err CutShort else Ok (take n ws, drop n ws)

-- a count up to a limit, and behind it so many words
unfoldable pub counted_within : ℕ → List ℕ → Read (List ℕ)
counted_within limit ws = do
  count ← word_in ws
  if nat_lt limit count.0 then Err TooLong else words_in count.0 count.1

-- a count of at most 65536, and behind it so many words
unfoldable pub counted_in : List ℕ → Read (List ℕ)
counted_in ws = do
  count ← word_in ws
  if nat_lt 65536 count.0 then Err TooLong else words_in count.0 count.1

-- whether two lists of words are the same
abbrev pub same_words : List ℕ → List ℕ → Bool
same_words xs ys = pointwise nat_eq xs ys

-- whether a buffer holds the used words and zeros behind them, and nothing else
abbrev pub holds : List ℕ → List ℕ → Bool
holds buffer used = same_words buffer (padded (length buffer) used)

-- whether a buffer holds the words that are listed, up to a limit
unfoldable pub buffer_within : ℕ → List ℕ → List ℕ → Read Bool
buffer_within limit buffer ws = do
  used ← counted_within limit ws
  Ok (holds buffer used.0, used.1)

-- whether a buffer holds the words that are listed
unfoldable pub buffer_in : List ℕ → List ℕ → Read Bool
buffer_in buffer ws = do
  used ← counted_in ws
  Ok (holds buffer used.0, used.1)
