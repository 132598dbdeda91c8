-- A list's operations are its words in parts of 32: operation i begins at word 32 i. By induction on how many there are.
use Rattle.std.proofs.Common.{◌≡◌, ℕ, zero, suc, ◌+◌, ◌*◌, ◌/◌, ◌<◌, ◌≤◌, List, [], ◌∷◌, ◌++◌, length, get_or, set, take, drop, refl, ap, sym, arith, ◌%◌}
use Rattle.std.specs.List.{concat}
use Rattle.std.proofs.lemmas.List.{drop-drop, length-drop, length-take, length-append, take_at, drop_at, take_all, append_assoc, take-append-le, drop-append-le, take-append-drop, set_split}
use mathlib.Core.Path.{◌∙◌, ap₂}
use borrow.Rule.Slice.PartMut.{put_mid}
use lib.Seq.{paste}
use Rattle.std.specs.Simd.{first_chunks}
use Rattle.pending.specs.Operation.{Operation, operations_of}

-- there are as many as asked for
pub chunks_length : (k : ℕ) (ws : List ℕ) → length (first_chunks 32 k ws) ≡ k
chunks_length zero ws = refl
chunks_length (suc k) ws = ap suc (chunks_length k (drop 32 ws))

pub chunk_at : (k i : ℕ) (ws : List ℕ) → i < k → get_or (first_chunks 32 k ws) i [] ≡ take 32 (drop (32 * i) ws)
chunk_at zero i ws small = absurd (omega arith)
chunk_at (suc k) zero ws small = refl
chunk_at (suc k) (suc i) ws small =
    let from : 32 + 32 * i ≡ 32 * suc i = omega arith in
    chunk_at k i (drop 32 ws) (omega arith) ∙ ap (λ rest. take 32 rest) (drop-drop (32 * i) 32 ws ∙ ap (λ (n : ℕ). drop n ws) from)

pub count : (ws : List ℕ) → length (operations_of ws) ≡ length ws / 32
unfolding operations_of
count ws = chunks_length (length ws / 32) ws

pub operation_in : (ws : List ℕ) (i : ℕ) → i < length ws / 32 → get_or (operations_of ws) i [] ≡ take 32 (drop (32 * i) ws)
unfolding operations_of
operation_in ws i small = chunk_at (length ws / 32) i ws small

-- each has 32 words
pub operation_length : (ws : List ℕ) (i : ℕ) → i < length ws / 32 → length (get_or (operations_of ws) i []) ≡ 32
operation_length ws i small =
    ap (λ (o : List ℕ). length o) (operation_in ws i small)
    ∙ omega (arith, length-take 32 (drop (32 * i) ws), length-drop (32 * i) ws)

-- ---- words in parts

-- words behind m whole operations
pub chunks_append : (m k : ℕ) (xs ys : List ℕ) → length xs ≡ 32 * m →
    first_chunks 32 (m + k) (xs ++ ys) ≡ first_chunks 32 m xs ++ first_chunks 32 k ys
chunks_append zero k [] ys whole = ap (λ (n : ℕ). first_chunks 32 n ys) (omega arith)
chunks_append zero k (x ∷ xs) ys whole = absurd (omega arith)
chunks_append (suc m) k xs ys whole =
    let count : suc m + k ≡ suc (m + k) = omega arith in
    let long : 32 ≤ length xs = omega arith in
    ap (λ (n : ℕ). first_chunks 32 n (xs ++ ys)) count
    ∙ ap₂ (λ (first rest : List ℕ). first ∷ first_chunks 32 (m + k) rest) (take-append-le 32 xs ys long) (drop-append-le 32 xs ys long)
    ∙ ap (λ (os : List Operation). take 32 xs ∷ os) (chunks_append m k (drop 32 xs) ys (omega (arith, length-drop 32 xs)))

pub operations_append : (m : ℕ) (xs ys : List ℕ) → length xs ≡ 32 * m → operations_of (xs ++ ys) ≡ operations_of xs ++ operations_of ys
unfolding operations_of
operations_append m xs ys whole =
    let first : length xs / 32 ≡ m = omega arith in
    let all : length (xs ++ ys) / 32 ≡ m + length ys / 32 = omega (arith, length-append xs ys) in
    ap (λ (n : ℕ). first_chunks 32 n (xs ++ ys)) all
    ∙ chunks_append m (length ys / 32) xs ys whole
    ∙ ap (λ (n : ℕ). first_chunks 32 n xs ++ first_chunks 32 (length ys / 32) ys) (sym first)

-- the words of one operation
pub one_operation : (o : Operation) → length o ≡ 32 → operations_of o ≡ o ∷ []
unfolding operations_of
one_operation o whole =
    ap (λ (n : ℕ). first_chunks 32 (n / 32) o) whole ∙ ap (λ (first : Operation). first ∷ []) (take_all 32 o (omega arith))

-- the first m operations, and those behind them, by their words
module _ (m : ℕ) (ws : List ℕ) (small : m ≤ length ws / 32) where
  filled : length (take (32 * m) ws) ≡ 32 * m
  filled = omega (arith, length-take (32 * m) ws)

  counted : length (operations_of (take (32 * m) ws)) ≡ m
  counted = omega (arith, count (take (32 * m) ws), filled)

  parted : operations_of ws ≡ operations_of (take (32 * m) ws) ++ operations_of (drop (32 * m) ws)
  parted = ap operations_of (sym (take-append-drop (32 * m) ws)) ∙ operations_append m (take (32 * m) ws) (drop (32 * m) ws) filled

  pub operations_take : operations_of (take (32 * m) ws) ≡ take m (operations_of ws)
  operations_take = sym (ap (take m) parted ∙ take_at (operations_of (take (32 * m) ws)) (operations_of (drop (32 * m) ws)) m counted)

  pub operations_drop : operations_of (drop (32 * m) ws) ≡ drop m (operations_of ws)
  operations_drop = sym (ap (drop m) parted ∙ drop_at (operations_of (take (32 * m) ws)) (operations_of (drop (32 * m) ws)) m counted)

-- ---- an operation in another's place

-- a list of words in which the part from 32 j on is another operation
pub replaced : (ws o : List ℕ) (j : ℕ) → j < length ws / 32 → length o ≡ 32 →
    operations_of (take (32 * j) ws ++ (o ++ drop (32 * j + 32) ws)) ≡ set (operations_of ws) j o
replaced ws o j small whole =
    let next : 32 * j + 32 ≡ 32 * suc j = omega arith in
    let rest = drop (32 * j + 32) ws in
    let front = operations_take j ws (omega arith) in
    let back = ap (λ (n : ℕ). operations_of (drop n ws)) next ∙ operations_drop (suc j) ws small in
    operations_append j (take (32 * j) ws) (o ++ rest) (filled j ws (omega arith))
    ∙ ap (λ (os : List Operation). operations_of (take (32 * j) ws) ++ os) (operations_append 1 o rest whole)
    ∙ ap₂ (λ (a b : List Operation). a ++ (operations_of o ++ b)) front back
    ∙ ap (λ (os : List Operation). take j (operations_of ws) ++ (os ++ drop (suc j) (operations_of ws))) (one_operation o whole)
    ∙ sym (set_split (operations_of ws) j o (omega (arith, count ws)))

-- the same of a part that is lent, of k words
pub lent : (ws o : List ℕ) (j k : ℕ) → j < length ws / 32 → length o ≡ 32 → k ≡ 32 →
    operations_of (put_mid (32 * j) k ws o) ≡ set (operations_of ws) j o
lent ws o j k small whole e =
    ap (λ (back : List ℕ). operations_of (take (32 * j) ws ++ (o ++ back))) (drop-drop k (32 * j) ws ∙ ap (λ (n : ℕ). drop (32 * j + n) ws) e)
    ∙ replaced ws o j small whole

-- the same of a part that is copied over
pub copied : (ws : List ℕ) (i j n : ℕ) → i < length ws / 32 → j < length ws / 32 → n ≡ 32 →
    operations_of (paste ws (32 * j) (drop (32 * i) ws) n) ≡ set (operations_of ws) j (get_or (operations_of ws) i [])
copied ws i j n from to e =
    let o = take 32 (drop (32 * i) ws) in
    let whole : length o ≡ 32 = omega (arith, length-take 32 (drop (32 * i) ws), length-drop (32 * i) ws) in
    ap (λ (m : ℕ). operations_of (paste ws (32 * j) (drop (32 * i) ws) m)) e
    ∙ ap operations_of (append_assoc (take (32 * j) ws) o (drop (32 * j + 32) ws))
    ∙ replaced ws o j to whole
    ∙ ap (set (operations_of ws) j) (sym (operation_in ws i from))

-- ---- operations joined again

-- whole operations, one behind the other, are the words
pub joined : (m : ℕ) (ws : List ℕ) → length ws ≡ 32 * m → concat (first_chunks 32 m ws) ≡ ws
joined zero [] long = refl
joined zero (w ∷ ws) long = absurd (omega arith)
joined (suc m) ws long =
    ap (λ (rest : List ℕ). take 32 ws ++ rest) (joined m (drop 32 ws) (omega (arith, length-drop 32 ws))) ∙ take-append-drop 32 ws

pub joined_operations : (ws : List ℕ) → length ws % 32 ≡ 0 → concat (operations_of ws) ≡ ws
unfolding operations_of
joined_operations ws whole = joined (length ws / 32) ws (omega arith)

-- the first m of them
pub joined_take : (m : ℕ) (ws : List ℕ) → m ≤ length ws / 32 → concat (take m (operations_of ws)) ≡ take (32 * m) ws
joined_take m ws small =
    ap concat (sym (operations_take m ws small)) ∙ joined_operations (take (32 * m) ws) (omega (arith, length-take (32 * m) ws))

-- ---- operations as words

module _ (o : Operation) (os : List Operation) (whole : (k : ℕ) → k < length (o ∷ os) → length (get_or (o ∷ os) k []) ≡ 32) where
  -- the first one, and those behind it
  whole_first : length o ≡ 32
  whole_first = whole 0 (omega arith)

  whole_rest : (k : ℕ) → k < length os → length (get_or os k []) ≡ 32
  whole_rest k small = whole (suc k) (omega arith)

-- operations of 32 words each, one behind the other
pub words_count : (os : List Operation) → ((k : ℕ) → k < length os → length (get_or os k []) ≡ 32) → length (concat os) ≡ 32 * length os
words_count [] whole = refl
words_count (o ∷ os) whole = omega (arith, length-append o (concat os), whole_first o os whole, words_count os (whole_rest o os whole))

pub operations_joined : (os : List Operation) → ((k : ℕ) → k < length os → length (get_or os k []) ≡ 32) → operations_of (concat os) ≡ os
unfolding operations_of
operations_joined [] whole = refl
operations_joined (o ∷ os) whole =
    operations_append 1 o (concat os) (whole_first o os whole)
    ∙ ap₂ (λ (a b : List Operation). a ++ b) (one_operation o (whole_first o os whole)) (operations_joined os (whole_rest o os whole))
