-- Words come back from their bytes, and bytes from the words that they stand for: a number below 256 ^ n is given by its n remainders, and n bytes by their
-- number.
use mathlib.Core.Path.{◌≡◌, refl, sym, ap, ap₂, ◌∙◌}
use mathlib.Core.List.{List, [], ◌∷◌, ◌++◌}
use Prim.Native.Nat.{ℕ, zero, suc, ◌+◌, ◌*◌, ◌/◌, ◌%◌, ◌^◌, ◌≤◌, ◌<◌}
use native.Mathlib.Omega.{arith}
use lib.ListN.{length, get_or, take, drop, length-drop}
use lib.Seq.{take-add, take_at, drop-drop, drop-cons, length-take-le}
use Rattle.words.specs.Words.{AreWords, AreBytes}
use Rattle.words.specs.File.{bytes_of, word_bytes, number_of, word_at, words_at}

-- ---- from a word to its bytes and back

-- a number from its bytes, if there are enough of them
pub number_back : (n w : ℕ) → w < 256 ^ n → number_of (bytes_of n w) ≡ w
number_back zero w h = omega arith
number_back (suc n) w h = let rest = number_back n (w / 256) (omega arith) in omega arith

-- word i of the words' bytes
pub word_back : (ws : List ℕ) (i : ℕ) → AreWords ws → i < length ws → word_at (word_bytes ws) i ≡ get_or ws i 0
word_back [] i all h = absurd (omega arith)
word_back (w ∷ ws) zero all h = ap number_of (take_at (bytes_of 8 w) (word_bytes ws) 8 refl) ∙ number_back 8 w all.0
word_back (w ∷ ws) (suc i) all h =
    let next : 8 * suc i ≡ 8 + 8 * i = omega arith in
    ap (λ (k : ℕ). number_of (take 8 (drop k (word_bytes (w ∷ ws))))) next
    ∙ ap (λ (l : List ℕ). number_of (take 8 l)) (sym (drop-drop (8 * i) 8 (word_bytes (w ∷ ws))))
    ∙ word_back ws i all.1 (omega arith)

-- and words from a place on
pub words_back : (ws : List ℕ) (at n : ℕ) → AreWords ws → at + n ≤ length ws → words_at (word_bytes ws) at n ≡ take n (drop at ws)
words_back ws at zero all h = refl
words_back ws at (suc n) all h =
    ap₂ (λ (w : ℕ) (l : List ℕ). w ∷ l) (word_back ws at all (omega arith)) (words_back ws (suc at) n all (omega arith))
    ∙ ap (take (suc n)) (sym (drop-cons ws at 0 (omega arith)))

-- ---- from bytes to the words that they stand for and back

pub bytes_take : (n : ℕ) (bs : List ℕ) → AreBytes bs → AreBytes (take n bs)
bytes_take zero bs all = tt
bytes_take (suc n) [] all = tt
bytes_take (suc n) (b ∷ bs) all = (all.0, bytes_take n bs all.1)

pub bytes_drop : (n : ℕ) (bs : List ℕ) → AreBytes bs → AreBytes (drop n bs)
bytes_drop zero bs all = all
bytes_drop (suc n) [] all = tt
bytes_drop (suc n) (b ∷ bs) all = bytes_drop n bs all.1

-- bytes from their number
pub bytes_of_number : (bs : List ℕ) → AreBytes bs → bytes_of (length bs) (number_of bs) ≡ bs
bytes_of_number [] all = refl
bytes_of_number (b ∷ bs) all =
    let small = all.0 in
    let low : (b + 256 * number_of bs) % 256 ≡ b = omega arith in
    let rest : (b + 256 * number_of bs) / 256 ≡ number_of bs = omega arith in
    ap₂ (λ (c n : ℕ). c ∷ bytes_of (length bs) n) low rest ∙ ap (λ (l : List ℕ). b ∷ l) (bytes_of_number bs all.1)

-- the file's bytes from its words
pub file_back : (file : List ℕ) (at n : ℕ) → AreBytes file → 8 * (at + n) ≤ length file → word_bytes (words_at file at n) ≡ take (8 * n) (drop (8 * at) file)
file_back file at zero all h = refl
file_back file at (suc n) all h =
    let left = length-drop (8 * at) file in
    let long = length-take-le 8 (drop (8 * at) file) (omega arith) in
    let here = take 8 (drop (8 * at) file) in
    let next : 8 * at + 8 ≡ 8 * suc at = omega arith in
    let more : 8 * suc n ≡ 8 + 8 * n = omega arith in
    ap₂ (λ (a b : List ℕ). a ++ b)
    (ap (λ (k : ℕ). bytes_of k (number_of here)) (sym long) ∙ bytes_of_number here (bytes_take 8 (drop (8 * at) file) (bytes_drop (8 * at) file all)))
    (file_back file (suc at) n all (omega arith))
    ∙ ap (λ (l : List ℕ). here ++ take (8 * n) l) (sym (drop-drop 8 (8 * at) file ∙ ap (λ (k : ℕ). drop k file) next))
    ∙ sym (take-add 8 (8 * n) (drop (8 * at) file))
    ∙ ap (λ (k : ℕ). take k (drop (8 * at) file)) (sym more)
