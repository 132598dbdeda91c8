-- Bytes of a list by their places. A loop that writes or reads word by word keeps what it has done in front, and each turn adds the bytes of one word.
-- Assumes nothing.
use mathlib.Core.Path.{◌≡◌, refl, sym, ap, ◌∙◌}
use mathlib.Core.List.{List, [], ◌∷◌, ◌++◌, map, append-nil}
use Prim.Native.Nat.{ℕ, zero, suc, ◌+◌, ◌*◌, ◌/◌, ◌%◌, ◌^◌, ◌≤◌, ◌<◌}
use native.Mathlib.Nat.{add-zero, add-suc, suc-add}
use native.Mathlib.Numerals.{add-one}
use native.Mathlib.Omega.{arith}
use Rattle.std.proofs.Math.Nat.{div-div-eq-div-mul, div-one, pow-suc}
use Rattle.std.proofs.Common.{w64}
use Rattle.std.specs.Int.{bytes_low_first, to_le_bytes}
use borrow.Rule.Slice.PartMut.{put_mid}
use lib.ListN.{length, get_or, take}
use lib.Seq.{take-suc, drop-drop, length-take-le}
use Rattle.words.specs.Lists.{numbers_from, patch}
use Rattle.words.specs.File.{bytes_of, word_bytes, word_at, words_at}
use Rattle.words.proofs.Patches.{patch_behind}

-- ---- words that are read one after the other

-- one word more
pub words_more : (file : List ℕ) (at n : ℕ) → words_at file at (n + 1) ≡ words_at file at n ++ (word_at file (at + n) ∷ [])
words_more file at zero = ap (λ (k : ℕ). word_at file k ∷ []) (sym (add-zero at))
words_more file at (suc n) =
    ap (λ (k : ℕ). words_at file at k) (suc-add n 1)
    ∙ ap (λ (l : List ℕ). word_at file at ∷ l)
    (words_more file (suc at) n ∙ ap (λ (k : ℕ). words_at file (suc at) n ++ (word_at file k ∷ [])) (suc-add at n ∙ sym (add-suc at n)))

-- each by its place
pub words_are : (file : List ℕ) (at k n : ℕ) → words_at file (at + k) n ≡ map (λ i. word_at file (at + i)) (numbers_from k n)
words_are file at k zero = refl
words_are file at k (suc n) =
    ap (λ (l : List ℕ). word_at file (at + k) ∷ l) (ap (λ (m : ℕ). words_at file m n) (sym (add-suc at k)) ∙ words_are file at (suc k) n)

pub length_words : (file : List ℕ) (at n : ℕ) → length (words_at file at n) ≡ n
length_words file at zero = refl
length_words file at (suc n) = ap suc (length_words file (suc at) n)

-- ---- words that are written one after the other

pub length_bytes : (ws : List ℕ) → length (word_bytes ws) ≡ 8 * length ws
length_bytes [] = refl
length_bytes (w ∷ ws) = let rest = length_bytes ws in omega arith

pub bytes_append : (ws vs : List ℕ) → word_bytes (ws ++ vs) ≡ word_bytes ws ++ word_bytes vs
bytes_append [] vs = refl
bytes_append (w ∷ ws) vs = ap (λ (l : List ℕ). bytes_of 8 w ++ l) (bytes_append ws vs)

-- the bytes that `to_le_bytes` gives
pub low_bytes : (i n w : ℕ) → bytes_low_first i n w ≡ bytes_of n (w / 256 ^ i)
low_bytes i zero w = refl
low_bytes zero (suc n) w = ap (λ (l : List ℕ). w % 256 ∷ l) (low_bytes 1 n w) ∙ ap (bytes_of (suc n)) (sym (div-one w))
low_bytes (suc i) (suc n) w =
    ap (λ (l : List ℕ). w / 256 ^ suc i % 256 ∷ l)
    (low_bytes (suc (suc i)) n w ∙ ap (bytes_of n) (ap (λ (d : ℕ). w / d) (pow-suc 256 (suc i)) ∙ sym (div-div-eq-div-mul w (256 ^ suc i) 256)))

-- a turn of the loop that writes: one word more
pub turn_writes : (words file : List ℕ) (at i k : ℕ) (now written : List ℕ) → i < length words → 8 * (at + length words) ≤ length file → k ≡ 8
    → written ≡ to_le_bytes w64 (get_or words i 0) → now ≡ patch (8 * at) (word_bytes (take i words)) file
    → put_mid (8 * (at + i)) k now written ≡ patch (8 * at) (word_bytes (take (i + 1) words)) file
turn_writes words file at i k now written h room eight is so_far =
    let done = length_bytes (take i words) in
    let long = length-take-le i words (omega arith) in
    let word = is ∙ low_bytes 0 8 (get_or words i 0) ∙ ap (bytes_of 8) (div-one (get_or words i 0)) in
    let more : word_bytes (take (i + 1) words) ≡ word_bytes (take i words) ++ bytes_of 8 (get_or words i 0) =
    ap word_bytes (ap (λ (n : ℕ). take n words) (add-one i) ∙ take-suc words i 0 h)
    ∙ bytes_append (take i words) (get_or words i 0 ∷ [])
    ∙ ap (λ (l : List ℕ). word_bytes (take i words) ++ l) (append-nil (bytes_of 8 (get_or words i 0))) in
    rw (word, eight, so_far, drop-drop, more) (patch_behind (8 * at) (word_bytes (take i words)) (bytes_of 8 (get_or words i 0)) file (8 * (at + i)) (omega arith) (omega arith))
