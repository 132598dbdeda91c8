-- Where a record and its words lie in the list of words: record i is the eight words from 8 * i on, by induction on the number of records.
-- Assumes nothing.
use mathlib.Core.Path.{◌≡◌, refl, ap, ◌∙◌}
use mathlib.Core.List.{List, ◌∷◌}
use Prim.Native.Nat.{ℕ, zero, suc, ◌+◌, ◌*◌, ◌/◌, ◌<◌}
use native.Mathlib.Nat.{not-suc-le-zero, le_of_suc-le-suc}
use native.Mathlib.Omega.{arith}
use lib.ListN.{length, get_or, take, drop}
use lib.Seq.{get_or-take, get_or-drop, drop-drop, drop-cons}
use Rattle.records.specs.Record.{word_of, record_at, chunks, records_of}

pub word_at : (ws : List ℕ) (i j : ℕ) → j < 8 → word_of (record_at ws i) j ≡ get_or ws (8 * i + j) 0
word_at ws i j h = rw (get_or-take, get_or-drop)

length_chunks : (n : ℕ) (ws : List ℕ) → length (chunks n ws) ≡ n
unfolding chunks
length_chunks zero ws = refl
length_chunks (suc n) ws = ap suc (length_chunks n (drop 8 ws))

next : (i : ℕ) → 8 + 8 * i ≡ 8 * suc i
next i = omega arith

chunk_at : (n i : ℕ) (ws d : List ℕ) → i < n → get_or (chunks n ws) i d ≡ record_at ws i
unfolding chunks
chunk_at zero i ws d h = absurd (not-suc-le-zero h)
chunk_at (suc n) zero ws d h = refl
chunk_at (suc n) (suc i) ws d h =
    chunk_at n i (drop 8 ws) d (le_of_suc-le-suc h) ∙ ap (take 8) (drop-drop (8 * i) 8 ws ∙ ap (λ (k : ℕ). drop k ws) (next i))

pub records_length : (ws : List ℕ) → length (records_of ws) ≡ length ws / 8
unfolding records_of
records_length ws = length_chunks (length ws / 8) ws

pub records-at : (ws : List ℕ) (i : ℕ) (d : List ℕ) → i < length ws / 8 → get_or (records_of ws) i d ≡ record_at ws i
unfolding records_of
records-at ws i d h = chunk_at (length ws / 8) i ws d h

pub records_drop : (ws : List ℕ) (i : ℕ) → i < length ws / 8 → drop i (records_of ws) ≡ record_at ws i ∷ drop (suc i) (records_of ws)
records_drop ws i h =
    drop-cons (records_of ws) i (record_at ws i) (rw records_length h)
    ∙ ap (λ (r : List ℕ). r ∷ drop (suc i) (records_of ws)) (records-at ws i (record_at ws i) h)
