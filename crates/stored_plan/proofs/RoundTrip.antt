-- Reading a written file gives back what was kept: its words come back from their bytes, so that the trailer that is read is the one that was written, and each
-- section is read from where it was written. And a file that is read is the file of what it gives back: sections that touch from word 0 to the trailer leave
-- no word of a file to choose.
use mathlib.Core.Path.{◌≡◌, refl, sym, ap, ap₂, ◌∙◌}
use mathlib.Core.Bool.{Bool, true, false, not, ◌&&◌, ◌||◌}
use mathlib.Core.List.{List, [], ◌∷◌, ◌++◌, map, append_assoc}
use Prim.Native.Nat.{ℕ, zero, suc, ◌+◌, ◌-◌, ◌*◌, ◌%◌, ◌≤◌, ◌<◌}
use native.Mathlib.Nat.{zero-add, add-zero, add-suc, suc-add, sub-zero}
use native.Mathlib.Omega.{arith}
use lib.Dec.{eqb}
use lib.ListN.{length, get_or, take, drop, length-append}
use lib.Seq.{take_at, drop_at, take_all, drop-drop, get_or-append-add}
use borrow.Author.Tests.{eqb-true, eq-eqb, le-ltb}
use Rattle.refusals.specs.Answer.{given}
use Rattle.words.specs.Lists.{numbers_from}
use Rattle.words.specs.Words.{AreWords, AreBytes}
use Rattle.words.specs.File.{word_bytes, word_at, words_at}
use Rattle.words.proofs.Bytes.{length_bytes, length_words, words_are}
use Rattle.words.proofs.Back.{word_back, words_back, file_back}
use Rattle.plan_spec.specs.Lists.{concat}
use Rattle.plan_buffers.specs.declared.WordCounts.{WordCounts}
use Rattle.stored_plan.specs.Stored.{Kept, sections_of, pointers_from, trailer_of, words_of, bytes_of}
use Rattle.stored_plan.specs.Reading.{trailer_at, trailer_word, file_refused, kept_in, touch, places_refused, counts_refused, read_file}
use Rattle.stored_plan.specs.Loading.{number_of}
use Rattle.stored_plan.proofs.Touching.{touch_next}
use Rattle.stored_plan.proofs.Accepting.{refuse, trailer_fits, accepted}

-- ---- sections by their starts and counts

-- the sections to which starts and counts in turn point
abbrev sections_at : List ℕ → List ℕ → List (List ℕ)
sections_at file [] = []
sections_at file (start ∷ []) = []
sections_at file (start ∷ count ∷ rest) = words_at file start count ∷ sections_at file rest

-- what is kept, by its seven sections
abbrev kept_by : List (List ℕ) → Kept
kept_by ss = record {
  steps = get_or ss 0 [];
  merges = get_or ss 1 [];
  sizes = get_or ss 2 [];
  rotations = get_or ss 3 [];
  promotions = get_or ss 4 [];
  measurements = get_or ss 5 [];
  scalars = get_or ss 6 [];
}

-- ---- what was written is read

-- sections that were laid out touch
touch_pointers : (at end : ℕ) (ss : List (List ℕ)) → at + length (concat ss) ≡ end → touch at end (pointers_from at ss) ≡ true
touch_pointers at end [] e = eq-eqb at end (omega arith)
touch_pointers at end (s ∷ ss) e =
    let l = length-append s (concat ss) in
    ap₂ (λ (a b : Bool). a && b) (eq-eqb at at refl) (touch_pointers (at + length s) end ss (omega arith))

-- and are read from where they were written
sections_back : (ws rest : List ℕ) (at : ℕ) (ss : List (List ℕ)) → AreWords ws → drop at ws ≡ concat ss ++ rest → at + length (concat ss) ≤ length ws
    → sections_at (word_bytes ws) (pointers_from at ss) ≡ ss
sections_back ws rest at [] all e room = refl
sections_back ws rest at (s ∷ ss) all e room =
    let l = length-append s (concat ss) in
    let here = e ∙ append_assoc s (concat ss) rest in
    let first : words_at (word_bytes ws) at (length s) ≡ s =
    words_back ws at (length s) all (omega arith) ∙ ap (take (length s)) here ∙ take_at s (concat ss ++ rest) (length s) refl in
    let later : drop (at + length s) ws ≡ concat ss ++ rest =
    sym (drop-drop (length s) at ws) ∙ ap (drop (length s)) here ∙ drop_at s (concat ss ++ rest) (length s) refl in
    ap₂ (λ (a : List ℕ) (b : List (List ℕ)). a ∷ b) first (sections_back ws rest (at + length s) ss all later (omega arith))

module _ (k : Kept) (all : AreWords (words_of k)) where
  abbrev ss : List (List ℕ)
  ss = sections_of k

  abbrev file : List ℕ
  file = bytes_of k

  -- the file's length in bytes, and where its trailer begins
  written_length : length file ≡ 8 * (length (concat ss) + 16)
  written_length = length_bytes (words_of k) ∙ ap (λ (n : ℕ). 8 * n) (length-append (concat ss) (trailer_of ss))

  written_trailer : trailer_at file ≡ length (concat ss)
  written_trailer = let l = written_length in omega arith

  -- each word of the trailer is the one that was written
  trailer_back : (i : ℕ) → i < 16 → trailer_word file i ≡ get_or (trailer_of ss) i 0
  trailer_back i h =
      let l = length-append (concat ss) (trailer_of ss) in
      ap (λ (n : ℕ). word_at file (n + i)) written_trailer
      ∙ word_back (words_of k) (length (concat ss) + i) all (omega arith)
      ∙ get_or-append-add (concat ss) (trailer_of ss) i 0

  pointers_back : map (trailer_word file) (numbers_from 0 14) ≡ pointers_from 0 ss
  pointers_back j =
      trailer_back 0 (omega arith) j ∷ trailer_back 1 (omega arith) j ∷ trailer_back 2 (omega arith) j ∷ trailer_back 3 (omega arith) j
      ∷ trailer_back 4 (omega arith) j ∷ trailer_back 5 (omega arith) j ∷ trailer_back 6 (omega arith) j ∷ trailer_back 7 (omega arith) j
      ∷ trailer_back 8 (omega arith) j ∷ trailer_back 9 (omega arith) j ∷ trailer_back 10 (omega arith) j ∷ trailer_back 11 (omega arith) j
      ∷ trailer_back 12 (omega arith) j ∷ trailer_back 13 (omega arith) j ∷ []

  -- 21 and 22 let it through
  written_whole : file_refused file ≡ false
  written_whole =
      let l = written_length in
      let bytes : trailer_word file 14 ≡ length file = trailer_back 14 (omega arith) ∙ sym l in
      let version : trailer_word file 15 ≡ 1 = trailer_back 15 (omega arith) in
      let long = le-ltb (length file) 128 (omega arith) in
      let words = ap not (eq-eqb (length file % 8) 0 (omega arith)) in
      ap₂ (λ (a b : Bool). a || b || not (eqb (trailer_word file 14) (length file)) || not (eqb (trailer_word file 15) 1)) long words
      ∙ ap₂ (λ (a b : Bool). a || b) (ap not (eq-eqb _ _ bytes)) (ap not (eq-eqb _ _ version))

  written_placed : places_refused file ≡ false
  written_placed =
      ap₂ (λ (n : ℕ) (ps : List ℕ). not (touch 0 n ps)) written_trailer pointers_back
      ∙ ap not (touch_pointers 0 (length (concat ss)) ss (zero-add (length (concat ss))))

  -- and what is read is what was kept
  written_kept : kept_in file ≡ k
  written_kept =
      ap (λ (ps : List ℕ). kept_by (sections_at file ps)) pointers_back
      ∙ ap kept_by (sections_back (words_of k) (trailer_of ss) 0 ss all refl (let l = length-append (concat ss) (trailer_of ss) in omega arith))

  -- every written file passes all checks, and reading it restores what was kept, wherever the counts are a plan's and the outputs are long enough
  pub read_back : (lent : WordCounts) → counts_refused lent k ≡ false → read_file file lent ≡ given k
  read_back lent e =
      ap₂ (λ (a b : Bool). refuse a 21 (refuse b 22 (refuse (counts_refused lent (kept_in file)) 23 (given (kept_in file))))) written_whole written_placed
      ∙ ap (λ (x : Kept). refuse (counts_refused lent x) 23 (given x)) written_kept
      ∙ ap (λ (t : Bool). refuse t 23 (given k)) e

-- ---- what is read is what was written

-- words from a place on, and the words behind them
words_further : (file : List ℕ) (at n m : ℕ) → words_at file at (n + m) ≡ words_at file at n ++ words_at file (at + n) m
words_further file at zero m = ap₂ (λ (a b : ℕ). words_at file a b) (sym (add-zero at)) (zero-add m)
words_further file at (suc n) m =
    ap (words_at file at) (suc-add n m)
    ∙ ap (λ (l : List ℕ). word_at file at ∷ l) (words_further file (suc at) n m)
    ∙ ap (λ (a : ℕ). word_at file at ∷ (words_at file (suc at) n ++ words_at file a m)) (suc-add at n ∙ sym (add-suc at n))

-- sections that touch are all words from the first place to the last, and their layout gives the starts and counts back
record Laid (file : List ℕ) (at end : ℕ) (ps : List ℕ) : Type 0 where
  upwards : at ≤ end
  words : concat (sections_at file ps) ≡ words_at file at (end - at)
  pointers : pointers_from at (sections_at file ps) ≡ ps

laid : (file : List ℕ) (at end : ℕ) (ps : List ℕ) → touch at end ps ≡ true → Laid file at end ps
laid file at end [] e =
    let same = eqb-true at end e in
    let none : 0 ≡ end - at = omega arith in record { upwards = omega arith; words = ap (words_at file at) none; pointers = refl }
laid file at end (start ∷ []) e = let z : ◌≡◌ {A = ℕ} 0 1 = cc in absurd (omega arith)
laid file at end (start ∷ count ∷ rest) e =
    let next = touch_next at end start count rest e in
    let here = next.0 in
    let later = laid file (at + count) end rest next.1 in
    let up = later.upwards in
    let long = length_words file start count in
    let whole : count + (end - (at + count)) ≡ end - at = omega arith in record {
      upwards = omega arith;
      words =
          ap₂ (λ (s : ℕ) (l : List ℕ). words_at file s count ++ l) here later.words
          ∙ sym (words_further file at count (end - (at + count)))
          ∙ ap (words_at file at) whole;
      pointers =
          ap (λ (n : ℕ). at ∷ n ∷ pointers_from (at + n) (sections_at file rest)) long
          ∙ ap₂ (λ (s : ℕ) (l : List ℕ). s ∷ count ∷ l) (sym here) later.pointers;
    }

pub restored_same : (k j : Kept) → given k ≡ given j → k ≡ j
restored_same k j e = cc

-- a file that is read is the file of what it gives back, so that no plan has two files
pub file_is : (file : List ℕ) (lent : WordCounts) (k : Kept) → AreBytes file → read_file file lent ≡ given k → bytes_of k ≡ file
file_is file lent k bytes e =
    let a = accepted file lent (ap number_of e) in
    let same = restored_same (kept_in file) k (sym a.read ∙ e) in
    let t = trailer_at file in
    let end = trailer_fits file a.is_whole in
    let l = laid file 0 t (map (trailer_word file) (numbers_from 0 14)) a.touching in
    let front : concat (sections_of (kept_in file)) ≡ words_at file 0 t = l.words ∙ ap (words_at file 0) (sub-zero t) in
    let count : length (concat (sections_of (kept_in file))) ≡ t = ap length front ∙ length_words file 0 t in
    let bytes_word : 8 * (length (concat (sections_of (kept_in file))) + 16) ≡ trailer_word file 14 =
    ap (λ (n : ℕ). 8 * (n + 16)) count ∙ end ∙ sym a.is_whole.length_word in
    let trailer : trailer_of (sections_of (kept_in file)) ≡ words_at file t 16 =
    ap₂ (λ (ps : List ℕ) (n : ℕ). ps ++ (n ∷ 1 ∷ [])) l.pointers bytes_word
    ∙ ap (λ (v : ℕ). map (trailer_word file) (numbers_from 0 14) ++ (trailer_word file 14 ∷ v ∷ [])) (sym a.is_whole.version_word)
    ∙ sym (words_are file t 0 16)
    ∙ ap (λ (n : ℕ). words_at file n 16) (add-zero t) in
    let all : 8 * (t + 16) ≡ length file = end in
    ap bytes_of (sym same)
    ∙ ap word_bytes
    (ap₂ (λ (x y : List ℕ). x ++ y) front (trailer ∙ ap (λ (n : ℕ). words_at file n 16) (sym (zero-add t))) ∙ sym (words_further file 0 t 16))
    ∙ file_back file 0 (t + 16) bytes (omega arith)
    ∙ take_all (8 * (t + 16)) file (omega arith)
