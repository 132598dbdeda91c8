-- What each test of reading says once it is passed: where the trailer stands, that the last section ends there, and that no output is shorter than its section.
-- So the place where the code reads component_count is the third of the scalar words.
use mathlib.Core.Path.{◌≡◌, refl, sym, ap, ap₂, ◌∙◌}
use mathlib.Core.Bool.{Bool, true, false, not, cond, ◌||◌}
use mathlib.Core.List.{List, map}
use Prim.Native.Nat.{ℕ, suc, ◌+◌, ◌-◌, ◌*◌, ◌%◌, ◌≤◌}
use native.Mathlib.Omega.{arith}
use lib.Dec.{eqb}
use lib.ListN.{length, get_or}
use Rattle.std.proofs.Common.{rules}
use Rattle.std.proofs.lemmas.Grind.{common_steps}
use Rattle.refusals.specs.Answer.{given, refused}
use Rattle.words.specs.Lists.{numbers_from}
use Rattle.words.specs.File.{word_at, words_at}
use Rattle.words.proofs.Bytes.{length_words}
use Rattle.plan_buffers.specs.declared.WordCounts.{WordCounts}
use Rattle.plan_buffers.specs.SixOutputs.{outputs_short}
use Rattle.stored_plan.specs.Stored.{Kept}
use Rattle.stored_plan.specs.Reading.{Read, trailer_at, trailer_word, file_refused, kept_in, touch, counts_of, odd_counts, counts_refused, read_file}
use Rattle.stored_plan.specs.Loading.{number_of, trailer_in, counts_in}

-- a refusal where the test holds, and else the rest
abbrev pub refuse : Bool → ℕ → Read → Read
refuse test number rest = cond test (refused number) rest

-- ---- 21

module _ (file : List ℕ) where
  pub record Whole : Type 0 where
    pub long : 128 ≤ length file
    pub words : length file % 8 ≡ 0
    pub length_word : trailer_word file 14 ≡ length file
    pub version_word : trailer_word file 15 ≡ 1

  pub whole : file_refused file ≡ false → Whole
  whole e = search rules

  -- so the trailer's sixteen words are the last
  pub trailer_fits : Whole → 8 * (trailer_at file + 16) ≡ length file
  trailer_fits w = let a = w.long in let b = w.words in omega arith

  -- ---- 22

  -- the last section ends at the trailer
  ends : touch 0 (trailer_at file) (map (trailer_word file) (numbers_from 0 14)) ≡ true → trailer_word file 12 + trailer_word file 13 ≡ trailer_at file
  ends e = grind (arith, common_steps)

  -- ---- 23

  -- a section has as many words as its count
  pub counts_are : counts_of (kept_in file) ≡ counts_in (trailer_in file)
  counts_are =
      rw (
        length_words file (trailer_word file 0) (trailer_word file 1),
        length_words file (trailer_word file 2) (trailer_word file 3),
        length_words file (trailer_word file 4) (trailer_word file 5),
        length_words file (trailer_word file 6) (trailer_word file 7),
        length_words file (trailer_word file 8) (trailer_word file 9),
        length_words file (trailer_word file 10) (trailer_word file 11),
      )

  -- component_count, where the scalar section has eight words, is the sixth word from the trailer backwards
  components_are : touch 0 (trailer_at file) (map (trailer_word file) (numbers_from 0 14)) ≡ true → trailer_word file 13 ≡ 8
      → get_or (kept_in file).scalars 2 0 ≡ word_at file (trailer_at file - 6)
  components_are e eight =
      let third : suc (suc (trailer_word file 12)) ≡ trailer_at file - 6 = omega (arith, ends e, eight) in
      ap (λ (n : ℕ). get_or (words_at file (trailer_word file 12) n) 2 0) eight ∙ ap (word_at file) third

-- ---- all tests at once

-- a file that is not refused by 21
not_21 : (t : Bool) → 0 ≡ cond {A = ℕ} t 21 0 → t ≡ false
not_21 true e = absurd (omega arith)
not_21 false e = refl

-- a file with the number 0 passes each test
record Passed (a b c : Bool) (k : Kept) : Type 0 where
  is_file : a ≡ false
  touching : b ≡ true
  counts : c ≡ false
  read : refuse a 21 (refuse (not b) 22 (refuse c 23 (given k))) ≡ given k

passed : (a b c : Bool) (k : Kept) → number_of (refuse a 21 (refuse (not b) 22 (refuse c 23 (given k)))) ≡ 0 → Passed a b c k
passed true b c k e = absurd (omega arith)
passed false false c k e = absurd (omega arith)
passed false true true k e = absurd (omega arith)
passed false true false k e = record { is_file = refl; touching = refl; counts = refl; read = refl }

-- no output is shorter than its section
pub record Room (lent counts : WordCounts) : Type 0 where
  pub steps : counts.steps ≤ lent.steps
  pub merges : counts.merges ≤ lent.merges
  pub sizes : counts.sizes ≤ lent.sizes
  pub rotations : counts.rotations ≤ lent.rotations
  pub promotions : counts.promotions ≤ lent.promotions
  pub measurements : counts.measurements ≤ lent.measurements

room_of : (n : ℕ) (x : Bool) (lent counts : WordCounts) → (not (eqb n 8) || x || outputs_short lent counts) ≡ false → Room lent counts
room_of n x lent counts e = search rules

-- where a count that is not 8 is refused, the test behind it decides at 8 alone
same_test : (n : ℕ) (x y z : Bool) → (n ≡ 8 → x ≡ y) → (not (eqb n 8) || x || z) ≡ (not (eqb n 8) || y || z)
same_test n x y z h = search rules

module _ (file : List ℕ) (lent : WordCounts) where
  abbrev places : Bool
  places = touch 0 (trailer_at file) (map (trailer_word file) (numbers_from 0 14))

  -- 23's tests as the code makes them
  abbrev counts_bad : List ℕ → WordCounts → ℕ → Bool
  counts_bad trailer counts components = not (eqb (get_or trailer 13 0) 8) || odd_counts counts components || outputs_short lent counts

  abbrev bad : Bool
  bad = counts_bad (trailer_in file) (counts_in (trailer_in file)) (word_at file (trailer_at file - 6))

  counts_tested : places ≡ true → counts_refused lent (kept_in file) ≡ bad
  counts_tested e =
      let k = kept_in file in
      let counts = counts_in (trailer_in file) in
      ap₂ (λ (n : ℕ) (c : WordCounts). not (eqb n 8) || odd_counts c (get_or k.scalars 2 0) || outputs_short lent c)
      (length_words file (trailer_word file 12) (trailer_word file 13)) (counts_are file)
      ∙ same_test (trailer_word file 13) _ _ _ (λ eight. ap (odd_counts counts) (components_are file e eight))

  -- the number by 23's tests, where 21 and 22 let the file through
  pub number_counts : {trailer : List ℕ} {counts : WordCounts} → trailer ≡ trailer_in file → 0 ≡ cond {A = ℕ} (file_refused file) 21 0
      → touch 0 (trailer_at file) (map (λ i. get_or trailer i 0) (numbers_from 0 14)) ≡ true → counts ≡ counts_in trailer
      → (t : Bool) → counts_bad trailer counts (word_at file (trailer_at file - 6)) ≡ t
      → number_of (refuse t 23 (given (kept_in file))) ≡ number_of (read_file file lent)
  number_counts same e f n t g =
      let whole = not_21 (file_refused file) e in
      let touching : places ≡ true = ap (λ (l : List ℕ). touch 0 (trailer_at file) (map (λ i. get_or l i 0) (numbers_from 0 14))) (sym same) ∙ f in
      let tests : bad ≡ t =
      ap₂ (λ (l : List ℕ) (c : WordCounts). counts_bad l c (word_at file (trailer_at file - 6))) (sym same) (ap counts_in (sym same) ∙ sym n) ∙ g in
      sym (
      ap₂ (λ (a b : Bool). number_of (refuse a 21 (refuse (not b) 22 (refuse (counts_refused lent (kept_in file)) 23 (given (kept_in file)))))) whole touching
      ∙ ap (λ (b : Bool). number_of (refuse b 23 (given (kept_in file)))) (counts_tested touching ∙ tests))

  -- ---- no refusal

  pub record Accepted : Type 0 where
    pub read : read_file file lent ≡ given (kept_in file)
    pub is_whole : Whole file
    pub touching : places ≡ true
    pub eight : trailer_word file 13 ≡ 8
    pub room : Room lent (counts_in (trailer_in file))

  pub accepted : number_of (read_file file lent) ≡ 0 → Accepted
  accepted h =
      let p = passed (file_refused file) places (counts_refused lent (kept_in file)) (kept_in file) h in
      let tests : bad ≡ false = sym (counts_tested p.touching) ∙ p.counts in record {
        read = p.read;
        is_whole = whole file p.is_file;
        touching = p.touching;
        eight = search rules;
        room = room_of (trailer_word file 13) _ lent (counts_in (trailer_in file)) tests;
      }

  -- a number that is not 0 is the refusal
  pub refused_is : (number : ℕ) → number ≡ number_of (read_file file lent) → (number ≡ 0 → ⊥) → read_file file lent ≡ refused number
  refused_is number e n = by (read_file file lent) e
    where
      by : (r : Read) → number ≡ number_of r → r ≡ refused number
      by (given k) e = absurd (n e)
      by (refused m) e = ap refused (sym e)
