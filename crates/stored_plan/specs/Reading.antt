-- What reading any list of bytes gives: refusals 21, 22 and 23 in this order, and else the sections. Written from 02, CR 2: "Reading looks at the trailer and
-- component_count only and hands every other word back unjudged".
use Rattle.std.specs.Prelude.{if◌then◌else◌, ℕ, ◌+◌, ◌-◌, ◌*◌, ◌/◌, ◌%◌, List, [], ◌∷◌, map, Bool, false, not, ◌&&◌, ◌||◌, length, get_or, nat_lt, ◌==◌}
use Rattle.refusals.specs.Answer.{Answer, given, refused}
use Rattle.words.specs.Lists.{numbers_from}
use Rattle.words.specs.File.{word_at, words_at}
use Rattle.plan_spec.specs.Rows.{measurement_words, rotation_words, step_words}
use Rattle.plan_buffers.specs.declared.WordCounts.{WordCounts}
use Rattle.plan_buffers.specs.SixOutputs.{outputs_short}
use Rattle.stored_plan.specs.Stored.{file_version, trailer_words, Kept}

-- what reading gives: what the file keeps, or a refusal's number
abbrev pub Read : Type 0
Read = Answer Kept

-- the sixteen words alone: what a file has at least
abbrev pub least_bytes : ℕ
least_bytes = 128

module _ (file : List ℕ) where
  -- how many words stand in front of the trailer
  abbrev pub trailer_at : ℕ
  trailer_at = length file / 8 - trailer_words

  -- word i of "A trailer of sixteen words at the end"
  abbrev pub trailer_word : ℕ → ℕ
  trailer_word i = word_at file (trailer_at + i)

  abbrev pub stated_length : ℕ
  stated_length = trailer_word 14

  abbrev pub stated_version : ℕ
  stated_version = trailer_word 15

  -- 21: "a file under 128 bytes, not a multiple of 8, or with a wrong length or version word"
  abbrev pub file_refused : Bool
  file_refused =
      nat_lt (length file) least_bytes
      || not (length file % 8 == 0)
      || not (stated_length == length file)
      || not (stated_version == file_version)

  -- section s, by its "start and count, in words"
  abbrev pub section_start : ℕ → ℕ
  section_start s = trailer_word (2 * s)

  abbrev pub section_count : ℕ → ℕ
  section_count s = trailer_word (2 * s + 1)

  abbrev pub section_in : ℕ → List ℕ
  section_in s = words_at file (section_start s) (section_count s)

  abbrev pub kept_in : Kept
  kept_in = record {
    steps = section_in 0;
    merges = section_in 1;
    sizes = section_in 2;
    rotations = section_in 3;
    promotions = section_in 4;
    measurements = section_in 5;
    scalars = section_in 6;
  }

-- starts and counts in turn: "Sections touch, in that order", from word `at` to word `end`. They are added up as numbers, so that no sum wraps
abbrev pub touch : (at end : ℕ) → List ℕ → Bool
touch at end [] = at == end
touch at end (start ∷ []) = false
touch at end (start ∷ count ∷ rest) = start == at && touch (at + count) end rest

-- 22: "sections out of place", for they touch "from word 0 to the trailer"
abbrev pub places_refused : List ℕ → Bool
places_refused file = not (touch 0 (trailer_at file) (map (trailer_word file) (numbers_from 0 14)))

-- how many words each of the six outputs has
abbrev pub counts_of : Kept → WordCounts
counts_of k = record {
  steps = length k.steps;
  merges = length k.merges;
  sizes = length k.sizes;
  rotations = length k.rotations;
  promotions = length k.promotions;
  measurements = length k.measurements;
}

-- "an odd steps count, a sizes count that is not component_count, a rotation or measurement count that is no multiple of 21 or 19"
abbrev pub odd_counts : WordCounts → (components : ℕ) → Bool
odd_counts counts components =
    not (counts.steps % step_words == 0)
    || not (counts.sizes == components)
    || not (counts.rotations % rotation_words == 0)
    || not (counts.measurements % measurement_words == 0)

-- 23, "a scalar count that is not 8" too; component_count is the third scalar field
abbrev pub scalar_count : ℕ
scalar_count = 8

abbrev pub component_count : Kept → ℕ
component_count k = get_or k.scalars 2 0

abbrev pub counts_refused : (lent : WordCounts) → Kept → Bool
counts_refused lent k =
    not (length k.scalars == scalar_count)
    || odd_counts (counts_of k) (component_count k)
    || outputs_short lent (counts_of k)

-- what reading a file gives, with outputs of these lengths lent
abbrev pub read_file : (file : List ℕ) → (lent : WordCounts) → Read
read_file file lent =
    if file_refused file then refused 21
    else if places_refused file then refused 22
    else if counts_refused lent (kept_in file) then refused 23
    else given (kept_in file)
