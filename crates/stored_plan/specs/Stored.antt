-- The file of a plan. Written from 02, CR 2.
use Rattle.std.specs.Prelude.{ℕ, ◌+◌, ◌*◌, List, [], ◌∷◌, ◌++◌, length}
use Rattle.words.specs.Words.{flag_word, bits_word}
use Rattle.words.specs.File.{word_bytes}
use Rattle.plan_spec.specs.Lists.{concat}
use Rattle.plan_spec.specs.Plan.{Plan}

-- what a file keeps of a plan, section by section, in the file's order
pub record Kept : Type 0 where
  pub steps : List ℕ
  pub merges : List ℕ
  pub sizes : List ℕ
  pub rotations : List ℕ
  pub promotions : List ℕ
  pub measurements : List ℕ
  pub scalars : List ℕ

-- "the eight scalar fields of section 4, a word each, works as binary64 bits"
abbrev pub scalars_of : Plan → List ℕ
scalars_of p =
    flag_word p.selected ∷ p.initial_components ∷ p.component_count ∷ bits_word p.dense_work ∷ bits_word p.component_work
    ∷ p.dense_peak ∷ p.peak ∷ p.allocated ∷ []

-- "the first six outputs of 01 in its order, used words only, then the eight scalar fields"; "CR 1's numbers and the group list are not stored",
-- nor is CR 4's ceiling, which is no field of a plan
abbrev pub kept_of : Plan → Kept
kept_of p = record {
  steps = p.steps;
  merges = p.merges;
  sizes = p.sizes;
  rotations = p.rotations;
  promotions = p.promotions;
  measurements = p.measurements;
  scalars = scalars_of p;
}

abbrev pub sections_of : Kept → List (List ℕ)
sections_of k = k.steps ∷ k.merges ∷ k.sizes ∷ k.rotations ∷ k.promotions ∷ k.measurements ∷ k.scalars ∷ []

-- "start and count, in words, of each of the seven sections": they touch, from word `at` on
abbrev pub pointers_from : ℕ → List (List ℕ) → List ℕ
pointers_from at [] = []
pointers_from at (s ∷ ss) = at ∷ length s ∷ pointers_from (at + length s) ss

-- "A trailer of sixteen words", "version 1"
abbrev pub trailer_words : ℕ
trailer_words = 16

abbrev pub file_version : ℕ
file_version = 1

-- "A trailer of sixteen words at the end points back: ..., the file's length in bytes, version 1"
abbrev pub trailer_of : List (List ℕ) → List ℕ
trailer_of ss = pointers_from 0 ss ++ (8 * (length (concat ss) + trailer_words) ∷ file_version ∷ [])

-- the words of a file: "Sections touch, in that order, from word 0 to the trailer"
abbrev pub words_of : Kept → List ℕ
words_of k = concat (sections_of k) ++ trailer_of (sections_of k)

-- its bytes: "a run of 64-bit little-endian words"
abbrev pub bytes_of : Kept → List ℕ
bytes_of k = word_bytes (words_of k)

-- the file of a plan
abbrev pub file_of : Plan → List ℕ
file_of p = bytes_of (kept_of p)
