-- What a record is and how it is read. 01, section 2 ("Instruction records"), unless a comment names another place.
use Rattle.std.specs.Prelude.{ℕ, zero, suc, ◌*◌, ◌/◌, List, [], ◌∷◌, map, length, get_or, take, drop, Float}
use Rattle.std.specs.Float.{binary64}
use Rattle.std.specs.Float.Ieee.{of_bits}
use Rattle.records.specs.declared.Instruction.{Instruction}
use Rattle.records.specs.declared.Instruction.TheVariants.{Rotation, Promotion, RecordMeasurement, RecordDetector, Measurement, Expectation, DormantBranch}

-- "A record is eight 64-bit words"
abbrev pub record_words : ℕ
record_words = 8

-- Word j of a record, and 0 where the record has no such word.
abbrev pub word_of : List ℕ → ℕ → ℕ
word_of r j = get_or r j 0

-- "kind, width, x mask, z mask, phase exponent, then three by kind"
abbrev pub kind : List ℕ → ℕ
kind r = word_of r 0

abbrev pub width : List ℕ → ℕ
width r = word_of r 1

abbrev pub x_mask : List ℕ → ℕ
x_mask r = word_of r 2

abbrev pub z_mask : List ℕ → ℕ
z_mask r = word_of r 3

abbrev pub phase : List ℕ → ℕ
phase r = word_of r 4

-- "A rotation's last three are angle, sine, cosine as binary64 bits"
abbrev pub angle : List ℕ → Float
angle r = of_bits binary64 (word_of r 5)

abbrev pub sine : List ℕ → Float
sine r = of_bits binary64 (word_of r 6)

abbrev pub cosine : List ℕ → Float
cosine r = of_bits binary64 (word_of r 7)

-- "A measurement's are pivot, expectation flag (0 or 1), one unread word"
abbrev pub pivot : List ℕ → ℕ
pivot r = word_of r 5

abbrev pub flag : List ℕ → ℕ
flag r = word_of r 6

-- Flag 0; "flag 1 leaves width, masks, phase and pivot unread". A flag above 1, which the record pass refuses, reads as 1.
unfoldable pub measurement_of : List ℕ → Instruction
measurement_of r = get_or (Measurement (width r) (x_mask r) (z_mask r) (phase r) (pivot r) ∷ []) (flag r) Expectation

-- "Kinds: 0 rotation, 1 promotion, 2 record measurement, 3 record detector, 4 active measurement, 5 dormant branch". "Kinds 1, 2, 3, 5 read
-- only the kind".
abbrev pub instructions_by_kind : List ℕ → List Instruction
instructions_by_kind r =
    Rotation (width r) (x_mask r) (z_mask r) (phase r) (angle r) (sine r) (cosine r)
    ∷ Promotion
    ∷ RecordMeasurement
    ∷ RecordDetector
    ∷ measurement_of r
    ∷ DormantBranch
    ∷ []

-- The instruction of the record's kind. A kind above 5, which the record pass refuses, reads as 5.
unfoldable pub instruction_of : List ℕ → Instruction
instruction_of r = get_or (instructions_by_kind r) (kind r) DormantBranch

-- record i of the words
abbrev pub record_at : List ℕ → ℕ → List ℕ
record_at ws i = take record_words (drop (record_words * i) ws)

-- the first n records
unfoldable pub chunks : ℕ → List ℕ → List (List ℕ)
chunks zero ws = []
chunks (suc n) ws = take record_words ws ∷ chunks n (drop record_words ws)

-- how many whole records the words have
abbrev pub record_count : List ℕ → ℕ
record_count ws = length ws / record_words

-- The whole records, in order. Words after the last whole record are in none.
unfoldable pub records_of : List ℕ → List (List ℕ)
records_of ws = chunks (record_count ws) ws

-- The instructions, in order. To unfold this name is to unfold all that it computes by.
unfoldable pub instructions_of : List ℕ → List Instruction
unfolding records_of chunks instruction_of measurement_of of_bits
instructions_of ws = map instruction_of (records_of ws)
