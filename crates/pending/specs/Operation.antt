-- A pending operation as its words. Written from 02, CR 6: "An operation is 32 words: its kind's place in the Rust's list, from 0, its fields in the Rust's
-- order (string: x, z, phase; sign: constant 0 or 1, count, eight conditions, unused ones 0; floats as bits), then zeros". The Rust's list has rotations,
-- measurements and classical records. A rotation's fields are angle, string and sign; a measurement's string, sign, record, record_condition and exp_val; a
-- classical record's outcome, which is a sign, record and record_condition. An Option is two words: 0, 0 or 1, value.
use Rattle.std.specs.Prelude.{ℕ, suc, ◌+◌, ◌*◌, ◌/◌, ◌%◌, List, [], Bool, ◌&&◌, length, get_or, take, drop, Float, if◌then◌else◌, nat_lt, ◌==◌}
use Rattle.std.specs.Int.Bits.{bit_and}
use Rattle.std.specs.Int.Count.{ones_in}
use Rattle.std.specs.Float.{binary64}
use Rattle.std.specs.Float.Ieee.{of_bits}
use Rattle.std.specs.Simd.{first_chunks}

abbrev pub Operation : Type 0
Operation = List ℕ

-- "An operation is 32 words"
abbrev pub operation_words : ℕ
operation_words = 32

abbrev pub operation_count : List ℕ → ℕ
operation_count words = length words / operation_words

-- the whole operations in a list's words, in order
unfoldable pub operations_of : List ℕ → List Operation
operations_of words = first_chunks operation_words (operation_count words) words

-- operation i of a list's words, and no words where there is none
abbrev pub operation_at : (words : List ℕ) → ℕ → Operation
operation_at words i = get_or (operations_of words) i []

-- word j of an operation, and 0 where there is none
abbrev pub word : Operation → ℕ → ℕ
word o j = get_or o j 0

-- n words of an operation, from word j on
abbrev pub words_from : Operation → ℕ → ℕ → List ℕ
words_from o j n = take n (drop j o)

-- ---- the words of each kind, field by field

abbrev pub kind : Operation → ℕ
kind o = word o 0

-- a rotation's, behind which are zeros
abbrev pub rotation_angle : Operation → ℕ
rotation_angle o = word o 1

abbrev pub rotation_x : Operation → ℕ
rotation_x o = word o 2

abbrev pub rotation_z : Operation → ℕ
rotation_z o = word o 3

abbrev pub rotation_phase : Operation → ℕ
rotation_phase o = word o 4

abbrev pub rotation_sign : Operation → List ℕ
rotation_sign o = words_from o 5 10

abbrev pub behind_rotation : Operation → List ℕ
behind_rotation o = drop 15 o

-- a measurement's; its Options are the record, the record's condition and the expectation value, each a flag and a value
abbrev pub measurement_x : Operation → ℕ
measurement_x o = word o 1

abbrev pub measurement_z : Operation → ℕ
measurement_z o = word o 2

abbrev pub measurement_phase : Operation → ℕ
measurement_phase o = word o 3

abbrev pub measurement_sign : Operation → List ℕ
measurement_sign o = words_from o 4 10

abbrev pub record_flag : Operation → ℕ
record_flag o = word o 14

abbrev pub record_value : Operation → ℕ
record_value o = word o 15

abbrev pub condition_flag : Operation → ℕ
condition_flag o = word o 16

abbrev pub condition_value : Operation → ℕ
condition_value o = word o 17

abbrev pub expectation_flag : Operation → ℕ
expectation_flag o = word o 18

abbrev pub expectation_value : Operation → ℕ
expectation_value o = word o 19

abbrev pub behind_measurement : Operation → List ℕ
behind_measurement o = drop 20 o

-- a classical record's; its Options are the record and the record's condition
abbrev pub classical_outcome : Operation → List ℕ
classical_outcome o = words_from o 1 10

abbrev pub classical_record_flag : Operation → ℕ
classical_record_flag o = word o 11

abbrev pub classical_record_value : Operation → ℕ
classical_record_value o = word o 12

abbrev pub classical_condition_flag : Operation → ℕ
classical_condition_flag o = word o 13

abbrev pub classical_condition_value : Operation → ℕ
classical_condition_value o = word o 14

abbrev pub behind_classical : Operation → List ℕ
behind_classical o = drop 15 o

-- ---- kinds

abbrev pub is_rotation : Operation → Bool
is_rotation o = kind o == 0

abbrev pub is_measurement : Operation → Bool
is_measurement o = kind o == 1

-- "exp_val may be 0, so 0 alone cannot mean none": its flag says that there is one
abbrev pub is_expectation : Operation → Bool
is_expectation o = is_measurement o && (expectation_flag o == 1)

-- ---- Pauli strings

-- rotations and measurements have one
abbrev pub has_string : Operation → Bool
has_string o = nat_lt (kind o) 2

-- the word where it begins: behind a rotation's angle, and behind a measurement's kind
abbrev pub string_at : Operation → ℕ
string_at o = if is_rotation o then 2 else 1

abbrev pub x_of : Operation → ℕ
x_of o = word o (string_at o)

abbrev pub z_of : Operation → ℕ
z_of o = word o (suc (string_at o))

-- two strings commute: the overlaps of x with z and of z with x are even in number, taken together
unfoldable pub commute : (x z x' z' : ℕ) → Bool
unfolding ones_in
commute x z x' z' = (ones_in 64 (bit_and x z') + ones_in 64 (bit_and z x')) % 2 == 0

abbrev pub strings_commute : Operation → Operation → Bool
strings_commute a b = commute (x_of a) (z_of a) (x_of b) (z_of b)

abbrev pub same_string : Operation → Operation → Bool
same_string a b = x_of a == x_of b && z_of a == z_of b

-- ---- a rotation's fields

abbrev pub angle_of : Operation → Float
angle_of o = of_bits binary64 (rotation_angle o)

abbrev pub phase_of : Operation → ℕ
phase_of o = rotation_phase o

abbrev pub constant_of : Operation → ℕ
constant_of o = word o 5

-- count and conditions, unused ones too, which are 0
abbrev pub conditions_of : Operation → List ℕ
conditions_of o = words_from o 6 9

-- how many Y the string has: places with both x and z
unfoldable pub y_count : Operation → ℕ
unfolding ones_in
y_count o = ones_in 64 (bit_and (x_of o) (z_of o))

-- the phase less the number of Y, modulo 4; three times a number is its negative there
abbrev pub coefficient : Operation → ℕ
coefficient o = (phase_of o + 3 * y_count o) % 4

-- "a non-Hermitian rotation": that is odd, so that the string's coefficient is not real
abbrev pub is_hermitian : Operation → Bool
is_hermitian o = coefficient o % 2 == 0

-- the sign's constant with the string's own sign in it, which is minus where the coefficient is 2
abbrev pub whole_sign : Operation → ℕ
whole_sign o = (constant_of o + coefficient o / 2) % 2
