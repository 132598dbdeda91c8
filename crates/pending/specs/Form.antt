-- The form of a list of pending operations: what 26 asks, in 02, CR 6: "A list or operation outside this form or these limits, mask bits at or above the width,
-- or an output too short for the list or the map gives 26 first of all".
use Rattle.std.specs.Prelude.{ℕ, ◌-◌, ◌*◌, ◌%◌, ◌^◌, List, [], ◌∷◌, Bool, true, false, ◌&&◌, ◌||◌, length, get_or, drop, pos, Float, if◌then◌else◌, nat_le, nat_lt, ◌==◌}
use Rattle.std.specs.List.{list_all}
use Rattle.std.specs.Float.{fin, binary64}
use Rattle.std.specs.Float.Ieee.{of_bits, le}
use Rattle.records.specs.Pass.{within}
use Rattle.pending.specs.Operation.{operation_words, operation_count, Operation, operations_of, kind, rotation_angle, rotation_x, rotation_z, rotation_phase, rotation_sign, behind_rotation, measurement_x, measurement_z, measurement_phase, measurement_sign, record_flag, record_value, condition_flag, condition_value, expectation_flag, expectation_value, behind_measurement, classical_outcome, classical_record_flag, classical_record_value, classical_condition_flag, classical_condition_value, behind_classical}

-- "at most 1,024 operations"
abbrev pub most_operations : ℕ
most_operations = 1024

-- "and 1,024 preserved prefixes"
abbrev pub most_prefixes : ℕ
most_prefixes = 1024

-- "strings have one width of 1 to 64", "eight conditions"
abbrev pub most_width : ℕ
most_width = 64

abbrev pub most_conditions : ℕ
most_conditions = 8

-- the Rust's fields of 32 bits hold no more
abbrev pub most_number : ℕ
most_number = 2 ^ 31 - 1

-- 2^20 and -2^20: `fin s m e` is m * 2 ^ e, negative where s is true
abbrev pub most_angle : Float
most_angle = fin false 1 (pos 20)

abbrev pub least_angle : Float
least_angle = fin true 1 (pos 20)

-- "angles lie from -2^20 to 2^20, both included"; a NaN does not
abbrev pub angle_fits : ℕ → Bool
angle_fits bits = within least_angle most_angle (of_bits binary64 bits)

-- no bit at or above the width
abbrev pub mask_fits : (width : ℕ) → ℕ → Bool
mask_fits width mask = nat_lt mask (2 ^ width)

-- "phases are 0 to 3"
unfoldable pub string_fits : (width x z phase : ℕ) → Bool
string_fits width x z phase = mask_fits width x && (mask_fits width z && nat_le phase 3)

-- a condition that is used is "positive, strictly ascending", and one that is not is 0; `left` says how many are still used, from this one on
abbrev pub condition_fits : (left last condition : ℕ) → Bool
condition_fits left last c =
    if left == 0 then c == 0
    else nat_lt last c && nat_le c most_number

-- all conditions, the first `left` of them used and above the last one
abbrev pub conditions_fit : (left last : ℕ) → List ℕ → Bool
conditions_fit left last [] = true
conditions_fit left last (c ∷ cs) = condition_fits left last c && conditions_fit (left - 1) c cs

-- the words of a sign
abbrev pub sign_constant : List ℕ → ℕ
sign_constant s = get_or s 0 0

abbrev pub sign_count : List ℕ → ℕ
sign_count s = get_or s 1 0

abbrev pub sign_conditions : List ℕ → List ℕ
sign_conditions s = drop 2 s

-- "sign: constant 0 or 1, count, eight conditions, unused ones 0"
unfoldable pub sign_fits : List ℕ → Bool
sign_fits s =
    nat_le (sign_constant s) 1
    && (nat_le (sign_count s) most_conditions && conditions_fit (sign_count s) 0 (sign_conditions s))

-- an Option's flag and value
unfoldable pub option_fits : (flag value : ℕ) → Bool
option_fits flag value = nat_le flag 1 && (nat_le value most_number && (flag == 1 || value == 0))

-- "then zeros"
abbrev pub all_zero : List ℕ → Bool
all_zero ws = list_all (λ w. w == 0) ws

unfoldable pub rotation_fits : (width : ℕ) → Operation → Bool
rotation_fits width o =
    angle_fits (rotation_angle o)
    && (string_fits width (rotation_x o) (rotation_z o) (rotation_phase o)
    && (sign_fits (rotation_sign o)
    && all_zero (behind_rotation o)))

unfoldable pub measurement_fits : (width : ℕ) → Operation → Bool
measurement_fits width o =
    string_fits width (measurement_x o) (measurement_z o) (measurement_phase o)
    && (sign_fits (measurement_sign o)
    && (option_fits (record_flag o) (record_value o)
    && (option_fits (condition_flag o) (condition_value o)
    && (option_fits (expectation_flag o) (expectation_value o)
    && all_zero (behind_measurement o)))))

unfoldable pub record_fits : Operation → Bool
record_fits o =
    sign_fits (classical_outcome o)
    && (option_fits (classical_record_flag o) (classical_record_value o)
    && (option_fits (classical_condition_flag o) (classical_condition_value o)
    && all_zero (behind_classical o)))

-- by kind; there is none above 2
unfoldable pub operation_fits : (width : ℕ) → Operation → Bool
operation_fits width o = get_or (rotation_fits width o ∷ measurement_fits width o ∷ record_fits o ∷ []) (kind o) false

-- whole operations alone
abbrev pub are_whole : List ℕ → Bool
are_whole words = length words % operation_words == 0

-- a whole call: "all strings have one width of 1 to 64"
unfoldable pub form_fits : (width : ℕ) (words prefixes : List ℕ) (optimized_len map_len : ℕ) → Bool
unfolding operations_of operation_fits rotation_fits measurement_fits record_fits string_fits sign_fits option_fits within of_bits le
form_fits width words prefixes optimized_len map_len =
    nat_le 1 width
    && (nat_le width most_width
    && (are_whole words
    && (nat_le (length words) (operation_words * most_operations)
    && (nat_le (length prefixes) most_prefixes
    && (nat_le (length words) optimized_len
    && (nat_lt (operation_count words) map_len
    && list_all (operation_fits width) (operations_of words)))))))
