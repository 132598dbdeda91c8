-- The record pass: refusals 5 to 10, and 25. 01, "Where planning stops", the row "Record pass", unless a comment names another place.
use Rattle.std.specs.Prelude.{ℕ, zero, suc, ◌+◌, ◌-◌, ◌^◌, List, [], ◌∷◌, Bool, ◌&&◌, get_or, pos, negsuc, Float, Result, Ok, Err, if◌then◌else◌, nat_lt, ◌==◌}
use Rattle.std.specs.Float.{fin, binary64}
use Rattle.std.specs.Float.Ieee.{add, mul, le, of_bits}
use Rattle.std.specs.Float.Ieee.Scale.{finite}
use Rattle.refusals.specs.Answer.{Outcome, completed, refused_at}
use Rattle.refusals.specs.Numbers as Reasons
use Rattle.refusals.specs.declared.Refusal.{Refusal}
use Rattle.records.specs.Record.{kind, width, phase, angle, sine, cosine, flag, records_of, chunks}

-- "width > 62", "phase > 3", "the 513th coordinate"
abbrev pub most_width : ℕ
most_width = 62

abbrev pub most_phase : ℕ
most_phase = 3

abbrev pub most_coordinates : ℕ
most_coordinates = 512

-- 1 and -1: `fin s m e` is m * 2 ^ e, negative where s is true
abbrev pub one : Float
one = fin Bool.false 1 (pos 0)

abbrev pub minus_one : Float
minus_one = fin Bool.true 1 (pos 0)

-- from low to high, both included; a NaN is not (`le` is false there)
unfoldable pub within : (low high x : Float) → Bool
within low high x = le low x && le x high

-- in -1 to 1, and so is -0
unfoldable pub within_one : Float → Bool
within_one x = within minus_one one x

-- "6: width > 62. 7: phase > 3". A number 0 says that the record passes.
unfoldable pub action_number : List ℕ → ℕ
action_number r =
    if nat_lt most_width (width r) then 6
    else if nat_lt most_phase (phase r) then 7
    else 0

-- "8: angle not finite, or sine or cosine not in -1 to 1"
unfoldable pub floats_number : List ℕ → ℕ
floats_number r = if finite (angle r) && (within_one (sine r) && within_one (cosine r)) then 0 else 8

-- 02, CR 5: "s·s + c·c, worked in floats": each of the three operations is rounded
unfoldable pub square_sum : (s c : Float) → Float
square_sum s c = add binary64 (mul binary64 s s) (mul binary64 c c)

-- "1 - 2^-50 to 1 + 2^-50", in the form of `one`: `negsuc 49` is -50
abbrev pub least_sum : Float
least_sum = fin Bool.false (2 ^ 50 - 1) (negsuc 49)

abbrev pub most_sum : Float
most_sum = fin Bool.false (2 ^ 50 + 1) (negsuc 49)

-- 02, CR 5: "must lie from 1 - 2^-50 to 1 + 2^-50, both included"
unfoldable pub sums_to_one : (s c : Float) → Bool
sums_to_one s c = within least_sum most_sum (square_sum s c)

-- 02, CR 5: "A failing pair gives 25"
unfoldable pub squares_number : List ℕ → ℕ
squares_number r = if sums_to_one (sine r) (cosine r) then 0 else 25

-- "in table order": the first of two numbers that is not 0
unfoldable pub or_else : ℕ → ℕ → ℕ
or_else zero n = n
or_else (suc m) n = suc m

-- a rotation: 6, 7 and 8, in that order; 25 "right after 8 for the same record" (02, CR 5)
unfoldable pub rotation_number : List ℕ → ℕ
rotation_number r = or_else (action_number r) (or_else (floats_number r) (squares_number r))

-- "10: a promotion that would make the 513th coordinate"
unfoldable pub promotion_number : (coordinates : ℕ) → ℕ
promotion_number coordinates = if nat_lt coordinates most_coordinates then 0 else 10

-- By the flag. "9: flag > 1 (checked before 6)". Flag 1 leaves width and phase unread (01, section 2).
unfoldable pub measurement_number : List ℕ → ℕ
measurement_number r = get_or (action_number r ∷ 0 ∷ []) (flag r) 9

-- the numbers by kind, 0 to 5 in the order of 01, section 2; `coordinates` is how many there are before the record
abbrev pub numbers_by_kind : (coordinates : ℕ) → List ℕ → List ℕ
numbers_by_kind coordinates r =
    rotation_number r
    ∷ promotion_number coordinates
    ∷ 0  -- a record measurement
    ∷ 0  -- a record detector
    ∷ measurement_number r
    ∷ 0  -- a dormant branch
    ∷ []

-- "5: kind > 5"
unfoldable pub number_of : (coordinates : ℕ) → List ℕ → ℕ
number_of coordinates r = get_or (numbers_by_kind coordinates r) (kind r) 5

abbrev pub is_promotion : List ℕ → Bool
is_promotion r = kind r == 1

-- a promotion makes one coordinate (01, section 4)
abbrev pub coordinates_after : (coordinates : ℕ) → List ℕ → ℕ
coordinates_after coordinates r = if is_promotion r then suc coordinates else coordinates

-- the record pass's answer: "A refusal returns its number and record index"
abbrev pub Checked : Type 0
Checked = Outcome Unit

abbrev pub Passed : Checked
Passed = completed tt

-- of the code's answer
abbrev pub checked_of : Result Unit Refusal → Checked
checked_of (Ok done) = Passed
checked_of (Err refusal) = refused_at (Reasons.number_of refusal.reason) refusal.index

-- "A refusal returns its number and record index": of a record with the number n, before the rest
unfoldable pub refused_or : (number index : ℕ) → Checked → Checked
refused_or zero index rest = rest
refused_or (suc n) index rest = refused_at (suc n) index

-- "the first record decides"
unfoldable pub pass_from : (index coordinates : ℕ) → List (List ℕ) → Checked
pass_from index coordinates [] = Passed
pass_from index coordinates (r ∷ rs) =
    let rest = pass_from (suc index) (coordinates_after coordinates r) rs in
    refused_or (number_of coordinates r) index rest

-- The pass over the words, from initial_k coordinates. To unfold this name is to unfold all that it computes by.
unfoldable pub record_pass : (initial_k : ℕ) → List ℕ → Checked
unfolding records_of chunks pass_from refused_or number_of measurement_number promotion_number rotation_number or_else squares_number sums_to_one square_sum floats_number action_number within_one within add mul le of_bits
record_pass initial_k ws = pass_from 0 initial_k (records_of ws)
