-- The form at its limits, from both sides, and what is read of an operation's words: each case of the tables has the answer beside it, by computation.
-- Assumes nothing.
use mathlib.Core.Path.{◌≡◌, refl}
use mathlib.Core.Bool.{Bool, true, false}
use mathlib.Core.List.{List, [], ◌∷◌, map}
use Prim.Native.Nat.{ℕ, ◌+◌, ◌*◌, ◌-◌, ◌^◌}
use lib.ListN.{set, take, replicate}
use lib.Count.{ones_in}
use lib.IntN.{pos, negsuc}
use lib.Ieee.{fin, le, of_bits}
use Rattle.records.specs.Pass.{within}
use Rattle.pending.specs.Operation.{Operation, operations_of, is_rotation, is_measurement, is_expectation, has_string, x_of, z_of, strings_commute, commute, angle_of, y_count, coefficient, is_hermitian, whole_sign}
use Rattle.pending.specs.Form.{operation_fits, rotation_fits, measurement_fits, record_fits, string_fits, sign_fits, option_fits, form_fits}
use Rattle.pending.specs.Examples.{sign, plain, opposite, none, some, rotation, measurement, classical, words_of, half, most, minus}

-- ---- the form of an operation

record Case : Type 0 where
  width : ℕ
  operation : Operation
  answer : Bool

abbrev fits : (width : ℕ) → Operation → Case
fits width o = record { width = width; operation = o; answer = true }

abbrev unfit : (width : ℕ) → Operation → Case
unfit width o = record { width = width; operation = o; answer = false }

-- one of each kind at width 3
abbrev turn : Operation
turn = rotation half 7 5 3 (sign 1 (2 ∷ 4 ∷ []))

abbrev read : Operation
read = measurement 5 7 3 (sign 1 (2 ∷ 4 ∷ [])) (some 6) none (some 0)

abbrev note : Operation
note = classical (sign 1 (2 ∷ 4 ∷ [])) (some 6) none

-- eight conditions, the last the largest
abbrev eight : List ℕ
eight = 1 ∷ 2 ∷ 3 ∷ 4 ∷ 5 ∷ 6 ∷ 7 ∷ (2 ^ 31 - 1) ∷ []

abbrev cases : List Case
cases =
    fits 3 turn
    ∷ fits 3 read
    ∷ fits 3 note
    -- kind
    ∷ unfit 3 (set note 0 3)
    ∷ unfit 3 (set note 0 (2 ^ 32 + 2))
    ∷ unfit 3 (set turn 0 (2 ^ 32))
    -- angle: 2^20 and the next float, NaN, infinity, -0, and the least of all
    ∷ fits 3 (set turn 1 most)
    ∷ unfit 3 (set turn 1 (most + 1))
    ∷ fits 3 (set turn 1 (minus most))
    ∷ unfit 3 (set turn 1 (minus (most + 1)))
    ∷ unfit 3 (set turn 1 0x7FF8_0000_0000_0000)
    ∷ unfit 3 (set turn 1 (minus 0x7FF0_0000_0000_0001))
    ∷ unfit 3 (set turn 1 0x7FF0_0000_0000_0000)
    ∷ fits 3 (set turn 1 (minus 0))
    ∷ fits 3 (set turn 1 1)
    -- masks
    ∷ unfit 3 (set turn 2 8)
    ∷ unfit 3 (set turn 3 8)
    ∷ unfit 3 (set read 1 8)
    ∷ unfit 3 (set read 2 8)
    ∷ fits 4 (set turn 2 15)
    ∷ fits 63 (set turn 3 (2 ^ 63 - 1))
    ∷ unfit 63 (set turn 3 (2 ^ 63))
    ∷ fits 64 (set turn 3 (2 ^ 64 - 1))
    ∷ unfit 1 (set turn 2 2)
    -- phase
    ∷ unfit 3 (set turn 4 4)
    ∷ unfit 3 (set read 3 4)
    ∷ unfit 3 (set turn 4 (2 ^ 32))
    -- constant
    ∷ fits 3 (rotation half 1 0 0 opposite)
    ∷ unfit 3 (set turn 5 2)
    ∷ unfit 3 (set read 4 2)
    ∷ unfit 3 (set note 1 2)
    ∷ unfit 3 (set turn 5 (2 ^ 32 + 1))
    -- count
    ∷ fits 3 (rotation half 1 0 0 (sign 0 eight))
    ∷ fits 3 (measurement 1 0 0 (sign 0 eight) none none none)
    ∷ fits 3 (classical (sign 0 eight) none none)
    ∷ unfit 3 (set (rotation half 1 0 0 (sign 0 eight)) 6 9)
    ∷ unfit 3 (set (measurement 1 0 0 (sign 0 eight) none none none) 5 9)
    ∷ unfit 3 (set (classical (sign 0 eight) none none) 2 9)
    ∷ unfit 3 (set turn 6 (2 ^ 32 + 2))
    -- conditions in use: positive, ascending, below 2^31
    ∷ unfit 3 (set turn 7 0)
    ∷ unfit 3 (set turn 8 2)
    ∷ fits 3 (set turn 8 3)
    ∷ unfit 3 (set turn 7 5)
    ∷ fits 3 (set turn 8 (2 ^ 31 - 1))
    ∷ unfit 3 (set turn 8 (2 ^ 31))
    ∷ unfit 3 (set turn 7 (2 ^ 32 + 1))
    ∷ unfit 3 (set read 6 0)
    ∷ unfit 3 (set read 7 2)
    ∷ unfit 3 (set note 3 0)
    ∷ unfit 3 (set note 4 2)
    ∷ unfit 3 (set (rotation half 1 0 0 (sign 0 eight)) 14 7)
    -- and not in use
    ∷ unfit 3 (set turn 6 3)
    ∷ unfit 3 (set turn 6 1)
    ∷ unfit 3 (set turn 9 5)
    ∷ unfit 3 (set turn 14 5)
    ∷ unfit 3 (set read 13 5)
    ∷ unfit 3 (set note 10 5)
    -- options: flag, value under flag 0, value
    ∷ unfit 3 (set read 14 2)
    ∷ unfit 3 (set read 14 0)
    ∷ fits 3 (set read 15 (2 ^ 31 - 1))
    ∷ unfit 3 (set read 15 (2 ^ 31))
    ∷ unfit 3 (set read 15 (2 ^ 32 + 1))
    ∷ unfit 3 (set read 16 2)
    ∷ unfit 3 (set read 17 1)
    ∷ fits 3 (set read 18 0)
    ∷ unfit 3 (set read 18 2)
    ∷ unfit 3 (set read 18 (2 ^ 32 + 1))
    ∷ unfit 3 (set read 19 (2 ^ 31))
    ∷ unfit 3 (set note 11 2)
    ∷ unfit 3 (set note 11 0)
    ∷ unfit 3 (set note 12 (2 ^ 31))
    ∷ unfit 3 (set note 13 2)
    ∷ unfit 3 (set note 14 1)
    -- the first word behind the fields, and the last
    ∷ unfit 3 (set turn 15 1)
    ∷ unfit 3 (set turn 31 1)
    ∷ unfit 3 (set read 20 1)
    ∷ unfit 3 (set read 31 1)
    ∷ unfit 3 (set note 15 1)
    ∷ unfit 3 (set note 31 (2 ^ 32))
    ∷ []

answered : map (λ (c : Case). operation_fits c.width c.operation) cases ≡ map (λ (c : Case). c.answer) cases
unfolding operation_fits rotation_fits measurement_fits record_fits string_fits sign_fits option_fits within le of_bits
answered = refl

-- ---- the form of a call

record Call : Type 0 where
  width : ℕ
  words : List ℕ
  prefixes : List ℕ
  optimized_len : ℕ
  map_len : ℕ
  answer : Bool

abbrev call : (width : ℕ) → (words prefixes : List ℕ) → (optimized_len map_len : ℕ) → Bool → Call
call width ws ps optimized_len map_len answer =
    record { width = width; words = ws; prefixes = ps; optimized_len = optimized_len; map_len = map_len; answer = answer }

abbrev one : List ℕ
one = rotation half 1 0 0 plain

abbrev two : List ℕ
two = words_of (one ∷ note ∷ [])

abbrev calls : List Call
calls =
    -- width
    call 0 [] [] 0 1 false
    ∷ call 1 [] [] 0 1 true
    ∷ call 64 [] [] 0 1 true
    ∷ call 65 [] [] 0 1 false
    ∷ call (2 ^ 32 + 1) [] [] 0 1 false
    -- no whole operations
    ∷ call 1 (take 31 one) [] 99 9 false
    ∷ call 1 (take 33 two) [] 99 9 false
    ∷ call 1 (take 48 two) [] 99 9 false
    ∷ call 1 (take 63 two) [] 99 9 false
    ∷ call 1 two [] 64 3 true
    -- the list's output
    ∷ call 1 two [] 63 3 false
    ∷ call 1 two [] 65 3 true
    -- the map
    ∷ call 1 [] [] 0 0 false
    ∷ call 1 two [] 64 2 false
    ∷ call 1 two [] 64 4 true
    -- every operation is read
    ∷ call 1 (words_of (one ∷ set note 15 1 ∷ one ∷ [])) [] 96 4 false
    ∷ call 1 (words_of (set one 2 2 ∷ note ∷ [])) [] 64 3 false
    ∷ call 2 (words_of (set one 2 2 ∷ note ∷ [])) [] 64 3 true
    -- 1,025 operations
    ∷ call 1 (replicate (32 * 1025) 0) [] (32 * 1025) 1026 false
    -- prefixes: 1,024 of them, whatever they are
    ∷ call 1 two (3 ∷ (2 ^ 64 - 1) ∷ []) 64 3 true
    ∷ call 1 two (replicate 1024 9) 64 3 true
    ∷ call 1 two (replicate 1025 0) 64 3 false
    ∷ []

called : map (λ (c : Call). form_fits c.width c.words c.prefixes c.optimized_len c.map_len) calls ≡ map (λ (c : Call). c.answer) calls
unfolding form_fits
called = refl

-- ---- what is read of an operation

-- rotations about X, Y and -Y, and about two Ys, with the coefficients 0, 0, 2 and 3; the string's sign and the constant together
abbrev turns : List Operation
turns =
    rotation half 1 0 0 plain ∷ rotation half 1 1 1 plain ∷ rotation half 1 1 3 plain ∷ rotation half 3 3 1 opposite ∷ rotation half 3 3 0 opposite
    ∷ rotation half 7 7 0 plain ∷ []

ys_counted : map y_count turns ≡ 0 ∷ 1 ∷ 1 ∷ 2 ∷ 2 ∷ 3 ∷ []
unfolding y_count ones_in
ys_counted = refl

coefficients : map coefficient turns ≡ 0 ∷ 0 ∷ 2 ∷ 3 ∷ 2 ∷ 1 ∷ []
unfolding y_count ones_in
coefficients = refl

hermitian : map is_hermitian turns ≡ true ∷ true ∷ true ∷ false ∷ true ∷ false ∷ []
unfolding y_count ones_in
hermitian = refl

signs : map whole_sign turns ≡ 0 ∷ 0 ∷ 1 ∷ 0 ∷ 0 ∷ 0 ∷ []
unfolding y_count ones_in
signs = refl

-- X, Z, Y, XX, ZZ, and a measurement of X: each with all
abbrev strings : List Operation
strings =
    rotation half 1 0 0 plain ∷ rotation half 0 1 0 plain ∷ rotation half 1 1 1 plain ∷ rotation half 3 0 0 plain ∷ rotation half 0 3 0 plain
    ∷ measurement 1 0 0 plain none none none ∷ []

commuting :
    map (λ a. map (strings_commute a) strings) strings
    ≡ (true ∷ false ∷ false ∷ true ∷ false ∷ true ∷ [])
    ∷ (false ∷ true ∷ false ∷ false ∷ true ∷ false ∷ [])
    ∷ (false ∷ false ∷ true ∷ false ∷ false ∷ false ∷ [])
    ∷ (true ∷ false ∷ false ∷ true ∷ true ∷ true ∷ [])
    ∷ (false ∷ true ∷ false ∷ true ∷ true ∷ false ∷ [])
    ∷ (true ∷ false ∷ false ∷ true ∷ false ∷ true ∷ [])
    ∷ []
unfolding commute ones_in
commuting = refl

-- a rotation, measurements with no expectation value and with 0, a classical record, and one with a word where a measurement has the value's flag
abbrev kinds : List Operation
kinds = turn ∷ measurement 5 7 3 plain (some 6) (some 5) none ∷ read ∷ note ∷ set note 18 1 ∷ []

kinds_read : map (λ o. is_rotation o ∷ is_measurement o ∷ is_expectation o ∷ has_string o ∷ []) kinds
    ≡ (true ∷ false ∷ false ∷ true ∷ [])
    ∷ (false ∷ true ∷ false ∷ true ∷ [])
    ∷ (false ∷ true ∷ true ∷ true ∷ [])
    ∷ (false ∷ false ∷ false ∷ false ∷ [])
    ∷ (false ∷ false ∷ false ∷ false ∷ [])
    ∷ []
kinds_read = refl

strings_read : map (λ o. x_of o ∷ z_of o ∷ []) (turn ∷ read ∷ []) ≡ (7 ∷ 5 ∷ []) ∷ (5 ∷ 7 ∷ []) ∷ []
strings_read = refl

angles_read : map (λ o. angle_of o) (turn ∷ rotation (minus most) 1 0 0 plain ∷ []) ≡ fin false 1 (negsuc 0) ∷ fin true 1 (pos 20) ∷ []
unfolding of_bits
angles_read = refl

operations_read : operations_of (words_of (one ∷ note ∷ read ∷ [])) ≡ one ∷ note ∷ read ∷ []
unfolding operations_of
operations_read = refl
