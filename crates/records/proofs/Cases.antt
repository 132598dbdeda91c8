-- The record pass at its limits: each case of the table has the answer beside it, by computation.
-- Assumes nothing.
use mathlib.Core.Path.{◌≡◌, refl}
use mathlib.Core.List.{List, [], ◌∷◌, ◌++◌, map}
use Prim.Native.Nat.{ℕ, ◌+◌, ◌-◌, ◌^◌}
use lib.Ieee.{binary64, of_bits, to_bits, add, mul}
use Rattle.refusals.specs.Answer.{refused_at}
use Rattle.records.specs.Pass.{Checked, Passed, square_sum, record_pass}

-- floats by their bits: 1, the next float above 1, infinity and a NaN; with `sign` added, the negative ones, and -0 alone
abbrev one : ℕ
one = 0x3ff0_0000_0000_0000

abbrev above_one : ℕ
above_one = 0x3ff0_0000_0000_0001

abbrev infinite : ℕ
infinite = 0x7ff0_0000_0000_0000

abbrev not_number : ℕ
not_number = 0x7ff8_0000_0000_0000

abbrev sign : ℕ
sign = 0x8000_0000_0000_0000

-- records by what the pass reads
abbrev rotation : (width phase angle sine cosine : ℕ) → List ℕ
rotation width phase angle sine cosine = 0 ∷ width ∷ 0 ∷ 0 ∷ phase ∷ angle ∷ sine ∷ cosine ∷ []

abbrev measurement : (width phase flag : ℕ) → List ℕ
measurement width phase flag = 4 ∷ width ∷ 0 ∷ 0 ∷ phase ∷ 0 ∷ flag ∷ 0 ∷ []

abbrev other : (kind : ℕ) → List ℕ
other kind = kind ∷ 99 ∷ 0 ∷ 0 ∷ 99 ∷ 0 ∷ 99 ∷ 0 ∷ []

record Case : Type 0 where
  initial_k : ℕ
  words : List ℕ
  answer : Checked

abbrev case : ℕ → List ℕ → Checked → Case
case k ws a = record { initial_k = k; words = ws; answer = a }

abbrev cases : List Case
cases =
    -- 5: kind
    case 0 (other 6) (refused_at 5 0)
    ∷ case 0 (other 5) Passed
    -- 6: width
    ∷ case 0 (rotation 63 0 0 0 one) (refused_at 6 0)
    ∷ case 0 (rotation 62 0 0 0 one) Passed
    ∷ case 0 (measurement 63 0 0) (refused_at 6 0)
    ∷ case 0 (measurement 62 3 0) Passed
    -- 7: phase, after 6
    ∷ case 0 (rotation 0 4 0 0 one) (refused_at 7 0)
    ∷ case 0 (rotation 0 3 0 0 one) Passed
    ∷ case 0 (rotation 63 4 0 0 one) (refused_at 6 0)
    ∷ case 0 (measurement 0 4 0) (refused_at 7 0)
    -- 8: angle, sine and cosine, after 7
    ∷ case 0 (rotation 0 0 infinite 0 one) (refused_at 8 0)
    ∷ case 0 (rotation 0 0 (sign + infinite) 0 one) (refused_at 8 0)
    ∷ case 0 (rotation 0 0 not_number 0 one) (refused_at 8 0)
    ∷ case 0 (rotation 0 0 (infinite - 1) 0 one) Passed
    ∷ case 0 (rotation 0 0 0 one 0) Passed
    ∷ case 0 (rotation 0 0 0 (sign + one) 0) Passed
    ∷ case 0 (rotation 0 0 0 0 (sign + one)) Passed
    ∷ case 0 (rotation 0 0 0 sign one) Passed
    ∷ case 0 (rotation 0 0 0 above_one 0) (refused_at 8 0)
    ∷ case 0 (rotation 0 0 0 0 (sign + above_one)) (refused_at 8 0)
    ∷ case 0 (rotation 0 0 0 not_number one) (refused_at 8 0)
    ∷ case 0 (rotation 0 0 0 0 not_number) (refused_at 8 0)
    ∷ case 0 (rotation 0 4 infinite 0 one) (refused_at 7 0)
    -- 25: the squares of sine and cosine, after 8 of the same record, before 10 and before all of a later one
    ∷ case 0 (rotation 0 0 0 0 0) (refused_at 25 0)
    ∷ case 0 (rotation 0 0 0 one (sign + one)) (refused_at 25 0)
    ∷ case 0 (rotation 0 0 infinite 0 0) (refused_at 8 0)
    ∷ case 0 (rotation 0 0 0 above_one above_one) (refused_at 8 0)
    ∷ case 0 (rotation 0 4 0 0 0) (refused_at 7 0)
    ∷ case 0 (rotation 0 0 0 0 0 ++ rotation 0 0 infinite 0 one) (refused_at 25 0)
    ∷ case 0 (rotation 0 0 infinite 0 one ++ rotation 0 0 0 0 0) (refused_at 8 0)
    ∷ case 0 (rotation 0 0 0 0 one ++ rotation 0 0 0 0 0) (refused_at 25 1)
    ∷ case 512 (rotation 0 0 0 0 0 ++ other 1) (refused_at 25 0)
    ∷ case 512 (other 1 ++ rotation 0 0 0 0 0) (refused_at 10 0)
    -- 9: flag, before 6
    ∷ case 0 (measurement 63 0 2) (refused_at 9 0)
    ∷ case 0 (measurement 63 9 1) Passed
    -- 10: coordinates
    ∷ case 511 (other 1) Passed
    ∷ case 512 (other 1) (refused_at 10 0)
    ∷ case 511 (other 1 ++ other 1) (refused_at 10 1)
    ∷ case (2 ^ 64 - 1) (other 1) (refused_at 10 0)
    ∷ case 600 (other 2 ++ other 3) Passed
    -- the first refusal decides, and a part of a record after the whole ones is in none
    ∷ case 0 (other 5 ++ measurement 0 0 2 ++ other 6) (refused_at 9 1)
    ∷ case 0 (other 6 ++ measurement 0 0 2) (refused_at 5 0)
    ∷ case 0 (other 5 ++ (6 ∷ 0 ∷ 0 ∷ [])) Passed
    ∷ case 0 [] Passed
    ∷ []

answered : map (λ (c : Case). record_pass c.initial_k c.words) cases ≡ map (λ (c : Case). c.answer) cases
unfolding record_pass
answered = refl

-- a sine and a cosine, the sum of their squares, and the answer to a rotation with them
record Pair : Type 0 where
  sine : ℕ
  cosine : ℕ
  sum : ℕ
  answer : Checked

abbrev pair : (sine cosine sum : ℕ) → Checked → Pair
pair s c sum a = record { sine = s; cosine = c; sum = sum; answer = a }

-- 1 - 2^-50 and 1 + 2^-50, with the next float below the one and above the other
abbrev least : ℕ
least = one - 8

abbrev most : ℕ
most = one + 4

abbrev pairs : List Pair
pairs =
    -- (0, 0), (1, 0), (-1, -0), (0.6, 0.8)
    pair 0 0 0 (refused_at 25 0)
    ∷ pair one 0 one Passed
    ∷ pair (sign + one) sign one Passed
    ∷ pair 0x3fe3333333333333 0x3fe999999999999a one Passed
    -- at the lower bound, and the sine a step smaller
    ∷ pair 0x3fe333333333332f 0x3fe9999999999998 least Passed
    ∷ pair 0x3fe333333333332e 0x3fe9999999999998 (least - 1) (refused_at 25 0)
    -- at the upper bound, and the cosine a step larger
    ∷ pair 0x3fe3333333333333 0x3fe999999999999f most Passed
    ∷ pair 0x3fe3333333333333 0x3fe99999999999a0 (most + 1) (refused_at 25 0)
    -- the same with one of them negative
    ∷ pair (sign + 0x3fe333333333332f) 0x3fe9999999999998 least Passed
    ∷ pair (sign + 0x3fe333333333332e) 0x3fe9999999999998 (least - 1) (refused_at 25 0)
    ∷ pair 0x3fe3333333333333 (sign + 0x3fe999999999999f) most Passed
    ∷ pair 0x3fe3333333333333 (sign + 0x3fe99999999999a0) (most + 1) (refused_at 25 0)
    -- with one rounding of the exact sum the first two would be refused, and the third would pass
    ∷ pair 0x3fe333333333332b 0x3fe999999999999a least Passed
    ∷ pair 0x3fe3333333333339 0x3fe999999999999b most Passed
    ∷ pair 0x3fe333333333333a 0x3fe999999999999a (most + 1) (refused_at 25 0)
    -- -0, and a square that is too small for a float
    ∷ pair sign sign 0 (refused_at 25 0)
    ∷ pair 1 one one Passed
    ∷ pair 1 1 0 (refused_at 25 0)
    ∷ []

abbrev sum_of : Pair → ℕ
sum_of p = to_bits binary64 (square_sum (of_bits binary64 p.sine) (of_bits binary64 p.cosine))

summed : map sum_of pairs ≡ map (λ (p : Pair). p.sum) pairs
unfolding square_sum add mul of_bits to_bits
summed = refl

judged : map (λ (p : Pair). record_pass 0 (rotation 0 0 0 p.sine p.cosine)) pairs ≡ map (λ (p : Pair). p.answer) pairs
unfolding record_pass
judged = refl
