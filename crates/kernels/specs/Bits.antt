-- What the contracts of the module `bits` say: parity, highest bit, bits by place, powers of two, dimensions. Written from 01, sections 1 and 4.
use Rattle.std.specs.Prelude.{ℕ, ◌-◌, ◌*◌, ◌/◌, ◌%◌, ◌^◌, min, Bool, false, Option, Some, None, pos, Float, if◌then◌else◌, nat_le, nat_lt, ◌==◌}
use Rattle.std.specs.Int.Count.{ones_in, count_leading_zeros}
use Rattle.std.specs.Float.{inf, fin}

-- 01, section 1: the ones of a 64-bit word are odd in number
unfoldable pub odd_ones : ℕ → Bool
unfolding ones_in
odd_ones x = ones_in 64 x % 2 == 1

-- 01, section 1: the highest set bit, from the leading zeros. The word 0 has 64 of them, and gives 0
unfoldable pub highest_bit : ℕ → ℕ
unfolding count_leading_zeros
highest_bit x = 63 - count_leading_zeros 64 x

-- the bit of x at the place p, 0 or 1
abbrev pub bit_at : ℕ → ℕ → ℕ
bit_at x p = x / 2 ^ p % 2

-- x with a 0 there
abbrev pub without_bit : ℕ → ℕ → ℕ
without_bit x p = x - bit_at x p * 2 ^ p

-- 01, section 4: exp2 is the exact power of two. binary64 has none past 1023, where this is the infinity
abbrev pub exp2 : ℕ → Float
exp2 k = if nat_le k 1023 then fin false 1 (pos k) else inf false

-- 01, refusals 1 and 14: the dimension of k coordinates is 2 ^ k below the limit: 62 in 01, and the head's ceiling since 02's CR 4. A word holds none from 2 ^ 64 on
unfoldable pub dimension : (limit coordinates : ℕ) → Option ℕ
dimension limit k = if nat_lt k (min limit 64) then Some (2 ^ k) else None
