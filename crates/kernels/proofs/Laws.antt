-- Laws of words that the proofs of `bits` and of later crates cite: ones counted over a word's width, the highest bit's bounds, bits past the word,
-- and the bit pattern of an exact power. Each follows from the library's account of binary digits.
use mathlib.Core.Path.{◌≡◌, sym, ap, ◌∙◌, subst}
use Prim.Native.Nat.{ℕ, zero, suc, ◌+◌, ◌-◌, ◌*◌, ◌/◌, ◌%◌, ◌^◌, ◌≤◌, ◌<◌}
use native.Mathlib.Nat.{le_antisymm, lt_of_lt_of_le, lt_irrefl, lt_of_not-le, lt-suc_self, div-eq_of_lt, div-one, one-mul}
use native.Mathlib.Omega.{arith}
use mathlib.Core.Bool.{Bool, false, not}
use lib.Dec.{T, lt→ltb}
use lib.Arith.{lt-one}
use lib.Pow.{pow_mono, pow-lt, pow-add, shr_lt, shl-shr}
use lib.Count.{ones_in, ones, ones_step, count_leading_zeros, leading_top}
use lib.IntN.{pos}
use lib.Ieee.{fin, binary64, size, of_bits, to_bits, fits, nan_bits}
use lib.Ieee.Bits.{of_bits-to_bits, nan_bits_above}
use lib.Ieee.Digits.{size-lt, size-le}
use borrow.Author.Tests.{le-ltb}
use Rattle.kernels.specs.Bits.{bit_at, highest_bit}

-- the ones among the d lowest digits are all the ones of a number of d digits
pub ones_in_width : (d n : ℕ) → n < 2 ^ d → ones_in d n ≡ ones n
unfolding ones_in ones
ones_in_width zero n h = sym (ap ones (lt-one h))
ones_in_width (suc d) n h =
    ap (λ (x : ℕ). n % 2 + x) (ones_in_width d (n / 2) (shr_lt d 1 (subst (λ (k : ℕ). n < 2 ^ k) (omega arith) h)))
    ∙ sym (ones_step n)

-- a word that is not 0 has its highest bit at 63 minus its leading zeros: it is at least that power of two and below the next
pub highest_bounds : (x : ℕ) → 0 < x → x < 2 ^ 64 → (2 ^ highest_bit x ≤ x) × (x < 2 ^ suc (highest_bit x))
unfolding highest_bit
highest_bounds x p h =
    let t = leading_top 64 x p h in
    let place : 63 - count_leading_zeros 64 x ≡ t.0 = omega (arith, t.1) in
    (subst (λ (j : ℕ). 2 ^ j ≤ x) (sym place) t.2, subst (λ (j : ℕ). x < 2 ^ suc j) (sym place) t.3)

-- so it has fewer than 64 leading zeros
pub leading_below : (x : ℕ) → 0 < x → x < 2 ^ 64 → count_leading_zeros 64 x ≤ 63
leading_below x p h = let t = leading_top 64 x p h in omega (arith, t.1)

-- a number of d digits has no bit at a place from d on
pub bit_past : (d x p : ℕ) → x < 2 ^ d → d ≤ p → bit_at x p ≡ 0
bit_past d x p h l = ap (λ (y : ℕ). y % 2) (div-eq_of_lt (lt_of_lt_of_le h (pow_mono l)))

-- a word has no bit from place 64 on
pub no_bit_from : (x p : ℕ) → x < 2 ^ 64 → 64 ≤ p → x / 2 ^ p % 2 ≡ 0
unfolding bit_at
no_bit_from x p h l = bit_past 64 x p h l

-- a bit that is set is at a place below the word's width, and its power is at most the word
pub bit_below : (d x p : ℕ) → x < 2 ^ d → (bit_at x p ≡ 0 → ⊥) → p < d
bit_below d x p h set = lt_of_not-le (λ (l : d ≤ p). set (bit_past d x p h l))

-- a power of two has one digit more than its exponent
size_pow : (j : ℕ) → size (2 ^ j) ≡ suc j
size_pow j =
    le_antisymm (size-le (2 ^ j) (suc j) (pow-lt (lt-suc_self j)))
    (lt_of_not-le (λ (l : size (2 ^ j) ≤ j). lt_irrefl (2 ^ j) (lt_of_lt_of_le (size-lt (2 ^ j)) (pow_mono l))))

-- the exponent's field and the digits of 2 ^ k, in units of the smallest value
pattern : (n k : ℕ) → n ≡ 2 ^ (k + 1074) → 0 + (size n - 53) * 2 ^ 52 + n / 2 ^ (size n - 53) ≡ (k + 1023) * 2 ^ 52
pattern n k e =
    let digits : size n ≡ suc (k + 1074) = ap size e ∙ size_pow (k + 1074) in
    let dropped : size n - 53 ≡ k + 1022 = omega arith in
    let whole : n / 2 ^ (k + 1022) ≡ 2 ^ 52 =
    ap (λ (m : ℕ). m / 2 ^ (k + 1022)) (e ∙ ap (λ (j : ℕ). 2 ^ j) (omega arith) ∙ pow-add 2 52 (k + 1022)) ∙ shl-shr (2 ^ 52) (k + 1022) in
    ap (λ (j : ℕ). 0 + j * 2 ^ 52 + n / 2 ^ j) dropped ∙ omega (arith, whole)

-- binary64 holds 2 ^ k up to 1023
exp2_fits : (k : ℕ) → k ≤ 1023 → T (fits binary64 (fin false 1 (pos k)))
unfolding fits
exp2_fits k h = lt→ltb (1 * 2 ^ k) (2 ^ 1024 * 1) (subst (λ (m : ℕ). m < 2 ^ 1024) (sym (one-mul (2 ^ k))) (pow-lt {j = 1024} (omega arith)))

-- the bit pattern with the exponent's field k + 1023 and no digits is 2 ^ k
pub exp2_bits : (k : ℕ) → to_bits binary64 (fin false 1 (pos k)) ≡ (k + 1023) * 2 ^ 52
unfolding to_bits
exp2_bits k =
    pattern (1 * 2 ^ k * 2 ^ 1074 / 1) k (div-one (1 * 2 ^ k * 2 ^ 1074) ∙ ap (λ (m : ℕ). m * 2 ^ 1074) (one-mul (2 ^ k)) ∙ sym (pow-add 2 k 1074))

-- so the float of that pattern is the exact power
pub exp2_of_bits : (k : ℕ) → k ≤ 1023 → of_bits binary64 ((k + 1023) * 2 ^ 52) ≡ fin false 1 (pos k)
exp2_of_bits k h = ap (λ (b : ℕ). of_bits binary64 b) (sym (exp2_bits k)) ∙ of_bits-to_bits binary64 (fin false 1 (pos k)) (exp2_fits k h)

-- a pattern is no NaN's if its exponent's field and digits are at most those of the infinity
pub no_nan_below : (n : ℕ) → n % 2 ^ 63 ≤ 2047 * 2 ^ 52 → T (not (nan_bits binary64 n))
no_nan_below n h = subst (λ (b : Bool). T (not b)) (sym (nan_bits_above binary64 n ∙ le-ltb (2047 * 2 ^ 52) (n % 2 ^ 63) h)) tt
