-- Which numbers are words of 64 bits: entries of joined lists, flags, powers of two and the bits of floats. A flag comes back from its word.
use mathlib.Core.Path.{◌≡◌, refl}
use mathlib.Core.Bool.{Bool, true, false, cond}
use mathlib.Core.List.{List, [], ◌∷◌, ◌++◌}
use Prim.Native.Nat.{ℕ, zero, suc, ◌^◌, ◌<◌}
use native.Mathlib.Omega.{arith}
use lib.Dec.{T}
use lib.ListN.{length, get_or}
use lib.Pow.{pow_mono}
use lib.Ieee.{Float, binary64, fits}
use lib.Ieee.Bits.{to_bits-lt}
use mir.Val.{bool_byte}
use Rattle.words.specs.Words.{AreBelow, AreWords, flag_word, flag_in, bits_word}

-- ---- lists

-- a list whose entries stand below n
pub below_each : {n : ℕ} (xs : List ℕ) → ((i : ℕ) → i < length xs → get_or xs i 0 < n) → AreBelow n xs
below_each [] h = tt
below_each (x ∷ xs) h = (h zero (omega arith), below_each xs (λ i g. h (suc i) (omega arith)))

-- and each of them
pub below_at : {n : ℕ} (xs : List ℕ) (i : ℕ) → AreBelow n xs → i < length xs → get_or xs i 0 < n
below_at [] i all h = absurd (omega arith)
below_at (x ∷ xs) zero all h = all.0
below_at (x ∷ xs) (suc i) all h = below_at xs i all.1 (omega arith)

-- words behind words
pub words_append : (xs ys : List ℕ) → AreWords xs → AreWords ys → AreWords (xs ++ ys)
words_append [] ys p q = q
words_append (x ∷ xs) ys p q = (p.0, words_append xs ys p.1 q)

-- ---- one word

-- either of two words
pub cond_word : (t : Bool) (a b : ℕ) → a < 2 ^ 64 → b < 2 ^ 64 → cond t a b < 2 ^ 64
cond_word true a b p q = p
cond_word false a b p q = q

-- a power of two below 2 ^ 64
pub power_word : (k : ℕ) → k < 64 → 2 ^ k < 2 ^ 64
power_word k h = let m = pow_mono {i = k} {j = 63} (omega arith) in omega arith

-- a flag's
pub flag_word_lem : (t : Bool) → flag_word t < 2 ^ 64
flag_word_lem t = cond_word t 1 0 (omega arith) (omega arith)

-- and it comes back
pub flag_back : (b : Bool) → flag_in (flag_word b) ≡ b
flag_back true = refl
flag_back false = refl

-- a flag as the number that `u64::from` gives
pub flag_is : (b : Bool) → bool_byte b ≡ flag_word b
flag_is true = refl
flag_is false = refl

-- ---- floats that binary64 holds

-- binary64 holds v
abbrev pub FloatFits : Float → Type 0
FloatFits v = T (fits binary64 v)

-- their bits are a word
pub float_word : (v : Float) → FloatFits v → bits_word v < 2 ^ 64
float_word v h = to_bits-lt binary64 v h
