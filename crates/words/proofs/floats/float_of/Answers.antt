-- `words::floats::float_of` meets its contract: the bits without the sign are above an infinity's exactly where the pattern is a NaN's. There the
-- value is `nan`, which 0 / 0 is.
use mathlib.Core.Path.{◌≡◌, refl, sym, ◌∙◌, subst}
use mathlib.Core.Bool.{Bool, not}
use lib.Dec.{T}
use lib.Ieee.{Float, nan, inf, fin, binary64, of_bits, div, is_nan}
use lib.Ieee.Bits.{nan_bits_is, nan_bits_above}
use borrow.Author.Tests.{lt-ltb, le-ltb}
use Rattle.words.proofs.floats.float_of.Goals as goal

nan_same : (x : Float) → T (is_nan x) → nan ≡ x
unfolding is_nan
nan_same nan t = refl
nan_same (inf s) t = absurd t
nan_same (fin s m e) t = absurd t

pub float_from_bits-result : goal.float_from_bits-result
float_from_bits-result c =
    let bits = c.args.bits in
    subst (λ (b : Bool). T (not b)) (sym (nan_bits_above binary64 bits ∙ le-ltb _ _ c.if-bits-gt9218868437227405312.false)) tt

pub returns-then-bits-gt9218868437227405312 : goal.returns-then-bits-gt9218868437227405312
unfolding div of_bits
returns-then-bits-gt9218868437227405312 c =
    let bits = c.args.bits in
    nan_same (of_bits binary64 bits)
    (subst T (sym (sym (nan_bits_is binary64 bits) ∙ nan_bits_above binary64 bits ∙ lt-ltb _ _ c.if-bits-gt9218868437227405312.true)) tt)
