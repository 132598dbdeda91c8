-- `words::floats::float_bits` meets its contract: the constant is the pattern of the one NaN.
use Rattle.std.proofs.Common.{◌≡◌, true, refl, sym, ◌∙◌}
use lib.Ieee.{Float, nan, inf, fin, is_nan, binary64, to_bits}
use Rattle.words.proofs.floats.float_bits.Goals as goal

nan_bits : (x : Float) → is_nan x ≡ true → 9221120237041090560 ≡ to_bits binary64 x
unfolding is_nan to_bits
nan_bits nan e = refl
nan_bits (inf s) e = cc
nan_bits (fin s m e) h = cc

pub returns-then-is_nan : goal.returns-then-is_nan
returns-then-is_nan c = nan_bits c.args.x (sym c.is_nan.ensures.value ∙ c.if-is_nan.true)
