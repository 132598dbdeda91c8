-- The library's test of a finite float is that of the record pass: both are false at a NaN and at the infinities alone.
use mathlib.Core.Path.{◌≡◌, refl}
use lib.Ieee.{Float, nan, inf, fin}
use lib.Ieee.Scale.{finite}
use Rattle.std.specs.Float.{float_is_finite}

pub finite_is : (x : Float) → float_is_finite x ≡ finite x
unfolding float_is_finite
finite_is nan = refl
finite_is (inf s) = refl
finite_is (fin s m e) = refl
