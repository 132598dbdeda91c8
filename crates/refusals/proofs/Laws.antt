-- No reason has the number 0, which says elsewhere that nothing is refused, and an answer that `?` hands on is the one refusal that it tells of: by cases.
use Rattle.std.specs.Prelude.{Result, Ok, Err, IsErrAnd}
use mathlib.Core.Path.{◌≡◌, ap}
use Prim.Native.Nat.{◌<◌}
use native.Mathlib.Omega.{arith}
use Rattle.refusals.specs.Numbers.{number_of}
use Rattle.refusals.specs.declared.Reason.{Reason}
use Rattle.refusals.specs.declared.Reason.TheVariants.{MaxK, RecordWords, Buffers, InitialK, Kind, Width, Phase, Floats, Flag, Promotion, RotationWidth, MeasurementWidth, NothingActive, ComponentSize, Pivot, PivotComponent, PivotX, PivotZ, Eigenvalues, Identity, File, Sections, Lengths, Ceiling, Squares, Form, Prefix, Generator}

pub positive : (r : Reason) → 0 < number_of r
positive MaxK = omega arith
positive RecordWords = omega arith
positive Buffers = omega arith
positive InitialK = omega arith
positive Kind = omega arith
positive Width = omega arith
positive Phase = omega arith
positive Floats = omega arith
positive Flag = omega arith
positive Promotion = omega arith
positive RotationWidth = omega arith
positive MeasurementWidth = omega arith
positive NothingActive = omega arith
positive ComponentSize = omega arith
positive Pivot = omega arith
positive PivotComponent = omega arith
positive PivotX = omega arith
positive PivotZ = omega arith
positive Eigenvalues = omega arith
positive Identity = omega arith
positive File = omega arith
positive Sections = omega arith
positive Lengths = omega arith
positive Ceiling = omega arith
positive Squares = omega arith
positive Form = omega arith
positive Prefix = omega arith
positive Generator = omega arith

-- what `?` tells of an answer, that it is a refusal and which, as one equation
pub err_is : {A E : Type 0} (r : Result A E) (x : E) → IsErrAnd r (λ e. e ≡ x) → r ≡ Err x
err_is (Ok value) x same = absurd same
err_is (Err e) x same = ap Err same
