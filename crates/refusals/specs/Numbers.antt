-- The number of each reason for a refusal: 01, "Where planning stops", 1 to 20; 02, CR 2, 21 to 23, CR 4, 24, CR 5, 25, and CR 6, 26 to 28.
use Rattle.std.specs.Prelude.{ℕ, List, ◌++◌, codes, decimal}
use Rattle.refusals.specs.declared.Reason.{Reason}
use Rattle.refusals.specs.declared.Refusal.{Refusal}
use Rattle.refusals.specs.declared.Reason.TheVariants.{MaxK, RecordWords, Buffers, InitialK, Kind, Width, Phase, Floats, Flag, Promotion, RotationWidth, MeasurementWidth, NothingActive, ComponentSize, Pivot, PivotComponent, PivotX, PivotZ, Eigenvalues, Identity, File, Sections, Lengths, Ceiling, Squares, Form, Prefix, Generator}

abbrev pub number_of : Reason → ℕ
number_of MaxK = 1
number_of RecordWords = 2
number_of Buffers = 3
number_of InitialK = 4
number_of Kind = 5
number_of Width = 6
number_of Phase = 7
number_of Floats = 8
number_of Flag = 9
number_of Promotion = 10
number_of RotationWidth = 11
number_of MeasurementWidth = 12
number_of NothingActive = 13
number_of ComponentSize = 14
number_of Pivot = 15
number_of PivotComponent = 16
number_of PivotX = 17
number_of PivotZ = 18
number_of Eigenvalues = 19
number_of Identity = 20
number_of File = 21
number_of Sections = 22
number_of Lengths = 23
number_of Ceiling = 24
number_of Squares = 25
number_of Form = 26
number_of Prefix = 27
number_of Generator = 28

-- the words in which a program tells a refusal
abbrev pub told : Refusal → List ℕ
told refusal = codes "refused by " ++ (decimal (number_of refusal.reason) ++ (codes " at record " ++ decimal refusal.index))
