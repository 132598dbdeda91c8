-- The kinds of records by their numbers. 01, section 2: "0 rotation, 1 promotion, 2 record measurement, 3 record detector, 4 active measurement, 5 dormant
-- branch"; "Where planning stops": "5: kind > 5".
use Rattle.std.specs.Prelude.{ℕ, List, [], ◌∷◌, map, get_or, Result, Ok, Err}
use Rattle.refusals.specs.declared.Reason as Declared
use Rattle.refusals.specs.declared.Reason.TheVariants as Reasons
use Rattle.records.specs.declared.Kind.{Kind}
use Rattle.records.specs.declared.Kind.TheVariants.{Rotation, Promotion, RecordMeasurement, RecordDetector, ActiveMeasurement, DormantBranch}

abbrev pub kinds : List Kind
kinds = Rotation ∷ Promotion ∷ RecordMeasurement ∷ RecordDetector ∷ ActiveMeasurement ∷ DormantBranch ∷ []

-- the kind of a number, or refusal 5
abbrev pub kind_in : ℕ → Result Kind Declared.Reason
kind_in number = get_or (map Ok kinds) number (Err Reasons.Kind)
