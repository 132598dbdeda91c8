-- The kinds of a step as numbers.
use Rattle.std.specs.Prelude.{ℕ}
use Rattle.plan_rows.specs.declared.StepKind.{StepKind}
use Rattle.plan_rows.specs.declared.StepKind.TheVariants.{None, IgnoredGlobalPhase, Rotation, Promotion, Measurement}

-- the number of a kind
abbrev pub kind_number : StepKind → ℕ
kind_number None = 0
kind_number IgnoredGlobalPhase = 1
kind_number Rotation = 2
kind_number Promotion = 3
kind_number Measurement = 4
