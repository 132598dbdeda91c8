-- `plan_rows::reading::reads_back` meets its contract: each clause is a law of `Row`.
use Rattle.plan_rows.specs.RowLaws.{step_back, rotation_back, measurement_back}
use Rattle.plan_rows.proofs.reading.reads_back.Goals as goal

pub returns-clause-steps : goal.returns-clause-steps
returns-clause-steps c step = step_back step tt

pub returns-clause-rotations : goal.returns-clause-rotations
returns-clause-rotations c = rotation_back

pub returns-clause-measurements : goal.returns-clause-measurements
returns-clause-measurements c = measurement_back
