-- `walk::record_step` meets its contract: the record's join, its rotation, promotion or measurement and
-- what is written for it are the definition's step, by the lemmas on one record (`Looping`), whose
-- premises are what the callees ensure.
use Rattle.std.proofs.Common.{rules}
use mathlib.Core.Path.{refl}
use native.Mathlib.Omega.{arith}
use Rattle.refusals.proofs.Laws.{positive}
use Rattle.walk.proofs.Stopping.{step_stops, is_there}
use Rattle.walk.proofs.Looping.{join_asks, opening_stops, ignored_goes, rotate_asks, rotate_room, rotate_stops, rotate_goes, measurement_joins, measure_asks, measure_room, measure_stops, remove_asks, measure_goes, promote_asks, promoted_asks, promote_goes, plain_goes, quantum_room}
use Rattle.walk.proofs.record_step.Goals as goal

pub make_join-requires : goal.make_join-requires
make_join-requires c = join_asks c.requires.looping c.requires.next c.read-instruction.ensures

pub rotation-requires-clause-joined_fits : goal.rotation-requires-clause-joined_fits
rotation-requires-clause-joined_fits c = rotate_asks c.requires.looping c.requires.next c.read-instruction.ensures c.in_ok-made.ensures c.in-Rotation.is c.in-Some.is

pub rotation-requires-clause-row_room : goal.rotation-requires-clause-row_room
rotation-requires-clause-row_room c = rotate_room c.requires.looping c.requires.next c.read-instruction.ensures c.in_ok-made.ensures c.in-Rotation.is c.in-Some.is

pub ignored-requires : goal.ignored-requires
ignored-requires c = quantum_room c.requires.looping c.requires.next c.read-instruction.ensures

pub promotion-requires-clause-fits : goal.promotion-requires-clause-fits
promotion-requires-clause-fits c = promote_asks c.requires.looping c.requires.next c.read-instruction.ensures c.in_ok-made.ensures c.in-Promotion.is

pub promotion-requires-clause-room : goal.promotion-requires-clause-room
promotion-requires-clause-room c = promoted_asks c.requires.looping c.requires.next c.read-instruction.ensures c.in_ok-made.ensures c.in-Promotion.is

pub measurement-requires-clause-joined_fits : goal.measurement-requires-clause-joined_fits
measurement-requires-clause-joined_fits c = measure_asks c.requires.looping c.requires.next c.read-instruction.ensures c.in_ok-made.ensures c.in-Measurement.is c.unwrap-join.ensures

pub measurement-requires-clause-row_room : goal.measurement-requires-clause-row_room
measurement-requires-clause-row_room c = measure_room c.requires.looping c.requires.next c.read-instruction.ensures c.in_ok-made.ensures c.in-Measurement.is c.unwrap-join.ensures

pub measurement-requires-clause-leaves : goal.measurement-requires-clause-leaves
measurement-requires-clause-leaves c = remove_asks c.requires.looping c.requires.next c.read-instruction.ensures c.in_ok-made.ensures c.in-Measurement.is c.unwrap-join.ensures

pub returns-in_err-made-clause-step : goal.returns-in_err-made-clause-step
returns-in_err-made-clause-step c = λ k groups lo.
    let some = positive c.in_err-made.field-0.0 in
    step_stops _ _ _ _ _ _ _ _ _ c.in_err-made.field-0.0 c.from_residual.ensures
    (opening_stops lo c.requires.next c.read-instruction.ensures _ c.in_err-made.ensures.opened.number (λ e. omega arith))

pub returns-in_err-rotation-in-Rotation-clause-step : goal.returns-in_err-rotation-in-Rotation-clause-step
returns-in_err-rotation-in-Rotation-clause-step c = λ k groups lo.
    step_stops _ _ _ _ _ _ _ _ _ c.in_err-rotation-in-Rotation.field-0.0 c.from_residual-in_err-rotation-in-Rotation.ensures
    (rotate_stops lo c.requires.next c.read-instruction.ensures c.in_ok-made.ensures c.in-Rotation.is c.in-Some.is _ c.in_err-rotation-in-Rotation.ensures.settled)

pub unwrap-join-requires : goal.unwrap-join-requires
unwrap-join-requires c =
    is_there _ (measurement_joins c.requires.looping c.requires.next c.read-instruction.ensures c.in_ok-made.ensures c.in-Measurement.is)

pub returns-in_err-measurement-in-Measurement-clause-step : goal.returns-in_err-measurement-in-Measurement-clause-step
returns-in_err-measurement-in-Measurement-clause-step c = λ k groups lo.
    step_stops _ _ _ _ _ _ _ _ _ c.in_err-measurement-in-Measurement.field-0.0 c.from_residual-in_err-measurement-in-Measurement.ensures
    (measure_stops lo c.requires.next c.read-instruction.ensures c.in_ok-made.ensures c.in-Measurement.is c.unwrap-join.ensures _ c.in_err-measurement-in-Measurement.ensures.settled)

pub returns-in_ok-rotation-in-Rotation-clause-step : goal.returns-in_ok-rotation-in-Rotation-clause-step
returns-in_ok-rotation-in-Rotation-clause-step c = λ k groups lo.
    let went = c.in_ok-rotation-in-Rotation.ensures in
    rotate_goes lo c.requires.next c.read-instruction.ensures c.in_ok-made.ensures c.in-Rotation.is c.in-Some.is went.settled.0 _ _ went.settled.1 went.settled.2 went.merges went.promotions went.measurements (search rules)

pub returns-in_default-made-clause-step : goal.returns-in_default-made-clause-step
returns-in_default-made-clause-step c = λ k groups lo.
    ignored_goes lo c.requires.next c.read-instruction.ensures c.in_ok-made.ensures c.in-Rotation.is c.in_default-made.is _ _ c.ignored.ensures c.put_kind.ensures refl refl refl refl refl (search rules)

pub returns-in-Promotion-clause-step : goal.returns-in-Promotion-clause-step
returns-in-Promotion-clause-step c = λ k groups lo.
    let went = c.promotion.ensures in
    promote_goes lo c.requires.next c.read-instruction.ensures c.in_ok-made.ensures c.in-Promotion.is _ _ _ _ went.done went.grown went.appended went.merges went.rotations went.measurements (search rules)

pub returns-in_ok-measurement-in-Measurement-clause-step : goal.returns-in_ok-measurement-in-Measurement-clause-step
returns-in_ok-measurement-in-Measurement-clause-step c = λ k groups lo.
    let went = c.in_ok-measurement-in-Measurement.ensures in
    let all = went.settled.2 in
    measure_goes lo c.requires.next c.read-instruction.ensures c.in_ok-made.ensures c.in-Measurement.is c.unwrap-join.ensures went.settled.0 _ _ _ _ went.settled.1 all.done all.removed all.closed went.merges went.promotions went.rotations (search rules)

pub returns-in_default : goal.returns-in_default
returns-in_default c = record {
  same = search rules;
  step = λ k groups lo.
      plain_goes lo c.requires.next c.read-instruction.ensures c.in_ok-made.ensures c.in_default.not-Rotation c.in_default.not-Promotion c.in_default.not-Measurement _ c.put_kind-in_default.ensures refl refl refl refl refl (search rules);
}
