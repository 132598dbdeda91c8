-- `records::check_records` meets its contract. The loop's invariant: the pass over all records is the pass over those from i on, with the coordinates that there
-- are then. So a refusal of record i is the first one, and where no record is left the pass is passed.
use Rattle.std.proofs.Common.{rules}
use mathlib.Core.Path.{◌≡◌, refl, sym, ap, ◌∙◌}
use mathlib.Core.List.{List}
use Prim.Native.Nat.{ℕ, ◌<◌}
use native.Mathlib.Omega.{arith}
use Rattle.refusals.specs.Answer.{number_or_0}
use Rattle.refusals.specs.Numbers as Reasons
use Rattle.refusals.proofs.Laws.{positive}
use Rattle.records.specs.Record.{kind, record_at}
use Rattle.records.specs.Pass.{coordinates_after, number_of}
use Rattle.records.proofs.Steps.{pass_start, pass_end, promotion_told, after_promotion, after_other, room, decides, goes_on}
use lib.Dec.{eqb}
use borrow.Author.Tests.{eqb-true}
use Rattle.records.proofs.check_records.Goals as goal
use Rattle.records.proofs.check_records.Goals.{then-eq, else-eq}

pub loop-i-init : goal.loop-i-init
loop-i-init c = (search rules, pass_start _ _)

pub returns-in-Err : goal.returns-in-Err
returns-in-Err c =
    let i = c.loop-i.i in
    let reason = c.in-Err.reason in
    let number : Reasons.number_of reason ≡ number_of c.loop-i.coordinates (record_at c.args.words.now i) =
    ap number_or_0 (sym c.in-Err.is) ∙ c.check_record.ensures ∙ ap (number_of c.loop-i.coordinates) c.record_at-fields.ensures in
    rw c.at.ensures
    (decides c.args.initial_k c.args.words.now i c.loop-i.coordinates (Reasons.number_of reason)
    (search rules) c.loop-i.invariant.1 number (λ e. absurd (omega (arith, positive reason, e))))

pub overflow_add-coordinates : goal.overflow_add-coordinates
overflow_add-coordinates c =
    let fields : List ℕ = c.record_at-fields.result.now in
    let passes : 0 ≡ number_of c.loop-i.coordinates fields = ap number_or_0 (sym c.in_default.is) ∙ c.check_record.ensures in
    let told : c.eq.result ≡ eqb (kind fields) 1 = promotion_told _ fields c.eq.ensures c.try_from.ensures c.word.ensures in
    let h : c.loop-i.coordinates < 512 = room c.loop-i.coordinates fields (sym passes) (eqb-true (kind fields) 1 (sym told ∙ c.if-eq.true)) in
    omega arith

pub loop-i-preserved : goal.loop-i-preserved
loop-i-preserved c =
    let fields : List ℕ = c.record_at-fields.result.now in
    let number : 0 ≡ number_of c.loop-i.coordinates (record_at c.args.words.now c.loop-i.i) =
    ap number_or_0 (sym c.in_default.is) ∙ c.check_record.ensures ∙ ap (number_of c.loop-i.coordinates) c.record_at-fields.ensures in
    let told : c.eq.result ≡ eqb (kind fields) 1 = promotion_told _ fields c.eq.ensures c.try_from.ensures c.word.ensures in
    let counted : c.if-eq.coordinates ≡ coordinates_after c.loop-i.coordinates fields =
    elim c.if-eq.branch [
      | then-eq w ↦ w.coordinates-is ∙ sym (after_promotion c.loop-i.coordinates fields (sym told ∙ w.if-eq.true))
      | else-eq w ↦ w.coordinates-is ∙ sym (after_other c.loop-i.coordinates fields (sym told ∙ w.if-eq.false))
    ] in (
      search rules,
      goes_on c.args.initial_k c.args.words.now c.loop-i.i c.loop-i.coordinates 0
          (search rules) c.loop-i.invariant.1 number refl (counted ∙ ap (coordinates_after c.loop-i.coordinates) c.record_at-fields.ensures),
    )

pub returns : goal.returns
returns c = sym (c.loop-i.invariant.1 ∙ pass_end c.loop-i.i c.loop-i.coordinates c.args.words.now (omega arith))
