-- A vector that is replayed is the first of those that are left, and is counted.
use Rattle.std.proofs.Common.{arith, ◌≡◌, ◌+◌, ◌-◌, ap, suc, ℕ, Bool, Err}
use Rattle.std.specs.Prelude.{not}
use Rattle.std.specs.List.{count_by}
use Rattle.vectors.specs.Reading.{left_of}
use Rattle.vectors.specs.Replaying.{agreements}
use Rattle.vectors.proofs.Counting.{no_more, all_counted, one_counted, one_at_most}
use Rattle.vectors.proofs.replay_all.Goals as goal

pub returns-in-Err : goal.returns-in-Err
returns-in-Err g c = λ known.
    let f = g.V.StreamedVector.agreement in
    let was = c.loop-i.invariant.replayed known in
    let rest = left_of (g.R.Read.remaining c.loop-i.input) in
    let left : ℕ = c.args.count - c.loop-i.i in
    let told : f rest ≡ Err c.in_ok-flaw-in-Err.field-0 = (rw c.in_ok-flaw-in-Err.ensures at c.in-Err.ensures) was.0 in
    let none = no_more f left rest c.in_ok-flaw-in-Err.field-0 told in
    let agree : count_by (λ (b : Bool). b) (agreements f left rest) ≡ 0 = ap (count_by (λ (b : Bool). b)) none in
    let differ : count_by not (agreements f left rest) ≡ 0 = ap (count_by not) none in
    all_counted c.loop-i.counts (agreements f c.args.count (left_of (g.R.Read.remaining c.args.input.now))) (omega (arith, agree, was.1.agree)) (omega (arith, differ, was.1.differ))

pub loop-i-preserved : goal.loop-i-preserved
loop-i-preserved g c =
    let f = g.V.StreamedVector.agreement in
    let left : c.args.count - c.loop-i.i ≡ suc (c.args.count - (c.loop-i.i + 1)) = omega arith in
    let bound = one_at_most c.in-Ok.agrees in
    record {
      agree_bound = omega (arith, bound.0, c.loop-i.invariant.agree_bound, c.with-counts.ensures.agree);
      differ_bound = omega (arith, bound.1, c.loop-i.invariant.differ_bound, c.with-counts.ensures.differ);
      replayed = λ known.
          let was = c.loop-i.invariant.replayed known in
          let told = c.in-Ok.ensures was.0 in (
            told.0,
            one_counted f _ _ _ _ _ _ _ _ c.in-Ok.agrees left told.1
                (omega (arith, c.with-counts.ensures.agree)) (omega (arith, c.with-counts.ensures.differ)) was.1,
          );
    }
