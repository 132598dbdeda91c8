-- `walk::make_join` meets its contract: what is opened is the join of the record's sources, which then stand in the merge list, and more than one of them are joined.
use Rattle.std.specs.Prelude.{Ok}
use mathlib.Core.Path.{refl, sym, subst}
use mathlib.Core.Logic.{inl, inr}
use native.Mathlib.Omega.{arith}
use Rattle.state.specs.Steps.{BeforeJoin, Joined}
use Rattle.record_steps.specs.RecordSteps.{Opened}
use Rattle.walk.proofs.Making.{join_fits, join_part, join_counts}
use Rattle.walk.proofs.make_join.Goals as goal

pub overflow_add-end : goal.overflow_add-end
overflow_add-end c = let fits = join_fits c.requires c.in_ok-made.ensures c.in-Some.is c.open.auto.merges in omega (arith, c.well_formed)

pub slice_bounds-join_state-end : goal.slice_bounds-join_state-end
slice_bounds-join_state-end c = join_fits c.requires c.in_ok-made.ensures c.in-Some.is c.open.auto.merges

pub join_state-requires : goal.join_state-requires
join_state-requires c =
    let counts = join_counts c.requires c.in_ok-made.ensures c.in-Some.is in
    subst (BeforeJoin c.args.state.now) (sym (join_part c.requires c.in_ok-made.ensures c.in-Some.is)) (c.requires.joined (omega (arith, c.if-count-gt1.true)))

pub returns-then-count-gt1 : goal.returns-then-count-gt1
returns-then-count-gt1 c =
    let counts = join_counts c.requires c.in_ok-made.ensures c.in-Some.is in
    record {
      opened = subst (λ m. Opened c.args.state.now.width c.args.offset c.args.state.now.component c.args.state.now.size c.args.instruction (Ok m) c.args.merges.now c.open.new.merges) c.in-Some.is c.in_ok-made.ensures;
      met = inl (omega (arith, c.if-count-gt1.true), subst (λ ws. Joined c.args.state.now ws c.join_state.new.state) (join_part c.requires c.in_ok-made.ensures c.in-Some.is) c.join_state.ensures);
    }

pub returns-else-count-gt1 : goal.returns-else-count-gt1
returns-else-count-gt1 c =
    let counts = join_counts c.requires c.in_ok-made.ensures c.in-Some.is in
    record {
      opened = subst (λ m. Opened c.args.state.now.width c.args.offset c.args.state.now.component c.args.state.now.size c.args.instruction (Ok m) c.args.merges.now c.open.new.merges) c.in-Some.is c.in_ok-made.ensures;
      met = inr (refl, omega (arith, c.if-count-gt1.false));
    }
