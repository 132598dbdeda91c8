-- `state::State::start` meets its contract: the components are numbered in order, and the first k sizes are filled with ones.
use Rattle.std.proofs.Common.{arith, refl, rules}
use Rattle.std.proofs.lemmas.List.{get_or-replicate}
use Rattle.std.proofs.lemmas.Grind.{common_steps}
use Rattle.state.proofs.State.start.Goals as goal

pub returns : goal.returns
returns c = record {
  component = c.first_order-numbers.ensures.in_order.entry;
  place = λ p h. get_or-replicate 512 p 0 0 (omega arith);
  size = λ p h. grind (arith, common_steps, c.fill.ensures.after);
  width = refl;
  count = refl;
  shape = record {
    components = c.first_order-numbers.ensures.in_order.long;
    places = search rules;
    sizes = grind (arith, common_steps, c.fill.ensures.after);
    small = c.first_order-numbers.ensures.small;
  };
}
