-- `state::first_order` meets its contract. The loop's invariant: the entries below i are their own positions, and every entry stands below 512.
use Rattle.std.proofs.Common.{ℕ, ◌≡◌, refl, arith, below_none, length-set, rules}
use Rattle.masks.proofs.Arrays.{zeros_small, store_below, store_all}
use Rattle.state.proofs.first_order.Goals as goal

pub loop-i-init : goal.loop-i-init
loop-i-init c = (search rules, below_none _, zeros_small 512)

-- given by hand so that a wrong entry is named
pub loop-i-preserved : goal.loop-i-preserved
loop-i-preserved c =
    let turn = c.loop-i in (
      simp length-set turn.invariant.0,
      store_below (λ (q x : ℕ). x ≡ q) turn.numbers turn.i turn.i (omega arith) turn.invariant.1 refl,
      store_all turn.numbers turn.i turn.i (omega arith) turn.invariant.2 (omega arith),
    )
