-- `work_sums::join_of` meets its contract. The loop's invariant: the sums so far with those of the sources that are left are those of all the sources.
use Rattle.std.proofs.Common.{List, ℕ, ◌+◌, ◌-◌, ◌^◌, length, take, drop, ap, ◌∙◌, mod-lt, drop_of_length-le, arith}
use lib.Ieee.{of_bits}
use Rattle.work_sums.proofs.Sums.{sizes_at, powers_at, cost_next, whole_next, all_joined}
use Rattle.work_sums.proofs.join_of.Goals as goal

-- the sources that the loop goes over
abbrev others : List ℕ → List ℕ
others sources = take (length sources - 1) (drop 1 sources)

pub loop-source-preserved : goal.loop-source-preserved
unfolding of_bits
loop-source-preserved c =
    let size = c.args.size.now in
    let turn = c.loop-source in
    let i = turn.source-index in
    let left = others c.args.sources.now in
    let inside = c.loop-source-test.true in
    let more = c.size_at-more.ensures in record {
      sizes = omega (arith, more, sizes_at size left i inside, turn.invariant.sizes);
      dims = omega (arith, c.power-freed-in-loop-source.ensures ∙ ap (λ (n : ℕ). 2 ^ n) more, powers_at size left i inside, turn.invariant.dims);
      cost = cost_next size left i inside turn.grown c.size_at-more.result turn.cost c.exact_exp2.result more c.exact_exp2.ensures ∙ turn.invariant.cost;
      small = mod-lt (turn.whole_cost + c.double_low-whole_cost.result) {m = 2 ^ 64} (omega arith);
      whole = whole_next size left i inside turn.grown c.size_at-more.result turn.whole_cost c.double_low-whole_cost.result more c.double_low-whole_cost.ensures
          ∙ turn.invariant.whole;
    }

pub returns : goal.returns
returns c =
    let turn = c.loop-source in
    let inv = turn.invariant in
    all_joined c.args.size.now c.args.sources.now _ turn.grown turn.freed turn.whole_cost turn.cost
    (drop_of_length-le (others c.args.sources.now) {i = turn.source-index} c.loop-source-test.false)
    inv.sizes inv.dims inv.cost inv.small inv.whole
