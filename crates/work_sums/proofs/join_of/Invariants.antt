use Rattle.std.proofs.Common.{◌≡◌, ◌+◌, ◌%◌, ◌^◌, ◌<◌, false, get_or, drop, pos}
use lib.Ieee.{fin}
use Rattle.work_sums.specs.Tally.{sizes_of, powers, cost_in, whole_cost_in}
use Rattle.work_sums.proofs.join_of.Given as goal

abbrev pub invariant-loop-source : goal.invariant-loop-source
invariant-loop-source l =
    let first = get_or l.size (get_or l.sources 0 0) 0 in
    let left = drop l.source-index l.source-items in record {
      sizes : l.grown + sizes_of l.size left ≡ sizes_of l.size l.sources;
      dims : l.freed + powers l.size left ≡ powers l.size l.sources;
      cost : cost_in l.size l.grown l.cost left ≡ cost_in l.size first (fin false 0 (pos 0)) (drop 1 l.sources);
      small : l.whole_cost < 2 ^ 64;
      whole : (l.whole_cost + whole_cost_in l.size l.grown left) % 2 ^ 64 ≡ whole_cost_in l.size first (drop 1 l.sources) % 2 ^ 64;
    }
