-- What the contracts of the crate `work_sums` say. 01, section 4, and 02, CR 1: the whole works are kept modulo 2 ^ 64.
use Rattle.std.specs.Prelude.{ℕ, ◌+◌, ◌-◌, ◌*◌, ◌%◌, ◌^◌, ◌<◌, ◌≤◌, max, false, List, [], ◌∷◌, map, length, drop, pos, nat_le, slice_index, slice_index_or, Float, if◌then◌else◌}
use Rattle.std.specs.Float.{fin, binary64}
use Rattle.std.specs.Float.Ieee.{add, mul}
use Rattle.kernels.specs.Bits.{exp2}
use Rattle.plan_spec.specs.Lists.{total}
use Rattle.plan_spec.specs.Components.{float_two}
use Rattle.plan_spec.specs.WholeWorks.{WholeWorks, too_wide, without_quotient, with_quotient, WholeSums}
use Rattle.work_sums.specs.declared.Joining.{Joining}
use Rattle.work_sums.specs.declared.Tally.{Tally}
use Rattle.work_sums.specs.declared.WholeWorks as Declared
use Rattle.work_sums.specs.declared.WholeWorks.TheVariants as W

-- how many members the listed components have together, and their dimensions together, by the sizes
abbrev pub sizes_of : List ℕ → List ℕ → ℕ
sizes_of size ss = total (map (λ s. slice_index size s) ss)

abbrev pub powers : List ℕ → List ℕ → ℕ
powers size ss = total (map (λ s. 2 ^ slice_index size s) ss)

-- "the sum, from 0, of 2·2^(size so far) after each source but the target"
abbrev pub cost_in : List ℕ → ℕ → Float → List ℕ → Float
cost_in size grown sum [] = sum
cost_in size grown sum (s ∷ ss) =
    let next = grown + slice_index_or size s 0 in cost_in size next (add binary64 sum (mul binary64 float_two (exp2 next))) ss

-- the same sum as a whole number
abbrev pub whole_cost_in : List ℕ → ℕ → List ℕ → ℕ
whole_cost_in size grown [] = 0
whole_cost_in size grown (s ∷ ss) = let next = grown + slice_index_or size s 0 in 2 * 2 ^ next + whole_cost_in size next ss

unfoldable pub joining_of : List ℕ → List ℕ → Joining
joining_of size sources = record {
  count = length sources;
  target = slice_index sources 0;
  size = sizes_of size sources;
  cost = cost_in size (slice_index size (slice_index sources 0)) (fin false 0 (pos 0)) (drop 1 sources);
  whole_cost = whole_cost_in size (slice_index size (slice_index sources 0)) (drop 1 sources) % 2 ^ 64;
  freed = powers size sources;
}

-- what sources have to be so that their join can be counted
pub record Countable (size sources : List ℕ) : Type 0 where
  pub some : 0 < length sources
  pub numbers : (i : ℕ) → slice_index sources i < 512
  pub few : sizes_of size sources < 64
  pub fits : powers size sources < 2 ^ 64

-- what the sums have to be so that a join fits them
pub record JoinFits (t : Tally) (j : Joining) : Type 0 where
  pub freed : j.freed ≤ t.live
  pub size : j.size < 64
  pub live : t.live - j.freed + 2 ^ j.size < 2 ^ 64
  pub merges : t.merges + j.count < 2 ^ 64
  pub quantum : t.quantum + 1 < 2 ^ 64

-- the dimension that a component of a size has without one of its members
abbrev pub power_left : ℕ → ℕ
power_left size = if nat_le size 1 then 0 else 2 ^ (size - 1)

unfoldable pub start_tally : ℕ → Tally
start_tally k = record {
  dense = fin false 0 (pos 0);
  work = fin false 0 (pos 0);
  whole_dense = 0;
  whole_work = 0;
  widest = k;
  live = 2 * k;
  peak = 2 * k;
  merges = 0;
  rotations = 0;
  promotions = 0;
  measurements = 0;
  quantum = 0;
}

-- "that sum is then added to the component work"
unfoldable pub joined_tally : Tally → Joining → Tally
joined_tally t j =
    let live = t.live - j.freed + 2 ^ j.size in record {
      dense = t.dense;
      work = add binary64 t.work j.cost;
      whole_dense = t.whole_dense;
      whole_work = (t.whole_work + j.whole_cost) % 2 ^ 64;
      widest = t.widest;
      live = live;
      peak = max t.peak live;
      merges = t.merges + j.count;
      rotations = t.rotations;
      promotions = t.promotions;
      measurements = t.measurements;
      quantum = t.quantum + 1;
    }

-- "At k = 0 ... still adds dense work 1"
unfoldable pub ignored_tally : Tally → Tally
ignored_tally t = record {
  dense = add binary64 t.dense (exp2 0);
  work = t.work;
  whole_dense = (t.whole_dense + 1) % 2 ^ 64;
  whole_work = t.whole_work;
  widest = t.widest;
  live = t.live;
  peak = t.peak;
  merges = t.merges;
  rotations = t.rotations;
  promotions = t.promotions;
  measurements = t.measurements;
  quantum = t.quantum + 1;
}

-- "Rotation: dense work + 2^k; join; component work + (2^size + 32)"
unfoldable pub rotated_tally : Tally → Joining → ℕ → Tally
unfolding joined_tally
rotated_tally t j k =
    let next = joined_tally t j in record {
      dense = add binary64 next.dense (exp2 k);
      work = add binary64 next.work (add binary64 (exp2 j.size) (fin false 1 (pos 5)));
      whole_dense = (next.whole_dense + 2 ^ k) % 2 ^ 64;
      whole_work = (next.whole_work + (2 ^ j.size + 32)) % 2 ^ 64;
      widest = next.widest;
      live = next.live;
      peak = next.peak;
      merges = next.merges;
      rotations = next.rotations + 1;
      promotions = next.promotions;
      measurements = next.measurements;
      quantum = next.quantum;
    }

-- "Promotion: dense + 2·2^k; ... component + 34"
unfoldable pub promoted_tally : Tally → ℕ → Tally
promoted_tally t k = record {
  dense = add binary64 t.dense (mul binary64 float_two (exp2 k));
  work = add binary64 t.work (fin false 17 (pos 1));
  whole_dense = (t.whole_dense + 2 * 2 ^ k) % 2 ^ 64;
  whole_work = (t.whole_work + 34) % 2 ^ 64;
  widest = max t.widest (k + 1);
  live = t.live + 2;
  peak = max t.peak (t.live + 2);
  merges = t.merges;
  rotations = t.rotations;
  promotions = t.promotions + 1;
  measurements = t.measurements;
  quantum = t.quantum + 1;
}

-- "Measurement, flag 0: dense + 2·2^k; join; component + (2·2^size + 32), size before removal"
unfoldable pub measured_tally : Tally → Joining → ℕ → Tally
unfolding joined_tally
measured_tally t j k =
    let next = joined_tally t j in record {
      dense = add binary64 next.dense (mul binary64 float_two (exp2 k));
      work = add binary64 next.work (add binary64 (mul binary64 float_two (exp2 j.size)) (fin false 1 (pos 5)));
      whole_dense = (next.whole_dense + 2 * 2 ^ k) % 2 ^ 64;
      whole_work = (next.whole_work + (2 * 2 ^ j.size + 32)) % 2 ^ 64;
      widest = next.widest;
      live = next.live - 2 ^ j.size + power_left j.size;
      peak = next.peak;
      merges = next.merges;
      rotations = next.rotations;
      promotions = next.promotions;
      measurements = next.measurements + 1;
      quantum = next.quantum;
    }

-- the sums' whole works and widest width
abbrev pub whole_sums_of : Tally → WholeSums
whole_sums_of t = record { dense = t.whole_dense; component = t.whole_work; widest = t.widest }

-- the code's whole works as the definition has them
abbrev pub works_of : Declared.WholeWorks → WholeWorks
works_of W.TooWide = too_wide
works_of (W.WithoutQuotient dense) = without_quotient dense
works_of (W.WithQuotient dense component quotient remainder) = with_quotient dense component quotient remainder
