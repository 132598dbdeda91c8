-- The six lent outputs that a stored plan has too: the words behind a `StoredOutputs`, how many
-- there are, and that one lends the same outputs as another.
use Rattle.std.specs.Prelude.{ℕ, ◌≡◌, List, [], length, Bool, ◌||◌, nat_lt}
use Rattle.words.specs.Lists.{padded}
use Rattle.plan_buffers.specs.declared.WordCounts.{WordCounts}
use Rattle.plan_buffers.specs.declared.StoredOutputs.{StoredOutputs}

-- words of the six outputs
pub record Outputs : Type 0 where
  pub steps : List ℕ
  pub merges : List ℕ
  pub sizes : List ℕ
  pub rotations : List ℕ
  pub promotions : List ℕ
  pub measurements : List ℕ

-- how many words each has
abbrev pub word_counts_of : Outputs → WordCounts
word_counts_of b = record {
  steps = length b.steps;
  merges = length b.merges;
  sizes = length b.sizes;
  rotations = length b.rotations;
  promotions = length b.promotions;
  measurements = length b.measurements;
}

-- what stands in the outputs that are lent
abbrev pub outputs_of : StoredOutputs → Outputs
outputs_of o = record {
  steps = o.steps.now;
  merges = o.merges.now;
  sizes = o.sizes.now;
  rotations = o.rotations.now;
  promotions = o.promotions.now;
  measurements = o.measurements.now;
}

-- each output is the one that was lent, and not another in its place, and as long
pub record SameOutputs (before after : StoredOutputs) : Type 0 where
  pub steps : after.steps.ghost_name ≡ before.steps.ghost_name
  pub merges : after.merges.ghost_name ≡ before.merges.ghost_name
  pub sizes : after.sizes.ghost_name ≡ before.sizes.ghost_name
  pub rotations : after.rotations.ghost_name ≡ before.rotations.ghost_name
  pub promotions : after.promotions.ghost_name ≡ before.promotions.ghost_name
  pub measurements : after.measurements.ghost_name ≡ before.measurements.ghost_name
  pub lengths : word_counts_of (outputs_of after) ≡ word_counts_of (outputs_of before)

-- the six outputs hold zeros alone
pub record Cleared (before after : Outputs) : Type 0 where
  pub steps : after.steps ≡ padded (length before.steps) []
  pub merges : after.merges ≡ padded (length before.merges) []
  pub sizes : after.sizes ≡ padded (length before.sizes) []
  pub rotations : after.rotations ≡ padded (length before.rotations) []
  pub promotions : after.promotions ≡ padded (length before.promotions) []
  pub measurements : after.measurements ≡ padded (length before.measurements) []

-- "an output shorter than its section": one of the first counts is less than the second's
abbrev pub outputs_short : WordCounts → WordCounts → Bool
outputs_short lent counts =
    nat_lt lent.steps counts.steps
    || nat_lt lent.merges counts.merges
    || nat_lt lent.sizes counts.sizes
    || nat_lt lent.rotations counts.rotations
    || nat_lt lent.promotions counts.promotions
    || nat_lt lent.measurements counts.measurements
