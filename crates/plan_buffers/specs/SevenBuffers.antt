-- The seven lent buffers, which are the six outputs of a `StoredOutputs` and the groups: their
-- words, their lengths, and what they hold afterwards.
use Rattle.std.specs.Prelude.{ℕ, ◌≡◌, List, [], length, take}
use Rattle.refusals.specs.Answer.{completed, refused_at}
use Rattle.words.specs.Lists.{padded}
use Rattle.plan_spec.specs.Plan.{Lengths, Result}
use Rattle.plan_buffers.specs.declared.StoredOutputs.{StoredOutputs}
use Rattle.plan_buffers.specs.declared.WordCounts.{WordCounts}

-- words of the seven buffers
pub record Buffers : Type 0 where
  pub steps : List ℕ
  pub merges : List ℕ
  pub sizes : List ℕ
  pub rotations : List ℕ
  pub promotions : List ℕ
  pub measurements : List ℕ
  pub groups : List ℕ

abbrev pub lengths_of : Buffers → Lengths
lengths_of b = record {
  steps = length b.steps;
  merges = length b.merges;
  sizes = length b.sizes;
  rotations = length b.rotations;
  promotions = length b.promotions;
  measurements = length b.measurements;
  groups = length b.groups;
}

-- every buffer keeps its length
abbrev pub SameLengths : Buffers → Buffers → Type 0
SameLengths before after = lengths_of after ≡ lengths_of before

-- what stands in the buffers that are lent, the six outputs and the groups
abbrev pub buffers_of : StoredOutputs → List ℕ → Buffers
buffers_of o groups = record {
  steps = o.steps.now;
  merges = o.merges.now;
  sizes = o.sizes.now;
  rotations = o.rotations.now;
  promotions = o.promotions.now;
  measurements = o.measurements.now;
  groups = groups;
}

-- ---- what the buffers hold

-- each buffer's words, and zeros behind them up to its length
abbrev pub padded_buffers : Lengths → Buffers → Buffers
padded_buffers lengths words = record {
  steps = padded lengths.steps words.steps;
  merges = padded lengths.merges words.merges;
  sizes = padded lengths.sizes words.sizes;
  rotations = padded lengths.rotations words.rotations;
  promotions = padded lengths.promotions words.promotions;
  measurements = padded lengths.measurements words.measurements;
  groups = padded lengths.groups words.groups;
}

abbrev pub no_words : Buffers
no_words = record {
  steps = [];
  merges = [];
  sizes = [];
  rotations = [];
  promotions = [];
  measurements = [];
  groups = [];
}

-- the first words of each buffer, so many of the groups
abbrev pub first_words : WordCounts → ℕ → Buffers → Buffers
first_words used used_groups b = record {
  steps = take used.steps b.steps;
  merges = take used.merges b.merges;
  sizes = take used.sizes b.sizes;
  rotations = take used.rotations b.rotations;
  promotions = take used.promotions b.promotions;
  measurements = take used.measurements b.measurements;
  groups = take used_groups b.groups;
}

-- a plan's words; a refusal has none: "no plan, all seven outputs zero"
abbrev pub result_words : Result → Buffers
result_words (completed p) = record {
  steps = p.steps;
  merges = p.merges;
  sizes = p.sizes;
  rotations = p.rotations;
  promotions = p.promotions;
  measurements = p.measurements;
  groups = p.groups;
}
result_words (refused_at number index) = no_words

-- the buffers hold what a result says, whatever they held before: a plan's words and zeros behind
-- them, or zeros alone
abbrev pub Held : Result → Buffers → Buffers → Type 0
Held result before after = after ≡ padded_buffers (lengths_of before) (result_words result)
