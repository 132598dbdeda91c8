-- The six outputs and the groups keep their lengths, so all seven buffers do.
use mathlib.Core.Path.{◌≡◌}
use mathlib.Core.List.{List}
use Prim.Native.Nat.{ℕ}
use lib.ListN.{length}
use Rattle.plan_buffers.specs.declared.StoredOutputs.{StoredOutputs}
use Rattle.plan_buffers.specs.SixOutputs.{outputs_of, word_counts_of}
use Rattle.plan_buffers.specs.SevenBuffers.{SameLengths, buffers_of}

pub all_lengths : (o o' : StoredOutputs) (groups groups' : List ℕ)
    → word_counts_of (outputs_of o') ≡ word_counts_of (outputs_of o) → length groups' ≡ length groups
    → SameLengths (buffers_of o groups) (buffers_of o' groups')
all_lengths o o' groups groups' six seventh i = record {
  steps = (six i).steps;
  merges = (six i).merges;
  sizes = (six i).sizes;
  rotations = (six i).rotations;
  promotions = (six i).promotions;
  measurements = (six i).measurements;
  groups = seventh i;
}
