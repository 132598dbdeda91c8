-- What the contract of `walk` says: it stops where the definition's walk stops, or leaves in
-- front of each buffer what the definition's walk has written.
use Rattle.std.specs.Prelude.{ℕ, ◌/◌, ◌%◌, ◌^◌, ◌≤◌, ◌≡◌, List, false, length, Result, Ok, Err}
use Rattle.refusals.specs.Answer.{completed, refused_at}
use Rattle.words.specs.Lists.{Begins}
use Rattle.refusals.specs.Numbers.{number_of}
use Rattle.refusals.specs.declared.Refusal.{Refusal}
use Rattle.records.specs.Pass.{Passed, record_pass}
use Rattle.plan_spec.specs.Lists.{concat}
use Rattle.plan_spec.specs.Components.{live_dimension}
use Rattle.plan_spec.specs.Walk.{Walk, Walked}
use Rattle.plan_spec.specs.Plan.{groups_of, words_refused, buffers_refused}
use Rattle.work_sums.specs.declared.Tally.{Tally}
use Rattle.plan_buffers.specs.SevenBuffers.{Buffers, lengths_of}
use Rattle.walk.specs.declared.Summary.{Summary}

-- the sums and counts are those of the walk's state; the whole works modulo 2 ^ 64
pub record Tallied (t : Tally) (w : Walk) : Type 0 where
  pub dense : t.dense ≡ w.dense_work
  pub work : t.work ≡ w.component_work
  pub whole_dense : t.whole_dense ≡ w.whole.dense % 2 ^ 64
  pub whole_work : t.whole_work ≡ w.whole.component % 2 ^ 64
  pub widest : t.widest ≡ w.whole.widest
  pub live : t.live ≡ live_dimension w.components
  pub peak : t.peak ≡ w.peak
  pub merges : t.merges ≡ length w.written.merges
  pub rotations : t.rotations ≡ length w.written.rotations
  pub promotions : t.promotions ≡ length w.written.promotions
  pub measurements : t.measurements ≡ length w.written.measurements
  pub quantum : t.quantum ≡ w.quantum

-- what a finished walk leaves
pub record Ended (w : Walk) (s : Summary) (b : Buffers) : Type 0 where
  pub sums : Tallied s.tally w
  pub count : s.count ≡ length w.components
  pub used : s.groups ≡ length (groups_of w.components)
  pub steps : Begins w.written.steps b.steps
  pub merges : Begins w.written.merges b.merges
  pub sizes : Begins w.longest b.sizes
  pub rotations : Begins (concat w.written.rotations) b.rotations
  pub promotions : Begins w.written.promotions b.promotions
  pub measurements : Begins (concat w.written.measurements) b.measurements
  pub groups : Begins (groups_of w.components) b.groups

-- the code's answer goes with the definition's: a refusal with the same number and index, or a
-- state whose words were written
abbrev pub WalkEnds : Walked → Result Summary Refusal → Buffers → Type 0
WalkEnds (completed w) (Ok s) b = Ended w s b
WalkEnds (completed w) (Err refusal) b = ⊥
WalkEnds (refused_at n i) (Ok s) b = ⊥
WalkEnds (refused_at n i) (Err refusal) b = (n ≡ number_of refusal.reason) × (i ≡ refusal.index)

-- what refusals 2 to 10 leave to the walk
pub record Walkable (initial : ℕ) (ws : List ℕ) (b : Buffers) : Type 0 where
  pub initial_small : initial ≤ 512
  pub whole : words_refused ws ≡ false
  pub room : buffers_refused (length ws / 8) (lengths_of b) ≡ false
  pub passed : record_pass initial ws ≡ Passed
