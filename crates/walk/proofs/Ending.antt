-- Where the walk's loop begins, the state, the sums and the buffers are the definition's start. Where it ends, the definition's walk is finished in the state that is
-- reached, and the groups are that state's.
use Rattle.std.specs.Prelude.{Ok}
use mathlib.Core.Path.{◌≡◌, refl, sym, ap, ◌∙◌, subst}
use mathlib.Core.List.{List, ◌++◌}
use Prim.Native.Nat.{ℕ, ◌*◌, ◌/◌, ◌≤◌}
use native.Mathlib.Omega.{arith}
use lib.ListN.{length, take, drop, replicate, drop_of_length-le}
use Rattle.refusals.specs.Answer.{completed}
use Rattle.words.specs.Lists.{numbers_from}
use Rattle.words.proofs.Numbers.{length-numbers}
use Rattle.records.specs.Record.{instructions_of}
use Rattle.records.specs.declared.Instruction.{Instruction}
use Rattle.records.proofs.Laws.{instructions_length}
use Rattle.plan_spec.specs.Components.{live_dimension}
use Rattle.plan_spec.specs.Walk.{Walk, start, walk_from, Walked}
use Rattle.plan_spec.specs.Plan.{groups_of, buffers_refused}
use Rattle.plan_spec.specs.Connectivity.{active_start, active_after}
use Rattle.plan_spec.proofs.Steps.{done}
use Rattle.plan_spec.proofs.Tracking.{active_of, tracked_here}
use Rattle.plan_spec.proofs.Room.{enough, alone_live}
use Rattle.state.specs.declared.State.{State}
use Rattle.work_sums.specs.declared.Tally.{Tally}
use Rattle.state.specs.Steps.{Started}
use Rattle.work_sums.specs.Tally.{start_tally}
use Rattle.plan_buffers.specs.Buffers.{counts_of, placed_up_to}
use Rattle.state_model.specs.Represents.{Ordered}
use Rattle.state_model.proofs.Moving.{represents_start}
use Rattle.state_model.proofs.Groups.{GroupsWritten, groups_written}
use Rattle.plan_buffers.specs.SevenBuffers.{Buffers, SameLengths, lengths_of}
use Rattle.walk.specs.Walking.{WalkEnds, Walkable}
use Rattle.walk.specs.Looping.{Reached}
use Rattle.walk.proofs.Reaching.{tracked, made, active_most, groups_small}

-- ---- the start

live_start : (k : ℕ) → 2 * k ≡ (start k).peak
unfolding start live_dimension
live_start k = let e = alone_live (numbers_from 0 k) in let l = length-numbers 0 k in omega arith

live_same : (k : ℕ) → 2 * k ≡ live_dimension (start k).components
unfolding start live_dimension
live_same k = let e = alone_live (numbers_from 0 k) in let l = length-numbers 0 k in omega arith

pub reached_start : (limit k : ℕ) (is : List Instruction) (s : State) (c : Buffers) (sizes : List ℕ) → Started k s → c.sizes ≡ replicate k 1 ++ drop k sizes
    → Reached limit k is 0 (start k) s (start_tally k) c
unfolding start start_tally
reached_start limit k is s c sizes st e = record {
  run = done (start k);
  ahead = refl;
  rep = represents_start k s st;
  sums = record {
    dense = refl;
    work = refl;
    whole_dense = refl;
    whole_work = refl;
    widest = sym (length-numbers 0 k);
    live = live_same k;
    peak = live_start k;
    merges = refl;
    rotations = refl;
    promotions = refl;
    measurements = refl;
    quantum = refl;
  };
  steps_begin = (c.steps, refl);
  merges_begin = (c.merges, refl);
  sizes_begin = (drop k sizes, e);
  rotations_begin = (c.rotations, refl);
  promotions_begin = (c.promotions, refl);
  measurements_begin = (c.measurements, refl);
}

-- ---- the end

module _ (limit k : ℕ) (ws : List ℕ) (b : Buffers) (ok : Walkable k ws b) (i : ℕ) (all : i ≡ length ws / 8) (w : Walk) (s : State) (t : Tally) (c : Buffers)
    (at : Reached limit k (instructions_of ws) i w s t c) (long : SameLengths b c) (o : List ℕ) (ordered : Ordered o w.order) where
  upto : i ≤ length ws / 8
  upto = omega arith

  pub count_small : s.count ≤ 512
  count_small = let e = at.rep.count in let f = made limit k ws b ok i upto w s t c at in omega arith

  pub groups_here : GroupsWritten s o w.components c.groups (take s.count s.size)
  groups_here =
      let r = active_after (active_start k) (take i (instructions_of ws)) in
      let tr = tracked limit k ws b ok i upto w s t c at in
      let few = groups_small limit k ws b ok i upto w s t c at in
      let room = (enough (length ws / 8) (lengths_of c) (ap (buffers_refused (length ws / 8)) long ∙ ok.room)).groups in
      groups_written s w.components (active_of w r) (tracked_here w r tr) at.rep o ordered (made limit k ws b ok i upto w s t c at) (active_most limit k ws b ok i upto w s t c at)
      c.groups (omega arith) few

  finishes : walk_from limit 0 (start k) (instructions_of ws) ≡ completed w
  unfolding walk_from
  finishes = at.ahead ∙ ap (walk_from limit i w) (drop_of_length-le (instructions_of ws) {i = i} (let l = instructions_length ws in omega arith))

  pub ends : (used : ℕ) (groups' : List ℕ) → used ≡ (counts_of (take s.count s.size) c.groups).used
      → groups' ≡ placed_up_to (counts_of (take s.count s.size) c.groups).start o s.component s.place s.width (counts_of (take s.count s.size) c.groups).groups
      → WalkEnds (walk_from limit 0 (start k) (instructions_of ws)) (Ok (record { tally = t; count = s.count; groups = used }))
      (record {
        steps = c.steps;
        merges = c.merges;
        sizes = c.sizes;
        rotations = c.rotations;
        promotions = c.promotions;
        measurements = c.measurements;
        groups = groups';
      })
  ends used groups' u g =
      let after : Buffers = record {
        steps = c.steps;
        merges = c.merges;
        sizes = c.sizes;
        rotations = c.rotations;
        promotions = c.promotions;
        measurements = c.measurements;
        groups = groups';
      } in
      subst (λ (v : Walked). WalkEnds v (Ok (record { tally = t; count = s.count; groups = used })) after) (sym finishes) (record {
        sums = at.sums;
        count = at.rep.count;
        used = u ∙ groups_here.used;
        steps = at.steps_begin;
        merges = at.merges_begin;
        sizes = at.sizes_begin;
        rotations = at.rotations_begin;
        promotions = at.promotions_begin;
        measurements = at.measurements_begin;
        groups = (drop (length (groups_of w.components)) c.groups, g ∙ groups_here.words);
      })
