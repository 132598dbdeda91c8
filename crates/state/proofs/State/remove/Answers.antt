-- `state::State::remove` meets its contract. The loop's invariant: the entries below p are as the contract says, and those from p on as at entry.
use mathlib.Core.Path.{◌≡◌, ap, ◌∙◌}
use Prim.Native.Nat.{ℕ, ◌<◌, ◌≤◌}
use native.Mathlib.Omega.{arith}
use lib.ListN.{get_or, length-set}
use Rattle.state.specs.Steps.{skip, lowered}
use Rattle.masks.proofs.Arrays.{store_below, store_above, store_all}
use Rattle.state.proofs.Numbers.{skip_near}
use Rattle.state.proofs.State.remove.Goals as goal

pub loop-p-preserved : goal.loop-p-preserved
loop-p-preserved c =
    let near : (c.loop-p.p ≤ c.skip-q.result) × (c.skip-q.result < 512) = let bounds = skip_near c.args.pivot c.loop-p.p in
    (omega (arith, bounds.0, c.skip-q.ensures), omega (arith, bounds.1, c.skip-q.ensures, c.requires.narrow)) in
    let turn = c.loop-p in
    let kept = turn.invariant in
    let first = c.args.self in
    let pivot = c.args.pivot in
    let q = c.skip-q.result in
    let s = turn.self in
    let component = kept.same_component q near.0 ∙ ap (λ (k : ℕ). get_or first.component k 0) c.skip-q.ensures in
    let place = kept.same_place q near.0 ∙ ap (λ (k : ℕ). get_or first.place k 0) c.skip-q.ensures in
    let target = get_or first.component pivot 0 in
    let local = get_or first.place pivot 0 in record {
      width = kept.width;
      count = kept.count;
      size = kept.size;
      components = simp length-set kept.components;
      places = simp length-set kept.places;
      component = store_below (λ (k x : ℕ). x ≡ get_or first.component (skip pivot k) 0) s.component turn.p _ (omega arith) kept.component component;
      place = store_below
          (λ (k x : ℕ). x ≡ lowered target local (get_or first.component (skip pivot k) 0) (get_or first.place (skip pivot k) 0))
          s.place turn.p _ (omega arith) kept.place
          (c.lower.ensures ∙ ap (λ (k : ℕ). lowered target local k (get_or s.place q 0)) component
          ∙ ap (λ (k : ℕ). lowered target local (get_or first.component (skip pivot turn.p) 0) k) place);
      same_component = store_above (λ (k x : ℕ). x ≡ get_or first.component k 0) s.component turn.p _ kept.same_component;
      same_place = store_above (λ (k x : ℕ). x ≡ get_or first.place k 0) s.place turn.p _ kept.same_place;
      small = store_all s.component turn.p _ (omega arith) kept.small (kept.small q);
    }
