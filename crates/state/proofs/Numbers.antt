-- Where a position stands before a removal, whose test is computed, and what a removal's pass over the positions has done before position p.
use mathlib.Core.Path.{◌≡◌, ap}
use mathlib.Core.Bool.{Bool, true, false, cond}
use Prim.Native.Nat.{ℕ, suc, ◌<◌, ◌≤◌}
use lib.Dec.{ltb}
use lib.ListN.{length, get_or}
use borrow.Author.Tests.{lt-ltb, le-ltb}
use native.Mathlib.Omega.{arith}
use Rattle.masks.specs.Positions.{Below512}
use Rattle.state.specs.Steps.{skip, lowered}
use Rattle.state.specs.declared.State.{State}

-- a position stands at most one further before a removal
pub skip_near : (pivot p : ℕ) → (p ≤ skip pivot p) × (skip pivot p ≤ suc p)
skip_near pivot p = go (ltb p pivot)
  where
    go : (t : Bool) → (p ≤ cond t p (suc p)) × (cond t p (suc p) ≤ suc p)
    go true = (omega arith, omega arith)
    go false = (omega arith, omega arith)

-- one in front of the pivot stands where it stood, and any other one further
pub skip_before : (pivot p : ℕ) → p < pivot → skip pivot p ≡ p
skip_before pivot p h = ap (λ (t : Bool). cond t p (suc p)) (lt-ltb p pivot h)

pub skip_behind : (pivot p : ℕ) → pivot ≤ p → skip pivot p ≡ suc p
skip_behind pivot p h = ap (λ (t : Bool). cond t p (suc p)) (le-ltb p pivot h)

-- the positions below p have what stands there after the removal, and those from p on what stood there before
pub record Removing (s₀ : State) (pivot target local : ℕ) (s : State) (p : ℕ) : Type 0 where
  pub width : s.width ≡ s₀.width
  pub count : s.count ≡ s₀.count
  pub size : s.size ≡ s₀.size
  pub components : length s.component ≡ 512
  pub places : length s.place ≡ 512
  pub component : (q : ℕ) → q < p → get_or s.component q 0 ≡ get_or s₀.component (skip pivot q) 0
  pub place : (q : ℕ) → q < p → get_or s.place q 0 ≡ lowered target local (get_or s₀.component (skip pivot q) 0) (get_or s₀.place (skip pivot q) 0)
  pub same_component : (q : ℕ) → p ≤ q → get_or s.component q 0 ≡ get_or s₀.component q 0
  pub same_place : (q : ℕ) → p ≤ q → get_or s.place q 0 ≡ get_or s₀.place q 0
  pub small : Below512 s.component
