-- `choose` meets its contract: each return has shown by the tests before it which of the four conditions of `chosen` fail, and the literals are 1.8, 8192 and 1.25.
use Rattle.std.proofs.Common.{◌≡◌, ℕ, ◌<◌, ◌≤◌, true, false, pos, ◌∙◌, ap₂, le-leb}
use borrow.Author.Tests.{lt-leb}
use lib.Ieee.{Float, fin, binary64, mul, sub, le, of_int, of_bits, round}
use Rattle.plan_spec.specs.Plan.{least_ratio, most_share, chosen}
use Rattle.answer.proofs.choose.Goals as goal

module _ (quantum : ℕ) (dense component : Float) (allocated peak : ℕ) where
  -- too few
  few : quantum < 4 → false ≡ chosen quantum dense component allocated peak
  unfolding chosen
  few h = simp (lt-leb 4 quantum h)

  module _ (enough : 4 ≤ quantum) where
    -- the ratio is too small
    close : le (mul binary64 least_ratio component) dense ≡ false → false ≡ chosen quantum dense component allocated peak
    unfolding chosen
    close e = simp (le-leb 4 quantum enough, e)

    module _ (far : le (mul binary64 least_ratio component) dense ≡ true) where
      -- the difference is too small
      cheap : le (fin false 1 (pos 13)) (sub binary64 dense component) ≡ false → false ≡ chosen quantum dense component allocated peak
      unfolding chosen
      cheap e = simp (le-leb 4 quantum enough, far, e)

      -- the last test decides
      last : le (fin false 1 (pos 13)) (sub binary64 dense component) ≡ true
          → le (of_int binary64 (pos allocated)) (mul binary64 most_share (of_int binary64 (pos peak))) ≡ chosen quantum dense component allocated peak
      unfolding chosen
      last e = simp (le-leb 4 quantum enough, far, e)

pub returns-then-quantum-lt4 : goal.returns-then-quantum-lt4
returns-then-quantum-lt4 c = let a = c.args in few a.quantum a.dense a.component a.allocated a.dense_peak c.if-quantum-lt4.true

pub returns-then-not-component-dense : goal.returns-then-not-component-dense
unfolding of_bits round
returns-then-not-component-dense c =
    let a = c.args in
    close a.quantum a.dense a.component a.allocated a.dense_peak c.if-quantum-lt4.false c.if-not-component-dense.true

pub returns-then-not-dense-component : goal.returns-then-not-dense-component
unfolding of_bits round
returns-then-not-dense-component c =
    let a = c.args in
    cheap a.quantum a.dense a.component a.allocated a.dense_peak c.if-quantum-lt4.false c.if-not-component-dense.false c.if-not-dense-component.true

pub returns : goal.returns
unfolding of_bits round
returns c =
    let a = c.args in
    ap₂ (λ (x y : Float). le x (mul binary64 most_share y)) c.nearest_u64_to_f64.ensures c.nearest_u64_to_f64-2.ensures
    ∙ last a.quantum a.dense a.component a.allocated a.dense_peak c.if-quantum-lt4.false c.if-not-component-dense.false c.if-not-dense-component.false
