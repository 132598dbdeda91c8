-- How far a measurement passes, found from the nearest operation on: those that are behind it by then count, and what is left decides.
use Rattle.std.specs.Prelude.{not}
use Rattle.std.proofs.Common.{◌≡◌, ℕ, zero, suc, ◌+◌, ◌-◌, ◌<◌, ◌≤◌, Bool, true, false, cond, ◌&&◌, List, [], ◌∷◌, length, get_or, take, drop, refl, ap, arith}
use Rattle.std.specs.Prelude.{reverse}
use mathlib.Core.Path.{◌∙◌}
use Rattle.std.proofs.lemmas.List.{drop_more, drop_all, length-map, length-reverse, length-take, get_or-map, get_or-reverse, get_or-take}
use Rattle.pending.specs.Operation.{Operation, is_rotation, strings_commute, same_string}
use Rattle.optimizer_spec.specs.Passes.{Placed, placed, further, reach}
use Rattle.optimizer.specs.Working.{before}

-- n are passed, and k of those behind them; without slack none counts unless one further on is reached
abbrev pub ahead : (slack : Bool) → (n k : ℕ) → ℕ
ahead true n k = n + k
ahead false n zero = 0
ahead false n (suc k) = n + suc k

-- one more is passed
ahead_more : (slack same : Bool) (n k : ℕ) → (not slack && same) ≡ false → ahead slack n (further slack same k) ≡ ahead slack (n + 1) k
ahead_more true same n k h = omega arith
ahead_more false true n k h = cc
ahead_more false false n zero h = refl
ahead_more false false n (suc k) h = omega arith

-- the goal is reached
ahead_goal : (slack same : Bool) (n k : ℕ) → (not slack && same) ≡ true → ahead slack n (further slack same k) ≡ n + 1
ahead_goal true same n k h = cc
ahead_goal false true n k h = refl
ahead_goal false false n k h = cc

ahead_none : (slack : Bool) (n : ℕ) → ahead slack n 0 ≡ cond slack n 0
ahead_none true n = omega arith
ahead_none false n = refl

module _ (slack : Bool) (m : Operation) (os : List Operation) (i : ℕ) where
  -- what is found from operation n to the left on
  abbrev pub found : ℕ → ℕ
  found n = ahead slack n (reach slack m (drop n (before i os)))

  -- the n-th operation to the left
  abbrev pub to_left : ℕ → Operation
  to_left n = get_or os (i - 1 - n) []

  count : i ≤ length os → length (before i os) ≡ i
  count inside = length-map (reverse (take i os)) (placed 0) ∙ length-reverse (take i os) ∙ omega (arith, length-take i os)

  row : (n : ℕ) → i ≤ length os → n < i → drop n (before i os) ≡ placed 0 (to_left n) ∷ drop (n + 1) (before i os)
  row n inside small =
      let long : length (take i os) ≡ i = omega (arith, length-take i os) in
      let turned : n < length (reverse (take i os)) = omega (arith, length-reverse (take i os)) in
      let at : length (take i os) - 1 - n ≡ i - 1 - n = omega arith in
      let it =
      get_or-map (placed 0) (reverse (take i os)) n [] (placed 0 []) turned
      ∙ ap (placed 0)
      (get_or-reverse (take i os) n [] (omega arith)
      ∙ ap (λ (k : ℕ). get_or (take i os) k []) at
      ∙ get_or-take i os (i - 1 - n) [] (omega arith)) in
      drop_more (before i os) n (placed 0 []) (omega (arith, count inside)) ∙ ap (λ (r : Placed). r ∷ drop (n + 1) (before i os)) it

  module _ (n : ℕ) (inside : i ≤ length os) (small : n < i) where
    -- the rest, behind operation n to the left
    abbrev pub more : ℕ
    more = reach slack m (drop (n + 1) (before i os))

    step : reach slack m (drop n (before i os)) ≡ cond (is_rotation (to_left n) && strings_commute m (to_left n)) (further slack (same_string m (to_left n)) more) 0
    unfolding reach
    step = ap (reach slack m) (row n inside small)

    pub stopped : (is_rotation (to_left n) && strings_commute m (to_left n)) ≡ false → found n ≡ cond slack n 0
    stopped h = ap (ahead slack n) (step ∙ ap (λ (b : Bool). cond b (further slack (same_string m (to_left n)) more) 0) h) ∙ ahead_none slack n

    pub reached : (is_rotation (to_left n) && strings_commute m (to_left n)) ≡ true → (not slack && same_string m (to_left n)) ≡ true → found n ≡ n + 1
    reached h g =
        ap (ahead slack n) (step ∙ ap (λ (b : Bool). cond b (further slack (same_string m (to_left n)) more) 0) h)
        ∙ ahead_goal slack (same_string m (to_left n)) n more g

    pub passed : (is_rotation (to_left n) && strings_commute m (to_left n)) ≡ true → (not slack && same_string m (to_left n)) ≡ false → found n ≡ found (n + 1)
    passed h g =
        ap (ahead slack n) (step ∙ ap (λ (b : Bool). cond b (further slack (same_string m (to_left n)) more) 0) h)
        ∙ ahead_more slack (same_string m (to_left n)) n more g

  -- nothing is left
  pub at_end : i ≤ length os → found i ≡ cond slack i 0
  unfolding reach
  at_end inside = ap (λ (rs : List Placed). ahead slack i (reach slack m rs)) (drop_all i (before i os) (omega (arith, count inside))) ∙ ahead_none slack i
