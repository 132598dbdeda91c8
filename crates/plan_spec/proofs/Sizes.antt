-- Every longest size that the walk reaches is below 64, and below the ceiling where that is above 1: the start and a promotion write 1, and a rotation or a measurement
-- was accepted only where its joined component has fewer members than either.
use Prim.Native.Nat.{ℕ, zero, suc, ◌≤◌, ◌<◌, min, max}
use native.Mathlib.Omega.{arith}
use mathlib.Core.List.{List, [], ◌∷◌, ◌++◌}
use lib.ListN.{length, get_or, set, replicate}
use Rattle.records.specs.declared.Instruction.{Instruction}
use Rattle.plan_spec.specs.Walk.{Walk, join_of, start, no_step, ignored_step, promotion_step, rotation_step, measurement_step}
use Rattle.plan_spec.proofs.Steps.{Stepped, ignored, rotated, promoted, measured, recorded, detected, expected, branched, Run, done, more}

-- every entry is below n, and so is the default past the end
abbrev Below : ℕ → List ℕ → Type 0
Below n xs = (i : ℕ) → get_or xs i 0 < n

module _ (n : ℕ) (least : 1 < n) where
  ones_below : (k : ℕ) → Below n (replicate k 1)
  ones_below zero i = omega arith
  ones_below (suc k) zero = least
  ones_below (suc k) (suc i) = ones_below k i

  set_below : (c v : ℕ) (xs : List ℕ) → Below n xs → v < n → Below n (set xs c v)
  set_below c v [] all h i = all i
  set_below zero v (x ∷ xs) all h zero = h
  set_below zero v (x ∷ xs) all h (suc i) = all (suc i)
  set_below (suc c) v (x ∷ xs) all h zero = all zero
  set_below (suc c) v (x ∷ xs) all h (suc i) = set_below c v xs (λ j. all (suc j)) h i

  one_more_below : (xs : List ℕ) → Below n xs → Below n (xs ++ (1 ∷ []))
  one_more_below [] all zero = least
  one_more_below [] all (suc i) = omega arith
  one_more_below (x ∷ xs) all zero = all zero
  one_more_below (x ∷ xs) all (suc i) = one_more_below xs (λ j. all (suc j)) i

  join_below : (x z : ℕ) (w : Walk) → length (join_of x z w).members < n → Below n w.longest → Below n (join_of x z w).longest
  unfolding join_of
  join_below x z w h all =
      let j = join_of x z w in
      let old = all j.component in
      set_below j.component (max (get_or w.longest j.component 0) (length j.members)) w.longest all (omega arith)

  module _ {limit : ℕ} (bound : min limit 64 ≤ n) where
    step_below : {w v : Walk} {i : Instruction} → Stepped limit w i v → Below n w.longest → Below n v.longest
    unfolding no_step ignored_step promotion_step rotation_step measurement_step
    step_below (ignored x z phase angle sine cosine empty) all = all
    step_below {w = w} (rotated width x z phase angle sine cosine k wide active small fits made) all = join_below x z w (omega arith) all
    step_below {w = w} promoted all = one_more_below w.longest all
    step_below {w = w} (measured width x z phase pivot k wide active small fits below inside made) all = join_below x z w (omega arith) all
    step_below recorded all = all
    step_below detected all = all
    step_below expected all = all
    step_below branched all = all

    run-below : {w u : Walk} {is : List Instruction} → Run limit w is u → Below n w.longest → Below n u.longest
    run-below (done w) all = all
    run-below (more s rest) all = run-below rest (step_below s all)

    pub reached_longest : (k : ℕ) {is : List Instruction} {u : Walk} → Run limit (start k) is u → (i : ℕ) → get_or u.longest i 0 < n
    unfolding start
    reached_longest k run = run-below run (ones_below k)
