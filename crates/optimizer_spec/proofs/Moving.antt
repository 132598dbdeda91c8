-- A measurement goes only in front of rotations that commute with it, so moving keeps every two operations in order or changes them as `Ordered` allows; and it only
-- puts each operation in somewhere, so it rearranges.
use mathlib.Core.Path.{◌≡◌}
use mathlib.Core.Logic.{inr}
use mathlib.Core.Bool.{Bool, true, false, ◌&&◌}
use mathlib.Core.List.{List, [], ◌∷◌}
use Prim.Native.Nat.{ℕ, zero, suc, ◌+◌}
use native.Mathlib.Omega.{arith}
use lib.ListN.{take}
use Rattle.std.specs.List.{AllByRecursion as Each, insert}
use Rattle.std.proofs.lemmas.Bool.{cond_both, and_parts}
use Rattle.pending.specs.Operation.{Operation, is_rotation, is_measurement, strings_commute, same_string}
use Rattle.optimizer_spec.specs.Passes.{Placed, further, reach, passed, move}
use Rattle.optimizer_spec.specs.Claims.{AreOrdered}
use Rattle.optimizer_spec.proofs.Lists.{Each_both, Each_weaker, Each-insert, Each-reverse, Pairs, Pairs-insert, Pairs-reverse, total, total-insert, total-reverse}

-- ---- what a measurement passes

further_each : {X : Type 0} (P : X → Type 0) (slack same : Bool) (n : ℕ) (r : X) (rs : List X) → P r → Each P (take n rs)
    → Each P (take (further slack same n) (r ∷ rs))
further_each P true same n r rs p h = (p, h)
further_each P false true n r rs p h = (p, tt)
further_each P false false zero r rs p h = tt
further_each P false false (suc n) r rs p h = (p, h)

reach_each : (slack : Bool) (m : Operation) (before : List Placed)
    → Each (λ r. (is_rotation r.operation ≡ true) × (strings_commute m r.operation ≡ true)) (take (reach slack m before) before)
unfolding reach
reach_each slack m [] = tt
reach_each slack m (r ∷ rs) =
    let P = λ (o : Placed). (is_rotation o.operation ≡ true) × (strings_commute m o.operation ≡ true) in
    let h = reach_each slack m rs in
    cond_both (is_rotation r.operation && strings_commute m r.operation) _ _ (λ n. Each P (take n (r ∷ rs)))
    (λ e. further_each P slack (same_string m r.operation) (reach slack m rs) r rs (and_parts (is_rotation r.operation) (strings_commute m r.operation) e) h)
    (λ e. tt)

-- ---- the order that is left

pub move_total : (w : Placed → ℕ) (slack : Bool) (before rest : List Placed) → total w (move slack before rest).order ≡ total w before + total w rest
unfolding move
move_total w slack before [] = total-reverse w before []
move_total w slack before (o ∷ rest) =
    let n = passed slack o.operation before in
    let e = total-insert w n o before in
    let r = move_total w slack (insert before n o) rest in omega arith

pub move_each : (P : Placed → Type 0) (slack : Bool) (before rest : List Placed) → Each P before → Each P rest → Each P (move slack before rest).order
unfolding move
move_each P slack before [] h k = Each-reverse P before [] h tt
move_each P slack before (o ∷ rest) h k =
    let n = passed slack o.operation before in
    move_each P slack (insert before n o) rest (Each-insert P n o before k.0 h) k.1

module _ (os : List Operation) (prefixes : List ℕ) where
  passed_each : (slack : Bool) (o : Placed) (before : List Placed) → Each (AreOrdered os prefixes o) (take (passed slack o.operation before) before)
  unfolding passed
  passed_each slack o before =
      cond_both (is_measurement o.operation) _ _ (λ n. Each (AreOrdered os prefixes o) (take n before))
      (λ e. Each_weaker _ (AreOrdered os prefixes o) (λ r p. inr (e, p.0, p.1)) (take (reach slack o.operation before) before) (reach_each slack o.operation before))
      (λ e. tt)

  -- `before` has the nearest first
  pub move_ordered : (slack : Bool) (before rest : List Placed) → Pairs (λ x y. AreOrdered os prefixes y x) before → Pairs (AreOrdered os prefixes) rest
      → Each (λ r. Each (λ b. AreOrdered os prefixes b r) before) rest → Pairs (AreOrdered os prefixes) (move slack before rest).order
  unfolding move
  move_ordered slack before [] h k c = Pairs-reverse (AreOrdered os prefixes) before [] h tt tt
  move_ordered slack before (o ∷ rest) h k c =
      let n = passed slack o.operation before in
      move_ordered slack (insert before n o) rest
      (Pairs-insert (λ x y. AreOrdered os prefixes y x) n o before h (passed_each slack o before) c.0)
      k.1
      (Each_both (AreOrdered os prefixes o) (λ r. Each (λ b. AreOrdered os prefixes b r) before) (λ r. Each (λ b. AreOrdered os prefixes b r) (insert before n o))
      (λ r p q. Each-insert (λ b. AreOrdered os prefixes b r) n o before p q) rest k.0 c.1)
