-- The turns of the code's loop that moves measurements give the definition's order: what is done stands in front, and the definition has it nearest first. By induction
-- on the turns that are left.
use Rattle.std.proofs.Common.{◌≡◌, ℕ, zero, suc, ◌+◌, ◌-◌, ◌<◌, ◌≤◌, Bool, true, false, cond, ◌&&◌, List, [], ◌∷◌, ◌++◌, length, get_or, take, drop, refl, ap, sym, arith}
use Rattle.std.specs.Prelude.{map, reverse}
use mathlib.Core.List.{reverse_aux}
use mathlib.Core.Path.{◌∙◌, ap₂}
use Rattle.std.proofs.lemmas.List.{append_assoc, length-append, length-take, length-drop, length-reverse, length-map, take_all, take-map, take_at, drop_at, drop_more, reverse-append, reverse-reverse, map-append}
use Rattle.pending.specs.Operation.{Operation, is_rotation, is_measurement, strings_commute, same_string}
use Rattle.optimizer_spec.specs.Passes.{Placed, placed, further, reach, passed, Moved, move, swapping}
use Rattle.optimizer.proofs.Carrying.{bare_drop}
use Rattle.optimizer.proofs.Parts.{take_sum}
use Rattle.optimizer.specs.Working.{bare, passed_in, moved_to, Moving, move_turn, turns}

-- places decide nothing of how far a measurement passes
reach_bare : (slack : Bool) (m : Operation) (ps : List Placed) → reach slack m ps ≡ reach slack m (map (placed 0) (bare ps))
unfolding reach
reach_bare slack m [] = refl
reach_bare slack m (p ∷ ps) =
    ap (λ (n : ℕ). cond (is_rotation p.operation && strings_commute m p.operation) (further slack (same_string m p.operation) n) 0) (reach_bare slack m ps)

passed_bare : (slack : Bool) (o : Operation) (ps : List Placed) → passed slack o ps ≡ passed slack o (map (placed 0) (bare ps))
unfolding passed
passed_bare slack o ps = ap (λ (n : ℕ). cond (is_measurement o) n 0) (reach_bare slack o ps)

-- none passes more than stand before it
further_few : (slack same : Bool) (n k : ℕ) → n ≤ k → further slack same n ≤ suc k
further_few true same n k h = omega arith
further_few false true n k h = omega arith
further_few false false zero k h = omega arith
further_few false false (suc n) k h = omega arith

reach_few : (slack : Bool) (m : Operation) (ps : List Placed) → reach slack m ps ≤ length ps
unfolding reach
reach_few slack m [] = omega arith
reach_few slack m (p ∷ ps) =
    go (is_rotation p.operation && strings_commute m p.operation) (further_few slack (same_string m p.operation) (reach slack m ps) (length ps) (reach_few slack m ps))
  where
    go : (b : Bool) → further slack (same_string m p.operation) (reach slack m ps) ≤ suc (length ps)
        → cond b (further slack (same_string m p.operation) (reach slack m ps)) 0 ≤ suc (length ps)
    go true few = few
    go false few = omega arith

passed_few : (slack : Bool) (o : Operation) (ps : List Placed) → passed slack o ps ≤ length ps
unfolding passed
passed_few slack o ps = go (is_measurement o)
  where
    go : (b : Bool) → cond b (reach slack o ps) 0 ≤ length ps
    go true = reach_few slack o ps
    go false = omega arith

-- operations the other way round, with their places or without
bare_onto : (ps qs : List Placed) → bare (reverse_aux ps qs) ≡ reverse_aux (bare ps) (bare qs)
bare_onto [] qs = refl
bare_onto (p ∷ ps) qs = bare_onto ps (p ∷ qs)

bare_reverse : (ps : List Placed) → bare (reverse ps) ≡ reverse (bare ps)
bare_reverse ps = bare_onto ps []

-- ---- one turn, of operation i behind i others

module _ (os : List Operation) (i n : ℕ) (inside : i < length os) (few : n ≤ i) where
  abbrev pub here : Operation
  here = get_or os i []

  -- those that are not passed, and those that are
  abbrev pub stay : List Operation
  stay = take (i - n) os

  abbrev pub pass : List Operation
  pass = take n (drop (i - n) os)

  parts : take i os ≡ stay ++ pass
  parts =
      let all : i ≡ i - n + n = omega arith in
      ap (λ (k : ℕ). take k os) all ∙ take_sum (i - n) n os

  -- nearest first, those that are passed come first
  nearest : reverse (take i os) ≡ reverse pass ++ reverse stay
  nearest = ap reverse parts ∙ reverse-append stay pass

  long : length (reverse pass) ≡ n
  long = length-reverse pass ∙ omega (arith, length-take n (drop (i - n) os), length-drop (i - n) os)

  moved : moved_to (i - n) i os ≡ (stay ++ (here ∷ pass)) ++ drop (suc i) os
  moved =
      let distance : i - (i - n) ≡ n = omega arith in
      ap (λ (k : ℕ). take (i - n) os ++ (here ∷ (take k (drop (i - n) os) ++ drop (suc i) os))) distance
      ∙ sym (append_assoc stay (here ∷ pass) (drop (suc i) os))

  done_long : length (stay ++ (here ∷ pass)) ≡ suc i
  done_long = omega (arith, length-append stay (here ∷ pass), length-take (i - n) os, length-take n (drop (i - n) os), length-drop (i - n) os)

  -- the turn leaves the operations behind it
  pub rest_after : drop (suc i) (moved_to (i - n) i os) ≡ drop (suc i) os
  rest_after = ap (drop (suc i)) moved ∙ drop_at (stay ++ (here ∷ pass)) (drop (suc i) os) (suc i) done_long

  -- and in front of them, nearest first, has put this one behind those that it passes
  pub done_after : reverse (take (suc i) (moved_to (i - n) i os)) ≡ take n (reverse (take i os)) ++ here ∷ drop n (reverse (take i os))
  done_after =
      ap (λ (xs : List Operation). reverse (take (suc i) xs)) moved
      ∙ ap reverse (take_at (stay ++ (here ∷ pass)) (drop (suc i) os) (suc i) done_long)
      ∙ reverse-append stay (here ∷ pass)
      ∙ ap (λ (xs : List Operation). xs ++ reverse stay) (reverse-append (here ∷ []) pass)
      ∙ append_assoc (reverse pass) (here ∷ []) (reverse stay)
      ∙ sym
      (ap (λ (xs : List Operation). take n xs ++ here ∷ drop n xs) nearest
      ∙ ap₂ (λ (xs ys : List Operation). xs ++ here ∷ ys) (take_at (reverse pass) (reverse stay) n long) (drop_at (reverse pass) (reverse stay) n long))

  pub length_after : length (moved_to (i - n) i os) ≡ length os
  length_after = ap (λ (xs : List Operation). length xs) moved ∙ omega (arith, length-append (stay ++ (here ∷ pass)) (drop (suc i) os), done_long, length-drop (suc i) os)

-- ---- all turns

pub record Arrived (s t : Moving) (m : Moved) : Type 0 where
  pub order : t.operations ≡ bare m.order
  pub swaps : t.swaps ≡ s.swaps + m.swaps

-- one turn, and those behind it
arrives : (slack : Bool) (i : ℕ) (s t : Moving) (k : ℕ) (m : Moved) → k ≡ passed_in slack s.operations i → Arrived (move_turn slack i s) t m → Arrived s t (swapping k m)
arrives slack i s t k m k_is r = record {
  order = r.order;
  swaps = (let h = r.swaps in omega arith);
}

pub moved_by_turns : (slack : Bool) (n i : ℕ) (s : Moving) (done rest : List Placed) → i + n ≡ length s.operations →
    bare done ≡ reverse (take i s.operations) → bare rest ≡ drop i s.operations → Arrived s (turns (move_turn slack) n i s) (move slack done rest)
unfolding move
moved_by_turns slack zero i s done [] long done_is rest_is = record {
  order = sym (bare_reverse done ∙ ap reverse done_is ∙ reverse-reverse (take i s.operations) ∙ take_all i s.operations (omega arith));
  swaps = omega arith;
}
moved_by_turns slack zero i s done (p ∷ rest) long done_is rest_is =
    absurd (let size = ap (λ (xs : List Operation). length xs) rest_is in omega (arith, length-drop i s.operations))
moved_by_turns slack (suc n) i s done [] long done_is rest_is =
    absurd (let size = ap (λ (xs : List Operation). length xs) rest_is in omega (arith, length-drop i s.operations))
moved_by_turns slack (suc n) i s done (p ∷ rest) long done_is rest_is =
    let os = s.operations in
    let next : i + 1 ≡ suc i = omega arith in
    let inside : i < length os = omega arith in
    let all = rest_is ∙ drop_more os i [] inside in
    let head : p.operation ≡ get_or os i [] = ap (λ (xs : List Operation). get_or xs 0 []) all in
    let tail : bare rest ≡ drop (suc i) os = ap (λ (xs : List Operation). drop 1 xs) all ∙ ap (λ (k : ℕ). drop k os) next in
    let k = passed slack p.operation done in
    let count : length done ≡ i =
    sym (length-map done (λ q. q.operation)) ∙ ap (λ (xs : List Operation). length xs) done_is ∙ length-reverse (take i os) ∙ omega (arith, length-take i os) in
    let few : k ≤ i = omega (arith, passed_few slack p.operation done) in
    let k_is : k ≡ passed_in slack os i =
    passed_bare slack p.operation done ∙ ap₂ (λ (o : Operation) (xs : List Operation). passed slack o (map (placed 0) xs)) head done_is in
    let same : moved_to (i - k) i os ≡ (move_turn slack i s).operations = ap (λ (m : ℕ). moved_to (i - m) i os) k_is in
    let done_next : bare (take k done ++ p ∷ drop k done) ≡ reverse (take (suc i) (move_turn slack i s).operations) =
    map-append (λ q. q.operation) (take k done) (p ∷ drop k done)
    ∙ ap₂ (λ (xs ys : List Operation). xs ++ p.operation ∷ ys) (sym (take-map (λ q. q.operation) k done)) (bare_drop k done)
    ∙ ap₂ (λ (o : Operation) (xs : List Operation). take k xs ++ o ∷ drop k xs) head done_is
    ∙ sym (done_after os i k inside few)
    ∙ ap (λ (xs : List Operation). reverse (take (suc i) xs)) same in
    arrives slack i s (turns (move_turn slack) n (suc i) (move_turn slack i s)) k (move slack (take k done ++ p ∷ drop k done) rest) k_is
    (moved_by_turns slack n (suc i) (move_turn slack i s) (take k done ++ p ∷ drop k done) rest
    (let size = ap (λ (xs : List Operation). length xs) same in omega (arith, length_after os i k inside few))
    done_next
    (tail ∙ sym (rest_after os i k inside few) ∙ ap (drop (suc i)) same))
