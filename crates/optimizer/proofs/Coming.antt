-- One turn of the loop over all segments: where no segment ends nothing changes but the place, and where one does it stands behind those in front, with its boundary.
use Rattle.std.proofs.Common.{◌≡◌, ℕ, zero, suc, ◌+◌, ◌-◌, ◌<◌, ◌≤◌, Bool, true, false, cond, List, [], ◌∷◌, ◌++◌, length, get_or, set, take, drop, refl, ap, sym, arith}
use Rattle.std.specs.Prelude.{map, eqb, ◌≢◌}
use Rattle.std.specs.List.{filter, sum_by, range_with_len}
use mathlib.Core.Path.{◌∙◌, ap₂, subst}
use borrow.Author.Tests.{eq-eqb, ne_eqb, eqb-true, eqb-false}
use Rattle.std.proofs.lemmas.List.{append-nil, append_assoc, length-append, take-map, drop-drop, get_or-set_same, get_or-set_other, map-append}
use Rattle.std.proofs.lemmas.List.Sums.{sum_by-append, sum_by_push}
use Rattle.std.proofs.lemmas.Grind.{flat_map-append}
use Rattle.pending.specs.Operation.{Operation}
use Rattle.optimizer_spec.specs.Passes.{Placed, Pair, Segment, segment_of}
use Rattle.optimizer_spec.specs.Optimizing.{placed_from, ends_of, segments, segments_of, no_boundary, boundary, mapped, operations_in, pairs_in}
use Rattle.optimizer.specs.declared.segments.Segment as Declared
use Rattle.optimizer.specs.declared.segments.Progress.{Progress}
use Rattle.optimizer.proofs.Carrying.{bare_drop}
use Rattle.optimizer.proofs.Parts.{drop_further}
use Rattle.optimizer.specs.Working.{bare, cancellations, Leaves, is_end, ends_from, mark, coming, defined, Come, Finished}

-- ---- ends

-- the ends from here on: this place, if it is one, and those behind it
ends_step : (n : ℕ) (prefixes : List ℕ) (e : ℕ) → e ≤ n →
    ends_from n prefixes e ≡ cond (is_end n prefixes e) (e ∷ ends_from n prefixes (e + 1)) (ends_from n prefixes (e + 1))
ends_step n prefixes e inside =
    let here : n + 1 - e ≡ suc (n + 1 - (e + 1)) = omega arith in
    ap (λ (k : ℕ). filter (is_end n prefixes) (range_with_len e k)) here

-- no boundary stands in front of the first end
boundary_beyond : (f : ℕ → Bool) (q out a k : ℕ) (ss : List Segment) → q < a → boundary q out (filter f (range_with_len a k)) ss ≡ no_boundary
unfolding boundary
boundary_beyond f q out a zero ss small = refl
boundary_beyond f q out a (suc k) ss small = go (f a) ss (λ after rest. boundary_beyond f q after (a + 1) k rest (omega arith))
  where
    go : (b : Bool) (ss : List Segment) →
        ((after : ℕ) (rest : List Segment) → boundary q after (filter f (range_with_len (a + 1) k)) rest ≡ no_boundary) →
        boundary q out (cond b (a ∷ filter f (range_with_len (a + 1) k)) (filter f (range_with_len (a + 1) k))) ss ≡ no_boundary
    go false ss more = more out ss
    go true [] more = refl
    go true (s ∷ ss) more =
        ap (λ (t : Bool). cond t (out + length s.operations) (boundary q (out + length s.operations) (filter f (range_with_len (a + 1) k)) ss)) (ne_eqb q a (λ e. absurd (omega arith)))
        ∙ more (out + length s.operations) ss

-- by whether two places are the same
by_place : {A : Type 0} (q e : ℕ) → (q ≡ e → A) → (q ≢ e → A) → A
by_place {A} q e same other = go (eqb q e) refl
  where
    go : (b : Bool) → eqb q e ≡ b → A
    go true h = same (eqb-true q e h)
    go false h = other (eqb-false q e h)

-- ---- places

bare_placed : (n : ℕ) (os : List Operation) → bare (placed_from n os) ≡ os
bare_placed n [] = refl
bare_placed n (o ∷ os) = ap (λ (rest : List Operation). o ∷ rest) (bare_placed (suc n) os)

module _ (os : List Operation) (prefixes : List ℕ) (end : ℕ) (list : List Operation) (map : List ℕ) (p : Progress) (come : Come os prefixes end list map p) (inside : end ≤ length os) where
  -- the operations of the segment that may end here
  abbrev pub part : List Placed
  part = take (end - p.start) (drop p.start (placed_from 0 os))

  pub part_bare : bare part ≡ take (end - p.start) (drop p.start list)
  part_bare =
      sym (take-map (λ q. q.operation) (end - p.start) (drop p.start (placed_from 0 os)))
      ∙ ap (take (end - p.start)) (bare_drop p.start (placed_from 0 os) ∙ ap (drop p.start) (bare_placed 0 os) ∙ sym come.rest)

  -- ---- where no segment ends

  module _ (written : get_or map end 0 ≡ no_boundary) where
    no_end : is_end (length os) prefixes end ≡ false
    no_end = go (is_end (length os) prefixes end) (sym (come.marks end (omega arith) inside) ∙ written)
      where
        go : (b : Bool) → cond b 0 no_boundary ≡ no_boundary → b ≡ false
        go true h = absurd (omega arith)
        go false h = refl

    none_here : ends_from (length os) prefixes end ≡ ends_from (length os) prefixes (end + 1)
    none_here =
        ends_step (length os) prefixes end inside
        ∙ ap (λ (b : Bool). cond b (end ∷ ends_from (length os) prefixes (end + 1)) (ends_from (length os) prefixes (end + 1))) no_end

    -- no boundary is defined here
    nothing_here : boundary end p.output (ends_from (length os) prefixes end) (coming os prefixes end p) ≡ no_boundary
    nothing_here =
        ap (λ (es : List ℕ). boundary end p.output es (segments p.start es (drop p.start (placed_from 0 os)))) none_here
        ∙ boundary_beyond (is_end (length os) prefixes) end p.output (end + 1) (length os + 1 - (end + 1)) (coming os prefixes (end + 1) p) (omega arith)

    pub passed_over : Come os prefixes (end + 1) list map p
    passed_over = record {
      done = come.done;
      size = come.size;
      cut = come.cut ∙ ap (λ (es : List ℕ). come.done ++ segments p.start es (drop p.start (placed_from 0 os))) none_here;
      output = come.output;
      front = come.front;
      rest = come.rest;
      fused = come.fused;
      cancelled = come.cancelled;
      swaps = come.swaps;
      boundaries = λ q from to. by_place q end
          (λ e. subst (λ (k : ℕ). get_or map k 0 ≡ defined os prefixes k) (sym e) (written ∙ sym (come.ahead end (omega arith) ∙ nothing_here)))
          (λ other. come.boundaries q from (omega (arith, other)));
      marks = λ q from to. come.marks q (omega arith) to;
      ahead = λ q from.
          come.ahead q (omega arith)
          ∙ ap (λ (es : List ℕ). boundary q p.output es (segments p.start es (drop p.start (placed_from 0 os)))) none_here;
    }

  -- ---- where one ends

  module _ (written : get_or map end 0 ≢ no_boundary) (room : end < length map) where
    here : is_end (length os) prefixes end ≡ true
    here = go (is_end (length os) prefixes end) (come.marks end (omega arith) inside)
      where
        go : (b : Bool) → get_or map end 0 ≡ cond b 0 no_boundary → b ≡ true
        go true h = refl
        go false h = absurd (written h)

    -- the segment, and those behind it
    abbrev pub segment : Segment
    segment = segment_of part

    abbrev pub behind_it : List Segment
    behind_it = segments end (ends_from (length os) prefixes (end + 1)) (drop end (placed_from 0 os))

    ends_are : ends_from (length os) prefixes end ≡ end ∷ ends_from (length os) prefixes (end + 1)
    ends_are =
        ends_step (length os) prefixes end inside
        ∙ ap (λ (b : Bool). cond b (end ∷ ends_from (length os) prefixes (end + 1)) (ends_from (length os) prefixes (end + 1))) here

    coming_is : p.start ≤ end → coming os prefixes end p ≡ segment ∷ behind_it
    unfolding segments
    coming_is up =
        let all : p.start + (end - p.start) ≡ end = omega arith in
        ap (λ (es : List ℕ). segments p.start es (drop p.start (placed_from 0 os))) ends_are
        ∙ ap (λ (ps : List Placed). segment ∷ segments end (ends_from (length os) prefixes (end + 1)) ps)
        (drop-drop (end - p.start) p.start (placed_from 0 os) ∙ ap (λ (k : ℕ). drop k (placed_from 0 os)) all)

    module _ (list' : List Operation) (r : Declared.Segment) (up : p.start ≤ end) (tail : List Operation)
        (leaves : Leaves segment tail r) (front' : take (p.output + r.left) list' ≡ take p.output list ++ take r.left tail)
        (size' : length list' ≡ length list) (rest' : drop end list' ≡ drop end list) where
      abbrev pub progress : Progress
      progress = record {
        start = end;
        output = p.output + r.left;
        fused = p.fused + r.fused;
        cancelled = p.cancelled + r.cancelled;
        swaps = p.swaps + r.swaps;
      }

      abbrev pub all : List Segment
      all = come.done ++ (segment ∷ [])

      operations_are : operations_in all ≡ operations_in come.done ++ segment.operations
      operations_are =
          flat_map-append (λ s. s.operations) come.done (segment ∷ [])
          ∙ ap (λ (os : List Placed). operations_in come.done ++ os) (append-nil segment.operations)

      pairs_are : pairs_in all ≡ pairs_in come.done ++ segment.pairs
      pairs_are =
          flat_map-append (λ s. s.pairs) come.done (segment ∷ []) ∙ ap (λ (ps : List Pair). pairs_in come.done ++ ps) (append-nil segment.pairs)

      -- the list stands as before behind this end
      rest_is : drop end list' ≡ drop end os
      rest_is = rest' ∙ drop_further p.start end list os up come.rest

      boundary_here : defined os prefixes end ≡ p.output + r.left
      unfolding boundary
      boundary_here =
          come.ahead end (omega arith)
          ∙ ap₂ (λ (es : List ℕ) (ss : List Segment). boundary end p.output es ss) ends_are (coming_is up)
          ∙ ap (λ (t : Bool). cond t (p.output + length segment.operations) (boundary end (p.output + length segment.operations) (ends_from (length os) prefixes (end + 1)) behind_it)) (eq-eqb end end refl)
          ∙ ap (λ (k : ℕ). p.output + k) (sym leaves.left)

      boundary_behind : (q : ℕ) → end < q → defined os prefixes q ≡ boundary q (p.output + r.left) (ends_from (length os) prefixes (end + 1)) behind_it
      unfolding boundary
      boundary_behind q small =
          come.ahead q (omega arith)
          ∙ ap₂ (λ (es : List ℕ) (ss : List Segment). boundary q p.output es ss) ends_are (coming_is up)
          ∙ ap (λ (t : Bool). cond t (p.output + length segment.operations) (boundary q (p.output + length segment.operations) (ends_from (length os) prefixes (end + 1)) behind_it)) (ne_eqb q end (λ e. absurd (omega arith)))
          ∙ ap (λ (k : ℕ). boundary q (p.output + k) (ends_from (length os) prefixes (end + 1)) behind_it) (sym leaves.left)

      pub ended : Come os prefixes (end + 1) list' (set map end (p.output + r.left)) progress
      ended = record {
        done = all;
        size = size' ∙ come.size;
        cut =
            come.cut
            ∙ ap (λ (ss : List Segment). come.done ++ ss) (coming_is up)
            ∙ sym (append_assoc come.done (segment ∷ []) behind_it);
        output = ap₂ (λ (a b : ℕ). a + b) come.output leaves.left ∙ sym (ap (λ (os : List Placed). length os) operations_are ∙ length-append (operations_in come.done) segment.operations);
        front =
            front'
            ∙ ap₂ (λ (xs ys : List Operation). xs ++ ys) come.front leaves.front
            ∙ sym (ap bare operations_are ∙ map-append (λ o. o.operation) (operations_in come.done) segment.operations);
        rest = rest_is;
        fused = ap₂ (λ (a b : ℕ). a + b) come.fused leaves.fused ∙ sym (ap (λ (ps : List Pair). length ps) pairs_are ∙ length-append (pairs_in come.done) segment.pairs);
        cancelled =
            ap₂ (λ (a b : ℕ). a + b) come.cancelled leaves.cancelled
            ∙ sym (ap cancellations pairs_are ∙ sum_by-append (λ q. cond q.cancelled 1 0) (pairs_in come.done) segment.pairs);
        swaps = ap₂ (λ (a b : ℕ). a + b) come.swaps leaves.swaps ∙ sym (sum_by_push (λ s. s.swaps) come.done segment);
        boundaries = λ q from to. by_place q end
            (λ e. subst (λ (k : ℕ). get_or (set map end (p.output + r.left)) k 0 ≡ defined os prefixes k) (sym e)
            (get_or-set_same map end (p.output + r.left) 0 room ∙ sym boundary_here))
            (λ other. get_or-set_other map end q (p.output + r.left) 0 other ∙ come.boundaries q from (omega (arith, other)));
        marks = λ q from to. get_or-set_other map end q (p.output + r.left) 0 (λ e. absurd (omega arith)) ∙ come.marks q (omega arith) to;
        ahead = λ q from. boundary_behind q (omega arith);
      }

-- ---- the loop's ends

-- none is done yet
pub begun : (os : List Operation) (prefixes map : List ℕ) →
    ((q : ℕ) → q ≤ length os → get_or map q 0 ≡ mark (length os) prefixes q) → Come os prefixes 1 os map (record { start = 0; output = 0; fused = 0; cancelled = 0; swaps = 0 })
unfolding ends_of
begun os prefixes map marks =
    let all : length os + 1 - 1 ≡ length os = omega arith in
    let ends : ends_of (length os) prefixes ≡ ends_from (length os) prefixes 1 = sym (ap (λ (k : ℕ). filter (is_end (length os) prefixes) (range_with_len 1 k)) all) in
    record {
      done = [];
      size = refl;
      cut = ap (λ (es : List ℕ). segments 0 es (placed_from 0 os)) ends;
      output = refl;
      front = refl;
      rest = refl;
      fused = refl;
      cancelled = refl;
      swaps = refl;
      boundaries = λ q from to. absurd (omega arith);
      marks = λ q from to. marks q to;
      ahead = λ q from. ap (λ (es : List ℕ). boundary q 0 es (segments 0 es (placed_from 0 os))) ends;
    }

-- none is left
pub finished : (os : List Operation) (prefixes : List ℕ) (list : List Operation) (map : List ℕ) (p : Progress) → 0 < length map →
    Come os prefixes (length os + 1) list map p → Finished os prefixes list (set map 0 0) p
unfolding segments
finished os prefixes list map p room come =
    let none : length os + 1 - (length os + 1) ≡ 0 = omega arith in
    let coming_none : coming os prefixes (length os + 1) p ≡ [] = ap (λ (k : ℕ). segments p.start (filter (is_end (length os) prefixes) (range_with_len (length os + 1) k)) (drop p.start (placed_from 0 os))) none in
    let all : segments_of os prefixes ≡ come.done = come.cut ∙ ap (λ (ss : List Segment). come.done ++ ss) coming_none ∙ append-nil come.done in
    record {
      output = come.output ∙ ap (λ (ss : List Segment). length (operations_in ss)) (sym all);
      front = come.front ∙ ap (λ (ss : List Segment). bare (operations_in ss)) (sym all);
      fused = come.fused ∙ ap (λ (ss : List Segment). length (pairs_in ss)) (sym all);
      cancelled = come.cancelled ∙ ap (λ (ss : List Segment). cancellations (pairs_in ss)) (sym all);
      swaps = come.swaps ∙ ap (λ (ss : List Segment). sum_by (λ s. s.swaps) ss) (sym all);
      boundaries = λ q to. by_place q 0
          (λ e. subst (λ (k : ℕ). get_or (set map 0 0) k 0 ≡ mapped (ends_of (length os) prefixes) (segments_of os prefixes) k) (sym e) (get_or-set_same map 0 0 0 room))
          (λ other.
          get_or-set_other map 0 q 0 0 other
          ∙ come.boundaries q (omega (arith, other)) (omega arith)
          ∙ ap (λ (t : Bool). cond t 0 (defined os prefixes q)) (sym (ne_eqb q 0 other)));
    }
