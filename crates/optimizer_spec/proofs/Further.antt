-- What more is claimed holds of every list of operations and of prefixes. A segment's pairs leave the places of other segments alone, so pairs of all segments may be
-- fused one after the other; and no two operations of different segments change order.
use mathlib.Core.Path.{◌≡◌, refl, sym, ap, ◌∙◌, subst}
use mathlib.Core.Bool.{not}
use mathlib.Core.List.{List, [], ◌∷◌, ◌++◌}
use Prim.Native.Nat.{ℕ, zero, suc, ◌-◌, ◌≤◌, ◌<◌}
use native.Mathlib.Omega.{arith}
use lib.ListN.{length, get_or, take, drop}
use Rattle.std.specs.List.{AllByRecursion as Each}
use Rattle.std.proofs.lemmas.List.{take-append-drop, take_all}
use Rattle.std.proofs.lemmas.List.Elements.{All-from_recursion}
use Rattle.pending.specs.Operation.{Operation}
use Rattle.optimizer_spec.specs.Passes.{Placed, Pair, Segment, segment_of, cancels, fuse, is_empty}
use Rattle.optimizer_spec.specs.Optimizing.{ends_of, placed_from, segments, segments_of, operations_in, pairs_in}
use Rattle.optimizer_spec.specs.Claims.{input, output, fusions}
use Rattle.optimizer_spec.specs.Further.{fuse_pairs, fuse_pair, Further}
use Rattle.optimizer_spec.proofs.Lists.{Each_all, Each-append, Each_left, Each_right, Each_both, Each_weaker, Pairs-append, AllPairs-from, total, sum_by-total}
use Rattle.optimizer_spec.proofs.Fusing.{fuse_fuses}
use Rattle.optimizer_spec.proofs.Moving.{move_each}
use Rattle.optimizer_spec.proofs.Segments.{Ends, Run, run_length, run_from, Stale, parts}
use Rattle.optimizer_spec.proofs.Boundaries.{ends_are}
use Rattle.optimizer_spec.proofs.Turns.{Rising, Now, pairs_other, fuse_pairs-append, fuses_rising, Exactly, Exactly-append, InTurn, Turned, fuses_turned}
use Rattle.optimizer_spec.proofs.Swaps.{across, turned, inversions_across, inversions-append, move_swaps}
use Rattle.optimizer_spec.proofs.Claimed.{run}

-- ---- one segment

segment_turned : (now : List Operation) (xs : List Placed) → Rising xs → Each (Now now) xs → Turned now (segment_of xs).operations (segment_of xs).pairs
unfolding segment_of
segment_turned now xs r e =
    let f = fuse (length xs) xs in
    let t = fuses_turned now (fuse_fuses (length xs) xs (omega arith)) r e in record {
      values = move_each (Now (fuse_pairs f.pairs now)) (not (is_empty f.pairs)) [] f.left tt t.values;
      exact = t.exact;
      in_turn = t.in_turn;
    }

segment_swaps : (xs : List Placed) → Rising xs → (segment_of xs).swaps ≡ across turned (segment_of xs).operations
unfolding segment_of
segment_swaps xs r =
    let f = fuse (length xs) xs in
    let m = move_swaps (not (is_empty f.pairs)) [] f.left (fuses_rising (fuse_fuses (length xs) xs (omega arith)) r) (Each_all _ (λ o. tt) f.left) in omega arith

-- each pair by its turn
exactly_at : (ps : List Pair) (now : List Operation) → Exactly now ps → (i : ℕ) (d : Pair) → i < length ps
    → (get_or ps i d).cancelled ≡ cancels (get_or (fuse_pairs (take i ps) now) (get_or ps i d).earlier []) (get_or (fuse_pairs (take i ps) now) (get_or ps i d).later [])
exactly_at [] now h i d l = absurd (omega arith)
exactly_at (p ∷ ps) now h zero d l = h.0
exactly_at (p ∷ ps) now h (suc i) d l = exactly_at ps (fuse_pair p now) h.1 i d (omega arith)

-- ---- all segments

module _ (os : List Operation) (prefixes : List ℕ) where
  run_rising : (high s : ℕ) (xs : List Placed) → Run os prefixes high s xs → Rising xs
  run_rising high s [] r = tt
  run_rising high s (x ∷ xs) r = (
    Each_weaker (λ o. suc s ≤ o.place) (λ o. x.place < o.place) (λ o l. omega (arith, r.0)) xs (run_from os prefixes high (suc s) (suc s) xs (omega arith) r.2),
    run_rising high (suc s) xs r.2,
  )

  run_now : (high s : ℕ) (xs : List Placed) → high ≤ length os → Run os prefixes high s xs → Each (Now os) xs
  run_now high s [] l r = tt
  run_now high s (x ∷ xs) l r = (
    (let e = run_length os prefixes high (suc s) xs r.2 in omega (arith, r.0), r.1 ∙ ap (input os prefixes) (sym r.0)),
    run_now high (suc s) xs l r.2,
  )

  -- nothing is fresh, where only the places matter
  abbrev Never : ℕ → Type 0
  Never p = ⊥

  never_stale : (ps : List Pair) → Each (Stale os prefixes Never) ps
  never_stale ps = Each_all (Stale os prefixes Never) (λ p z. z) ps

  module _ (high : ℕ) (fits : high ≤ length os) where
    segments_swaps : (s : ℕ) (es : List ℕ) (xs : List Placed) → Ends high s es → Run os prefixes high s xs
        → total (λ t. t.swaps) (segments s es xs) ≡ across turned (operations_in (segments s es xs))
    unfolding segments
    segments_swaps s [] xs h r = refl
    segments_swaps s (e ∷ es) xs h r =
        let q = parts os prefixes Never high s e es xs fits h r (never_stale (pairs_in (segments s (e ∷ es) xs))) in
        let ops = operations_in (segments e es (drop (e - s) xs)) in
        let f = segment_of (take (e - s) xs) in
        let g = segment_swaps (take (e - s) xs) (run_rising e s (take (e - s) xs) q.front) in
        let i = segments_swaps e es (drop (e - s) xs) h.1 q.back in
        let j = inversions-append f.operations ops
        (Each_weaker _ (λ x. Each (λ y. x.place ≤ y.place) ops)
        (λ x m. Each_weaker _ (λ y. x.place ≤ y.place) (λ y k. omega (arith, m.below, k.from)) ops q.more.mine) f.operations q.one.mine) in
        omega arith

    segments_turned : (now : List Operation) (s : ℕ) (es : List ℕ) (xs : List Placed) → Ends high s es → Run os prefixes high s xs → Each (Now now) xs
        → Turned now (operations_in (segments s es xs)) (pairs_in (segments s es xs))
    unfolding segments
    segments_turned now s [] xs h r i = record { values = tt; exact = tt; in_turn = tt }
    segments_turned now s (e ∷ es) xs h r i =
        let part = parts os prefixes Never high s e es xs fits h r (never_stale (pairs_in (segments s (e ∷ es) xs))) in
        let front = take (e - s) xs in
        let back = drop (e - s) xs in
        let f = segment_of front in
        let ops = operations_in (segments e es back) in
        let pairs = pairs_in (segments e es back) in
        let both : Each (Now now) (front ++ back) = subst (Each (Now now)) (sym (take-append-drop (e - s) xs)) i in
        let t = segment_turned now front (run_rising e s front part.front) (Each_left (Now now) front back both) in
        let u = segments_turned (fuse_pairs f.pairs now) e es back h.1 part.back
        (Each_both _ (Now now) (Now (fuse_pairs f.pairs now))
        (λ o l k. pairs_other f.pairs now o (Each_weaker _ (λ p. o.place ≡ p.later → ⊥) (λ p w q. omega (arith, w.1)) f.pairs part.one.legal) k)
        back (run_from os prefixes high e e back (omega arith) part.back) (Each_right (Now now) front back both)) in record {
          values =
              subst (λ (v : List Operation). Each (Now v) (f.operations ++ ops)) (sym (fuse_pairs-append f.pairs pairs now))
              (Each-append (Now (fuse_pairs pairs (fuse_pairs f.pairs now))) f.operations ops
              (Each_both _ (Now (fuse_pairs f.pairs now)) (Now (fuse_pairs pairs (fuse_pairs f.pairs now)))
              (λ o m k. pairs_other pairs (fuse_pairs f.pairs now) o
              (Each_weaker _ (λ p. o.place ≡ p.later → ⊥) (λ p w q. let g = w.2.ascending in omega (arith, w.0, m.below)) pairs part.more.legal) k)
              f.operations part.one.mine t.values)
              u.values);
          exact = Exactly-append f.pairs pairs now t.exact u.exact;
          in_turn =
              Pairs-append InTurn f.pairs pairs t.in_turn u.in_turn
              (Each_weaker _ (λ p. Each (InTurn p) pairs)
              (λ p w. Each_weaker _ (InTurn p)
              (λ q v. let g = w.2.ascending in let k = v.2.ascending in (omega (arith, w.1, v.0), λ same. absurd (omega (arith, w.1, v.0)))) pairs part.more.legal)
              f.pairs part.one.legal);
        }

pub further : (os : List Operation) (prefixes : List ℕ) → Further os prefixes
further os prefixes =
    let high = length os in
    let ends = ends_of high prefixes in
    let xs = placed_from 0 os in
    let pairs = fusions os prefixes in
    let ops = output os prefixes in
    let t = segments_turned os prefixes high (omega arith) os 0 ends xs (ends_are high prefixes) (run os prefixes)
    (run_now os prefixes high 0 xs (omega arith) (run os prefixes)) in
    let all : take (length pairs) pairs ≡ pairs = take_all (length pairs) pairs (omega arith) in record {
      in_turn = AllPairs-from InTurn pairs t.in_turn;
      exact = exactly_at pairs os t.exact;
      values =
          All-from_recursion (λ o. o.operation ≡ get_or (fuse_pairs (take (length pairs) pairs) os) o.place []) ops
          (Each_weaker _ (λ o. o.operation ≡ get_or (fuse_pairs (take (length pairs) pairs) os) o.place [])
          (λ o h. h.1 ∙ ap (λ (ps : List Pair). get_or (fuse_pairs ps os) o.place []) (sym all)) ops t.values);
      swaps =
          sum_by-total (λ (s : Segment). s.swaps) (segments_of os prefixes)
          ∙ segments_swaps os prefixes high (omega arith) 0 ends xs (ends_are high prefixes) (run os prefixes) ∙ sym (inversions_across ops);
    }
