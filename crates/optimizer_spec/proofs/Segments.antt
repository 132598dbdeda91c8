-- A segment's operations are the input's at the places from its start up to its end, so they are held as `Carrying` asks, and what fusing and moving give stays at
-- these places. So what is left of one segment stands before what is left of the next, by place too.
use mathlib.Core.Path.{◌≡◌, refl, sym, ap, ◌∙◌, subst}
use mathlib.Core.Logic.{inl, inr, ⊎_elim}
use mathlib.Core.Bool.{cond, not}
use mathlib.Core.List.{List, [], ◌∷◌, ◌++◌}
use Prim.Native.Nat.{ℕ, zero, suc, ◌+◌, ◌-◌, ◌≤◌, ◌<◌}
use native.Mathlib.Omega.{arith}
use lib.ListN.{length, get_or, take, drop}
use Rattle.std.specs.List.{AllByRecursion as Each}
use Rattle.std.proofs.lemmas.Bool.{cases_eq}
use Rattle.std.proofs.lemmas.List.{take-append-drop}
use Rattle.pending.specs.Operation.{Operation}
use Rattle.optimizer_spec.specs.Passes.{Placed, Pair, segment_of, fuse, is_empty}
use Rattle.optimizer_spec.specs.Optimizing.{placed_from, segments, operations_in, pairs_in}
use Rattle.optimizer_spec.specs.Claims.{input, AreOrdered}
use Rattle.optimizer_spec.proofs.Lists.{Each_all, Each-append, Each_left, Each_right, Each_weaker, Pairs, Pairs-append, Pairs_weaker, total, total-append}
use Rattle.optimizer_spec.proofs.Likeness.{like_itself}
use Rattle.optimizer_spec.proofs.Carrying.{At, Mine, Held}
use Rattle.optimizer_spec.proofs.Fusing.{fuse_fuses, fuses_total, Within, fuses_done}
use Rattle.optimizer_spec.proofs.Moving.{move_total, move_each, move_ordered}

-- what is left, the earlier ones of pairs and the later ones of cancelled pairs, by a weight of places
abbrev pub weight : (ℕ → ℕ) → List Placed → List Pair → ℕ
weight w os ps = total (λ o. w o.place) os + total (λ p. w p.earlier) ps + total (λ p. cond p.cancelled (w p.later) 0) ps

pub segment_total : (w : ℕ → ℕ) (xs : List Placed) → weight w (segment_of xs).operations (segment_of xs).pairs ≡ total (λ o. w o.place) xs
unfolding segment_of
segment_total w xs =
    let f = fuse (length xs) xs in
    let e = fuses_total w (fuse_fuses (length xs) xs (omega arith)) in
    let m = move_total (λ o. w o.place) (not (is_empty f.pairs)) [] f.left in omega arith

weight-append : (w : ℕ → ℕ) (xs ys : List Placed) (ps qs : List Pair) → weight w (xs ++ ys) (ps ++ qs) ≡ weight w xs ps + weight w ys qs
weight-append w xs ys ps qs =
    let a = total-append (λ o. w o.place) xs ys in
    let b = total-append (λ p. w p.earlier) ps qs in
    let c = total-append (λ p. cond p.cancelled (w p.later) 0) ps qs in omega arith

-- es ascend strictly from s up to n
abbrev pub Ends : (n s : ℕ) → List ℕ → Type 0
Ends n s [] = s ≡ n
Ends n s (e ∷ es) = (s < e) × Ends n e es

pub ends_below : (n s : ℕ) (es : List ℕ) → Ends n s es → s ≤ n
ends_below n s [] h = omega arith
ends_below n s (e ∷ es) h = let r = ends_below n e es h.1 in omega (arith, h.0)

module _ (os : List Operation) (prefixes : List ℕ) where
  -- ---- the input's operations with their places

  -- the operations of the input from place s up to `high`
  abbrev pub Run : (high s : ℕ) → List Placed → Type 0
  Run high s [] = s ≡ high
  Run high s (o ∷ rest) = (o.place ≡ s) × (o.operation ≡ input os prefixes s) × Run high (suc s) rest

  pub run_length : (high s : ℕ) (xs : List Placed) → Run high s xs → s + length xs ≡ high
  run_length high s [] h = omega arith
  run_length high s (x ∷ xs) h = let r = run_length high (suc s) xs h.2 in omega arith

  pub run_from : (high s p : ℕ) (xs : List Placed) → p ≤ s → Run high s xs → Each (λ o. p ≤ o.place) xs
  run_from high s p [] l h = tt
  run_from high s p (x ∷ xs) l h = (omega (arith, h.0), run_from high (suc s) p xs (omega arith) h.2)

  run_at : (high s r : ℕ) (xs : List Placed) → Run high s xs → s ≤ r → r < high → At r xs
  run_at high s r [] h l g = absurd (omega arith)
  run_at high s r (x ∷ xs) h l g = ⊎_elim (λ e. inl (e ∙ sym h.0)) (λ n. inr (run_at high (suc s) r xs h.2 (omega arith) g)) (cases_eq r s)

  -- cut at e, which is n further
  pub run_cut : (high s n e : ℕ) (xs : List Placed) → Run high s xs → e ≡ s + n → e ≤ high → Run e s (take n xs) × Run high e (drop n xs)
  run_cut high s zero e xs h q l = let same : s ≡ e = omega arith in (same, subst (λ (k : ℕ). Run high k xs) same h)
  run_cut high s (suc n) e [] h q l = absurd (omega arith)
  run_cut high s (suc n) e (x ∷ xs) h q l =
      let r = run_cut high (suc s) n e xs h.2 (omega arith) l in ((h.0, h.1, r.0), r.1)

  pub placed_run : (high n : ℕ) (xs : List Operation) → high ≡ n + length xs → ((i : ℕ) → i < length xs → get_or xs i [] ≡ input os prefixes (n + i))
      → Run high n (placed_from n xs)
  placed_run high n [] q f = omega arith
  placed_run high n (x ∷ xs) q f = (
    refl,
    f 0 (omega arith) ∙ ap (input os prefixes) (omega arith),
    placed_run high (suc n) xs (omega arith) (λ i l. f (suc i) (omega arith) ∙ ap (input os prefixes) (omega arith)),
  )

  module _ (Fresh : ℕ → Type 0) where
    run_held : (low high s : ℕ) (xs : List Placed) → low ≤ s → Run high s xs → Held os prefixes low high Fresh xs
    run_held low high s [] l h = tt
    run_held low high s (x ∷ xs) l h =
        let e = h.1 ∙ ap (input os prefixes) (sym h.0) in
        let n = run_length high (suc s) xs h.2 in (
          record { from = omega (arith, h.0); below = omega (arith, h.0); whole = λ f. e; like = like_itself _ _ e },
          Each_weaker _ (λ o. x.place < o.place) (λ o g. omega (arith, h.0)) xs (run_from high (suc s) (suc s) xs (omega arith) h.2),
          λ t r g k. inl (run_at high (suc s) r xs h.2 (omega (arith, h.0)) k),
          run_held low high (suc s) xs (omega arith) h.2,
        )

    -- ---- what is left of the places from `low` up to `high`

    pub record Settled (low high : ℕ) (ops : List Placed) (pairs : List Pair) : Type 0 where
      pub legal : Each (Within os prefixes low high) pairs
      pub mine : Each (Mine os prefixes low high Fresh) ops
      pub ordered : Pairs (AreOrdered os prefixes) ops

    -- to a fresh place no pair's later one was fused
    abbrev pub Stale : Pair → Type 0
    Stale p = Fresh p.later → ⊥

    pub segment_settled : (low high : ℕ) (xs : List Placed) → high ≤ length os → Run high low xs → Each Stale (segment_of xs).pairs
        → Settled low high (segment_of xs).operations (segment_of xs).pairs
    unfolding segment_of
    segment_settled low high xs l h stale =
        let f = fuse (length xs) xs in
        let slack = not (is_empty f.pairs) in
        let d = fuses_done os prefixes low high l Fresh (fuse_fuses (length xs) xs (omega arith)) (run_held low high low xs (omega arith) h) stale in record {
          legal = d.legal;
          mine = move_each (Mine os prefixes low high Fresh) slack [] f.left tt d.mine;
          ordered =
              move_ordered os prefixes slack [] f.left tt
              (Pairs_weaker (λ a b. a.place < b.place) (AreOrdered os prefixes) (λ a b r. inl r) f.left d.rising)
              (Each_all (λ r. Unit {0}) (λ r. tt) f.left);
        }

    wider : (low high low' high' : ℕ) → low' ≤ low → high ≤ high' → (o : Placed) → Mine os prefixes low high Fresh o → Mine os prefixes low' high' Fresh o
    wider low high low' high' l g o m = record { from = omega (arith, m.from); below = omega (arith, m.below); whole = m.whole; like = m.like }

    -- one after the other
    join_settled : (low mid high : ℕ) (xs ys : List Placed) (ps qs : List Pair) → low ≤ mid → mid ≤ high → Settled low mid xs ps → Settled mid high ys qs
        → Settled low high (xs ++ ys) (ps ++ qs)
    join_settled low mid high xs ys ps qs l g a b = record {
      legal =
          Each-append (Within os prefixes low high) ps qs
          (Each_weaker (Within os prefixes low mid) (Within os prefixes low high) (λ p w. (w.0, omega (arith, w.1), w.2)) ps a.legal)
          (Each_weaker (Within os prefixes mid high) (Within os prefixes low high) (λ p w. (omega (arith, w.0), w.1, w.2)) qs b.legal);
      mine =
          Each-append (Mine os prefixes low high Fresh) xs ys
          (Each_weaker _ (Mine os prefixes low high Fresh) (wider low mid low high (omega arith) g) xs a.mine)
          (Each_weaker _ (Mine os prefixes low high Fresh) (wider mid high low high l (omega arith)) ys b.mine);
      ordered =
          Pairs-append (AreOrdered os prefixes) xs ys a.ordered b.ordered
          (Each_weaker (Mine os prefixes low mid Fresh) (λ x. Each (AreOrdered os prefixes x) ys)
          (λ x m. Each_weaker (Mine os prefixes mid high Fresh) (AreOrdered os prefixes x) (λ y k. inl (omega (arith, m.below, k.from))) ys b.mine)
          xs a.mine);
    }

    -- ---- all segments

    pub segments_settled : (n s : ℕ) (es : List ℕ) (xs : List Placed) → n ≤ length os → Ends n s es → Run n s xs → Each Stale (pairs_in (segments s es xs))
        → Settled s n (operations_in (segments s es xs)) (pairs_in (segments s es xs))
    unfolding segments
    segments_settled n s [] xs l h r stale = record { legal = tt; mine = tt; ordered = tt }
    segments_settled n s (e ∷ es) xs l h r stale =
        let below = ends_below n e es h.1 in
        let cut = run_cut n s (e - s) e xs r (omega (arith, h.0)) below in
        let one = segment_of (take (e - s) xs) in
        let more = segments e es (drop (e - s) xs) in
        join_settled s e n one.operations (operations_in more) one.pairs (pairs_in more) (omega (arith, h.0)) below
        (segment_settled s e (take (e - s) xs) (omega arith) cut.0 (Each_left Stale one.pairs (pairs_in more) stale))
        (segments_settled n e es (drop (e - s) xs) l h.1 cut.1 (Each_right Stale one.pairs (pairs_in more) stale))

    -- the first segment, up to e, and the others
    pub record Parts (n s e : ℕ) (es : List ℕ) (xs : List Placed) : Type 0 where
      pub front : Run e s (take (e - s) xs)
      pub back : Run n e (drop (e - s) xs)
      pub late : Each Stale (pairs_in (segments e es (drop (e - s) xs)))
      pub one : Settled s e (segment_of (take (e - s) xs)).operations (segment_of (take (e - s) xs)).pairs
      pub more : Settled e n (operations_in (segments e es (drop (e - s) xs))) (pairs_in (segments e es (drop (e - s) xs)))

    pub parts : (n s e : ℕ) (es : List ℕ) (xs : List Placed) → n ≤ length os → Ends n s (e ∷ es) → Run n s xs
        → Each Stale (pairs_in (segments s (e ∷ es) xs)) → Parts n s e es xs
    unfolding segments
    parts n s e es xs l h r stale =
        let below = ends_below n e es h.1 in
        let cut = run_cut n s (e - s) e xs r (omega (arith, h.0)) below in
        let one = segment_of (take (e - s) xs) in
        let more = segments e es (drop (e - s) xs) in
        let late = Each_right Stale one.pairs (pairs_in more) stale in record {
          front = cut.0;
          back = cut.1;
          late = late;
          one = segment_settled s e (take (e - s) xs) (omega arith) cut.0 (Each_left Stale one.pairs (pairs_in more) stale);
          more = segments_settled n e es (drop (e - s) xs) l h.1 cut.1 late;
        }

  pub segments_total : (w : ℕ → ℕ) (n s : ℕ) (es : List ℕ) (xs : List Placed) → Ends n s es → Run n s xs
      → weight w (operations_in (segments s es xs)) (pairs_in (segments s es xs)) ≡ total (λ o. w o.place) xs
  unfolding segments
  segments_total w n s [] [] h r = refl
  segments_total w n s [] (x ∷ xs) h r = absurd (let e = run_length n s (x ∷ xs) r in omega arith)
  segments_total w n s (e ∷ es) xs h r =
      let cut = run_cut n s (e - s) e xs r (omega (arith, h.0)) (ends_below n e es h.1) in
      let one = segment_of (take (e - s) xs) in
      let more = segments e es (drop (e - s) xs) in
      let a = weight-append w one.operations (operations_in more) one.pairs (pairs_in more) in
      let b = segment_total w (take (e - s) xs) in
      let c = segments_total w n e es (drop (e - s) xs) h.1 cut.1 in
      let d = total-append (λ o. w o.place) (take (e - s) xs) (drop (e - s) xs) in
      let f = ap (total (λ (o : Placed). w o.place)) (take-append-drop (e - s) xs) in omega arith
