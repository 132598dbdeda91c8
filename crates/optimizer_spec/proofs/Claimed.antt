-- All claims hold of every list of operations and every list of prefixes: what holds of all segments is read by places and counts.
use mathlib.Core.Path.{◌≡◌, refl, sym, ap, ◌∙◌, subst}
use mathlib.Core.Logic.{◌⊎◌, inl, inr, ⊎_elim}
use mathlib.Core.Bool.{cond}
use mathlib.Core.List.{List, [], ◌∷◌, map}
use Prim.Native.Nat.{ℕ, suc, ◌+◌, ◌≤◌, ◌<◌}
use native.Mathlib.Omega.{arith}
use lib.Dec.{eqb, ltb}
use lib.ListN.{length, get_or}
use Rattle.std.specs.List.{AllByRecursion as Each, Contains, filter, count_by}
use Rattle.std.proofs.lemmas.Bool.{cases_lt, cond-true, cond-false, eq-eqb, ne_eqb}
use Rattle.std.proofs.lemmas.Bool.Decides.{nat_tests}
use Rattle.std.proofs.lemmas.List.Elements.{All-from_recursion}
use Rattle.pending.specs.Operation.{Operation}
use Rattle.optimizer_spec.specs.Passes.{Placed, Pair}
use Rattle.optimizer_spec.specs.Optimizing.{ends_of, placed_from, segments_of, boundary}
use Rattle.optimizer_spec.specs.Claims.{times, output, fusions, boundary_of, IsLegal, IsKept, IsPreserved, AreOrdered, Claims}
use Rattle.optimizer_spec.proofs.Lists.{Each_all, Each_weaker, AllPairs-from, total, sum_by-total, length-total, total-map, total-filter}
use Rattle.optimizer_spec.proofs.Segments.{Run, run_length, placed_run, Stale, Settled, segments_settled, segments_total}
use Rattle.optimizer_spec.proofs.Boundaries.{In, in_above, prefix_ends, ends_are, Cut, cut_parted, cut_within, segments_cut, OneSide, segments_apart}

times_total : {X : Type 0} (f : X → ℕ) (p : ℕ) (xs : List X) → times p (map f xs) ≡ total (λ x. cond (eqb p (f x)) 1 0) xs
times_total f p xs = sum_by-total (λ q. cond (eqb p q) 1 0) (map f xs) ∙ total-map (λ q. cond (eqb p q) 1 0) f xs

-- the later one's place of each pair of a list is one of these places
laters_counted : (ps : List Pair) → Each (λ p. 0 < total (λ q. cond (eqb p.later q.later) 1 0) ps) ps
laters_counted [] = tt
laters_counted (p ∷ ps) =
    let e : cond {A = ℕ} (eqb p.later p.later) 1 0 ≡ 1 = cond-true _ 1 0 (eq-eqb p.later p.later refl) in (
      omega arith,
      Each_weaker (λ q. 0 < total (λ r. cond (eqb q.later r.later) 1 0) ps) (λ q. 0 < total (λ r. cond (eqb q.later r.later) 1 0) (p ∷ ps)) (λ q h. omega arith) ps
          (laters_counted ps),
    )

-- the places from n on, each once
placed_once : (p n : ℕ) (xs : List Operation)
    → total (λ o. cond (eqb p o.place) 1 0) (placed_from n xs) + cond (ltb p n) 1 0 ≡ cond (ltb p (n + length xs)) 1 0
placed_once p n [] = let e : n + 0 ≡ n = omega arith in ap (λ (k : ℕ). 0 + cond {A = ℕ} (ltb p k) 1 0) (sym e) ∙ omega arith
placed_once p n (x ∷ xs) =
    let r = placed_once p (suc n) xs in
    let s : cond {A = ℕ} (ltb p (suc n)) 1 0 ≡ cond (eqb p n) 1 0 + cond (ltb p n) 1 0 = grind (arith, nat_tests) in
    let e : cond {A = ℕ} (ltb p (suc n + length xs)) 1 0 ≡ cond (ltb p (n + suc (length xs))) 1 0 = ap (λ (k : ℕ). cond {A = ℕ} (ltb p k) 1 0) (omega arith) in
    omega arith

module _ (os : List Operation) (prefixes : List ℕ) where
  abbrev n : ℕ
  n = length os

  -- nothing was fused into the operation of a fresh place
  abbrev pub Fresh : ℕ → Type 0
  Fresh p = times p (map (λ pair. pair.later) (fusions os prefixes)) ≡ 0

  stale : Each (Stale os prefixes Fresh) (fusions os prefixes)
  stale =
      Each_weaker _ (Stale os prefixes Fresh)
      (λ pair h e. let t = times_total (λ (q : Pair). q.later) pair.later (fusions os prefixes) in omega arith)
      (fusions os prefixes) (laters_counted (fusions os prefixes))

  pub run : Run os prefixes n 0 (placed_from 0 os)
  run = placed_run os prefixes n 0 os (omega arith) (λ i l. ap (λ (k : ℕ). get_or os k []) (omega arith))

  pub settled : Settled os prefixes Fresh 0 n (output os prefixes) (fusions os prefixes)
  settled = segments_settled os prefixes Fresh n 0 (ends_of n prefixes) (placed_from 0 os) (omega arith) (ends_are n prefixes) run stale

  weighed : (w : ℕ → ℕ)
      → total (λ o. w o.place) (output os prefixes) + total (λ p. w p.earlier) (fusions os prefixes)
      + total (λ p. cond p.cancelled (w p.later) 0) (fusions os prefixes)
      ≡ total (λ o. w o.place) (placed_from 0 os)
  weighed w = segments_total os prefixes w n 0 (ends_of n prefixes) (placed_from 0 os) (ends_are n prefixes) run

  -- a preserved prefix is 0 or one of the ends
  prefix_at : (p : ℕ) → Contains prefixes p → p ≤ n → (p ≤ 0) ⊎ In p (ends_of n prefixes)
  prefix_at p c l = ⊎_elim (λ h. inr (prefix_ends n p prefixes c h l)) (λ h. inl h) (cases_lt 0 p)

  prefix_cut : (p : ℕ) → (p ≤ 0) ⊎ In p (ends_of n prefixes) → Cut p 0 (boundary_of os prefixes p) (output os prefixes)
  prefix_cut p at =
      let ends = ends_of n prefixes in
      let b = boundary p 0 ends (segments_of os prefixes) in
      ⊎_elim
      (λ l. record {
        front = [];
        back = output os prefixes;
        joined = refl;
        before = tt;
        behind = Each_all (λ o. p ≤ o.place) (λ o. omega arith) (output os prefixes);
        here = cond-true (eqb p 0) 0 b (eq-eqb p 0 (omega arith));
      })
      (λ i. let above = in_above n 0 p ends (ends_are n prefixes) i in
      subst (λ (a : ℕ). Cut p 0 a (output os prefixes)) (sym (cond-false (eqb p 0) 0 b (ne_eqb p 0 (λ e. omega arith))))
      (segments_cut os prefixes Fresh n (omega arith) p 0 0 ends (placed_from 0 os) (ends_are n prefixes) run stale i))
      at

  preserved : (p : ℕ) → Contains prefixes p → p ≤ n → IsPreserved os prefixes p
  preserved p c l =
      let at = prefix_at p c l in
      let cut = prefix_cut p at in record {
        sides = cut_parted p (boundary_of os prefixes p) (output os prefixes) cut;
        within = cut_within p (boundary_of os prefixes p) (output os prefixes) cut;
        pairs =
            All-from_recursion (OneSide p) (fusions os prefixes)
            (segments_apart os prefixes Fresh n (omega arith) p 0 (ends_of n prefixes) (placed_from 0 os) (ends_are n prefixes) run stale at);
      }

  once : (p : ℕ)
      → times p (map (λ o. o.place) (output os prefixes)) + times p (map (λ pair. pair.earlier) (fusions os prefixes))
      + times p (map (λ pair. pair.later) (filter (λ pair. pair.cancelled) (fusions os prefixes)))
      ≡ cond (ltb p n) 1 0
  once p =
      let w = λ (q : ℕ). cond {A = ℕ} (eqb p q) 1 0 in
      let a = times_total (λ (o : Placed). o.place) p (output os prefixes) in
      let b = times_total (λ (q : Pair). q.earlier) p (fusions os prefixes) in
      let c = times_total (λ (q : Pair). q.later) p (filter (λ pair. pair.cancelled) (fusions os prefixes)) in
      let d = total-filter (λ (q : Pair). w q.later) (λ pair. pair.cancelled) (fusions os prefixes) in
      let e = weighed w in
      let f = placed_once p 0 os in
      let g : cond {A = ℕ} (ltb p (0 + n)) 1 0 ≡ cond (ltb p n) 1 0 = ap (λ (k : ℕ). cond {A = ℕ} (ltb p k) 1 0) (omega arith) in
      let h : cond {A = ℕ} (ltb p 0) 1 0 ≡ 0 = grind (arith, nat_tests) in omega arith

  counted : length (output os prefixes) + length (fusions os prefixes) + count_by (λ pair. pair.cancelled) (fusions os prefixes) ≡ n
  counted =
      let a = length-total (output os prefixes) in
      let b = length-total (fusions os prefixes) in
      let c = sum_by-total (λ (q : Pair). cond q.cancelled 1 0) (fusions os prefixes) in
      let d = weighed (λ q. 1) in
      let e = length-total (placed_from 0 os) in
      let f = run_length os prefixes n 0 (placed_from 0 os) run in omega arith

pub claimed : (os : List Operation) (prefixes : List ℕ) → Claims os prefixes
claimed os prefixes =
    let s = settled os prefixes in record {
      ordered = AllPairs-from (AreOrdered os prefixes) (output os prefixes) s.ordered;
      preserved = preserved os prefixes;
      legal = All-from_recursion (IsLegal os prefixes) (fusions os prefixes) (Each_weaker _ (IsLegal os prefixes) (λ p w. w.2) (fusions os prefixes) s.legal);
      kept =
          All-from_recursion (IsKept os prefixes) (output os prefixes)
          (Each_weaker _ (IsKept os prefixes) (λ o m. record { inside = m.below; whole = m.whole; rest = m.like.words; size = m.like.size }) (output os prefixes) s.mine);
      each_once = once os prefixes;
      counts = counted os prefixes;
    }
