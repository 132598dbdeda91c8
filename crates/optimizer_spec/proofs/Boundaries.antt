-- The segments' ends ascend up to the list's length and have each preserved prefix, so every segment lies wholly before a prefix or wholly behind it; and the map's
-- word at a prefix is the number of operations that are left in the segments before it.
use mathlib.Core.Path.{◌≡◌, refl, sym, ap, ◌∙◌, subst}
use mathlib.Core.Logic.{◌⊎◌, inl, inr, ⊎_elim, ◌↔◌}
use mathlib.Core.Bool.{Bool, true, false, true≢false}
use mathlib.Core.List.{List, [], ◌∷◌, ◌++◌}
use Prim.Native.Nat.{ℕ, zero, suc, ◌+◌, ◌-◌, ◌≤◌, ◌<◌}
use native.Mathlib.Omega.{arith}
use lib.Dec.{eqb}
use lib.ListN.{length, get_or, take, drop}
use Rattle.std.specs.List.{AllByRecursion as Each, Contains, filter, list_any, range_with_len}
use Rattle.std.proofs.lemmas.Bool.{cases_eq, cond_both, cond-true, cond-false, eq-eqb, ne_eqb, or_left, or_right}
use Rattle.std.proofs.lemmas.List.{append_assoc, length-append}
use Rattle.std.proofs.lemmas.List.Elements.{All-from_recursion}
use Rattle.pending.specs.Operation.{Operation}
use Rattle.optimizer_spec.specs.Passes.{Placed, Pair, segment_of}
use Rattle.optimizer_spec.specs.Optimizing.{ends_of, segments, boundary, operations_in, pairs_in}
use Rattle.optimizer_spec.proofs.Lists.{Each-append, Each_weaker}
use Rattle.optimizer_spec.proofs.Segments.{Ends, Run, Stale, parts}

-- ---- the ends

-- p is one of the list
abbrev pub In : ℕ → List ℕ → Type 0
In p [] = ⊥
In p (e ∷ es) = (p ≡ e) ⊎ In p es

pub in_above : (n s p : ℕ) (es : List ℕ) → Ends n s es → In p es → s < p
in_above n s p [] h i = absurd i
in_above n s p (e ∷ es) h (inl q) = omega (arith, h.0)
in_above n s p (e ∷ es) h (inr i) = omega (arith, h.0, in_above n e p es h.1 i)

in_filter : (t : ℕ → Bool) (p : ℕ) (xs : List ℕ) → t p ≡ true → In p xs → In p (filter t xs)
in_filter t p [] h i = i
in_filter t p (x ∷ xs) h (inl e) =
    subst (In p) (sym (cond-true (t x) (x ∷ filter t xs) (filter t xs) (sym (ap t e) ∙ h))) (inl e)
in_filter t p (x ∷ xs) h (inr i) =
    let r = in_filter t p xs h i in
    cond_both (t x) (x ∷ filter t xs) (filter t xs) (In p) (λ e. inr r) (λ e. r)

in_range : (p a k : ℕ) → a ≤ p → p < a + k → In p (range_with_len a k)
in_range p a zero l g = absurd (omega arith)
in_range p a (suc k) l g = ⊎_elim (λ e. inl e) (λ n. inr (in_range p (a + 1) k (omega arith) (omega arith))) (cases_eq p a)

any_contains : (p : ℕ) (xs : List ℕ) (k : ℕ) → k < length xs → get_or xs k p ≡ p → list_any (eqb p) xs ≡ true
any_contains p [] k l e = absurd (omega arith)
any_contains p (x ∷ xs) zero l e = or_left (eqb p x) (list_any (eqb p) xs) (eq-eqb p x (sym e))
any_contains p (x ∷ xs) (suc k) l e = or_right (eqb p x) (list_any (eqb p) xs) (any_contains p xs k (omega arith) e)

pub prefix_ends : (n p : ℕ) (prefixes : List ℕ) → Contains prefixes p → 0 < p → p ≤ n → In p (ends_of n prefixes)
unfolding ends_of
prefix_ends n p prefixes c l g =
    in_filter (λ e. list_any (eqb e) (n ∷ prefixes)) p (range_with_len 1 n)
    (or_right (eqb p n) (list_any (eqb p) prefixes) (any_contains p prefixes c.0 c.1 c.2))
    (in_range p 1 n (omega arith) (omega arith))

-- what passes of k numbers behind s, where the last one passes
passing_ends : (t : ℕ → Bool) (n low s k : ℕ) → t n ≡ true → low ≤ s → s + k ≡ n → (k ≡ 0 → low ≡ s) → Ends n low (filter t (range_with_len (s + 1) k))
passing_ends t n low s zero h l e f = let q = f refl in omega arith
passing_ends t n low s (suc k) h l e f =
    cond_both (t (s + 1)) _ _ (Ends n low)
    (λ y. (omega arith, passing_ends t n (s + 1) (s + 1) k h (omega arith) (omega arith) (λ z. refl)))
    (λ y. passing_ends t n low (s + 1) k h (omega arith) (omega arith)
    (λ z. let same : s + 1 ≡ n = omega arith in let c : true ≡ false = sym h ∙ sym (ap t same) ∙ y in absurd (true≢false c)))

pub ends_are : (n : ℕ) (prefixes : List ℕ) → Ends n 0 (ends_of n prefixes)
unfolding ends_of
ends_are n prefixes =
    passing_ends (λ e. list_any (eqb e) (n ∷ prefixes)) n 0 0 n (or_left (eqb n n) (list_any (eqb n) prefixes) (eq-eqb n n refl)) (omega arith) (omega arith) (λ e. refl)

-- ---- the map

-- a list of operations cut where its places reach p; there `at` is reached from `out` on
pub record Cut (p out at : ℕ) (ops : List Placed) : Type 0 where
  pub front : List Placed
  pub back : List Placed
  pub joined : ops ≡ front ++ back
  pub before : Each (λ o. o.place < p) front
  pub behind : Each (λ o. p ≤ o.place) back
  pub here : at ≡ out + length front

parted : (p : ℕ) (front back : List Placed) → Each (λ o. o.place < p) front → Each (λ o. p ≤ o.place) back
    → (i : ℕ) (d : Placed) → i < length (front ++ back) → (i < length front) ↔ ((get_or (front ++ back) i d).place < p)
parted p [] back f b i d l = let h = All-from_recursion (λ (o : Placed). p ≤ o.place) back b i d l in (λ g. absurd (omega arith), λ g. absurd (omega arith))
parted p (x ∷ front) back f b zero d l = (λ g. f.0, λ g. omega arith)
parted p (x ∷ front) back f b (suc i) d l =
    let r = parted p front back f.1 b i d (omega arith) in (λ g. r.0 (omega arith), λ g. let k = r.1 g in omega arith)

pub cut_parted : (p at : ℕ) (ops : List Placed) → Cut p 0 at ops → (i : ℕ) (d : Placed) → i < length ops → (i < at) ↔ ((get_or ops i d).place < p)
cut_parted p at ops c i d =
    subst (λ (xs : List Placed). i < length xs → (i < at) ↔ ((get_or xs i d).place < p)) (sym c.joined)
    (subst (λ (n : ℕ). i < length (c.front ++ c.back) → (i < n) ↔ ((get_or (c.front ++ c.back) i d).place < p)) (let e : length c.front ≡ at = omega (arith, c.here) in e)
    (parted p c.front c.back c.before c.behind i d))

pub cut_within : (p at : ℕ) (ops : List Placed) → Cut p 0 at ops → at ≤ length ops
cut_within p at ops c = let e = ap length c.joined in let l = length-append c.front c.back in omega (arith, c.here)

-- a pair's places are on one side of p
abbrev pub OneSide : ℕ → Pair → Type 0
OneSide p pair = (pair.earlier < p) ↔ (pair.later < p)

module _ (os : List Operation) (prefixes : List ℕ) (Fresh : ℕ → Type 0) (n : ℕ) (fits : n ≤ length os) where
  pub segments_cut : (p out s : ℕ) (es : List ℕ) (xs : List Placed) → Ends n s es → Run os prefixes n s xs
      → Each (Stale os prefixes Fresh) (pairs_in (segments s es xs)) → In p es
      → Cut p out (boundary p out es (segments s es xs)) (operations_in (segments s es xs))
  unfolding segments boundary
  segments_cut p out s [] xs h r stale i = absurd i
  segments_cut p out s (e ∷ es) xs h r stale i =
      let q = parts os prefixes Fresh n s e es xs fits h r stale in
      let one = segment_of (take (e - s) xs) in
      let more = segments e es (drop (e - s) xs) in
      let after = out + length one.operations in
      ⊎_elim
      (λ same. record {
        front = one.operations;
        back = operations_in more;
        joined = refl;
        before = Each_weaker _ (λ o. o.place < p) (λ o m. omega (arith, m.below)) one.operations q.one.mine;
        behind = Each_weaker _ (λ o. p ≤ o.place) (λ o m. omega (arith, m.from)) (operations_in more) q.more.mine;
        here = cond-true (eqb p e) after (boundary p after es more) (eq-eqb p e same);
      })
      (λ j. let c = segments_cut p after e es (drop (e - s) xs) h.1 q.back q.late j in
      let l = in_above n e p es h.1 j in record {
        front = one.operations ++ c.front;
        back = c.back;
        joined = ap (λ (ys : List Placed). one.operations ++ ys) c.joined ∙ sym (append_assoc one.operations c.front c.back);
        before =
            Each-append _ one.operations c.front
            (Each_weaker _ (λ o. o.place < p) (λ o m. omega (arith, m.below)) one.operations q.one.mine) c.before;
        behind = c.behind;
        here =
            cond-false (eqb p e) after (boundary p after es more) (ne_eqb p e (λ same. omega arith)) ∙ c.here
            ∙ let k = length-append one.operations c.front in omega arith;
      })
      i

  pub segments_apart : (p s : ℕ) (es : List ℕ) (xs : List Placed) → Ends n s es → Run os prefixes n s xs
      → Each (Stale os prefixes Fresh) (pairs_in (segments s es xs)) → (p ≤ s) ⊎ In p es → Each (OneSide p) (pairs_in (segments s es xs))
  unfolding segments
  segments_apart p s [] xs h r stale w = tt
  segments_apart p s (e ∷ es) xs h r stale w =
      let q = parts os prefixes Fresh n s e es xs fits h r stale in
      let one = segment_of (take (e - s) xs) in
      let more = segments e es (drop (e - s) xs) in
      let side : (p ≤ s) ⊎ (e ≤ p) =
      ⊎_elim (λ l. inl l) (λ i. inr (⊎_elim (λ same. omega arith) (λ j. omega (arith, in_above n e p es h.1 j)) i)) w in
      let next : (p ≤ e) ⊎ In p es = ⊎_elim (λ l. inl (omega (arith, h.0))) (λ i. ⊎_elim (λ same. inl (omega arith)) (λ j. inr j) i) w in
      Each-append (OneSide p) one.pairs (pairs_in more)
      (Each_weaker _ (OneSide p)
      (λ pair k. let low = k.0 in
      let high = k.1 in
      let up = k.2.ascending in
      ⊎_elim (λ l. (λ g. omega arith, λ g. omega arith)) (λ l. (λ g. omega arith, λ g. omega arith)) side)
      one.pairs q.one.legal)
      (segments_apart p e es (drop (e - s) xs) h.1 q.back q.late next)
