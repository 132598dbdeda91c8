-- The groups: one component more, whose words are inside those that are taken in the end, since these only grow.
use mathlib.Core.Path.{◌≡◌, sym, ap, ◌∙◌}
use mathlib.Core.Logic.{⊎_elim}
use mathlib.Core.List.{List, [], ◌∷◌}
use mathlib.Core.Bool.{Bool, true, false, cond}
use Prim.Native.Nat.{ℕ, suc, ◌+◌, ◌-◌, ◌≤◌, ◌<◌}
use native.Mathlib.Nat.{le_refl, le_trans, eq-zero-or-pos}
use native.Mathlib.Omega.{arith}
use lib.Dec.{eqb}
use lib.ListN.{length, get_or, set, take, drop, length-take, drop_of_length-le, get_or-eq_default}
use lib.Seq.{drop-cons, get_or-take}
use borrow.Author.Tests.{ne_eqb}
use Rattle.plan_buffers.specs.Buffers.{Counts, CountsFit, counts_from, counts_of}

-- a component with members
abbrev grown : ℕ → ℕ → Counts → Counts
grown c s h = record { groups = set h.groups h.used s; start = set h.start c (suc h.used); used = h.used + suc s }

chosen_grows : (t : Bool) (c s : ℕ) (h : Counts) → h.used ≤ (cond t h (grown c s h)).used
chosen_grows true c s h = le_refl h.used
chosen_grows false c s h = omega arith

used_grows : (c : ℕ) (ss : List ℕ) (h : Counts) → h.used ≤ (counts_from c ss h).used
used_grows c [] h = le_refl h.used
used_grows c (s ∷ ss) h = le_trans (chosen_grows (eqb s 0) c s h) (used_grows (suc c) ss (cond (eqb s 0) h (grown c s h)))

-- the components from c on: the one of number c and the others. Past the end of the sizes there are none, and 0 stands for each
counts_go : (size : List ℕ) (count c : ℕ) (h : Counts) → c < count
    → counts_from c (drop c (take count size)) h
    ≡ counts_from (suc c) (drop (suc c) (take count size)) (cond (eqb (get_or size c 0) 0) h (grown c (get_or size c 0) h))
counts_go size count c h l =
    ⊎_elim
    (λ (z : length (take count size) - c ≡ 0).
    let m : length (take count size) ≤ c = omega arith in
    let short : length size ≤ c = omega (arith, length-take count size) in
    let after : length (take count size) ≤ suc c = omega arith in
    ap (λ (ss : List ℕ). counts_from c ss h) (drop_of_length-le (take count size) m)
    ∙ sym (ap (λ (ss : List ℕ). counts_from (suc c) ss (cond (eqb (get_or size c 0) 0) h (grown c (get_or size c 0) h))) (drop_of_length-le (take count size) after)
    ∙ ap (λ (s : ℕ). cond (eqb s 0) h (grown c s h)) (get_or-eq_default size 0 short)))
    (λ (z : 0 < length (take count size) - c).
    let m : c < length (take count size) = omega arith in
    ap (λ (ss : List ℕ). counts_from c ss h) (drop-cons (take count size) c 0 m)
    ∙ ap (λ (s : ℕ). counts_from (suc c) (drop (suc c) (take count size)) (cond (eqb s 0) h (grown c s h))) (get_or-take count size c 0 l))
    (eq-zero-or-pos (length (take count size) - c))

module _ (size : List ℕ) (count c : ℕ) (groups start : List ℕ) (used : ℕ) (l : c < count) where
  abbrev here : Counts
  here = record { groups = groups; start = start; used = used }

  counts_one : (get_or size c 0 ≡ 0 → ⊥) → counts_from c (drop c (take count size)) here ≡ counts_from (suc c) (drop (suc c) (take count size)) (grown c (get_or size c 0) here)
  counts_one n =
      counts_go size count c here l
      ∙ ap (λ (t : Bool). counts_from (suc c) (drop (suc c) (take count size)) (cond t here (grown c (get_or size c 0) here))) (ne_eqb _ _ n)

  -- the words of the component of number c are inside those that are taken in the end
  pub counts_room : {groups₀ : List ℕ} → CountsFit (take count size) groups₀ → length groups ≡ length groups₀
      → counts_from c (drop c (take count size)) here ≡ counts_of (take count size) groups₀
      → (get_or size c 0 ≡ 0 → ⊥) → (used + suc (get_or size c 0) ≤ 65535) × (used + suc (get_or size c 0) ≤ length groups)
  counts_room fits long all n =
      let grows = used_grows (suc c) (drop (suc c) (take count size)) (grown c (get_or size c 0) here) in
      let same = ap (λ (h : Counts). h.used) (sym all ∙ counts_one n) in (omega (arith, fits.small), omega (arith, fits.fit))
