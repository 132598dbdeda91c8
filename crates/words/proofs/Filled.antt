-- A list that is filled from the front, one entry a turn, ends as the list of all entries: each turn sets the next one and leaves the earlier.
use mathlib.Core.Path.{◌≡◌, sym, ap, ◌∙◌}
use mathlib.Core.List.{List, [], ◌∷◌, ◌++◌, map, append_assoc}
use Prim.Native.Nat.{ℕ, ◌+◌, ◌-◌, ◌≤◌, ◌<◌}
use native.Mathlib.Nat.{zero-add}
use native.Mathlib.Numerals.{add-one}
use native.Mathlib.Omega.{arith}
use lib.ListN.{length, get_or, set, take, replicate, length-map, get_or-map, replicate-append-replicate}
use lib.Seq.{ext_get_or, take-suc-set}
use Rattle.words.specs.Lists.{numbers_from}
use Rattle.words.proofs.Numbers.{length-numbers, numbers_at}

-- n entries, of which the first i are those of f
abbrev pub Filled : {A : Type 0} → (ℕ → A) → ℕ → ℕ → List A → Type 0
Filled f n i ys = (length ys ≡ n) × ((j : ℕ) → j < i → get_or ys j (f 0) ≡ f j)

-- all
pub filled_all : {A : Type 0} (f : ℕ → A) (n : ℕ) (ys : List A) → Filled f n n ys → ys ≡ map f (numbers_from 0 n)
filled_all f n ys filled = ext_get_or (f 0) ys (map f (numbers_from 0 n)) (filled.0 ∙ sym (length-map (numbers_from 0 n) f ∙ length-numbers 0 n)) (λ j h.
    let long = filled.0 in
    filled.1 j (omega arith) ∙ sym (get_or-map f (numbers_from 0 n) j 0 ∙ ap f (numbers_at 0 n j 0 (omega arith) ∙ zero-add j)))

-- one entry more from a place on, where all have one value
pub filled_more : {A : Type 0} (xs ys : List A) (value : A) (from i : ℕ) → from ≤ i → i < length ys → take i ys ≡ take from xs ++ replicate (i - from) value
    → take (i + 1) (set ys i value) ≡ take from xs ++ replicate (i + 1 - from) value
filled_more {A} xs ys value from i h l e =
    let grown : i - from + 1 ≡ i + 1 - from = omega arith in
    ap (λ (n : ℕ). take n (set ys i value)) (add-one i)
    ∙ take-suc-set ys i value l
    ∙ ap (λ (r : List A). r ++ (value ∷ [])) e
    ∙ append_assoc (take from xs) (replicate (i - from) value) (value ∷ [])
    ∙ ap (λ (r : List A). take from xs ++ r) (replicate-append-replicate (i - from) 1 value ∙ ap (λ (n : ℕ). replicate n value) grown)
