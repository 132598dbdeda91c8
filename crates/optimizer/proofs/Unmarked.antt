-- Of a list in which nothing is marked no part has a mark: taking out what is marked shortens a list that has some.
use Rattle.std.proofs.Common.{◌≡◌, ℕ, zero, suc, ◌≤◌, Bool, true, false, cond, List, [], ◌∷◌, length, take, drop, refl, ap, sym, arith}
use Rattle.std.specs.Prelude.{not}
use mathlib.Core.Path.{◌∙◌}
use Rattle.pending.specs.Operation.{Operation}
use Rattle.optimizer.specs.Working.{is_marked, live}
use Rattle.optimizer.proofs.Carrying.{lives}

live_short : (os : List Operation) → length (live os) ≤ length os
live_short [] = omega arith
live_short (o ∷ os) = go (is_marked o) (live_short os)
  where
    go : (m : Bool) → length (live os) ≤ length os → length (cond (not m) (o ∷ live os) (live os)) ≤ suc (length os)
    go true few = omega arith
    go false few = omega arith

-- the first operation of such a list, and the rest
first : (o : Operation) (os : List Operation) → live (o ∷ os) ≡ o ∷ os → is_marked o ≡ false
first o os same = go (is_marked o) refl (live_short os)
  where
    go : (m : Bool) → is_marked o ≡ m → length (live os) ≤ length os → m ≡ false
    go true h few =
        let long = ap (λ (xs : List Operation). length xs) (sym (ap (λ (t : Bool). cond (not t) (o ∷ live os) (live os)) h) ∙ same) in
        absurd (omega arith)
    go false h few = refl

rest : (o : Operation) (os : List Operation) → live (o ∷ os) ≡ o ∷ os → live os ≡ os
rest o os same = ap (λ (xs : List Operation). drop 1 xs) (sym (lives o os (first o os same)) ∙ same)

live_drop : (j : ℕ) (os : List Operation) → live os ≡ os → live (drop j os) ≡ drop j os
live_drop zero os same = same
live_drop (suc j) [] same = refl
live_drop (suc j) (o ∷ os) same = live_drop j os (rest o os same)

live_take : (k : ℕ) (os : List Operation) → live os ≡ os → live (take k os) ≡ take k os
live_take zero os same = refl
live_take (suc k) [] same = refl
live_take (suc k) (o ∷ os) same =
    lives o (take k os) (first o os same) ∙ ap (λ (xs : List Operation). o ∷ xs) (live_take k os (rest o os same))

pub live_part : (j k : ℕ) (os : List Operation) → live os ≡ os → live (take k (drop j os)) ≡ take k (drop j os)
live_part j k os same = live_take k (drop j os) (live_drop j os same)
